-- What comes of a keeper in a round, and what is done with it.
use Rattle.std.specs.Prelude.{◌≡◌, ℕ, ◌^◌, ◌-◌, ◌&&◌, Bool, Option, Some, None, is_none}
use Rattle.iv_rows.specs.Options.{if_some}
use Rattle.iv_gate.specs.Gate.{Log}
use Rattle.iv_running.specs.declared.fault.Fault.{Fault as End}
use Rattle.iv_following.specs.Following.{HeedsAll, House}
use Rattle.iv_following.specs.Failing.{IsBroken}
use Rattle.iv_following.specs.declared.following.Following.{Following}
use Rattle.iv_following.specs.declared.guest.Stage.{Stage}
use Rattle.iv_following.specs.declared.guest.Stage.TheVariants.{Known, Unknown}

-- what a keeper has said is heard and heeded, as far as that is; who is none yet is not heard
abbrev pub IsHeardOf : Option Log → Option Stage → House → Option Stage → House → Type 0
IsHeardOf log (Some (Known k)) x (Some (Known m)) y = HeedsAll log k.talk x m.talk y
IsHeardOf log (Some (Known k)) x s y = ⊥
IsHeardOf log None x s y = (s ≡ None) × (y ≡ x)
IsHeardOf log (Some (Unknown said until)) x s y = (s ≡ Some (Unknown said until)) × (y ≡ x)

-- or it breaks off
abbrev pub IsBrokenOf : Option Log → Option Stage → House → End → Option Stage → House → Type 0
IsBrokenOf log (Some (Known k)) x end (Some (Known m)) y = IsBroken log k.talk x end y m.told.out.items
IsBrokenOf log _ x end s y = ⊥

-- up to where what the gateway has decided is in the log: the greatest number if it leads none
abbrev pub kept_of : Following → ℕ
kept_of f = if_some f.means.lead (2 ^ 64 - 1) (λ a. a.kept)

-- it ends with its keeper, who has gone: no other comes
abbrev pub has_ended : Following → Bool
has_ended f = is_none f.listener && is_none f.guest

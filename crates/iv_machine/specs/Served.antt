-- What every open subscription has.
use Rattle.std.specs.Prelude.{◌≡◌, None}
use Rattle.std.specs.List.{AllByRecursion}
use Rattle.iv_machine.specs.State.{State}
use Rattle.iv_machine.specs.Machine.{ending}

-- nothing ends an open subscription: its reader has select on all that it needs, and its view is within the limits
abbrev pub AreServed : State → Type 0
AreServed s = AllByRecursion (λ e. ending s e ≡ None) s.frame.subscriptions

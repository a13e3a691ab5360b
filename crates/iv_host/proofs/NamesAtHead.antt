-- What is known of names by where they stand is what a head says of them.
use Rattle.std.proofs.Common.{◌≡◌, ℕ, Bool, true, false, cond, List, [], ◌∷◌, Option, Some, option_map, refl}
use Rattle.std.specs.Prelude.{bytes_eq}
use Rattle.iv_once.specs.Names.{Known, Own, begun}
use Rattle.iv_once.specs.Runs.{nothing_known}
use Rattle.iv_gate.specs.Gate.{known_at}
use Rattle.iv_head.specs.Begun.{Begun, Standing, stood}
use Rattle.iv_host.specs.Beginning.{epoch_with, head_with, place_in}

-- what a head keeps of what is known of a holder
abbrev kept_of : Option Own → Option Own
kept_of o = option_map {U = Own} (λ p. record { epoch = p.epoch; count = p.count; recent = [] }) (option_map place_in o)

-- it keeps all
abbrev HasPlaces : Known → Type 0
HasPlaces k = (holder : List ℕ) → k.owns holder ≡ kept_of (k.owns holder)

begun_kept : (k : Known) (holder epoch : List ℕ) (count : ℕ) → HasPlaces k → HasPlaces (begun k holder epoch count)
begun_kept k holder epoch count b h = by (bytes_eq holder h)
  where
    by : (x : Bool) → cond x (Some (record { epoch = epoch; count = count; recent = [] })) (k.owns h)
        ≡ kept_of (cond x (Some (record { epoch = epoch; count = count; recent = [] })) (k.owns h))
    by true = refl
    by false = b h

stood_kept : (k : Known) (ss : List Standing) → HasPlaces k → HasPlaces (stood k ss)
stood_kept k [] b = b
stood_kept k (s ∷ ss) b = stood_kept (begun k s.holder s.at.epoch s.at.count) ss (begun_kept k s.holder s.at.epoch s.at.count b)

stood_epoch : (k : Known) (ss : List Standing) → (stood k ss).epoch ≡ k.epoch
stood_epoch k [] = refl
stood_epoch k (s ∷ ss) = stood_epoch (begun k s.holder s.at.epoch s.at.count) ss

pub stood-nothing_known : (epoch : List ℕ) (b : Begun) → stood (nothing_known (epoch_with epoch b)) b.standings ≡ known_at (head_with epoch b)
stood-nothing_known epoch b = λ i. record {
  epoch = stood_epoch (nothing_known (epoch_with epoch b)) b.standings i;
  owns = λ holder. stood_kept (nothing_known (epoch_with epoch b)) b.standings (λ h. refl) holder i;
  holders = (stood (nothing_known (epoch_with epoch b)) b.standings).holders;
}

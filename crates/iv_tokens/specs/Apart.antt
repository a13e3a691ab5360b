-- For contracts of the code: which digests a set has.
use Rattle.std.specs.Prelude.{◌≡◌, ℕ, Bool, List}
use Rattle.std.specs.Global.{Vec}
use Rattle.std.specs.Ordering.{nat_cmp}
use Rattle.std.specs.Cmp.Lexicographic.{slice_cmp}
use Rattle.std.specs.BTreeSet.{BTreeSet, contains_by}
use Rattle.iv_clients.specs.Tokens.{Token, has_digest}

abbrev pub has_key : BTreeSet (Vec ℕ) → (digest : List ℕ) → Bool
has_key seen digest = contains_by (λ k. slice_cmp nat_cmp digest k.items) seen

-- a set has the digests of these tokens
abbrev pub HasDigestsOf : List Token → BTreeSet (Vec ℕ) → Type 0
HasDigestsOf ts seen = (digest : List ℕ) → has_key seen digest ≡ has_digest digest ts

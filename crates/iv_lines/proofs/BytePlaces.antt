-- The first place of a byte, as a search tells it and as a list has it.
use Rattle.std.proofs.Common.{◌≡◌, ◌<◌, ℕ, Bool, true, false, List, Option, Some, None, length, refl, arith, get_or}
use Rattle.std.specs.Prelude.{nat_lt}
use Rattle.std.specs.List.{position, position_or_len}
use Rattle.std.proofs.lemmas.Bool.{lt-ltb, ltb-true}
use Rattle.std.proofs.lemmas.List.Sums.{position_or_len_is}
use Rattle.memchr.specs.Find.{IsFirstByte}

never_less : (n : ℕ) → nat_lt n n ≡ false
never_less n =
    elim (nat_lt n n) as (λ b. nat_lt n n ≡ b → b ≡ false) [
      | true ↦ λ t. let less = ltb-true n n t in absurd (omega (arith, less))
      | false ↦ λ _. refl
    ] refl

fails : (b : Bool) → (b ≡ true → ⊥) → b ≡ false
fails true never = absurd (never refl)
fails false never = refl

-- the place of an element that passes, where none before it does
found_at : (test : ℕ → Bool) (hay : List ℕ) (k : ℕ) → k < length hay → test (get_or hay k 0) ≡ true → ((i : ℕ) → i < k → test (get_or hay i 0) ≡ false)
    → Some k ≡ position test hay
found_at test hay k within here before =
    let at : position_or_len test hay ≡ k = position_or_len_is test hay k 0 (omega arith) before (λ _. here) in
    let less : nat_lt k (length hay) ≡ true = lt-ltb k (length hay) within in
    rw (at, less) refl

-- there is none where no element passes
found_none : (test : ℕ → Bool) (hay : List ℕ) → ((i : ℕ) → i < length hay → test (get_or hay i 0) ≡ false) → None ≡ position test hay
found_none test hay none =
    let at : position_or_len test hay ≡ length hay = position_or_len_is test hay (length hay) 0 (omega arith) none (λ less. absurd (omega arith)) in
    let more : nat_lt (length hay) (length hay) ≡ false = never_less (length hay) in
    rw (at, more) refl

-- what a search for a byte finds is the first place that passes
pub position-IsFirstByte : (test : ℕ → Bool) (hay : List ℕ) (r : Option ℕ) → IsFirstByte test hay r → r ≡ position test hay
position-IsFirstByte test hay None none = found_none test hay (λ i less. fails (test (get_or hay i 0)) (none i (omega arith) less))
position-IsFirstByte test hay (Some k) found =
    found_at test hay k found.0.high found.1 (λ i less. fails (test (get_or hay i 0)) (found.0.before i (omega arith) less))

-- A circuit that is opened to one subscription more: whom it is for and what it shows stays, and so do the rounds of others.
use Rattle.std.proofs.Common.{◌≡◌, ℕ, zero, suc, ◌-◌, ◌<◌, true, false, cond, List, [], ◌∷◌, length, get_or, Some, refl, ap, ◌∙◌, arith}
use Rattle.std.proofs.lemmas.Bool.Decides.{nat_tests}
use Rattle.std.proofs.lemmas.List.Quantifiers.{position-Some}
use Rattle.std.specs.Prelude.{◌==◌, position}
use Rattle.std.specs.List.{AllByRecursion}
use Rattle.iv_readers.specs.Each.{Each}
use Rattle.iv_readers.specs.Readers.{RoleCircuit, is_for, opened_to, opened_at}
use Rattle.iv_store.specs.Rounds.{beside_or, rounds_in, rounds_since}
use Rattle.iv_store.proofs.ReplacedCircuits.{IsSameReader}

same_each : (ks : List RoleCircuit) → Each IsSameReader ks ks
same_each [] = tt
same_each (k ∷ ks) = (record { role = refl; rel = refl }, same_each ks)

is_self : (n : ℕ) → (n == n) ≡ true
is_self n = grind (arith, nat_tests)

nothing_since : (r : ℕ) → r - r ≡ 0
nothing_since r = omega arith

module _ (n : ℕ) where
  -- each place has the reader that it had
  pub opened_same : (place : ℕ) (ks : List RoleCircuit) → Each IsSameReader ks (opened_at place n ks)
  opened_same zero [] = tt
  opened_same (suc place) [] = tt
  opened_same zero (k ∷ ks) = (record { role = refl; rel = refl }, same_each ks)
  opened_same (suc place) (k ∷ ks) = (record { role = refl; rel = refl }, opened_same place ks)

  -- and all have what they had
  pub opened_have : (P : RoleCircuit → Type 0) → ((k : RoleCircuit) → P k → P (opened_to n k)) → (place : ℕ) (ks : List RoleCircuit) → AllByRecursion P ks → AllByRecursion P (opened_at place n ks)
  opened_have P go zero [] a = tt
  opened_have P go (suc place) [] a = tt
  opened_have P go zero (k ∷ ks) a = (go k a.0, a.1)
  opened_have P go (suc place) (k ∷ ks) a = (a.0, opened_have P go place ks a.1)

  module _ (role rel : ℕ) where
    -- the rounds of another number
    pub others_rounds : (m : ℕ) → (m == n) ≡ false → (place : ℕ) (ks : List RoleCircuit) → rounds_in role rel m (opened_at place n ks) ≡ rounds_in role rel m ks
    others_rounds m apart zero [] = refl
    others_rounds m apart (suc place) [] = refl
    others_rounds m apart zero (k ∷ ks) = ap (λ b. cond (is_for role rel k) (k.circuit.rounds - cond b k.circuit.rounds (beside_or k.since m k.opened)) (rounds_in role rel m ks)) apart
    others_rounds m apart (suc place) (k ∷ ks) = ap (cond (is_for role rel k) (rounds_since m k)) (others_rounds m apart place ks)

    -- and its own: none yet
    own_at : (ks : List RoleCircuit) (i : ℕ) (d : RoleCircuit) → i < length ks → is_for role rel (get_or ks i d) ≡ true → ((j : ℕ) → j < i → is_for role rel (get_or ks j d) ≡ false)
        → rounds_in role rel n (opened_at i n ks) ≡ 0
    own_at [] i d low t f = absurd (omega arith)
    own_at (k ∷ ks) zero d low t f =
        ap (λ b. cond b (k.circuit.rounds - cond (n == n) k.circuit.rounds (beside_or k.since n k.opened)) (rounds_in role rel n ks)) t
        ∙ ap (λ b. k.circuit.rounds - cond b k.circuit.rounds (beside_or k.since n k.opened)) (is_self n)
        ∙ nothing_since k.circuit.rounds
    own_at (k ∷ ks) (suc i) d low t f =
        ap (λ b. cond b (rounds_since n k) (rounds_in role rel n (opened_at i n ks))) (f 0 (omega arith))
        ∙ own_at ks i d (omega arith) t (λ j h. f (suc j) (omega (arith, h)))

    pub own_rounds : (ks : List RoleCircuit) (i : ℕ) → position (is_for role rel) ks ≡ Some i → rounds_in role rel n (opened_at i n ks) ≡ 0
    own_rounds [] i h = cc
    own_rounds (k ∷ ks) i h = let p = position-Some (is_for role rel) (k ∷ ks) i k h in own_at (k ∷ ks) i k p.0 p.1 p.2

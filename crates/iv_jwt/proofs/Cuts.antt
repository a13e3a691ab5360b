-- Where a token is cut, and the bytes of its parts.
use Rattle.std.proofs.Common.{◌≡◌, ℕ, suc, zero, Bool, true, false, cond, List, [], ◌∷◌, ◌++◌, Option, Some, None, option_map, refl, ap, ◌∙◌, arith}
use Rattle.std.specs.Prelude.{◌==◌}
use Rattle.std.proofs.lemmas.Bool.{eqb-true}
use Rattle.base64.specs.GeneralPurpose.{IsBytes}
use Rattle.iv_jwt.specs.Tokens.{cut}

abbrev pub ahead : List ℕ → List ℕ × List ℕ → List ℕ × List ℕ
ahead xs p = (xs ++ p.0, p.1)

pub not_Some-None : {X : Type 0} (x : X) → None ≡ Some x → ⊥
not_Some-None x h = cc h

same_pair : (a b : List ℕ × List ℕ) → Some a ≡ Some b → a ≡ b
same_pair a b h = cc

-- what is cut is both parts with the dot
pub same-cut : (xs : List ℕ) (p : List ℕ × List ℕ) → cut xs ≡ Some p → xs ≡ p.0 ++ 46 ∷ p.1
same-cut [] p h = absurd (not_Some-None p h)
same-cut (x ∷ xs) p h = by (x == 46) (cut xs) refl refl h (λ q e. same-cut xs q e)
  where
    by : (d : Bool) (o : Option (List ℕ × List ℕ)) → (x == 46) ≡ d → cut xs ≡ o → cond d (Some ([], xs)) (option_map {U = List ℕ × List ℕ} (λ q. (x ∷ q.0, q.1)) o) ≡ Some p
        → ((q : List ℕ × List ℕ) → cut xs ≡ Some q → xs ≡ q.0 ++ 46 ∷ q.1) → x ∷ xs ≡ p.0 ++ 46 ∷ p.1
    by true o dot e k more = ap (λ z. z ∷ xs) (eqb-true x 46 dot) ∙ ap (λ (z : List ℕ × List ℕ). z.0 ++ 46 ∷ z.1) (same_pair ([], xs) p k)
    by false None dot e k more = absurd (not_Some-None p k)
    by false (Some q) dot e k more = ap (λ z. x ∷ z) (more q e) ∙ ap (λ (z : List ℕ × List ℕ). z.0 ++ 46 ∷ z.1) (same_pair (x ∷ q.0, q.1) p k)

pub IsBytes-append_front : (a b : List ℕ) → IsBytes (a ++ b) → IsBytes a
IsBytes-append_front [] b h i = omega arith
IsBytes-append_front (x ∷ a) b h zero = h 0
IsBytes-append_front (x ∷ a) b h (suc i) = IsBytes-append_front a b (λ k. h (suc k)) i

pub IsBytes-append_back : (a : List ℕ) (x : ℕ) (b : List ℕ) → IsBytes (a ++ x ∷ b) → IsBytes b
IsBytes-append_back [] x b h i = h (suc i)
IsBytes-append_back (y ∷ a) x b h i = IsBytes-append_back a x b (λ k. h (suc k)) i

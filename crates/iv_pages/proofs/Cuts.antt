-- Where bytes are cut, and the parts between.
use Rattle.std.proofs.Common.{◌≡◌, ℕ, suc, ◌<◌, Bool, true, false, cond, List, [], ◌∷◌, ◌++◌, length, Option, Some, None, option_map, refl, ap, ◌∙◌, arith}
use Rattle.std.specs.Prelude.{◌==◌}
use Rattle.iv_pages.specs.Cut.{begun, cut_at, parts}

abbrev pub ahead : List ℕ → List ℕ × List ℕ → List ℕ × List ℕ
ahead xs p = (xs ++ p.0, p.1)

pub not_Some-None : {X : Type 0} (x : X) → None ≡ Some x → ⊥
not_Some-None x h = cc h

same_pair : (a b : List ℕ × List ℕ) → Some a ≡ Some b → a ≡ b
same_pair a b h = cc

-- what is behind a cut is shorter
pub lt-cut_at : (b : ℕ) (xs : List ℕ) (p : List ℕ × List ℕ) → cut_at b xs ≡ Some p → length p.1 < length xs
lt-cut_at b [] p h = absurd (not_Some-None p h)
lt-cut_at b (x ∷ xs) p h = by (x == b) (cut_at b xs) refl h (λ q e. lt-cut_at b xs q e)
  where
    by : (d : Bool) (o : Option (List ℕ × List ℕ)) → cut_at b xs ≡ o → cond d (Some ([], xs)) (option_map {U = List ℕ × List ℕ} (λ q. (x ∷ q.0, q.1)) o) ≡ Some p
        → ((q : List ℕ × List ℕ) → cut_at b xs ≡ Some q → length q.1 < length xs) → length p.1 < suc (length xs)
    by true o e k more = let same : length xs ≡ length p.1 = ap (λ (z : List ℕ × List ℕ). length z.1) (same_pair ([], xs) p k) in omega arith
    by false None e k more = absurd (not_Some-None p k)
    by false (Some q) e k more =
        let same : length q.1 ≡ length p.1 = ap (λ (z : List ℕ × List ℕ). length z.1) (same_pair (x ∷ q.0, q.1) p k) in
        let less : length q.1 < length xs = more q e in
        omega arith

-- the first part, and those behind it
pub parts-cut_at : (b : ℕ) (xs : List ℕ) (p : List ℕ × List ℕ) → cut_at b xs ≡ Some p → parts b xs ≡ p.0 ∷ parts b p.1
parts-cut_at b [] p h = absurd (not_Some-None p h)
parts-cut_at b (x ∷ xs) p h = by (x == b) (cut_at b xs) refl h (λ q e. parts-cut_at b xs q e)
  where
    by : (d : Bool) (o : Option (List ℕ × List ℕ)) → cut_at b xs ≡ o → cond d (Some ([], xs)) (option_map {U = List ℕ × List ℕ} (λ q. (x ∷ q.0, q.1)) o) ≡ Some p
        → ((q : List ℕ × List ℕ) → cut_at b xs ≡ Some q → parts b xs ≡ q.0 ∷ parts b q.1) → cond d ([] ∷ parts b xs) (begun x (parts b xs)) ≡ p.0 ∷ parts b p.1
    by true o e k more = ap (λ (z : List ℕ × List ℕ). z.0 ∷ parts b z.1) (same_pair ([], xs) p k)
    by false None e k more = absurd (not_Some-None p k)
    by false (Some q) e k more = ap (begun x) (more q e) ∙ ap (λ (z : List ℕ × List ℕ). z.0 ∷ parts b z.1) (same_pair (x ∷ q.0, q.1) p k)

some_is_none : {X : Type 0} (x : X) → Some x ≡ None → ⊥
some_is_none x e = cc e

-- the only part
pub parts-not_cut : (b : ℕ) (xs : List ℕ) → cut_at b xs ≡ None → parts b xs ≡ xs ∷ []
parts-not_cut b [] h = refl
parts-not_cut b (x ∷ xs) h = by (x == b) (cut_at b xs) refl h (λ e. parts-not_cut b xs e)
  where
    by : (d : Bool) (o : Option (List ℕ × List ℕ)) → cut_at b xs ≡ o → cond d (Some ([], xs)) (option_map {U = List ℕ × List ℕ} (λ q. (x ∷ q.0, q.1)) o) ≡ None
        → (cut_at b xs ≡ None → parts b xs ≡ xs ∷ []) → cond d ([] ∷ parts b xs) (begun x (parts b xs)) ≡ (x ∷ xs) ∷ []
    by true o e k more = absurd (some_is_none ([], xs) k)
    by false None e k more = ap (begun x) (more e)
    by false (Some q) e k more = absurd (some_is_none (x ∷ q.0, q.1) k)

-- there is a part
pub parts-cons : (b : ℕ) (xs : List ℕ) → (p : List ℕ) × (ps : List (List ℕ)) × (parts b xs ≡ p ∷ ps)
parts-cons b [] = ([], [], refl)
parts-cons b (x ∷ xs) = by (x == b) (parts b xs) (parts-cons b xs)
  where
    by : (d : Bool) (qs : List (List ℕ)) → ((p : List ℕ) × (ps : List (List ℕ)) × (qs ≡ p ∷ ps)) → (p : List ℕ) × (ps : List (List ℕ)) × (cond d ([] ∷ qs) (begun x qs) ≡ p ∷ ps)
    by true qs h = ([], qs, refl)
    by false qs h = (x ∷ h.0, h.1, ap (begun x) h.2)

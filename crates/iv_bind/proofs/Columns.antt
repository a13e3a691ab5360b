-- A column that is meant has its kind at its place.
use Rattle.std.proofs.Common.{◌≡◌, ℕ, suc, ◌-◌, ◌≤◌, Bool, true, false, cond, List, [], ◌∷◌, map, Some, Ok, refl, sym, ap, subst, ◌∙◌, arith}
use Rattle.std.specs.Prelude.{slice_get}
use Rattle.iv_rows.specs.declared.value.Kind.{Kind}
use Rattle.iv_query.specs.Trees.{ColumnTree}
use Rattle.iv_bind.specs.Binding.{Named, column_place, is_meant, meant, only, column_bound}

abbrev pub kinds_in : List Named → List Kind
kinds_in = map (λ n. n.kind)

behind : (k : Kind) (ks : List Kind) (i j : ℕ) (d : Kind) → suc j ≤ i → slice_get ks (i - suc j) ≡ Some d → slice_get (k ∷ ks) (i - j) ≡ Some d
behind k ks i j d le h = let e : i - j ≡ suc (i - suc j) = omega arith in rw e h

here : (k : Kind) (ks : List Kind) (i : ℕ) → slice_get (k ∷ ks) (i - i) ≡ Some k
here k ks i = let e : i - i ≡ 0 = omega arith in rw e refl

abbrev IsHere : ℕ → List Kind → ℕ × Kind → Type 0
IsHere k kinds x = (k ≤ x.0) × (slice_get kinds (x.0 - k) ≡ Some x.1)

-- the first that is meant, if the first column is, and if it is not
first_case : (k : ℕ) (kind : Kind) (kinds : List Kind) (x : ℕ × Kind) (xs ms : List (ℕ × Kind)) (b : Bool) → ((y : ℕ × Kind) (ys : List (ℕ × Kind)) → ms ≡ y ∷ ys → IsHere (suc k) kinds y)
    → cond b ((k, kind) ∷ ms) ms ≡ x ∷ xs → IsHere k (kind ∷ kinds) x
first_case k kind kinds x xs ms true later h =
    let e : (k, kind) ≡ x = cc in
    let P : ℕ × Kind → Type 0 = λ y. IsHere k (kind ∷ kinds) y in
    subst P e (omega arith, here kind kinds k)
first_case k kind kinds x xs ms false later h =
    let l = later x xs h in
    (omega (arith, l.0), behind kind kinds x.0 k x.1 l.0 l.1)

first_meant : (c : ColumnTree) (k : ℕ) (scope : List Named) (x : ℕ × Kind) (xs : List (ℕ × Kind)) → meant c k scope ≡ x ∷ xs → IsHere k (kinds_in scope) x
first_meant c k [] x xs h = cc
first_meant c k (n ∷ ns) x xs h = first_case k n.kind (kinds_in ns) x xs (meant c (suc k) ns) (is_meant c n) (first_meant c (suc k) ns) h

only_one : (p : ℕ) (xs : List (ℕ × Kind)) (x : ℕ × Kind) → only p xs ≡ Ok x → xs ≡ x ∷ []
only_one p [] x h = cc
only_one p (y ∷ []) x h = let e : y ≡ x = cc in ap (λ z. z ∷ []) e
only_one p (y ∷ z ∷ ys) x h = cc

-- a column that is bound has its kind at its place
pub slice_get-column_bound : (scope : List Named) (c : ColumnTree) (x : ℕ × Kind) → column_bound scope c ≡ Ok x → slice_get (kinds_in scope) x.0 ≡ Some x.1
unfolding column_bound
slice_get-column_bound scope c x h =
    let m = first_meant c 0 scope x [] (only_one (column_place c) (meant c 0 scope) x h) in
    let e : x.0 - 0 ≡ x.0 = omega arith in
    ap (slice_get (kinds_in scope)) (sym e) ∙ m.1

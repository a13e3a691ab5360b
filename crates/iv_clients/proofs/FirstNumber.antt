-- The first number that passes a test, counted from 1.
use Rattle.std.proofs.Common.{◌≡◌, ℕ, zero, suc, ◌+◌, ◌-◌, ◌<◌, ◌≤◌, Bool, true, false, cond, List, [], ◌∷◌, ◌++◌, Some, None, ap, ◌∙◌, sym, subst, arith, find, add-one}
use Rattle.iv_machine.specs.Given.{count_to}

some_is_none : {X : Type 0} (x : X) → Some x ≡ None → ⊥
some_is_none x e = cc e

pub find_pushed : {X : Type 0} (p : X → Bool) (xs : List X) (x : X) → find p xs ≡ None → p x ≡ true → find p (xs ++ x ∷ []) ≡ Some x
find_pushed p [] x h k = ap (λ b. cond b (Some x) None) k
find_pushed p (y ∷ ys) x h k = by (p y) (λ e. find_pushed p ys x e k) h
  where
    by : (b : Bool) → (find p ys ≡ None → find p (ys ++ x ∷ []) ≡ Some x) → cond b (Some y) (find p ys) ≡ None → cond b (Some y) (find p (ys ++ x ∷ [])) ≡ Some x
    by true more e = absurd (some_is_none y e)
    by false more e = more e

pub find_kept : {X : Type 0} (p : X → Bool) (xs zs : List X) (x : X) → find p xs ≡ Some x → find p (xs ++ zs) ≡ Some x
find_kept p [] zs x h = absurd (some_is_none x (sym h))
find_kept p (y ∷ ys) zs x h = by (p y) (λ e. find_kept p ys zs x e) h
  where
    by : (b : Bool) → (find p ys ≡ Some x → find p (ys ++ zs) ≡ Some x) → cond b (Some y) (find p ys) ≡ Some x → cond b (Some y) (find p (ys ++ zs)) ≡ Some x
    by true more e = e
    by false more e = more e

find_none : {X : Type 0} (p : X → Bool) (xs : List X) (x : X) → find p xs ≡ None → p x ≡ false → find p (xs ++ x ∷ []) ≡ None
find_none p [] x h k = ap (λ b. cond b (Some x) None) k
find_none p (y ∷ ys) x h k = by (p y) (λ e. find_none p ys x e k) h
  where
    by : (b : Bool) → (find p ys ≡ None → find p (ys ++ x ∷ []) ≡ None) → cond b (Some y) (find p ys) ≡ None → cond b (Some y) (find p (ys ++ x ∷ [])) ≡ None
    by true more e = absurd (some_is_none y e)
    by false more e = more e

-- none of the first k passes, and the next does not either
pub none_more : (p : ℕ → Bool) (k : ℕ) → find p (count_to k) ≡ None → p (suc k) ≡ false → find p (count_to (suc k)) ≡ None
none_more p k h e = find_none p (count_to k) (suc k) h e

-- none of the first k passes, and the next does
pub found_next : (p : ℕ → Bool) (k d : ℕ) → find p (count_to k) ≡ None → p (suc k) ≡ true → find p (count_to (d + suc k)) ≡ Some (suc k)
found_next p k zero h e = subst (λ z. find p (count_to z) ≡ Some (suc k)) (let f : suc k ≡ 0 + suc k = omega arith in f) (find_pushed p (count_to k) (suc k) h e)
found_next p k (suc d) h e =
    subst (λ z. find p (count_to z) ≡ Some (suc k)) (let f : suc (d + suc k) ≡ suc d + suc k = omega arith in f)
    (find_kept p (count_to (d + suc k)) (suc (d + suc k) ∷ []) (suc k) (found_next p k d h e))

pub find-count_to_next : (p : ℕ → Bool) (n k : ℕ) → k < n → find p (count_to k) ≡ None → p (k + 1) ≡ true → Some (k + 1) ≡ find p (count_to n)
find-count_to_next p n k l h e =
    let one : k + 1 ≡ suc k = add-one k in
    let size : (n - suc k) + suc k ≡ n = omega (arith, l) in
    ap Some one ∙ sym (subst (λ z. find p (count_to z) ≡ Some (suc k)) size (found_next p k (n - suc k) h (subst (λ z. p z ≡ true) one e)))

pub find-count_to_none : (p : ℕ → Bool) (k : ℕ) → find p (count_to k) ≡ None → p (k + 1) ≡ false → find p (count_to (k + 1)) ≡ None
find-count_to_none p k h e =
    let one : k + 1 ≡ suc k = add-one k in subst (λ z. find p (count_to z) ≡ None) (sym one) (none_more p k h (subst (λ z. p z ≡ false) one e))

pub find-count_to_all : (p : ℕ → Bool) (n k : ℕ) → n ≤ k → k ≤ n → find p (count_to k) ≡ None → None ≡ find p (count_to n)
find-count_to_all p n k l m h = let same : k ≡ n = omega (arith, l, m) in sym (subst (λ z. find p (count_to z) ≡ None) same h)

-- Elements that are taken out of a list one by one, from its end to its front.
use Rattle.std.proofs.Common.{◌≡◌, ℕ, zero, suc, ◌<◌, Bool, true, false, cond, List, [], ◌∷◌, ◌++◌, take, drop, length, Some, refl, ap, ◌∙◌, sym, arith}
use Rattle.std.specs.Prelude.{filter, slice_get}
use Rattle.std.specs.List.{remove}

-- the first k as they are, and of the others those that pass
abbrev pub kept_behind : {X : Type 0} → (X → Bool) → List X → ℕ → List X
kept_behind p xs k = take k xs ++ filter p (drop k xs)

-- with one element fewer in front, which is taken out if it does not pass
pub record IsNext {X : Type 0} (p : X → Bool) (xs : List X) (k : ℕ) : Type 0 where
  pub item : X
  pub there : slice_get (kept_behind p xs (suc k)) k ≡ Some item
  pub next : cond (p item) (kept_behind p xs (suc k)) (remove (kept_behind p xs (suc k)) k) ≡ kept_behind p xs k

cond_cons : {X : Type 0} (b : Bool) (x : X) (s t u : List X) → cond b s t ≡ u → cond b (x ∷ s) (x ∷ t) ≡ x ∷ u
cond_cons true x s t u h = ap (λ z. x ∷ z) h
cond_cons false x s t u h = ap (λ z. x ∷ z) h

pub kept_next : {X : Type 0} (p : X → Bool) (xs : List X) (k : ℕ) → k < length xs → IsNext p xs k
kept_next p [] k h = absurd (omega (arith, h))
kept_next p (x ∷ xs) zero h = record { item = x; there = refl; next = refl }
kept_next p (x ∷ xs) (suc k) h =
    let w = kept_next p xs k (omega (arith, h)) in
    record { item = w.item; there = w.there; next = cond_cons (p w.item) x (kept_behind p xs (suc k)) (remove (kept_behind p xs (suc k)) k) (kept_behind p xs k) w.next }

-- nothing is looked at yet
pub kept_all : {X : Type 0} (p : X → Bool) (xs : List X) (k : ℕ) → k ≡ length xs → kept_behind p xs k ≡ xs
kept_all p [] zero h = refl
kept_all p [] (suc k) h = absurd (omega (arith, h))
kept_all p (x ∷ xs) zero h = absurd (omega (arith, h))
kept_all p (x ∷ xs) (suc k) h = ap (λ z. x ∷ z) (kept_all p xs k (omega (arith, h)))

-- all were looked at
pub kept_none : {X : Type 0} (p : X → Bool) (xs : List X) (k : ℕ) → k ≡ 0 → kept_behind p xs k ≡ filter p xs
kept_none p [] zero h = refl
kept_none p (x ∷ xs) zero h = refl
kept_none p xs (suc k) h = absurd (omega (arith, h))

-- those in front are there
pub kept_front : {X : Type 0} (p : X → Bool) (xs : List X) (k : ℕ) → k < length xs → k < length (kept_behind p xs (suc k))
kept_front p [] k h = absurd (omega (arith, h))
kept_front p (x ∷ xs) zero h = omega arith
kept_front p (x ∷ xs) (suc k) h = let w : k < length (kept_behind p xs (suc k)) = kept_front p xs k (omega (arith, h)) in omega (arith, w)

-- one more is looked at
pub kept_more : {X : Type 0} (p q : X → Bool) (xs now after : List X) (k m n : ℕ) → k < length xs → m ≡ suc k → n ≡ k → now ≡ kept_behind p xs m → ((x : X) → q x ≡ p x)
    → ((x : X) → slice_get now k ≡ Some x → after ≡ cond (q x) now (remove now k)) → after ≡ kept_behind p xs n
kept_more p q xs now after k m n h e f g same step =
    let w = kept_next p xs k h in
    let is : now ≡ kept_behind p xs (suc k) = g ∙ ap (kept_behind p xs) e in
    step w.item (ap (λ z. slice_get z k) is ∙ w.there)
    ∙ (ap (λ b. cond b now (remove now k)) (same w.item)
    ∙ (ap (λ z. cond (p w.item) z (remove z k)) is ∙ (w.next ∙ ap (kept_behind p xs) (sym f))))

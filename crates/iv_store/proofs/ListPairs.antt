-- Lists walked one by one: a second list that grows beside the first.
use Rattle.std.proofs.Common.{◌≡◌, ℕ, zero, suc, ◌+◌, ◌<◌, ◌≤◌, Bool, true, List, [], ◌∷◌, ◌++◌, length, map, replicate, take, get_or, refl, sym, ap, subst, ◌∙◌}
use Rattle.std.proofs.lemmas.Simd.{splat_is_map}
use Rattle.std.proofs.lemmas.List.{map-append, take_all, take_more}
use Rattle.iv_readers.specs.Each.{Each}
use Rattle.iv_readers.specs.Touching.{numbers_of}
use Rattle.iv_readers.specs.declared.ids.CircuitId.{CircuitId}
use Rattle.iv_readers.proofs.Held.{get_or-map_place, length-mapped}

-- a list that grows by what a function makes of each
pub map-take_next : {X Y : Type 0} (f : X → Y) (xs : List X) (i : ℕ) (x : X) (y : Y) (ys new : List Y) → i < length xs → x ≡ get_or xs i x → ys ≡ map f (take i xs) → y ≡ f x → new ≡ ys ++ y ∷ [] → new ≡ map f (take (i + 1) xs)
map-take_next f xs i x y ys new low at so_far one is =
    is ∙ (λ j. so_far j ++ one j ∷ []) ∙ sym (map-append f (take i xs) (x ∷ []))
    ∙ sym (ap (map f) (take_more xs i x low ∙ ap (λ z. take i xs ++ z ∷ []) (sym at)))

pub map-take_whole : {X Y : Type 0} (f : X → Y) (xs : List X) (k : ℕ) (ys : List Y) → length xs ≤ k → ys ≡ map f (take k xs) → ys ≡ map f xs
map-take_whole f xs k ys l h = h ∙ ap (map f) (take_all k xs l)

module _ {X Y : Type 0} (P : X → Y → Type 0) where
  each_pushed : (xs : List X) (ys : List Y) (x : X) (y : Y) → Each P xs ys → P x y → Each P (xs ++ x ∷ []) (ys ++ y ∷ [])
  each_pushed [] [] x y h k = (k, tt)
  each_pushed [] (v ∷ vs) x y h k = absurd h
  each_pushed (u ∷ us) [] x y h k = absurd h
  each_pushed (u ∷ us) (v ∷ vs) x y h k = (h.0, each_pushed us vs x y h.1 k)

  -- the first of the one list, and what is pushed to the other
  pub each_more : (xs : List X) (i : ℕ) (x : X) (y : Y) (ys new : List Y) → i < length xs → x ≡ get_or xs i x → Each P (take i xs) ys → P x y → new ≡ ys ++ y ∷ [] → Each P (take (i + 1) xs) new
  each_more xs i x y ys new low at h k is = subst (Each P (take (i + 1) xs)) (sym is)
      (subst (λ (us : List X). Each P us (ys ++ y ∷ [])) (sym (take_more xs i x low ∙ ap (λ z. take i xs ++ z ∷ []) (sym at))) (each_pushed (take i xs) ys x y h k))

  pub each_whole : (xs : List X) (k : ℕ) (ys : List Y) → length xs ≤ k → Each P (take k xs) ys → Each P xs ys
  each_whole xs k ys l h = subst (λ (us : List X). Each P us ys) (take_all k xs l) h

-- ---- a flag for each

take_none : (n : ℕ) → take {A = Bool} n [] ≡ []
take_none zero = refl
take_none (suc n) = refl

pub map-replicate_true : {X : Type 0} (xs : List X) (n m : ℕ) (old new : List Bool) → old ≡ [] → m ≡ length xs → new ≡ take n old ++ replicate m true → new ≡ map (λ x. true) xs
map-replicate_true xs n m old new none long is =
    is ∙ (λ i. take n (none i) ++ replicate m true) ∙ ap (λ (bs : List Bool). bs ++ replicate m true) (take_none n) ∙ splat_is_map xs m true (sym long)

-- what holds of each holds beside what stands for it
pub Each-map : {X Y : Type 0} (P : X → Y → Type 0) (f : X → Y) (xs : List X) → ((x : X) → P x (f x)) → Each P xs (map f xs)
Each-map P f [] go = tt
Each-map P f (x ∷ xs) go = (go x, Each-map P f xs go)

-- a circuit at a place among others, by its number
pub number_at : (cs : List CircuitId) (i : ℕ) (c : CircuitId) → i < length cs → c ≡ get_or cs i c → (i < length (numbers_of cs)) × (c.0 ≡ get_or (numbers_of cs) i c.0)
number_at cs i c low at = (subst (λ n. i < n) (sym (length-mapped (λ (x : CircuitId). x.0) cs)) low, get_or-map_place (λ (x : CircuitId). x.0) cs i c low at)

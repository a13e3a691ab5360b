-- Something is done to clients by their numbers, one after another.
use Rattle.std.proofs.Common.{◌≡◌, ◌∙◌, ◌⊎◌, inl, inr, ℕ, zero, suc, ◌+◌, ◌<◌, Bool, true, false, ◌||◌, cond, eqb, List, [], ◌∷◌, ◌++◌, length, get_or, take}
use Rattle.std.proofs.Common.{Option, Some, None, option_map, refl, ap, sym, arith}
use Rattle.std.specs.List.{AllByRecursion, IsDistinct, list_any}
use Rattle.std.proofs.lemmas.Bool.{cases_Bool, cases_eq, eq-eqb, false≢true, ne_eqb, or_right}
use Rattle.std.proofs.lemmas.List.{take_more}
use Rattle.std.proofs.lemmas.Map.Keys.{IsDistinct-head, IsDistinct-tail}
use Rattle.iv_rows.specs.Options.{if_some}
use Rattle.iv_clients.specs.Clients.{at_all, at_client, client_at}
use Rattle.iv_clients.specs.Kept.{Kept, Places}
use Rattle.iv_hall.specs.Listing.{AreThose, walked}

walked-push : {C : Type 0} (f : C → C) (ns : List ℕ) (n : ℕ) (xs : List (Option C)) → walked f (ns ++ n ∷ []) xs ≡ at_client n f (walked f ns xs)
walked-push f [] n xs = refl
walked-push f (m ∷ ns) n xs = walked-push f ns n (at_client m f xs)

-- one number more of a list
pub walked-take_next : {C : Type 0} (f : C → C) (ns : List ℕ) (i : ℕ) (xs before now : List (Option C)) → i < length ns → before ≡ walked f (take i ns) xs
    → now ≡ at_client (get_or ns i 0) f before
    → now ≡ walked f (take (i + 1) ns) xs
walked-take_next f ns i xs before now lt e g =
    g ∙ (ap (at_client (get_or ns i 0) f) e ∙ (sym (walked-push f (take i ns) (get_or ns i 0) xs) ∙ ap (λ z. walked f z xs) (sym (take_more ns i 0 lt))))

-- ---- each that passes a test

abbrev at_some : {C : Type 0} → (ℕ → Bool) → (C → C) → List (Option C) → List (Option C)
at_some p f [] = []
at_some p f (x ∷ xs) = cond (p 0) (option_map f x) x ∷ at_some (λ m. p (suc m)) f xs

none_some : {C : Type 0} (f : C → C) (xs : List (Option C)) → xs ≡ at_some (λ m. false) f xs
none_some f [] = refl
none_some f (x ∷ xs) = ap (λ z. x ∷ z) (none_some f xs)

not_zero : (m : ℕ) → eqb (suc m) 0 ≡ false
not_zero m = ne_eqb (suc m) 0 (λ e. let no : ⊥ = omega (arith, e) in no)

zero_not : (m : ℕ) → eqb 0 (suc m) ≡ false
zero_not m = ne_eqb 0 (suc m) (λ e. let no : ⊥ = omega (arith, e) in no)

same_suc : (m n : ℕ) → eqb (suc m) (suc n) ≡ eqb m n
same_suc m n = by (cases_eq m n)
  where
    by : (m ≡ n) ⊎ (m ≡ n → ⊥) → eqb (suc m) (suc n) ≡ eqb m n
    by (inl e) = eq-eqb (suc m) (suc n) (ap suc e) ∙ sym (eq-eqb m n e)
    by (inr ne) = ne_eqb (suc m) (suc n) (λ e. ne (let h : m ≡ n = omega (arith, e) in h)) ∙ sym (ne_eqb m n ne)

one_first : {C : Type 0} (f : C → C) (x : Option C) (b : Bool) → b ≡ false
    → cond b (option_map f (option_map f x)) (option_map f x) ≡ cond (eqb 0 0 || b) (option_map f x) x
one_first f x b e = ap (λ z. cond z (option_map f (option_map f x)) (option_map f x)) e

one_more : {C : Type 0} (p : ℕ → Bool) (f : C → C) (n : ℕ) (xs : List (Option C)) → p n ≡ false
    → at_some p f (at_client n f xs) ≡ at_some (λ m. eqb m n || p m) f xs
one_more p f n [] e = refl
one_more p f zero (x ∷ xs) e = λ i. cases (p 0) e i ∷ at_some (λ m. (sym (not_zero m) i) || p (suc m)) f xs
  where
    cases : (b : Bool) → b ≡ false → cond b (option_map f (option_map f x)) (option_map f x) ≡ cond (eqb 0 0 || b) (option_map f x) x
    cases true h = absurd (false≢true (sym h))
    cases false h = refl
one_more p f (suc n) (x ∷ xs) e =
    (λ i. cond (sym (zero_not n) i || p 0) (option_map f x) x ∷ one_more (λ m. p (suc m)) f n xs e i)
    ∙ (λ i. cond (eqb 0 (suc n) || p 0) (option_map f x) x ∷ at_some (λ m. sym (same_suc m n) i || p (suc m)) f xs)

-- no number is listed twice
apart : (n : ℕ) (ns : List ℕ) → AllByRecursion (λ y. eqb n y ≡ false) ns → list_any (eqb n) ns ≡ false
apart n [] h = refl
apart n (m ∷ ns) h = ap (λ b. b || list_any (eqb n) ns) h.0 ∙ apart n ns h.1

walked_some : {C : Type 0} (f : C → C) (ns : List ℕ) (xs : List (Option C)) → IsDistinct eqb ns → walked f ns xs ≡ at_some (λ m. list_any (eqb m) ns) f xs
walked_some f [] xs d = none_some f xs
walked_some f (n ∷ ns) xs d =
    walked_some f ns (at_client n f xs) (IsDistinct-tail eqb n ns d)
    ∙ one_more (λ m. list_any (eqb m) ns) f n xs (apart n ns (IsDistinct-head eqb n ns d))

some_all : {C : Type 0} (p : ℕ → Bool) (f : C → C) (xs : List (Option C)) → ((m : ℕ) (c : C) → client_at xs m ≡ Some c → p m ≡ false → f c ≡ c)
    → at_some p f xs ≡ at_all f xs
some_all p f [] h = refl
some_all p f (x ∷ xs) h = λ i. by (p 0) x (h 0) i ∷ some_all (λ m. p (suc m)) f xs (λ m. h (suc m)) i
  where
    by : (b : Bool) (o : Option _) → ((c : _) → o ≡ Some c → b ≡ false → f c ≡ c) → cond b (option_map f o) o ≡ option_map f o
    by true o k = refl
    by false None k = refl
    by false (Some c) k = ap Some (sym (k c refl refl))

pub list_any-get_or : (m : ℕ) (ns : List ℕ) (k : ℕ) → k < length ns → get_or ns k m ≡ m → list_any (eqb m) ns ≡ true
list_any-get_or m [] k h e = absurd (let no_place : ⊥ = omega (arith, h) in no_place)
list_any-get_or m (n ∷ ns) zero h e = ap (λ b. b || list_any (eqb m) ns) (eq-eqb m n (sym e))
list_any-get_or m (n ∷ ns) (suc k) h e = or_right (eqb m n) (list_any (eqb m) ns) (list_any-get_or m ns k (omega (arith, h)) e)

-- where all are listed to whom it does something, it is done to all
pub walked-AreThose : (p : Kept → Bool) (f : Kept → Kept) (ns : List ℕ) (xs : Places) → IsDistinct eqb ns → AreThose p ns xs
    → ((k : Kept) → p k ≡ false → f k ≡ k) → walked f ns xs ≡ at_all f xs
walked-AreThose p f ns xs d those still = walked_some f ns xs d ∙ some_all (λ m. list_any (eqb m) ns) f xs (λ m k there e. still k (unlisted m k there e
    (cases_Bool (p k))))
  where
    unlisted : (m : ℕ) (k : Kept) → client_at xs m ≡ Some k → list_any (eqb m) ns ≡ false → (p k ≡ true) ⊎ (p k ≡ false) → p k ≡ false
    unlisted m k there e (inr h) = h
    unlisted m k there e (inl h) = let c = those.all m (ap (λ o. if_some o false p) there ∙ h) in absurd (false≢true (sym e ∙ list_any-get_or m ns c.0 c.1 c.2))

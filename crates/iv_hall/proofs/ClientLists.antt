-- A list has the clients that pass a test, whatever is done to one client, or to all.
use Rattle.std.proofs.Common.{◌≡◌, ◌∙◌, ◌⊎◌, inl, inr, ℕ, ◌<◌, ◌≤◌, Bool, true, false, List, [], length, set, eqb, Option, Some, None, option_map, refl, ap}
use Rattle.std.proofs.Common.{sym, subst, arith}
use Rattle.std.specs.List.{Contains, list_any}
use Rattle.std.proofs.lemmas.Bool.{cases_Bool, cases_eq, cases_lt, eqb-true, false≢true}
use Rattle.std.proofs.lemmas.Map.Views.{Contains-from_any}
use Rattle.iv_rows.specs.Options.{if_some}
use Rattle.iv_clients.specs.Clients.{at_all, at_client, client_at}
use Rattle.iv_clients.specs.Kept.{Kept, Places}
use Rattle.iv_clients.proofs.Slots.{client_at-at_all, client_at-at_other_client, client_at-at_client, length-at_all, client_at-set_other, Some-client_at_set, lt-client_at}
use Rattle.iv_hall.specs.Listing.{AreThose, is_so_at}
use Rattle.iv_hall.specs.Numbers.{AreSet, Numbers}
use Rattle.iv_hall.proofs.ClientWalks.{list_any-get_or}

-- the others are as they were
pub client_at-at_client_apart : {C : Type 0} (n : ℕ) (f : C → C) (xs : List (Option C)) (m : ℕ) → (m ≡ n → ⊥) → client_at (at_client n f xs) m ≡ client_at xs m
client_at-at_client_apart n f xs m ne = client_at-at_other_client n m f xs (λ e. ne (sym e))

pub client_at-set_apart : {C : Type 0} (n : ℕ) (o : Option C) (xs : List (Option C)) (m : ℕ) → (m ≡ n → ⊥) → client_at (set xs n o) m ≡ client_at xs m
client_at-set_apart n o xs m ne = client_at-set_other n m o xs (λ e. ne (sym e))

-- ---- of whom it is so

pub is_so_at-client_at : (p : Kept → Bool) (xs : Places) (m : ℕ) (k : Kept) → client_at xs m ≡ Some k → p k ≡ true → is_so_at p xs m ≡ true
is_so_at-client_at p xs m k there is = ap (λ o. if_some o false p) there ∙ is

pub so_but : (p : Kept → Bool) (n : ℕ) (xs ys : Places) → ((m : ℕ) → (m ≡ n → ⊥) → client_at ys m ≡ client_at xs m) → (m : ℕ) → (m ≡ n → ⊥)
    → is_so_at p ys m ≡ is_so_at p xs m
so_but p n xs ys same m ne = ap (λ o. if_some o false p) (same m ne)

pub is_so_at-at_client_here : (p : Kept → Bool) (f : Kept → Kept) (n : ℕ) (xs : Places)
    → is_so_at p (at_client n f xs) n ≡ if_some (option_map f (client_at xs n)) false p
is_so_at-at_client_here p f n xs = ap (λ o. if_some o false p) (client_at-at_client n f xs)

pub is_so_at-at_all : (p : Kept → Bool) (f : Kept → Kept) (xs : Places) (m : ℕ) → is_so_at p (at_all f xs) m ≡ if_some (option_map f (client_at xs m)) false p
is_so_at-at_all p f xs m = ap (λ o. if_some o false p) (client_at-at_all f xs m)

same_in : (p : Kept → Bool) (f : Kept → Kept) → ((k : Kept) → p (f k) ≡ p k) → (o : Option Kept) → if_some (option_map f o) false p ≡ if_some o false p
same_in p f s None = refl
same_in p f s (Some k) = s k

-- it is so of the same as before
pub is_so_at-at_client_same : (p : Kept → Bool) (f : Kept → Kept) (n : ℕ) (xs : Places) → ((k : Kept) → p (f k) ≡ p k) → (m : ℕ)
    → is_so_at p (at_client n f xs) m ≡ is_so_at p xs m
is_so_at-at_client_same p f n xs s m = by (cases_eq m n)
  where
    by : (m ≡ n) ⊎ (m ≡ n → ⊥) → is_so_at p (at_client n f xs) m ≡ is_so_at p xs m
    by (inl e) = subst (λ z. is_so_at p (at_client n f xs) z ≡ is_so_at p xs z) (sym e) (is_so_at-at_client_here p f n xs ∙ same_in p f s (client_at xs n))
    by (inr ne) = so_but p n xs (at_client n f xs) (client_at-at_client_apart n f xs) m ne

pub is_so_at-at_all_same : (p : Kept → Bool) (f : Kept → Kept) (xs : Places) → ((k : Kept) → p (f k) ≡ p k) → (m : ℕ)
    → is_so_at p (at_all f xs) m ≡ is_so_at p xs m
is_so_at-at_all_same p f xs s m = is_so_at-at_all p f xs m ∙ same_in p f s (client_at xs m)

-- of whom it is so then it was so before
fewer_in : (p : Kept → Bool) (f : Kept → Kept) → ((k : Kept) → p (f k) ≡ true → p k ≡ true) → (o : Option Kept) → if_some (option_map f o) false p ≡ true
    → if_some o false p ≡ true
fewer_in p f s None h = h
fewer_in p f s (Some k) h = s k h

pub is_so_at-at_client_back : (p : Kept → Bool) (f : Kept → Kept) (n : ℕ) (xs : Places) → ((k : Kept) → p (f k) ≡ true → p k ≡ true) → (m : ℕ)
    → is_so_at p (at_client n f xs) m ≡ true → is_so_at p xs m ≡ true
is_so_at-at_client_back p f n xs s m h = by (cases_eq m n)
  where
    by : (m ≡ n) ⊎ (m ≡ n → ⊥) → is_so_at p xs m ≡ true
    by (inl e) = subst (λ z. is_so_at p xs z ≡ true) (sym e)
        (fewer_in p f s (client_at xs n) (sym (is_so_at-at_client_here p f n xs) ∙ subst (λ z. is_so_at p (at_client n f xs) z ≡ true) e h))
    by (inr ne) = sym (so_but p n xs (at_client n f xs) (client_at-at_client_apart n f xs) m ne) ∙ h

-- of whom it was so before it is so then
more_in : (p : Kept → Bool) (f : Kept → Kept) → ((k : Kept) → p k ≡ true → p (f k) ≡ true) → (o : Option Kept) → if_some o false p ≡ true
    → if_some (option_map f o) false p ≡ true
more_in p f s None h = h
more_in p f s (Some k) h = s k h

pub is_so_at-at_client_on : (p : Kept → Bool) (f : Kept → Kept) (n : ℕ) (xs : Places) → ((k : Kept) → p k ≡ true → p (f k) ≡ true) → is_so_at p xs n ≡ true
    → is_so_at p (at_client n f xs) n ≡ true
is_so_at-at_client_on p f n xs s h = is_so_at-at_client_here p f n xs ∙ more_in p f s (client_at xs n) h

pub is_so_at-at_all_on : (p : Kept → Bool) (f : Kept → Kept) (xs : Places) → ((k : Kept) → p k ≡ true → p (f k) ≡ true) → (m : ℕ) → is_so_at p xs m ≡ true
    → is_so_at p (at_all f xs) m ≡ true
is_so_at-at_all_on p f xs s m h = is_so_at-at_all p f xs m ∙ more_in p f s (client_at xs m) h

-- of whom it is so who came in
pub true-is_so_at_set : (p : Kept → Bool) (n : ℕ) (who : Option Kept) (xs : Places) → is_so_at p (set xs n who) n ≡ true → if_some who false p ≡ true
true-is_so_at_set p n who xs h = by (client_at (set xs n who) n) refl h
  where
    by : (o : Option Kept) → client_at (set xs n who) n ≡ o → if_some o false p ≡ true → if_some who false p ≡ true
    by None there k = absurd (false≢true k)
    by (Some c) there k = ap (λ o. if_some o false p) (Some-client_at_set n who xs c there) ∙ k

-- of whom it is so is there
pub so_within : (p : Kept → Bool) (xs : Places) (m : ℕ) → is_so_at p xs m ≡ true → m < length xs
so_within p xs m h = by (client_at xs m) refl h
  where
    by : (o : Option Kept) → client_at xs m ≡ o → if_some o false p ≡ true → m < length xs
    by None there k = absurd (false≢true k)
    by (Some c) there k = lt-client_at xs m c there

-- ---- lists

pub AreThose-same : (p : Kept → Bool) (ns : List ℕ) (xs ys : Places) → ((m : ℕ) → is_so_at p ys m ≡ is_so_at p xs m) → AreThose p ns xs → AreThose p ns ys
AreThose-same p ns xs ys s t = record { all = λ m h. t.all m (sym (s m) ∙ h); only = λ m c. s m ∙ t.only m c }

none_in : (ns : List ℕ) → ns ≡ [] → (m : ℕ) → Contains ns m → ⊥
none_in ns e m c = let l = (subst (λ z. Contains z m) e c).1 in omega (arith, l)

pub AreThose-none : (p : Kept → Bool) (ns : List ℕ) (xs : Places) → ns ≡ [] → ((m : ℕ) → is_so_at p xs m ≡ false) → AreThose p ns xs
AreThose-none p ns xs e s = record { all = λ m h. absurd (false≢true (sym (s m) ∙ h)); only = λ m c. absurd (none_in ns e m c) }

-- all but n are listed as before
abbrev pub Stays : ℕ → List ℕ → List ℕ → Type 0
Stays n ns now = (m : ℕ) → (m ≡ n → ⊥) → Contains ns m → Contains now m

-- the clients of all numbers but one are as before
pub AreThose-but_one : (p : Kept → Bool) (n : ℕ) (ns now : List ℕ) (xs ys : Places) → AreThose p ns xs
    → ((m : ℕ) → (m ≡ n → ⊥) → client_at ys m ≡ client_at xs m) → Stays n ns now → Stays n now ns
    → (is_so_at p ys n ≡ true → Contains now n) → (Contains now n → is_so_at p ys n ≡ true) → AreThose p now ys
AreThose-but_one p n ns now xs ys t same stays back here out = record { all = λ m h. all m h (cases_eq m n); only = λ m c. only m c (cases_eq m n) }
  where
    all : (m : ℕ) → is_so_at p ys m ≡ true → (m ≡ n) ⊎ (m ≡ n → ⊥) → Contains now m
    all m h (inl e) = subst (Contains now) (sym e) (here (subst (λ z. is_so_at p ys z ≡ true) e h))
    all m h (inr ne) = stays m ne (t.all m (sym (so_but p n xs ys same m ne) ∙ h))

    only : (m : ℕ) → Contains now m → (m ≡ n) ⊎ (m ≡ n → ⊥) → is_so_at p ys m ≡ true
    only m c (inl e) = subst (λ z. is_so_at p ys z ≡ true) (sym e) (out (subst (Contains now) e c))
    only m c (inr ne) = so_but p n xs ys same m ne ∙ t.only m (back m ne c)

-- some numbers are listed as it is so of them, and of all others it is so as before
pub those_set : (p : Kept → Bool) (W : ℕ → Type 0) (xs ys : Places) (old new : Numbers) → AreThose p old.list xs → AreSet W (is_so_at p ys) old new
    → ((m : ℕ) → W m ⊎ (W m → ⊥)) → ((m : ℕ) → (W m → ⊥) → is_so_at p ys m ≡ is_so_at p xs m) → length ys ≤ old.size → AreThose p new.list ys
those_set p W xs ys old new t s in_or same l = record { all = λ m h. all m h (in_or m); only = λ m c. only m c (in_or m) }
  where
    all : (m : ℕ) → is_so_at p ys m ≡ true → W m ⊎ (W m → ⊥) → Contains new.list m
    all m h (inl w) = s.put m w h (let b = so_within p ys m h in omega (arith, b, l))
    all m h (inr out) = s.kept m out (t.all m (sym (same m out) ∙ h))

    only : (m : ℕ) → Contains new.list m → W m ⊎ (W m → ⊥) → is_so_at p ys m ≡ true
    only m c (inl w) = s.only m w c
    only m c (inr out) = same m out ∙ t.only m (s.others m out c)

-- one number
pub AreThose-AreSet_one : (p : Kept → Bool) (n : ℕ) (xs ys : Places) (old new : Numbers) → AreThose p old.list xs → AreSet (λ m. m ≡ n) (is_so_at p ys) old new
    → ((m : ℕ) → (m ≡ n → ⊥) → client_at ys m ≡ client_at xs m) → length ys ≤ old.size → AreThose p new.list ys
AreThose-AreSet_one p n xs ys old new t s same l = those_set p (λ m. m ≡ n) xs ys old new t s (λ m. cases_eq m n) (so_but p n xs ys same) l

-- all numbers below the most, and above there is nobody
pub AreThose-AreSet_below : (p : Kept → Bool) (most : ℕ) (xs ys : Places) (old new : Numbers) → AreThose p old.list xs
    → AreSet (λ m. m < most) (is_so_at p ys) old new
    → length xs ≤ most → length ys ≤ most → old.size ≡ most → AreThose p new.list ys
AreThose-AreSet_below p most xs ys old new t s lx ly e =
    those_set p (λ m. m < most) xs ys old new t s (λ m. in_or m (cases_lt m most)) (λ m out. past ys m ly out ∙ sym (past xs m lx out)) (omega (arith, ly, e))
  where
    in_or : (m : ℕ) → (m < most) ⊎ (most ≤ m) → (m < most) ⊎ (m < most → ⊥)
    in_or m (inl h) = inl h
    in_or m (inr h) = inr (λ l. omega (arith, h, l))

    past : (zs : Places) (m : ℕ) → length zs ≤ most → (m < most → ⊥) → is_so_at p zs m ≡ false
    past zs m l out = by (cases_Bool (is_so_at p zs m))
      where
        by : (is_so_at p zs m ≡ true) ⊎ (is_so_at p zs m ≡ false) → is_so_at p zs m ≡ false
        by (inl h) = absurd (out (let b = so_within p zs m h in omega (arith, b, l)))
        by (inr h) = h

-- a number is in a list or not
pub in_or_not : (ns : List ℕ) (m : ℕ) → Contains ns m ⊎ (Contains ns m → ⊥)
in_or_not ns m = by (cases_Bool (list_any (eqb m) ns))
  where
    by : (list_any (eqb m) ns ≡ true) ⊎ (list_any (eqb m) ns ≡ false) → Contains ns m ⊎ (Contains ns m → ⊥)
    by (inl e) = inl (Contains-from_any eqb-true m ns e)
    by (inr e) = inr (λ c. false≢true (sym e ∙ list_any-get_or m ns c.0 c.1 c.2))

-- those of a list, of whom something else is so, and nothing is done to any other
pub AreThose-AreSet_some : (q p : Kept → Bool) (f : Kept → Kept) (ns : List ℕ) (xs : Places) (old new : Numbers) → AreThose q ns xs
    → ((k : Kept) → q k ≡ false → f k ≡ k) → AreThose p old.list xs → AreSet (Contains ns) (is_so_at p (at_all f xs)) old new → length xs ≤ old.size
    → AreThose p new.list (at_all f xs)
AreThose-AreSet_some q p f ns xs old new listed still t s l =
    those_set p (Contains ns) xs (at_all f xs) old new t s (in_or_not ns) (λ m out. is_so_at-at_all p f xs m ∙ same m out (client_at xs m) refl)
    (omega (arith, l, length-at_all f xs))
  where
    unlisted : (m : ℕ) (k : Kept) → (Contains ns m → ⊥) → client_at xs m ≡ Some k → (q k ≡ true) ⊎ (q k ≡ false) → q k ≡ false
    unlisted m k out there (inl e) = absurd (out (listed.all m (is_so_at-client_at q xs m k there e)))
    unlisted m k out there (inr e) = e

    same : (m : ℕ) → (Contains ns m → ⊥) → (o : Option Kept) → client_at xs m ≡ o → if_some (option_map f o) false p ≡ if_some o false p
    same m out None there = refl
    same m out (Some k) there = ap p (still k (unlisted m k out there (cases_Bool (q k))))

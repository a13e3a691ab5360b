-- Places by their numbers: what is done to one of them, or to all, and who is there.
use Rattle.std.proofs.Common.{◌≡◌, ◌∙◌, ℕ, zero, suc, ◌<◌, ◌≤◌, Bool, true, false, ◌||◌, List, [], ◌∷◌, length, get_or, set, replicate, Option, Some, None, option_map, refl, ap, sym, arith}
use Rattle.std.specs.List.{list_any}
use Rattle.std.proofs.lemmas.Bool.{false≢true, or_left, or_right}
use Rattle.iv_rows.specs.Options.{if_some}
pub use Rattle.iv_records.proofs.CutParts.{same-Some, not_None-Some}
use Rattle.iv_clients.specs.Clients.{at_all, at_client, client_at, is_free}

-- what was changed was there before
pub record IsFrom {C : Type 0} (f : C → C) (o : Option C) (new : C) : Type 0 where
  pub old : C
  pub there : o ≡ Some old
  pub same : f old ≡ new

pub IsFrom-option_map : {C : Type 0} (f : C → C) (o : Option C) (new : C) → option_map f o ≡ Some new → IsFrom f o new
IsFrom-option_map f None new h = absurd (not_None-Some new (sym h))
IsFrom-option_map f (Some c) new h = record { old = c; there = refl; same = same-Some (f c) new h }

-- ---- at a number

pub client_at-at_client : {C : Type 0} (m : ℕ) (f : C → C) (slots : List (Option C)) → client_at (at_client m f slots) m ≡ option_map f (client_at slots m)
client_at-at_client m f [] = refl
client_at-at_client zero f (s ∷ ss) = refl
client_at-at_client (suc m) f (s ∷ ss) = client_at-at_client m f ss

pub client_at-at_other_client : {C : Type 0} (m j : ℕ) (f : C → C) (slots : List (Option C)) → (m ≡ j → ⊥)
    → client_at (at_client m f slots) j ≡ client_at slots j
client_at-at_other_client m j f [] h = refl
client_at-at_other_client zero zero f (s ∷ ss) h = absurd (h refl)
client_at-at_other_client zero (suc j) f (s ∷ ss) h = refl
client_at-at_other_client (suc m) zero f (s ∷ ss) h = refl
client_at-at_other_client (suc m) (suc j) f (s ∷ ss) h = client_at-at_other_client m j f ss (λ e. h (ap suc e))

pub client_at-at_all : {C : Type 0} (f : C → C) (slots : List (Option C)) (m : ℕ) → client_at (at_all f slots) m ≡ option_map f (client_at slots m)
client_at-at_all f [] m = refl
client_at-at_all f (s ∷ ss) zero = refl
client_at-at_all f (s ∷ ss) (suc m) = client_at-at_all f ss m

pub client_at-set_other : {C : Type 0} (m j : ℕ) (x : Option C) (slots : List (Option C)) → (m ≡ j → ⊥) → client_at (set slots m x) j ≡ client_at slots j
client_at-set_other m j x [] h = refl
client_at-set_other zero zero x (s ∷ ss) h = absurd (h refl)
client_at-set_other zero (suc j) x (s ∷ ss) h = refl
client_at-set_other (suc m) zero x (s ∷ ss) h = refl
client_at-set_other (suc m) (suc j) x (s ∷ ss) h = client_at-set_other m j x ss (λ e. h (ap suc e))

pub client_at-set_None : {C : Type 0} (m : ℕ) (slots : List (Option C)) → client_at (set slots m None) m ≡ None
client_at-set_None m [] = refl
client_at-set_None zero (s ∷ ss) = refl
client_at-set_None (suc m) (s ∷ ss) = client_at-set_None m ss

pub set_here : {C : Type 0} (m : ℕ) (x : Option C) (slots : List (Option C)) → m < length slots → client_at (set slots m x) m ≡ x
set_here m x [] h = absurd (let none : ⊥ = omega (arith, h) in none)
set_here zero x (s ∷ ss) h = refl
set_here (suc m) x (s ∷ ss) h = set_here m x ss (omega (arith, h))

-- who is at a number that was set was put there
pub Some-client_at_set : {C : Type 0} (m : ℕ) (x : Option C) (slots : List (Option C)) (c : C) → client_at (set slots m x) m ≡ Some c → x ≡ Some c
Some-client_at_set m x [] c h = absurd (not_None-Some c (sym h))
Some-client_at_set zero x (s ∷ ss) c h = h
Some-client_at_set (suc m) x (s ∷ ss) c h = Some-client_at_set m x ss c h

-- a number that is free is there
pub client_at-set_free : {C : Type 0} (m : ℕ) (c : C) (slots : List (Option C)) → is_free m slots ≡ true → client_at (set slots m (Some c)) m ≡ Some c
client_at-set_free m c [] h = absurd (false≢true h)
client_at-set_free zero c (s ∷ ss) h = refl
client_at-set_free (suc m) c (s ∷ ss) h = client_at-set_free m c ss h

pub is_free-client_at : {C : Type 0} (m : ℕ) (c : C) (slots : List (Option C)) → client_at slots m ≡ Some c → is_free m slots ≡ false
is_free-client_at m c [] h = refl
is_free-client_at zero c (Some d ∷ ss) h = refl
is_free-client_at zero c (None ∷ ss) h = absurd (not_None-Some c (sym h))
is_free-client_at (suc m) c (s ∷ ss) h = is_free-client_at m c ss h

pub client_at-is_free : {C : Type 0} (m : ℕ) (slots : List (Option C)) → is_free m slots ≡ true → client_at slots m ≡ None
client_at-is_free m [] h = absurd (false≢true h)
client_at-is_free zero (None ∷ ss) h = refl
client_at-is_free zero (Some c ∷ ss) h = absurd (false≢true h)
client_at-is_free (suc m) (s ∷ ss) h = client_at-is_free m ss h

pub not_client_at-replicate : {C : Type 0} (most m : ℕ) (c : C) → client_at (replicate most None) m ≡ Some c → ⊥
not_client_at-replicate zero m c h = not_None-Some c (sym h)
not_client_at-replicate (suc n) zero c h = not_None-Some c (sym h)
not_client_at-replicate (suc n) (suc m) c h = not_client_at-replicate n m c h

-- to change the place of a number is to put the changed one there
pub at_client-set : {C : Type 0} (m : ℕ) (f : C → C) (slots : List (Option C)) (x y : Option C) → m < length slots → x ≡ get_or slots m x → y ≡ option_map f x → set slots m y ≡ at_client m f slots
at_client-set m f [] x y h e k = absurd (let none : ⊥ = omega (arith, h) in none)
at_client-set zero f (s ∷ ss) x y h e k = ap (λ z. z ∷ ss) (k ∙ ap (option_map f) e)
at_client-set (suc m) f (s ∷ ss) x y h e k = ap (λ zs. s ∷ zs) (at_client-set m f ss x y (omega (arith, h)) e k)

-- past the last there is nobody
pub at_client-past : {C : Type 0} (m : ℕ) (f : C → C) (slots : List (Option C)) → length slots ≤ m → slots ≡ at_client m f slots
at_client-past m f [] h = refl
at_client-past zero f (s ∷ ss) h = absurd (let none : ⊥ = omega (arith, h) in none)
at_client-past (suc m) f (s ∷ ss) h = ap (λ zs. s ∷ zs) (at_client-past m f ss (omega (arith, h)))

-- ---- how many there are

pub lt-client_at : {C : Type 0} (slots : List (Option C)) (m : ℕ) (c : C) → client_at slots m ≡ Some c → m < length slots
lt-client_at [] m c h = absurd (not_None-Some c (sym h))
lt-client_at (s ∷ ss) zero c h = omega arith
lt-client_at (s ∷ ss) (suc m) c h = let l = lt-client_at ss m c h in omega (arith, l)

pub length-at_client : {C : Type 0} (m : ℕ) (f : C → C) (slots : List (Option C)) → length (at_client m f slots) ≡ length slots
length-at_client m f [] = refl
length-at_client zero f (s ∷ ss) = refl
length-at_client (suc m) f (s ∷ ss) = ap suc (length-at_client m f ss)

pub length-at_all : {C : Type 0} (f : C → C) (slots : List (Option C)) → length (at_all f slots) ≡ length slots
length-at_all f [] = refl
length-at_all f (s ∷ ss) = ap suc (length-at_all f ss)

pub length-set_slot : {C : Type 0} (m : ℕ) (x : Option C) (slots : List (Option C)) → length (set slots m x) ≡ length slots
length-set_slot m x [] = refl
length-set_slot zero x (s ∷ ss) = refl
length-set_slot (suc m) x (s ∷ ss) = ap suc (length-set_slot m x ss)

-- ---- whether there is one

pub record IsThere {C : Type 0} (p : C → Bool) (slots : List (Option C)) : Type 0 where
  pub number : ℕ
  pub client : C
  pub there : client_at slots number ≡ Some client
  pub so : p client ≡ true

pub IsThere-list_any : {C : Type 0} (p : C → Bool) (slots : List (Option C)) → list_any (λ x. if_some x false p) slots ≡ true → IsThere p slots
IsThere-list_any p [] h = absurd (false≢true h)
IsThere-list_any p (None ∷ ss) h = let x = IsThere-list_any p ss h in record { number = suc x.number; client = x.client; there = x.there; so = x.so }
IsThere-list_any p (Some c ∷ ss) h = by (p c) refl h (IsThere-list_any p ss)
  where
    by : (b : Bool) → p c ≡ b → (b || list_any (λ x. if_some x false p) ss) ≡ true → (list_any (λ x. if_some x false p) ss ≡ true → IsThere p ss) → IsThere p (Some c ∷ ss)
    by true e k more = record { number = 0; client = c; there = refl; so = e }
    by false e k more = let x = more k in record { number = suc x.number; client = x.client; there = x.there; so = x.so }

pub list_any-client_at : {C : Type 0} (p : C → Bool) (slots : List (Option C)) (m : ℕ) → if_some (client_at slots m) false p ≡ true → list_any (λ x. if_some x false p) slots ≡ true
list_any-client_at p [] m h = absurd (false≢true h)
list_any-client_at p (s ∷ ss) zero h = or_left (if_some s false p) (list_any (λ y. if_some y false p) ss) h
list_any-client_at p (s ∷ ss) (suc m) h = or_right (if_some s false p) (list_any (λ y. if_some y false p) ss) (list_any-client_at p ss m h)

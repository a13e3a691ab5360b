-- Lists of entries: what stands in them, and how often.
use Rattle.std.proofs.Common.{◌≡◌, ◌⊎◌, inl, inr, ℕ, zero, suc, ◌+◌, ◌<◌, ◌≤◌, Bool, true, false, cond, List, [], ◌∷◌, ◌++◌, drop, take, Some, None, is_some, refl, ap, ◌∙◌, sym, subst, arith}
use Rattle.std.specs.Prelude.{◌==◌, ◌&&◌, bytes_eq, nat_lt, nat_le}
use Rattle.std.proofs.lemmas.Bool.{false≢true, eqb-true}
use Rattle.std.proofs.lemmas.Bool.Decides.{nat_tests}
use Rattle.std.proofs.lemmas.Slice.Eq.{bytes_eq-Decides}
use Rattle.iv_once.specs.Names.{Place, Named, named, plain, renewed, Journal, is_place}
use Rattle.iv_once.specs.Laws.{Among, own, times}

-- ---- tests

pub not_None-Some : {X : Type 0} (x : X) → Some x ≡ None → ⊥
not_None-Some x e = false≢true (sym (ap is_some e))

pub and-both_true : (b c : Bool) → (b && c) ≡ true → (b ≡ true) × (c ≡ true)
and-both_true true c h = (refl, h)
and-both_true false c h = absurd (false≢true h)

pub same-bytes_eq : (x y : List ℕ) → bytes_eq x y ≡ true → x ≡ y
same-bytes_eq x y h = (bytes_eq-Decides x y).0 h

pub bytes_eq-itself : (x : List ℕ) → bytes_eq x x ≡ true
bytes_eq-itself x = (bytes_eq-Decides x x).1 refl

pub not_same-bytes_eq : (x y : List ℕ) → bytes_eq x y ≡ false → x ≡ y → ⊥
not_same-bytes_eq x y h e = false≢true (sym h ∙ (bytes_eq-Decides x y).1 e)

pub same-Some : {X : Type 0} (a b : X) → Some a ≡ Some b → a ≡ b
same-Some a b h = cc

pub lt-nat_lt : (m n : ℕ) → nat_lt m n ≡ true → m < n
lt-nat_lt m n h = grind (arith, nat_tests)

pub le-nat_lt_false : (m n : ℕ) → nat_lt m n ≡ false → n ≤ m
le-nat_lt_false m n h = grind (arith, nat_tests)

pub le-nat_le : (m n : ℕ) → nat_le m n ≡ true → m ≤ n
le-nat_le m n h = grind (arith, nat_tests)

pub lt-nat_le_false : (m n : ℕ) → nat_le m n ≡ false → n < m
lt-nat_le_false m n h = grind (arith, nat_tests)

pub eqb_itself : (k : ℕ) → (k == k) ≡ true
eqb_itself k = grind (arith, nat_tests)

pub plus-zero_left : (n : ℕ) → 0 + n ≡ n
plus-zero_left n = omega arith

pub same-is_place : (a b : Place) → is_place a b ≡ true → a ≡ b
same-is_place a b h =
    let t = and-both_true (a.count == b.count) (bytes_eq a.epoch b.epoch) h in
    let n : a.count ≡ b.count = eqb-true a.count b.count t.0 in
    let e : a.epoch ≡ b.epoch = same-bytes_eq a.epoch b.epoch t.1 in
    λ i. record { epoch = e i; count = n i }

pub is_place-itself : (a : Place) → is_place a a ≡ true
is_place-itself a = (λ i. eqb_itself a.count i && bytes_eq-itself a.epoch i)

-- ---- lists

pub append-associative : {X : Type 0} (a b c : List X) → (a ++ b) ++ c ≡ a ++ (b ++ c)
append-associative [] b c = refl
append-associative (x ∷ a) b c = ap (λ z. x ∷ z) (append-associative a b c)

pub append-none : {X : Type 0} (a : List X) → a ++ [] ≡ a
append-none [] = refl
append-none (x ∷ a) = ap (λ z. x ∷ z) (append-none a)

pub append-take_drop : {X : Type 0} (n : ℕ) (a : List X) → take n a ++ drop n a ≡ a
append-take_drop zero a = refl
append-take_drop (suc n) [] = refl
append-take_drop (suc n) (x ∷ a) = ap (λ z. x ∷ z) (append-take_drop n a)

-- a list is what is dropped, and the rest
pub append-take_drop_append : {X : Type 0} (n : ℕ) (a b : List X) → take n a ++ (drop n a ++ b) ≡ a ++ b
append-take_drop_append n a b = sym (append-associative (take n a) (drop n a) b) ∙ ap (λ z. z ++ b) (append-take_drop n a)

pub take-take_more : {X : Type 0} (m n : ℕ) (xs : List X) → m ≤ n → take m (take n xs) ≡ take m xs
take-take_more zero n xs h = refl
take-take_more (suc m) zero xs h = absurd (omega (arith, h))
take-take_more (suc m) (suc n) [] h = refl
take-take_more (suc m) (suc n) (x ∷ xs) h = ap (λ z. x ∷ z) (take-take_more m n xs (omega (arith, h)))

pub take-cons_take : {X : Type 0} (m : ℕ) (x : X) (xs : List X) → take m (x ∷ take m xs) ≡ take m (x ∷ xs)
take-cons_take zero x xs = refl
take-cons_take (suc m) x xs = ap (λ z. x ∷ z) (take-take_more m (suc m) xs (omega arith))

-- ---- among

pub among_front : {X : Type 0} (x : X) (xs ys : List X) → Among x xs → Among x (xs ++ ys)
among_front x [] ys h = absurd h
among_front x (y ∷ xs) ys (inl e) = inl e
among_front x (y ∷ xs) ys (inr h) = inr (among_front x xs ys h)

pub among_back : {X : Type 0} (x : X) (xs ys : List X) → Among x ys → Among x (xs ++ ys)
among_back x [] ys h = h
among_back x (y ∷ xs) ys h = inr (among_back x xs ys h)

pub Among-append : {X : Type 0} (x : X) (xs ys : List X) → Among x (xs ++ ys) → Among x xs ⊎ Among x ys
Among-append x [] ys h = inr h
Among-append x (y ∷ xs) ys (inl e) = inl (inl e)
Among-append x (y ∷ xs) ys (inr h) = by (Among-append x xs ys h)
  where
    by : Among x xs ⊎ Among x ys → Among x (y ∷ xs) ⊎ Among x ys
    by (inl k) = inl (inr k)
    by (inr k) = inr k

pub Among-take : {X : Type 0} (n : ℕ) (x : X) (ys : List X) → Among x (take n ys) → Among x ys
Among-take n x ys h = subst (Among x) (append-take_drop n ys) (among_front x (take n ys) (drop n ys) h)

-- ---- a holder's entries

pub own_append : (holder : List ℕ) (a b : Journal) → own holder (a ++ b) ≡ own holder a ++ own holder b
own_append holder [] b = refl
own_append holder (named e ∷ a) b = by (bytes_eq e.ask.holder holder) (own_append holder a b)
  where
    by : (c : Bool) → own holder (a ++ b) ≡ own holder a ++ own holder b → cond c (e ∷ own holder (a ++ b)) (own holder (a ++ b)) ≡ cond c (e ∷ own holder a) (own holder a) ++ own holder b
    by true h = ap (λ z. e ∷ z) h
    by false h = h
own_append holder (plain request ∷ a) b = own_append holder a b
own_append holder (renewed other epoch ∷ a) b = own_append holder a b

pub Among-own_front : (holder : List ℕ) (e : Named) (a b : Journal) → Among e (own holder a) → Among e (own holder (a ++ b))
Among-own_front holder e a b h = subst (Among e) (sym (own_append holder a b)) (among_front e (own holder a) (own holder b) h)

pub Among-own_back : (holder : List ℕ) (e : Named) (a b : Journal) → Among e (own holder b) → Among e (own holder (a ++ b))
Among-own_back holder e a b h = subst (Among e) (sym (own_append holder a b)) (among_back e (own holder a) (own holder b) h)

pub Among-own_append : (holder : List ℕ) (e : Named) (a b : Journal) → Among e (own holder (a ++ b)) → Among e (own holder a) ⊎ Among e (own holder b)
Among-own_append holder e a b h = Among-append e (own holder a) (own holder b) (subst (Among e) (own_append holder a b) h)

-- ---- how often

pub times_append : (name : List ℕ) (at : Place) (a b : List Named) → times name at (a ++ b) ≡ times name at a + times name at b
times_append name at [] b = sym (plus-zero_left (times name at b))
times_append name at (e ∷ a) b = let h = times_append name at a b in omega (arith, h)

-- in a journal of two parts
pub times-append : (holder name : List ℕ) (at : Place) (a b : Journal) → times name at (own holder (a ++ b)) ≡ times name at (own holder a) + times name at (own holder b)
times-append holder name at a b = ap (times name at) (own_append holder a b) ∙ times_append name at (own holder a) (own holder b)

pub bears : (e : Named) (name : List ℕ) (at : Place) → e.ask.name ≡ name → e.ask.at ≡ at → (bytes_eq e.ask.name name && is_place e.ask.at at) ≡ true
bears e name at n p = (λ i. bytes_eq (n i) name && is_place (p i) at) ∙ (λ i. bytes_eq-itself name i && is_place-itself at i)

pub times_one : (e : Named) (name : List ℕ) (at : Place) (es : List Named) → e.ask.name ≡ name → e.ask.at ≡ at → Among e es → 1 ≤ times name at es
times_one e name at [] n p a = absurd a
times_one e name at (x ∷ es) n p (inl k) =
    let t : (bytes_eq x.ask.name name && is_place x.ask.at at) ≡ true = ap (λ (z : Named). bytes_eq z.ask.name name && is_place z.ask.at at) k ∙ bears e name at n p in
    subst (λ b. 1 ≤ cond b 1 0 + times name at es) (sym t) (omega arith)
times_one e name at (x ∷ es) n p (inr k) = let more = times_one e name at es n p k in omega (arith, more)

-- where one alone bears the name and the place, two that do are the same
pub same-Among_once : (e f : Named) (name : List ℕ) (at : Place) (es : List Named) → times name at es ≤ 1 → e.ask.name ≡ name → e.ask.at ≡ at → f.ask.name ≡ name → f.ask.at ≡ at → Among e es → Among f es → e ≡ f
same-Among_once e f name at [] l n p n' p' a b = absurd a
same-Among_once e f name at (x ∷ es) l n p n' p' (inl k) (inl m) = sym k ∙ m
same-Among_once e f name at (x ∷ es) l n p n' p' (inr k) (inr m) = same-Among_once e f name at es (omega (arith, l)) n p n' p' k m
same-Among_once e f name at (x ∷ es) l n p n' p' (inl k) (inr m) =
    let t : (bytes_eq x.ask.name name && is_place x.ask.at at) ≡ true = ap (λ (z : Named). bytes_eq z.ask.name name && is_place z.ask.at at) k ∙ bears e name at n p in
    let more = times_one f name at es n' p' m in
    let two : cond true 1 0 + times name at es ≤ 1 = subst (λ b. cond b 1 0 + times name at es ≤ 1) t l in
    absurd (omega (arith, two, more))
same-Among_once e f name at (x ∷ es) l n p n' p' (inr k) (inl m) =
    let t : (bytes_eq x.ask.name name && is_place x.ask.at at) ≡ true = ap (λ (z : Named). bytes_eq z.ask.name name && is_place z.ask.at at) m ∙ bears f name at n' p' in
    let more = times_one e name at es n p k in
    let two : cond true 1 0 + times name at es ≤ 1 = subst (λ b. cond b 1 0 + times name at es ≤ 1) t l in
    absurd (omega (arith, two, more))

-- nobody has the place whose epoch nobody has
pub times-elsewhere : (name : List ℕ) (at : Place) (es : List Named) → ((e : Named) → Among e es → e.ask.at.epoch ≡ at.epoch → ⊥) → times name at es ≡ 0
times-elsewhere name at [] h = refl
times-elsewhere name at (e ∷ es) h = by (bytes_eq e.ask.name name && is_place e.ask.at at) refl (times-elsewhere name at es (λ x k. h x (inr k)))
  where
    by : (b : Bool) → (bytes_eq e.ask.name name && is_place e.ask.at at) ≡ b → times name at es ≡ 0 → cond b 1 0 + times name at es ≡ 0
    by false t more = plus-zero_left (times name at es) ∙ more
    by true t more = absurd (h e (inl refl) (ap (λ (z : Place). z.epoch) (same-is_place e.ask.at at (and-both_true (bytes_eq e.ask.name name) (is_place e.ask.at at) t).1)))

-- Who reads a feed, as one comes or goes, and whether somebody does.
use Rattle.std.proofs.Common.{◌≡◌, ◌∙◌, ◌⊎◌, inl, inr, ℕ, zero, suc, ◌<◌, ◌≤◌, Bool, true, false, ◌||◌, cond, not, eqb, List, [], ◌∷◌, ◌++◌, length, get_or}
use Rattle.std.proofs.Common.{◌+◌, set, filter, find, take, Option, Some, None, refl, ap, sym, subst, arith}
use Rattle.std.specs.Prelude.{◌==◌, if◌then◌else◌, nat_lt, slice_get}
use Rattle.std.specs.Cmp.{IsEquivalence}
use Rattle.std.specs.List.{AllByRecursion, Contains, IsDistinct, list_any, position, position_or_len}
use Rattle.std.proofs.lemmas.Bool.{cases_Bool, cases_eq, eq-eqb, eqb-true, false≢true, ltb-false, ne_eqb, or_cases, or_left, or_right}
use Rattle.std.proofs.lemmas.List.Elements.{Contains-append_left, Contains-push, Contains-push_cases}
use Rattle.std.proofs.lemmas.List.{take_more}
use Rattle.std.proofs.lemmas.List.Folds.{find-set, find_at, find_past, list_any-append}
use Rattle.std.proofs.lemmas.List.Quantifiers.{position-Some}
use Rattle.std.proofs.lemmas.Map.Keys.{IsDistinct-cons, IsDistinct-from_apart, IsDistinct-head, IsDistinct-push, IsDistinct-tail}
use Rattle.std.proofs.lemmas.Map.Views.{Contains-from_any}
use Rattle.iv_rows.specs.Options.{if_some}
use Rattle.iv_clients.specs.Clients.{Sub, client_at}
use Rattle.iv_clients.specs.Kept.{Kept, Places, is_following}
use Rattle.iv_clients.proofs.Slots.{list_any-client_at, IsThere-list_any}
use Rattle.iv_hall.specs.Listing.{AreThose, is_so_at}
use Rattle.iv_hall.specs.Readers.{HasAll, HasJoined, HasKept, HasLeft, HasQuit, IsReader, Readers, readers_of}
use Rattle.iv_hall.proofs.ClientWalks.{list_any-get_or}

-- ---- one list of numbers

-- a number comes into it, where it is not there
abbrev pub with_number : ℕ → List ℕ → List ℕ
with_number n ns = if list_any (eqb n) ns then ns else ns ++ n ∷ []

pub has_number : (n : ℕ) (ns : List ℕ) → Contains (with_number n ns) n
has_number n ns = by (cases_Bool (list_any (eqb n) ns))
  where
    by : (list_any (eqb n) ns ≡ true) ⊎ (list_any (eqb n) ns ≡ false) → Contains (with_number n ns) n
    by (inl e) = subst (λ b. Contains (cond b ns (ns ++ n ∷ [])) n) (sym e) (Contains-from_any eqb-true n ns e)
    by (inr e) = subst (λ b. Contains (cond b ns (ns ++ n ∷ [])) n) (sym e) (Contains-push ns n)

pub has_others : (n : ℕ) (ns : List ℕ) (m : ℕ) → Contains ns m → Contains (with_number n ns) m
has_others n ns m c = by (list_any (eqb n) ns)
  where
    by : (b : Bool) → Contains (cond b ns (ns ++ n ∷ [])) m
    by true = c
    by false = Contains-append_left ns (n ∷ []) m c

pub has_no_others : (n : ℕ) (ns : List ℕ) (m : ℕ) → Contains (with_number n ns) m → Contains ns m ⊎ (m ≡ n)
has_no_others n ns m c = by (list_any (eqb n) ns) c
  where
    turned : Contains ns m ⊎ (n ≡ m) → Contains ns m ⊎ (m ≡ n)
    turned (inl h) = inl h
    turned (inr e) = inr (sym e)

    by : (b : Bool) → Contains (cond b ns (ns ++ n ∷ [])) m → Contains ns m ⊎ (m ≡ n)
    by true h = inl h
    by false h = turned (Contains-push_cases ns n m h)

found_kept : (q : ℕ → Bool) (ns : List ℕ) (m : ℕ) → list_any (eqb m) ns ≡ true → q m ≡ true → list_any (eqb m) (filter q ns) ≡ true
found_kept q [] m h k = h
found_kept q (n ∷ ns) m h k = by (cases_Bool (q n)) (or_cases (eqb m n) (list_any (eqb m) ns) h) (λ x. found_kept q ns m x k)
  where
    by : (q n ≡ true) ⊎ (q n ≡ false) → (eqb m n ≡ true) ⊎ (list_any (eqb m) ns ≡ true) → (list_any (eqb m) ns ≡ true → list_any (eqb m) (filter q ns) ≡ true)
        → list_any (eqb m) (cond (q n) (n ∷ filter q ns) (filter q ns)) ≡ true
    by (inl e) (inl x) rest = subst (λ b. list_any (eqb m) (cond b (n ∷ filter q ns) (filter q ns)) ≡ true) (sym e)
        (or_left (eqb m n) (list_any (eqb m) (filter q ns)) x)
    by (inl e) (inr x) rest = subst (λ b. list_any (eqb m) (cond b (n ∷ filter q ns) (filter q ns)) ≡ true) (sym e)
        (or_right (eqb m n) (list_any (eqb m) (filter q ns)) (rest x))
    by (inr e) (inl x) rest = absurd (false≢true (sym e ∙ (ap q (sym (eqb-true m n x)) ∙ k)))
    by (inr e) (inr x) rest = subst (λ b. list_any (eqb m) (cond b (n ∷ filter q ns) (filter q ns)) ≡ true) (sym e) (rest x)

-- others than n are there without n
pub still_there : (n : ℕ) (ns : List ℕ) (m : ℕ) → (m ≡ n → ⊥) → Contains ns m → Contains (filter (λ z. not (n == z)) ns) m
still_there n ns m ne c = Contains-from_any eqb-true m (filter (λ z. not (n == z)) ns)
    (found_kept (λ z. not (n == z)) ns m (list_any-get_or m ns c.0 c.1 c.2) (ap not (ne_eqb n m (λ e. ne (sym e)))))

found_left : (q : ℕ → Bool) (ns : List ℕ) (m : ℕ) → list_any (eqb m) (filter q ns) ≡ true → (list_any (eqb m) ns ≡ true) × (q m ≡ true)
found_left q [] m h = absurd (false≢true h)
found_left q (n ∷ ns) m h = by (cases_Bool (q n)) (λ x. found_left q ns m x)
  where
    here : q n ≡ true → (eqb m n ≡ true) ⊎ (list_any (eqb m) (filter q ns) ≡ true)
        → (list_any (eqb m) (filter q ns) ≡ true → (list_any (eqb m) ns ≡ true) × (q m ≡ true)) → (list_any (eqb m) (n ∷ ns) ≡ true) × (q m ≡ true)
    here e (inl x) rest = (or_left (eqb m n) (list_any (eqb m) ns) x, ap q (eqb-true m n x) ∙ e)
    here e (inr x) rest = (or_right (eqb m n) (list_any (eqb m) ns) (rest x).0, (rest x).1)

    by : (q n ≡ true) ⊎ (q n ≡ false) → (list_any (eqb m) (filter q ns) ≡ true → (list_any (eqb m) ns ≡ true) × (q m ≡ true))
        → (list_any (eqb m) (n ∷ ns) ≡ true) × (q m ≡ true)
    by (inl e) rest = here e (or_cases (eqb m n) (list_any (eqb m) (filter q ns))
        (subst (λ b. list_any (eqb m) (cond b (n ∷ filter q ns) (filter q ns)) ≡ true) e h)) rest
    by (inr e) rest =
        let k = rest (subst (λ b. list_any (eqb m) (cond b (n ∷ filter q ns) (filter q ns)) ≡ true) e h) in
        (or_right (eqb m n) (list_any (eqb m) ns) k.0, k.1)

-- those without n were there before, and n is not
pub there_before : (n : ℕ) (ns : List ℕ) (m : ℕ) → Contains (filter (λ z. not (n == z)) ns) m → Contains ns m
there_before n ns m c = Contains-from_any eqb-true m ns (found_left (λ z. not (n == z)) ns m (list_any-get_or m (filter (λ z. not (n == z)) ns) c.0 c.1 c.2)).0

pub not_there : (n : ℕ) (ns : List ℕ) → Contains (filter (λ z. not (n == z)) ns) n → ⊥
not_there n ns c =
    let k = (found_left (λ z. not (n == z)) ns n (list_any-get_or n (filter (λ z. not (n == z)) ns) c.0 c.1 c.2)).1 in
    false≢true (sym (ap not (eq-eqb n n refl)) ∙ k)

-- numbers by their test
pub number_laws : IsEquivalence eqb
number_laws = record {
  refl = λ x. eq-eqb x x refl;
  symm = λ x y. flips x y (cases_eq x y);
  congr = λ x y z e. ap (λ w. eqb w z) (eqb-true x y e);
}
  where
    flips : (x y : ℕ) → (x ≡ y) ⊎ (x ≡ y → ⊥) → eqb x y ≡ eqb y x
    flips x y (inl e) = eq-eqb x y e ∙ sym (eq-eqb y x (sym e))
    flips x y (inr ne) = ne_eqb x y ne ∙ sym (ne_eqb y x (λ e. ne (sym e)))

-- one number more, which is not there, leaves each once
pub IsDistinct-push_number : (ns : List ℕ) (n : ℕ) → IsDistinct eqb ns → list_any (eqb n) ns ≡ false → IsDistinct eqb (ns ++ n ∷ [])
IsDistinct-push_number ns n d h = IsDistinct-push number_laws ns n d h

pub AllByRecursion-filter : {X : Type 0} (P : X → Type 0) (q : X → Bool) (ns : List X) → AllByRecursion P ns → AllByRecursion P (filter q ns)
AllByRecursion-filter P q [] h = h
AllByRecursion-filter P q (n ∷ ns) h = by (q n) (AllByRecursion-filter P q ns h.1)
  where
    by : (b : Bool) → AllByRecursion P (filter q ns) → AllByRecursion P (cond b (n ∷ filter q ns) (filter q ns))
    by true rest = (h.0, rest)
    by false rest = rest

pub IsDistinct-filter : (q : ℕ → Bool) (ns : List ℕ) → IsDistinct eqb ns → IsDistinct eqb (filter q ns)
IsDistinct-filter q [] d = d
IsDistinct-filter q (n ∷ ns) d = by (q n) (IsDistinct-filter q ns (IsDistinct-tail eqb n ns d))
  where
    by : (b : Bool) → IsDistinct eqb (filter q ns) → IsDistinct eqb (cond b (n ∷ filter q ns) (filter q ns))
    by true rest = IsDistinct-cons eqb n (filter q ns) (AllByRecursion-filter (λ y. eqb n y ≡ false) q ns (IsDistinct-head eqb n ns d)) rest
    by false rest = rest

pub IsDistinct-none : IsDistinct eqb []
IsDistinct-none = IsDistinct-from_apart eqb [] (λ i j d lt h. absurd (let none : ⊥ = omega (arith, h) in none))

-- ---- lists by feeds

of_place : (b : Bool) (q at : ℕ) → cond b (Some q) None ≡ Some at → at ≡ q
of_place true q at e = let same : q ≡ at = cc in sym same
of_place false q at e = cc

of_none : (b : Bool) (q : ℕ) → cond b (Some q) None ≡ None → b ≡ false
of_none true q e = cc
of_none false q e = refl

got : {X : Type 0} (xs : List X) (i : ℕ) (d : X) → i < length xs → slice_get xs i ≡ Some (get_or xs i d)
got [] i d h = absurd (let none : ⊥ = omega (arith, h) in none)
got (x ∷ xs) zero d h = refl
got (x ∷ xs) (suc i) d h = got xs i d (omega (arith, h))

got_none : {X : Type 0} (xs : List X) (i : ℕ) → length xs ≤ i → slice_get xs i ≡ None
got_none [] i h = refl
got_none (x ∷ xs) zero h = absurd (let none : ⊥ = omega (arith, h) in none)
got_none (x ∷ xs) (suc i) h = got_none xs i (omega (arith, h))

numbers_in : Option Readers → List ℕ
numbers_in o = if_some o [] (λ r. r.numbers)

-- the numbers at the place of a feed are the feed's
pub of_feed : (rs : List Readers) (feed at : ℕ) (r : Readers) → position (λ x. feed == x.feed) rs ≡ Some at → r ≡ get_or rs at r
    → readers_of rs feed ≡ r.numbers
of_feed rs feed at r e is =
    let p = λ (x : Readers). feed == x.feed in
    let h = position-Some p rs at r e in
    ap (λ o. if_some o [] (λ (x : Readers). x.numbers)) (find_at p rs ∙ (ap (slice_get rs)
    (sym (of_place (nat_lt (position_or_len p rs) (length rs)) (position_or_len p rs) at e)) ∙ (got rs at r h.0 ∙ ap Some (sym is))))

is_feed : (rs : List Readers) (feed at : ℕ) (r : Readers) → position (λ x. feed == x.feed) rs ≡ Some at → r ≡ get_or rs at r → feed ≡ r.feed
is_feed rs feed at r e is = eqb-true feed r.feed (ap (λ (x : Readers). feed == x.feed) is ∙ (position-Some (λ (x : Readers). feed == x.feed) rs at r e).1)

-- other numbers at that place are the feed's then
pub of_feed_set : (rs : List Readers) (feed at : ℕ) (r now : Readers) → position (λ x. feed == x.feed) rs ≡ Some at → r ≡ get_or rs at r → now.feed ≡ r.feed
    → readers_of (set rs at now) feed ≡ now.numbers
of_feed_set rs feed at r now e is same =
    let p = λ (x : Readers). feed == x.feed in
    ap (λ o. if_some o [] (λ (x : Readers). x.numbers)) (find-set p rs at now (of_place (nat_lt (position_or_len p rs) (length rs)) (position_or_len p rs) at e)
    (position-Some p rs at r e).0 (eq-eqb feed now.feed (is_feed rs feed at r e is ∙ sym same)))

-- and of all other feeds the numbers are as before
pub of_other_set : (rs : List Readers) (feed at : ℕ) (r now : Readers) (k : ℕ) → position (λ x. feed == x.feed) rs ≡ Some at → r ≡ get_or rs at r
    → now.feed ≡ r.feed → (k ≡ feed → ⊥) → readers_of (set rs at now) k ≡ readers_of rs k
of_other_set rs feed at r now k e is same ne =
    let f = is_feed rs feed at r e is in
    ap (λ o. if_some o [] (λ (x : Readers). x.numbers)) (find_past (λ (x : Readers). k == x.feed) rs at now r
    (ap (λ (x : Readers). k == x.feed) (sym is) ∙ ne_eqb k r.feed (λ x. ne (x ∙ sym f))) (ne_eqb k now.feed (λ x. ne (x ∙ (same ∙ sym f)))))

pub HasJoined-set : (rs : List Readers) (feed at n : ℕ) (r now : Readers) → position (λ x. feed == x.feed) rs ≡ Some at → r ≡ get_or rs at r
    → now ≡ record { feed = r.feed; numbers = with_number n r.numbers } → HasJoined feed n rs (set rs at now)
HasJoined-set rs feed at n r now e is same = record {
  joined = subst (λ ns. Contains ns n) (sym after) (has_number n r.numbers);
  kept = λ k m c. kept k m c (cases_eq k feed);
  only = λ k m c. only k m c (cases_eq k feed);
}
  where
    after : readers_of (set rs at now) feed ≡ with_number n r.numbers
    after = of_feed_set rs feed at r now e is (ap (λ (x : Readers). x.feed) same) ∙ ap (λ (x : Readers). x.numbers) same

    other : (k : ℕ) → (k ≡ feed → ⊥) → readers_of (set rs at now) k ≡ readers_of rs k
    other k x = of_other_set rs feed at r now k e is (ap (λ (z : Readers). z.feed) same) x

    kept : (k m : ℕ) → Contains (readers_of rs k) m → (k ≡ feed) ⊎ (k ≡ feed → ⊥) → Contains (readers_of (set rs at now) k) m
    kept k m c (inl x) = subst (λ z. Contains (readers_of (set rs at now) z) m) (sym x)
        (subst (λ ns. Contains ns m) (sym after) (has_others n r.numbers m (subst (λ ns. Contains ns m) (ap (readers_of rs) x ∙ of_feed rs feed at r e is) c)))
    kept k m c (inr x) = subst (λ ns. Contains ns m) (sym (other k x)) c

    only : (k m : ℕ) → Contains (readers_of (set rs at now) k) m → (k ≡ feed) ⊎ (k ≡ feed → ⊥) → Contains (readers_of rs k) m ⊎ ((k ≡ feed) × (m ≡ n))
    only k m c (inr x) = inl (subst (λ ns. Contains ns m) (other k x) c)
    only k m c (inl x) = by (has_no_others n r.numbers m (subst (λ ns. Contains ns m) (ap (readers_of (set rs at now)) x ∙ after) c))
      where
        by : Contains r.numbers m ⊎ (m ≡ n) → Contains (readers_of rs k) m ⊎ ((k ≡ feed) × (m ≡ n))
        by (inl h) = inl (subst (λ ns. Contains ns m) (sym (ap (readers_of rs) x ∙ of_feed rs feed at r e is)) h)
        by (inr h) = inr (x, h)

pub not_Contains-none : (m : ℕ) → Contains [] m → ⊥
not_Contains-none m c = let h = c.1 in omega (arith, h)

-- who has no list has no readers
pub none_of : (rs : List Readers) (feed : ℕ) → position (λ x. feed == x.feed) rs ≡ None → readers_of rs feed ≡ []
none_of rs feed e =
    let p = λ (x : Readers). feed == x.feed in
    ap (λ o. if_some o [] (λ (x : Readers). x.numbers)) (find_at p rs
    ∙ got_none rs (position_or_len p rs) (ltb-false (position_or_len p rs) (length rs)
    (of_none (nat_lt (position_or_len p rs) (length rs)) (position_or_len p rs) e)))

-- where the feed has no list yet
pub HasJoined-new : (rs : List Readers) (feed n : ℕ) (now : Readers) → position (λ x. feed == x.feed) rs ≡ None → now ≡ record { feed = feed; numbers = n ∷ [] }
    → HasJoined feed n rs (now ∷ rs)
HasJoined-new rs feed n now e same = record {
  joined = subst (λ ns. Contains ns n) (sym after) (zero, omega arith, refl);
  kept = λ k m c. kept k m c (cases_eq k feed);
  only = λ k m c. only k m c (cases_eq k feed);
}
  where
    first : (k : ℕ) → (k == now.feed) ≡ true → readers_of (now ∷ rs) k ≡ now.numbers
    first k h = ap (λ b. if_some (cond b (Some now) (find (λ (x : Readers). k == x.feed) rs)) [] (λ (x : Readers). x.numbers)) h

    after : readers_of (now ∷ rs) feed ≡ n ∷ []
    after = first feed (eq-eqb feed now.feed (sym (ap (λ (x : Readers). x.feed) same))) ∙ ap (λ (x : Readers). x.numbers) same

    other : (k : ℕ) → (k ≡ feed → ⊥) → readers_of (now ∷ rs) k ≡ readers_of rs k
    other k x = ap (λ b. if_some (cond b (Some now) (find (λ (z : Readers). k == z.feed) rs)) [] (λ (z : Readers). z.numbers))
        (ne_eqb k now.feed (λ z. x (z ∙ ap (λ (y : Readers). y.feed) same)))

    kept : (k m : ℕ) → Contains (readers_of rs k) m → (k ≡ feed) ⊎ (k ≡ feed → ⊥) → Contains (readers_of (now ∷ rs) k) m
    kept k m c (inl x) = absurd (not_Contains-none m (subst (λ ns. Contains ns m) (ap (readers_of rs) x ∙ none_of rs feed e) c))
    kept k m c (inr x) = subst (λ ns. Contains ns m) (sym (other k x)) c

    only : (k m : ℕ) → Contains (readers_of (now ∷ rs) k) m → (k ≡ feed) ⊎ (k ≡ feed → ⊥) → Contains (readers_of rs k) m ⊎ ((k ≡ feed) × (m ≡ n))
    only k m c (inr x) = inl (subst (λ ns. Contains ns m) (other k x) c)
    only k m c (inl x) = inr (x, sole m (subst (λ ns. Contains ns m) (ap (readers_of (now ∷ rs)) x ∙ after) c))
      where
        at : (p i : ℕ) → i < 1 → get_or (n ∷ []) i p ≡ p → p ≡ n
        at p zero l h = sym h
        at p (suc i) l h = absurd (let none : ⊥ = omega (arith, l) in none)

        sole : (p : ℕ) → Contains (n ∷ []) p → p ≡ n
        sole p h = at p h.0 h.1 h.2

pub HasQuit-set : (rs : List Readers) (feed at n : ℕ) (r now : Readers) → position (λ x. feed == x.feed) rs ≡ Some at → r ≡ get_or rs at r
    → now ≡ record { feed = r.feed; numbers = filter (λ m. not (n == m)) r.numbers } → HasQuit feed n rs (set rs at now)
HasQuit-set rs feed at n r now e is same = record {
  gone = λ c. not_there n r.numbers (subst (λ ns. Contains ns n) after c);
  kept = λ k m ne c. kept k m ne c (cases_eq k feed);
  only = λ k m c. only k m c (cases_eq k feed);
}
  where
    before : readers_of rs feed ≡ r.numbers
    before = of_feed rs feed at r e is

    after : readers_of (set rs at now) feed ≡ filter (λ m. not (n == m)) r.numbers
    after = of_feed_set rs feed at r now e is (ap (λ (x : Readers). x.feed) same) ∙ ap (λ (x : Readers). x.numbers) same

    other : (k : ℕ) → (k ≡ feed → ⊥) → readers_of (set rs at now) k ≡ readers_of rs k
    other k x = of_other_set rs feed at r now k e is (ap (λ (z : Readers). z.feed) same) x

    kept : (k m : ℕ) → ((k ≡ feed) × (m ≡ n) → ⊥) → Contains (readers_of rs k) m → (k ≡ feed) ⊎ (k ≡ feed → ⊥) → Contains (readers_of (set rs at now) k) m
    kept k m ne c (inl x) = subst (λ z. Contains (readers_of (set rs at now) z) m) (sym x)
        (subst (λ ns. Contains ns m) (sym after) (still_there n r.numbers m (λ y. ne (x, y))
        (subst (λ ns. Contains ns m) (ap (readers_of rs) x ∙ before) c)))
    kept k m ne c (inr x) = subst (λ ns. Contains ns m) (sym (other k x)) c

    only : (k m : ℕ) → Contains (readers_of (set rs at now) k) m → (k ≡ feed) ⊎ (k ≡ feed → ⊥) → Contains (readers_of rs k) m
    only k m c (inl x) = subst (λ ns. Contains ns m) (sym (ap (readers_of rs) x ∙ before))
        (there_before n r.numbers m (subst (λ ns. Contains ns m) (ap (readers_of (set rs at now)) x ∙ after) c))
    only k m c (inr x) = subst (λ ns. Contains ns m) (other k x) c

-- who has no list has not_Contains-none who could go
pub HasQuit-none : (rs : List Readers) (feed n : ℕ) → position (λ x. feed == x.feed) rs ≡ None → HasQuit feed n rs rs
HasQuit-none rs feed n e = record {
  gone = λ c. not_Contains-none n (subst (λ ns. Contains ns n) (none_of rs feed e) c);
  kept = λ k m ne c. c;
  only = λ k m c. c;
}

pub HasQuit-HasAll : (feed n : ℕ) (rs mid left : List Readers) → HasQuit feed n rs mid → HasAll mid left → HasQuit feed n rs left
HasQuit-HasAll feed n rs mid left q a = record {
  gone = λ c. q.gone (a.only feed n c);
  kept = λ k m ne c. a.kept k m (q.kept k m ne c);
  only = λ k m c. q.only k m (a.only k m c);
}

-- ---- of some feeds

pub HasLeft-none : (n : ℕ) (rs : List Readers) → HasLeft n (λ k. list_any (λ (s : Sub). k == s.feed) []) rs rs
HasLeft-none n rs = record { gone = λ k h. absurd (false≢true h); kept = λ k m ne c. c; only = λ k m c. c }

-- one feed more
pub HasLeft-next : (n : ℕ) (subs : List Sub) (i : ℕ) (s : Sub) (feed : ℕ) (rs mid left : List Readers) → i < length subs → s ≡ get_or subs i s → feed ≡ s.feed
    → HasLeft n (λ k. list_any (λ (x : Sub). k == x.feed) (take i subs)) rs mid → HasQuit feed n mid left
    → HasLeft n (λ k. list_any (λ (x : Sub). k == x.feed) (take (i + 1) subs)) rs left
HasLeft-next n subs i s feed rs mid left lt is of l q = record {
  gone = λ k h c. gone k (or_cases (list_any (λ (x : Sub). k == x.feed) (take i subs)) ((k == s.feed) || false) (sym (parts k) ∙ h)) c;
  kept = λ k m ne c. q.kept k m (λ p. ne p.1) (l.kept k m ne c);
  only = λ k m c. l.only k m (q.only k m c);
}
  where
    parts : (k : ℕ) → list_any (λ (x : Sub). k == x.feed) (take (i + 1) subs) ≡ (list_any (λ (x : Sub). k == x.feed) (take i subs) || ((k == s.feed) || false))
    parts k =
        ap (list_any (λ (x : Sub). k == x.feed)) (take_more subs i s lt ∙ ap (λ z. take i subs ++ z ∷ []) (sym is))
        ∙ list_any-append (λ (x : Sub). k == x.feed) (take i subs) (s ∷ [])

    last : (k : ℕ) → ((k == s.feed) ≡ true) ⊎ (false ≡ true) → k ≡ feed
    last k (inl e) = eqb-true k s.feed e ∙ sym of
    last k (inr e) = absurd (false≢true e)

    gone : (k : ℕ) → (list_any (λ (x : Sub). k == x.feed) (take i subs) ≡ true) ⊎ (((k == s.feed) || false) ≡ true) → Contains (readers_of left k) n → ⊥
    gone k (inl h) c = l.gone k h (q.only k n c)
    gone k (inr h) c = q.gone (subst (λ z. Contains (readers_of left z) n) (last k (or_cases (k == s.feed) false h)) c)

-- of all feeds that a client follows
pub HasLeft-is_so_at : (n : ℕ) (xs : Places) (subs : List Sub) (rs left : List Readers) → subs ≡ if_some (client_at xs n) [] (λ (k : Kept). k.subs)
    → HasLeft n (λ k. list_any (λ (s : Sub). k == s.feed) subs) rs left → HasLeft n (λ k. is_so_at (is_following k) xs n) rs left
HasLeft-is_so_at n xs subs rs left e l = record {
  gone = λ k h. l.gone k (ap (list_any (λ (s : Sub). k == s.feed)) e ∙ (any k (client_at xs n) ∙ h));
  kept = l.kept;
  only = l.only;
}
  where
    any : (k : ℕ) (o : Option Kept) → list_any (λ (s : Sub). k == s.feed) (if_some o [] (λ (c : Kept). c.subs)) ≡ if_some o false (is_following k)
    any k None = refl
    any k (Some c) = refl

-- ---- whether one reads a feed

pub IsReader-HasJoined : (feed n : ℕ) (xs : Places) (rs left : List Readers) → is_so_at (is_following feed) xs n ≡ true → HasJoined feed n rs left
    → IsReader n feed xs rs left
IsReader-HasJoined feed n xs rs left is j = record {
  put = λ h. j.joined;
  only = λ c. is;
  kept = λ k m ne c. j.kept k m c;
  others = λ k m ne c. by k m ne (j.only k m c);
}
  where
    by : (k m : ℕ) → ((k ≡ feed) × (m ≡ n) → ⊥) → Contains (readers_of rs k) m ⊎ ((k ≡ feed) × (m ≡ n)) → Contains (readers_of rs k) m
    by k m ne (inl c) = c
    by k m ne (inr p) = absurd (ne p)

pub HasKept-HasQuit : (n feed : ℕ) (xs : Places) (rs left : List Readers) → is_so_at (is_following feed) xs n ≡ false → HasQuit feed n rs left
    → HasKept n (Some feed) xs rs left
HasKept-HasQuit n feed xs rs left is q = record {
  gone = λ k e h c. q.gone (let same : feed ≡ k = cc in subst (λ z. Contains (readers_of left z) n) (sym same) c);
  kept = λ k m ne c. q.kept k m (λ p. ne (p.1, ap (λ z. is_so_at (is_following z) xs n) p.0 ∙ is)) c;
  only = q.only;
}

none_in : (ns : List ℕ) → (length ns == 0) ≡ true → ns ≡ []
none_in [] h = refl
none_in (n ∷ ns) h = absurd (let e : suc (length ns) ≡ 0 = eqb-true (suc (length ns)) 0 h in let none : ⊥ = omega (arith, e) in none)

-- without a feed all others are as before
pub readers_of-filter_other : (rs : List Readers) (feed k : ℕ) → (k ≡ feed → ⊥) → readers_of (filter (λ r. not (feed == r.feed)) rs) k ≡ readers_of rs k
readers_of-filter_other [] feed k ne = refl
readers_of-filter_other (r ∷ rs) feed k ne = by (cases_Bool (feed == r.feed)) (readers_of-filter_other rs feed k ne)
  where
    one : (b : Bool) → readers_of (filter (λ x. not (feed == x.feed)) rs) k ≡ readers_of rs k
        → if_some (cond b (Some r) (find (λ (x : Readers). k == x.feed) (filter (λ x. not (feed == x.feed)) rs))) [] (λ (x : Readers). x.numbers) ≡ if_some
        (cond b (Some r) (find (λ (x : Readers). k == x.feed) rs)) [] (λ (x : Readers). x.numbers)
    one true rest = refl
    one false rest = rest

    by : ((feed == r.feed) ≡ true) ⊎ ((feed == r.feed) ≡ false) → readers_of (filter (λ x. not (feed == x.feed)) rs) k ≡ readers_of rs k
        → readers_of (cond (not (feed == r.feed)) (r ∷ filter (λ x. not (feed == x.feed)) rs) (filter (λ x. not (feed == x.feed)) rs)) k ≡ readers_of (r ∷ rs) k
    by (inl e) rest =
        ap (λ b. readers_of (cond (not b) (r ∷ filter (λ x. not (feed == x.feed)) rs) (filter (λ x. not (feed == x.feed)) rs)) k) e
        ∙ (rest
        ∙ ap (λ b. if_some (cond b (Some r) (find (λ (x : Readers). k == x.feed) rs)) [] (λ (x : Readers). x.numbers))
        (sym (ne_eqb k r.feed (λ x. ne (x ∙ sym (eqb-true feed r.feed e))))))
    by (inr e) rest =
        ap (λ b. readers_of (cond (not b) (r ∷ filter (λ x. not (feed == x.feed)) rs) (filter (λ x. not (feed == x.feed)) rs)) k) e
        ∙ one (k == r.feed) rest

-- and not_Contains-none reads that one
pub readers_of-filter_own : (rs : List Readers) (feed : ℕ) → readers_of (filter (λ r. not (feed == r.feed)) rs) feed ≡ []
readers_of-filter_own [] feed = refl
readers_of-filter_own (r ∷ rs) feed = by (cases_Bool (feed == r.feed)) (readers_of-filter_own rs feed)
  where
    by : ((feed == r.feed) ≡ true) ⊎ ((feed == r.feed) ≡ false) → readers_of (filter (λ x. not (feed == x.feed)) rs) feed ≡ []
        → readers_of (cond (not (feed == r.feed)) (r ∷ filter (λ x. not (feed == x.feed)) rs) (filter (λ x. not (feed == x.feed)) rs)) feed ≡ []
    by (inl e) rest =
        ap (λ b. readers_of (cond (not b) (r ∷ filter (λ x. not (feed == x.feed)) rs) (filter (λ x. not (feed == x.feed)) rs)) feed) e ∙ rest
    by (inr e) rest =
        ap (λ b. readers_of (cond (not b) (r ∷ filter (λ x. not (feed == x.feed)) rs) (filter (λ x. not (feed == x.feed)) rs)) feed) e
        ∙ (ap (λ b. if_some (cond b (Some r) (find (λ (x : Readers). feed == x.feed) (filter (λ x. not (feed == x.feed)) rs))) [] (λ
        (x : Readers). x.numbers)) e
        ∙ rest)

-- a feed with no readers may go
pub HasAll-filter : (rs left : List Readers) (feed : ℕ) → (length (readers_of rs feed) == 0) ≡ true → left ≡ filter (λ r. not (feed == r.feed)) rs
    → HasAll rs left
HasAll-filter rs left feed e gone = subst (λ z. HasAll rs z) (sym gone) (record {
  kept = λ k m c. kept k m c (cases_eq k feed);
  only = λ k m c. only k m c (cases_eq k feed);
})
  where
    kept : (k m : ℕ) → Contains (readers_of rs k) m → (k ≡ feed) ⊎ (k ≡ feed → ⊥) → Contains (readers_of (filter (λ r. not (feed == r.feed)) rs) k) m
    kept k m c (inl x) = absurd (not_Contains-none m (subst (λ ns. Contains ns m) (ap (readers_of rs) x ∙ none_in (readers_of rs feed) e) c))
    kept k m c (inr x) = subst (λ ns. Contains ns m) (sym (readers_of-filter_other rs feed k x)) c

    only : (k m : ℕ) → Contains (readers_of (filter (λ r. not (feed == r.feed)) rs) k) m → (k ≡ feed) ⊎ (k ≡ feed → ⊥) → Contains (readers_of rs k) m
    only k m c (inl x) =
        absurd (not_Contains-none m (subst (λ ns. Contains ns m) (ap (readers_of (filter (λ r. not (feed == r.feed)) rs)) x ∙ readers_of-filter_own rs feed) c))
    only k m c (inr x) = subst (λ ns. Contains ns m) (readers_of-filter_other rs feed k x) c

-- ---- whether somebody follows

any_numbers : {C : Type 0} (p : C → Bool) (xs : List (Option C)) (ns : List ℕ) → list_any (λ n. if_some (client_at xs n) false p) ns ≡ true
    → list_any (λ x. if_some x false p) xs ≡ true
any_numbers p xs [] h = absurd (false≢true h)
any_numbers p xs (n ∷ ns) h = by (or_cases (if_some (client_at xs n) false p) (list_any (λ m. if_some (client_at xs m) false p) ns) h)
    (λ e. any_numbers p xs ns e)
  where
    by : (if_some (client_at xs n) false p ≡ true) ⊎ (list_any (λ m. if_some (client_at xs m) false p) ns ≡ true)
        → (list_any (λ m. if_some (client_at xs m) false p) ns ≡ true → list_any (λ x. if_some x false p) xs ≡ true)
        → list_any (λ x. if_some x false p) xs ≡ true
    by (inl e) rest = list_any-client_at p xs n e
    by (inr e) rest = rest e

in_numbers : (q : ℕ → Bool) (ns : List ℕ) (m : ℕ) → list_any (eqb m) ns ≡ true → q m ≡ true → list_any q ns ≡ true
in_numbers q [] m h k = h
in_numbers q (n ∷ ns) m h k = by (or_cases (eqb m n) (list_any (eqb m) ns) h) (λ e. in_numbers q ns m e k)
  where
    by : (eqb m n ≡ true) ⊎ (list_any (eqb m) ns ≡ true) → (list_any (eqb m) ns ≡ true → list_any q ns ≡ true) → (q n || list_any q ns) ≡ true
    by (inl e) rest = or_left (q n) (list_any q ns) (ap q (sym (eqb-true m n e)) ∙ k)
    by (inr e) rest = or_right (q n) (list_any q ns) (rest e)

-- where those of whom it is so are listed, it is so of some listed one if it is so of some
pub list_any-AreThose : (p : Kept → Bool) (ns : List ℕ) (xs : Places) → AreThose p ns xs → list_any (is_so_at p xs) ns ≡ list_any (λ x. if_some x false p) xs
list_any-AreThose p ns xs those = by (cases_Bool (list_any (is_so_at p xs) ns)) (cases_Bool (list_any (λ x. if_some x false p) xs))
  where
    by : (list_any (is_so_at p xs) ns ≡ true) ⊎ (list_any (is_so_at p xs) ns ≡ false)
        → (list_any (λ x. if_some x false p) xs ≡ true) ⊎ (list_any (λ x. if_some x false p) xs ≡ false)
        → list_any (is_so_at p xs) ns ≡ list_any (λ x. if_some x false p) xs
    by (inl e) d = e ∙ sym (any_numbers p xs ns e)
    by (inr e) (inr d) = e ∙ sym d
    by (inr e) (inl d) =
        let w = IsThere-list_any p xs d in
        let so : is_so_at p xs w.number ≡ true = ap (λ o. if_some o false p) w.there ∙ w.so in
        let c = those.all w.number so in
        absurd (false≢true (sym e ∙ in_numbers (is_so_at p xs) ns w.number (list_any-get_or w.number ns c.0 c.1 c.2) so))

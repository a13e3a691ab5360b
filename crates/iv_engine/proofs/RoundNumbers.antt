-- The rounds that are told are those of the open subscriptions, by rising number.
use Rattle.std.proofs.Common.{◌≡◌, ℕ, zero, suc, ◌+◌, ◌<◌, ◌≤◌, Bool, true, false, cond, ◌||◌, inl, inr, List, [], ◌∷◌, ◌++◌, map, refl, sym, ap, subst, ◌∙◌, arith}
use Rattle.std.specs.Prelude.{◌==◌, ◌⊎◌, filter}
use Rattle.std.specs.List.{AllByRecursion, list_any}
use Rattle.std.specs.List.Sorted.{IsStrictlySortedBy}
use Rattle.std.specs.Map.{keys_of}
use Rattle.std.specs.Ordering.{nat_cmp}
use Rattle.std.specs.Cmp.{nat_cmp_is}
use Rattle.std.specs.declared.cmp.Ordering.TheVariants.{Less}
use Rattle.std.proofs.lemmas.Bool.Decides.{nat_tests}
use Rattle.iv_machine.specs.Reached.{AreGiven, AreNumbersUnique, AreUnique}
use Rattle.iv_machine.specs.State.{Frame, Subscription, start}
use Rattle.iv_store.specs.Answering.{seen}
use Rattle.iv_store.specs.Store.{Store, frame_of}
use Rattle.iv_store.specs.Rounds.{by_number, of_number, rounds, rounds_of}
use Rattle.iv_store.specs.Engine.{HasRoundsOfOpen}
use Rattle.iv_store.proofs.SubscriptionRounds.{none_listed}
use Rattle.iv_store.proofs.RunLines.{shown_by}

same_nat : (m n : ℕ) → (m == n) ≡ true → m ≡ n
same_nat m n h = grind (arith, nat_tests)

apart_nat : (m n : ℕ) → (m == n) ≡ false → m ≡ n → ⊥
apart_nat m n h k = let e : true ≡ false = sym (is_self n) ∙ ap (λ x. x == n) (sym k) ∙ h in cc
  where
    is_self : (n : ℕ) → (n == n) ≡ true
    is_self n = grind (arith, nat_tests)

is_apart : (m n : ℕ) → (m ≡ n → ⊥) → (m == n) ≡ false
is_apart m n h = grind (arith, nat_tests)

any_append : {A : Type 0} (p : A → Bool) (xs ys : List A) → list_any p (xs ++ ys) ≡ (list_any p xs || list_any p ys)
any_append p [] ys = refl
any_append p (x ∷ xs) ys = by (p x) (any_append p xs ys)
  where
    by : (b : Bool) → list_any p (xs ++ ys) ≡ (list_any p xs || list_any p ys) → (b || list_any p (xs ++ ys)) ≡ ((b || list_any p xs) || list_any p ys)
    by true go = refl
    by false go = go

-- a subscription of the number
abbrev has : ℕ → List Subscription → Bool
has n ss = list_any (λ s. n == s.number) ss

module _ (f : Subscription → ℕ) where
  abbrev told : ℕ → List (ℕ × ℕ) → Bool
  told q xs = list_any (λ x. q == x.0) xs

  -- ---- which numbers stand there

  own : (n : ℕ) (ss : List Subscription) → told n (of_number f ss n) ≡ has n ss
  own n [] = refl
  own n (s ∷ ss) = by (n == s.number) refl (own n ss)
    where
      by : (b : Bool) → (n == s.number) ≡ b → told n (of_number f ss n) ≡ has n ss
          → told n (map (λ (y : Subscription). (y.number, f y)) (cond b (s ∷ filter (λ y. n == y.number) ss) (filter (λ y. n == y.number) ss))) ≡ (b || has n ss)
      by true e go = ap (λ b. b || told n (of_number f ss n)) e
      by false e go = go

  other : (q n : ℕ) → (q == n) ≡ false → (ss : List Subscription) → told q (of_number f ss n) ≡ false
  other q n apart [] = refl
  other q n apart (s ∷ ss) = by (n == s.number) refl (other q n apart ss)
    where
      by : (b : Bool) → (n == s.number) ≡ b → told q (of_number f ss n) ≡ false
          → told q (map (λ (y : Subscription). (y.number, f y)) (cond b (s ∷ filter (λ y. n == y.number) ss) (filter (λ y. n == y.number) ss))) ≡ false
      by true e go = ap (λ k. (q == k) || told q (of_number f ss n)) (sym (same_nat n s.number e)) ∙ ap (λ b. b || told q (of_number f ss n)) apart ∙ go
      by false e go = go

  below : (q : ℕ) (ss : List Subscription) (first many : ℕ) → q < first → told q (by_number f ss first many) ≡ false
  below q ss first zero h = refl
  below q ss first (suc many) h =
      any_append (λ x. q == x.0) (of_number f ss first) (by_number f ss (suc first) many)
      ∙ ap (λ b. b || told q (by_number f ss (suc first) many)) (other q first (is_apart q first (λ e. omega (arith, h, e))) ss)
      ∙ below q ss (suc first) many (omega (arith, h))

  among : (q : ℕ) (ss : List Subscription) (first many : ℕ) → first ≤ q → q < first + many → told q (by_number f ss first many) ≡ has q ss
  among q ss first zero low high = absurd (omega (arith, low, high))
  among q ss first (suc many) low high = by (q == first) refl (among q ss (suc first) many)
    where
      both : told q (by_number f ss first (suc many)) ≡ (told q (of_number f ss first) || told q (by_number f ss (suc first) many))
      both = any_append (λ x. q == x.0) (of_number f ss first) (by_number f ss (suc first) many)

      or_false : (b : Bool) → (b || false) ≡ b
      or_false true = refl
      or_false false = refl

      by : (b : Bool) → (q == first) ≡ b → (suc first ≤ q → q < suc first + many → told q (by_number f ss (suc first) many) ≡ has q ss) → told q (by_number f ss first (suc many)) ≡ has q ss
      by true e go =
          both
          ∙ ap (λ n. told q (of_number f ss n) || told q (by_number f ss (suc first) many)) (sym (same_nat q first e))
          ∙ ap (λ b. b || told q (by_number f ss (suc first) many)) (own q ss)
          ∙ ap (λ b. has q ss || b) (below q ss (suc first) many (let same = same_nat q first e in omega (arith, same)))
          ∙ or_false (has q ss)
      by false e go =
          both
          ∙ ap (λ b. b || told q (by_number f ss (suc first) many)) (other q first e ss)
          ∙ go (let apart = apart_nat q first e in omega (arith, low, apart)) (omega (arith, high))

  above : (q : ℕ) (ss : List Subscription) (first many : ℕ) → first + many ≤ q → told q (by_number f ss first many) ≡ false
  above q ss first zero h = refl
  above q ss first (suc many) h =
      any_append (λ x. q == x.0) (of_number f ss first) (by_number f ss (suc first) many)
      ∙ ap (λ b. b || told q (by_number f ss (suc first) many)) (other q first (is_apart q first (λ e. omega (arith, h, e))) ss)
      ∙ above q ss (suc first) many (omega (arith, h))

  -- none is open that was not given
  not_given : (q last : ℕ) (ss : List Subscription) → AreGiven last ss → last < q → has q ss ≡ false
  not_given q last [] a h = refl
  not_given q last (s ∷ ss) a h =
      ap (λ b. b || has q ss) (is_apart q s.number (λ e. let given = a.0 in omega (arith, h, e, given))) ∙ not_given q last ss a.1 h

  pub those_open : (q last : ℕ) (ss : List Subscription) → AreGiven last ss → told q (by_number f ss 0 (suc last)) ≡ has q ss
  those_open q last ss a = by (compare q last)
    where
      compare : (q n : ℕ) → (q ≤ n) ⊎ (n < q)
      compare q n = grind arith

      by : (q ≤ last) ⊎ (last < q) → told q (by_number f ss 0 (suc last)) ≡ has q ss
      by h = elim h [ inl low ↦ among q ss 0 (suc last) (omega arith) (omega (arith, low)) | inr high ↦ above q ss 0 (suc last) (omega (arith, high)) ∙ sym (not_given q last ss a high) ]

  -- ---- they rise

  -- one of a number at most
  abbrev IsOneOrNone : ℕ → List (ℕ × ℕ) → Type 0
  IsOneOrNone n xs = (xs ≡ []) ⊎ ((x : ℕ) × (xs ≡ (n, x) ∷ []))

  none_more : (n : ℕ) (ss : List Subscription) → has n ss ≡ false → of_number f ss n ≡ []
  none_more n [] h = refl
  none_more n (s ∷ ss) h = by (n == s.number) h (none_more n ss)
    where
      by : (b : Bool) → (b || has n ss) ≡ false → (has n ss ≡ false → of_number f ss n ≡ [])
          → map {B = ℕ × ℕ} (λ (y : Subscription). (y.number, f y)) (cond b (s ∷ filter (λ y. n == y.number) ss) (filter (λ y. n == y.number) ss)) ≡ []
      by true h go = cc
      by false h go = go h

  one_or_none : (n : ℕ) (ss : List Subscription) → AreUnique ss → IsOneOrNone n (of_number f ss n)
  one_or_none n [] u = inl refl
  one_or_none n (s ∷ ss) u = by (n == s.number) refl (one_or_none n ss u.1)
    where
      by : (b : Bool) → (n == s.number) ≡ b → IsOneOrNone n (of_number f ss n)
          → IsOneOrNone n (map (λ (y : Subscription). (y.number, f y)) (cond b (s ∷ filter (λ y. n == y.number) ss) (filter (λ y. n == y.number) ss)))
      by true e go =
          let same = same_nat n s.number e in
          inr (f s, ap (λ k. (k, f s) ∷ of_number f ss n) (sym same) ∙ ap (λ xs. (n, f s) ∷ xs) (none_more n ss (ap (λ k. has k ss) same ∙ u.0)))
      by false e go = go

  abbrev AreAbove : ℕ → List (ℕ × ℕ) → Type 0
  AreAbove n xs = AllByRecursion (λ k. nat_cmp n k ≡ Less) (keys_of xs)

  is_less : (m n : ℕ) → m < n → nat_cmp m n ≡ Less
  is_less m n h = sym (nat_cmp_is m n Less h)

  all_above : (n : ℕ) (ss : List Subscription) → AreUnique ss → (first many : ℕ) → n < first → AreAbove n (by_number f ss first many)
  all_above n ss u first zero h = tt
  all_above n ss u first (suc many) h = by (of_number f ss first) (one_or_none first ss u) (all_above n ss u (suc first) many (omega (arith, h)))
    where
      by : (xs : List (ℕ × ℕ)) → IsOneOrNone first xs → AreAbove n (by_number f ss (suc first) many) → AreAbove n (xs ++ by_number f ss (suc first) many)
      by xs one go = elim one [
        | inl e ↦ subst (λ ys. AreAbove n (ys ++ by_number f ss (suc first) many)) (sym e) go
        | inr x ↦ subst (λ ys. AreAbove n (ys ++ by_number f ss (suc first) many)) (sym x.1) (is_less n first h, go)
      ]

  pub rising : (ss : List Subscription) → AreUnique ss → (first many : ℕ) → IsStrictlySortedBy nat_cmp (keys_of (by_number f ss first many))
  unfolding IsStrictlySortedBy
  rising ss u first zero = tt
  rising ss u first (suc many) = by (of_number f ss first) (one_or_none first ss u) (rising ss u (suc first) many)
    where
      by : (xs : List (ℕ × ℕ)) → IsOneOrNone first xs → IsStrictlySortedBy nat_cmp (keys_of (by_number f ss (suc first) many)) → IsStrictlySortedBy nat_cmp (keys_of (xs ++ by_number f ss (suc first) many))
      by xs one go = elim one [
        | inl e ↦ subst (λ ys. IsStrictlySortedBy nat_cmp (keys_of (ys ++ by_number f ss (suc first) many))) (sym e) go
        | inr x ↦ subst (λ ys. IsStrictlySortedBy nat_cmp (keys_of (ys ++ by_number f ss (suc first) many))) (sym x.1) (all_above first ss u (suc first) many (omega arith), go)
      ]

-- ---- of an engine

pub rounds_of_open : (e : Store) → AreNumbersUnique (frame_of e) → HasRoundsOfOpen (seen e)
rounds_of_open e h = record {
  rising = rising (rounds_of e) e.subscriptions h.unique 0 (suc e.last);
  those = λ n. those_open (rounds_of e) n e.last e.subscriptions h.given;
}

-- whether it has failed or not
pub HasRoundsOfOpen-shown_by : (e : Store) (failed : Bool) → AreNumbersUnique (frame_of e) → HasRoundsOfOpen (shown_by e failed)
HasRoundsOfOpen-shown_by e failed h = let x = rounds_of_open e h in record { rising = x.rising; those = x.those }

-- none at the start
pub rounds-at_start : (cap : ℕ) (e : Store) → (start cap).frame ≡ frame_of e → rounds e ≡ []
rounds-at_start cap e h = ap (λ (f : Frame). by_number (rounds_of e) f.subscriptions 0 (suc e.last)) (sym h) ∙ none_listed (rounds_of e) 0 (suc e.last)

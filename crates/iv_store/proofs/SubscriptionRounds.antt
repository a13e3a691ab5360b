-- The rounds of open subscriptions: where they stand in the list by rising number, and what leaves them as they are.
use Rattle.std.proofs.Common.{◌≡◌, ℕ, zero, suc, ◌+◌, ◌<◌, ◌≤◌, Bool, true, false, cond, ◌||◌, List, [], ◌∷◌, ◌++◌, map, Some, refl, sym, ap, subst, ◌∙◌, arith}
use Rattle.std.proofs.lemmas.Bool.Decides.{nat_tests}
use Rattle.std.specs.Prelude.{◌==◌, filter}
use Rattle.std.specs.List.{AllByRecursion, list_any}
use Rattle.iv_machine.specs.Reached.{AreGiven}
use Rattle.iv_machine.specs.State.{Subscription, actor, is_open, subscription_of}
use Rattle.iv_store.specs.Finished.{without_unread}
use Rattle.iv_store.specs.Store.{IsOpen, IsStored, Store, frame_of, is_read}
use Rattle.iv_readers.specs.Readers.{RoleCircuit, is_for}
use Rattle.iv_store.specs.Rounds.{beside_number, by_number, of_number, rounds, rounds_in, rounds_of, rounds_since}
use Rattle.iv_store.proofs.Beside.{same-is_for}
use Rattle.iv_store.proofs.SubscriptionViews.{subscription_of-each}
use Rattle.iv_readers.proofs.Lists.{AllByRecursion-map, AllByRecursion-zip}
use Rattle.iv_store.proofs.Unread.{list_any-session_acts_as}

same_nat : (m n : ℕ) → (m == n) ≡ true → m ≡ n
same_nat m n h = grind (arith, nat_tests)

is_self : (n : ℕ) → (n == n) ≡ true
is_self n = grind (arith, nat_tests)

apart_nat : (m n : ℕ) → (m == n) ≡ false → m ≡ n → ⊥
apart_nat m n h k = let e : true ≡ false = sym (is_self n) ∙ ap (λ x. x == n) (sym k) ∙ h in cc

-- ---- the list

module _ (f : Subscription → ℕ) where
  -- what stands beside another number is passed over
  pass : (n k : ℕ) → (n == k) ≡ false → (ss : List Subscription) (xs : List (ℕ × ℕ)) → beside_number n (of_number f ss k ++ xs) ≡ beside_number n xs
  pass n k apart [] xs = refl
  pass n k apart (s ∷ ss) xs = by (k == s.number) refl (pass n k apart ss xs)
    where
      by : (b : Bool) → (k == s.number) ≡ b → beside_number n (of_number f ss k ++ xs) ≡ beside_number n xs
          → beside_number n (map (λ (y : Subscription). (y.number, f y)) (cond b (s ∷ filter (λ y. k == y.number) ss) (filter (λ y. k == y.number) ss)) ++ xs) ≡ beside_number n xs
      by true e go = ap (λ b. cond b (f s) (beside_number n (of_number f ss k ++ xs))) (ap (λ j. n == j) (sym (same_nat k s.number e)) ∙ apart) ∙ go
      by false e go = go

  -- and the first of the number is found
  here : (n : ℕ) (s : Subscription) (ss : List Subscription) (xs : List (ℕ × ℕ)) → subscription_of ss n ≡ Some s → beside_number n (of_number f ss n ++ xs) ≡ f s
  here n s [] xs h = cc
  here n s (y ∷ ss) xs h = by (n == y.number) refl h (here n s ss xs)
    where
      of_some : (a b : Subscription) → Some a ≡ Some b → a ≡ b
      of_some a b e = cc

      by : (b : Bool) → (n == y.number) ≡ b → cond b (Some y) (subscription_of ss n) ≡ Some s → (subscription_of ss n ≡ Some s → beside_number n (of_number f ss n ++ xs) ≡ f s)
          → beside_number n (map (λ (z : Subscription). (z.number, f z)) (cond b (y ∷ filter (λ z. n == z.number) ss) (filter (λ z. n == z.number) ss)) ++ xs) ≡ f s
      by true e k go = ap (λ b. cond b (f y) (beside_number n (of_number f ss n ++ xs))) e ∙ ap f (of_some y s k)
      by false e k go = go k

  beside_from : (s : Subscription) (ss : List Subscription) (n first many : ℕ) → subscription_of ss n ≡ Some s → first ≤ n → n < first + many → beside_number n (by_number f ss first many) ≡ f s
  beside_from s ss n first zero h low high = absurd (omega (arith, low, high))
  beside_from s ss n first (suc many) h low high = by (n == first) refl (beside_from s ss n (suc first) many h)
    where
      by : (b : Bool) → (n == first) ≡ b → (suc first ≤ n → n < suc first + many → beside_number n (by_number f ss (suc first) many) ≡ f s) → beside_number n (of_number f ss first ++ by_number f ss (suc first) many) ≡ f s
      by true e go = ap (λ k. beside_number n (of_number f ss k ++ by_number f ss (suc first) many)) (sym (same_nat n first e)) ∙ here n s ss (by_number f ss (suc first) many) h
      by false e go = pass n first e ss (by_number f ss (suc first) many)
          ∙ go (let apart = apart_nat n first e in omega (arith, low, apart)) (omega (arith, high))

  -- beside a number above all of these nothing stands
  apart_above : (n k : ℕ) → k < n → (n == k) ≡ false
  apart_above n k h = grind (arith, nat_tests)

  beside_none : (n : ℕ) (ss : List Subscription) (first many : ℕ) → first + many ≤ n → beside_number n (by_number f ss first many) ≡ 0
  beside_none n ss first zero h = refl
  beside_none n ss first (suc many) h = pass n first (apart_above n first (omega (arith, h))) ss (by_number f ss (suc first) many) ∙ beside_none n ss (suc first) many (omega (arith, h))

  -- where none is open nothing stands at all
  pub none_listed : (first many : ℕ) → by_number f [] first many ≡ []
  none_listed first zero = refl
  none_listed first (suc many) = none_listed (suc first) many

-- ---- each open subscription has its rounds there

pub AllByRecursion-AreGiven : (last : ℕ) (ss : List Subscription) → AreGiven last ss → AllByRecursion (λ s. s.number ≤ last) ss
AllByRecursion-AreGiven last [] a = tt
AllByRecursion-AreGiven last (s ∷ ss) a = (a.0, AllByRecursion-AreGiven last ss a.1)

-- its rounds stand beside its number
abbrev pub IsBeside : Store → Subscription → Type 0
IsBeside e s = beside_number s.number (rounds e) ≡ rounds_of e s

pub AllByRecursion-IsBeside : (e : Store) → IsStored e → AllByRecursion (IsBeside e) e.subscriptions
AllByRecursion-IsBeside e h = AllByRecursion-zip (λ s. subscription_of e.subscriptions s.number ≡ Some s) (λ s. s.number ≤ e.last) (IsBeside e) e.subscriptions
    (λ s found low. beside_from (rounds_of e) s e.subscriptions s.number 0 (suc e.last) found (omega arith) (omega (arith, low)))
    (subscription_of-each e.subscriptions h.numbers.unique) (AllByRecursion-AreGiven e.last e.subscriptions h.numbers.given)

-- and none stands there of the next number
pub beside_number-next : (e : Store) → beside_number (e.last + 1) (rounds e) ≡ 0
beside_number-next e = beside_none (rounds_of e) (e.last + 1) e.subscriptions 0 (suc e.last) (omega arith)

-- what holds of the rounds that circuits have holds of those that stand in the lists
module _ (e d : Store) (stored : IsStored d) (R : Subscription → (was now : ℕ) → Type 0) where
  pub now_counted : AllByRecursion (λ s. R s (beside_number s.number (rounds e)) (rounds_of d s)) d.subscriptions
      → AllByRecursion (λ s. R s (beside_number s.number (rounds e)) (beside_number s.number (rounds d))) d.subscriptions
  now_counted a = AllByRecursion-zip (IsBeside d) (λ s. R s (beside_number s.number (rounds e)) (rounds_of d s)) (λ s. R s (beside_number s.number (rounds e)) (beside_number s.number (rounds d))) d.subscriptions
      (λ s b r. subst (R s (beside_number s.number (rounds e))) (sym b) r) (AllByRecursion-IsBeside d stored) a

  pub those_counted : AllByRecursion (IsBeside e) d.subscriptions → AllByRecursion (λ s. R s (rounds_of e s) (rounds_of d s)) d.subscriptions
      → AllByRecursion (λ s. R s (beside_number s.number (rounds e)) (beside_number s.number (rounds d))) d.subscriptions
  those_counted b a = now_counted (AllByRecursion-zip (IsBeside e) (λ s. R s (rounds_of e s) (rounds_of d s)) (λ s. R s (beside_number s.number (rounds e)) (rounds_of d s)) d.subscriptions
      (λ s is r. subst (λ n. R s n (rounds_of d s)) (sym is) r) b a)

-- ---- what leaves them

-- where its reader is the same, and the circuits are
pub rounds_of-same_circuits : (e d : Store) (s : Subscription) → d.circuits ≡ e.circuits → actor (frame_of d) s.session ≡ actor (frame_of e) s.session → rounds_of d s ≡ rounds_of e s
rounds_of-same_circuits e d s circuits acts = λ i. rounds_in (acts i) s.rel s.number (circuits i)

module _ (role rel n : ℕ) where
  -- circuits that are dropped, of which none is for the role and the relation
  rounds_left : (p : RoleCircuit → Bool) (ks : List RoleCircuit) → ((k : RoleCircuit) → is_for role rel k ≡ true → p k ≡ true) → rounds_in role rel n (filter p ks) ≡ rounds_in role rel n ks
  rounds_left p [] goes = refl
  rounds_left p (k ∷ ks) goes = by (p k) (is_for role rel k) refl refl (rounds_left p ks goes)
    where
      by : (b c : Bool) → p k ≡ b → is_for role rel k ≡ c → rounds_in role rel n (filter p ks) ≡ rounds_in role rel n ks
          → rounds_in role rel n (cond b (k ∷ filter p ks) (filter p ks)) ≡ cond c (rounds_since n k) (rounds_in role rel n ks)
      by true true e d go = ap (λ x. cond x (rounds_since n k) (rounds_in role rel n (filter p ks))) d
      by true false e d go = ap (λ x. cond x (rounds_since n k) (rounds_in role rel n (filter p ks))) d ∙ go
      by false true e d go = let no : false ≡ true = sym e ∙ goes k d in cc
      by false false e d go = go

  -- with more behind them, where there is one already
  pub rounds_more : (ks more : List RoleCircuit) → list_any (is_for role rel) ks ≡ true → rounds_in role rel n (ks ++ more) ≡ rounds_in role rel n ks
  rounds_more [] more h = cc
  rounds_more (k ∷ ks) more h = by (is_for role rel k) h (rounds_more ks more)
    where
      by : (b : Bool) → (b || list_any (is_for role rel) ks) ≡ true → (list_any (is_for role rel) ks ≡ true → rounds_in role rel n (ks ++ more) ≡ rounds_in role rel n ks)
          → cond b (rounds_since n k) (rounds_in role rel n (ks ++ more)) ≡ cond b (rounds_since n k) (rounds_in role rel n ks)
      by true t go = refl
      by false t go = go t

-- circuits that are dropped because nobody reads them
pub rounds_of-without_unread : (b : Store) → AllByRecursion (IsOpen b) b.subscriptions
    → AllByRecursion (λ s. rounds_of (without_unread b) s ≡ rounds_of b s) b.subscriptions
rounds_of-without_unread b shows =
    let f = frame_of b in
    AllByRecursion-map (λ s. (k : RoleCircuit) → k.role ≡ actor f s.session → k.rel ≡ s.rel → is_read f k ≡ true) (λ s. rounds_of (without_unread b) s ≡ rounds_of b s) b.subscriptions
    (λ s own. rounds_left (actor f s.session) s.rel s.number (is_read f) b.circuits (λ k t. let x = same-is_for (actor f s.session) s.rel k t in own k x.0 x.1))
    (list_any-session_acts_as f b.subscriptions (AllByRecursion-map (IsOpen b) (λ s. is_open f s.session ≡ true) b.subscriptions (λ s o. o.session) shows))

-- What subscriptions show, and which of them end.
use Rattle.std.proofs.Common.{◌≡◌, ℕ, Bool, true, false, cond, not, ◌||◌, List, [], ◌∷◌, ◌++◌, map, pos, Option, None, Some, refl, ap, ◌∙◌, arith}
use Rattle.std.proofs.lemmas.Bool.Decides.{nat_tests}
use Rattle.std.proofs.lemmas.Int.{ints}
use Rattle.std.specs.Prelude.{◌==◌, ◌-ℤ◌, is_some, filter}
use Rattle.std.specs.Ordering.{int_eq}
use Rattle.std.specs.List.{AllByRecursion, list_any}
use Rattle.iv_rows.specs.Cell.{Cell}
use Rattle.iv_zset.specs.Limits.{copies}
use Rattle.iv_algebra.specs.Plans.{Lists}
use Rattle.iv_rows.specs.Options.{if_some}
use Rattle.iv_machine.specs.State.{Subscription, actor, subscription_of, view_shown, is_within, missing_for, shown}
use Rattle.iv_machine.specs.Machine.{difference, is_change, weighted, rising_rows, first_cause, ending}
use Rattle.iv_machine.specs.Reached.{AreUnique}
use Rattle.iv_machine.specs.declared.Cause.{Cause}
use Rattle.iv_machine.specs.declared.Cause.TheVariants as cause
use Rattle.iv_database.proofs.Taken as taking
use Rattle.iv_store.specs.Store.{database_of, Store, IsStored, frame_of, at, may_read, shown_rows}
use Rattle.iv_database.specs.Stands.{Stands}

-- ---- what a subscription shows

module _ (e : Store) (T : Lists) where
  pub shown_is : (s : Subscription) → subscription_of e.subscriptions s.number ≡ Some s → shown (at e T) s.number ≡ shown_rows e T s
  shown_is s found = ap (λ o. if_some o [] (view_shown (at e T))) found

-- ---- lists behind the tables

abbrev pub lists_behind : Store → Lists
lists_behind e = taking.lists_behind (database_of e)

pub Stands-IsStored : (e : Store) → IsStored e → Stands (lists_behind e) e.tables
Stands-IsStored e h = taking.Stands-lists_behind (database_of e) h.database

-- ---- which subscriptions end

-- the cause of an end, where the reader may select or not
abbrev pub cause_for : Bool → Option Cause
cause_for true = None
cause_for false = Some cause.Privilege

ends_by : (b w : Bool) → w ≡ true → first_cause b w ≡ cause_for (not b)
ends_by true w h = refl
ends_by false w h = ap (first_cause false) h

pub ending-is_within : (e : Store) (T : Lists) (s : Subscription) → is_within (at e T) s ≡ true → ending (at e T) s ≡ cause_for (may_read e s)
ending-is_within e T s w = ends_by (is_some (missing_for (frame_of e) (actor (frame_of e) s.session) s.rel)) (is_within (at e T) s) w

-- ---- nothing changes

no_weight : (n : ℕ) → int_eq (pos n -ℤ pos n) (pos 0) ≡ true
no_weight n = let e : pos n -ℤ pos n ≡ pos 0 = omega (arith, ints) in ap (λ z. int_eq z (pos 0)) e

none_differ : (rows ks : List (List Cell)) → filter is_change (map (weighted rows rows) ks) ≡ []
none_differ rows [] = refl
none_differ rows (r ∷ ks) = ap (λ b. cond (not b) (weighted rows rows r ∷ filter is_change (map (weighted rows rows) ks)) (filter is_change (map (weighted rows rows) ks))) (no_weight (copies r rows)) ∙ none_differ rows ks

pub difference-itself : (rows : List (List Cell)) → difference rows rows ≡ []
difference-itself rows = none_differ rows (rising_rows (rows ++ rows))

-- ---- subscriptions by their numbers

own : (n : ℕ) → (n == n) ≡ true
own n = grind (arith, nat_tests)

other_way : (m n : ℕ) → (m == n) ≡ false → (n == m) ≡ false
other_way m n h = grind (arith, nat_tests)

neither : (b c : Bool) → (b || c) ≡ false → (b ≡ false) × (c ≡ false)
neither true c h = cc
neither false c h = (refl, h)

-- found in a list is found behind another
behind : (e : Subscription) (all es : List Subscription) (want : Subscription → Option Subscription) → list_any (λ f. e.number == f.number) es ≡ false → AllByRecursion (λ f. subscription_of all f.number ≡ want f) es → AllByRecursion (λ f. subscription_of (e ∷ all) f.number ≡ want f) es
behind e all [] want n a = tt
behind e all (f ∷ es) want n a = let x = neither (e.number == f.number) (list_any (λ f. e.number == f.number) es) n in (
  ap (λ b. cond b (Some e) (subscription_of all f.number)) (other_way e.number f.number x.0) ∙ a.0,
  behind e all es want x.1 a.1,
)

pub subscription_of-each : (es : List Subscription) → AreUnique es → AllByRecursion (λ f. subscription_of es f.number ≡ Some f) es
subscription_of-each [] u = tt
subscription_of-each (e ∷ es) u =
    (ap (λ b. cond b (Some e) (subscription_of es e.number)) (own e.number), behind e es es (λ f. Some f) u.0 (subscription_of-each es u.1))

none_found : (k : ℕ) (p : Subscription → Bool) (es : List Subscription) → list_any (λ f. k == f.number) es ≡ false → subscription_of (filter p es) k ≡ None
none_found k p [] n = refl
none_found k p (f ∷ es) n = let x = neither (k == f.number) (list_any (λ f. k == f.number) es) n in by (p f) x.0 (none_found k p es x.1)
  where
    by : (b : Bool) → (k == f.number) ≡ false → subscription_of (filter p es) k ≡ None → subscription_of (cond b (f ∷ filter p es) (filter p es)) k ≡ None
    by true d h = ap (λ c. cond c (Some f) (subscription_of (filter p es) k)) d ∙ h
    by false d h = h

-- what is kept is found, and the others are not
abbrev pub kept_one : (Subscription → Bool) → Subscription → Option Subscription
kept_one p f = cond (p f) (Some f) None

pub subscription_of-kept_one : (p : Subscription → Bool) (es : List Subscription) → AreUnique es → AllByRecursion (λ f. subscription_of (filter p es) f.number ≡ kept_one p f) es
subscription_of-kept_one p [] u = tt
subscription_of-kept_one p (e ∷ es) u = by (p e) (none_found e.number p es u.0) (subscription_of-kept_one p es u.1)
  where
    by : (b : Bool) → subscription_of (filter p es) e.number ≡ None → AllByRecursion (λ f. subscription_of (filter p es) f.number ≡ kept_one p f) es
        → (subscription_of (cond b (e ∷ filter p es) (filter p es)) e.number ≡ cond b (Some e) None) × AllByRecursion (λ f. subscription_of (cond b (e ∷ filter p es) (filter p es)) f.number ≡ kept_one p f) es
    by true n a = (ap (λ c. cond c (Some e) (subscription_of (filter p es) e.number)) (own e.number), behind e (filter p es) es (kept_one p) u.0 a)
    by false n a = (n, a)

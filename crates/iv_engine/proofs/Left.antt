-- What is left of a store whose readers were looked at, and the lines that they are sent.
use Rattle.std.proofs.Common.{◌≡◌, ℕ, Bool, true, false, cond, not, List, [], ◌∷◌, Option, None, Some, refl, sym, subst, ◌∙◌}
use Rattle.std.specs.Prelude.{IfSome, filter, flat_map, is_some}
use Rattle.std.specs.List.{AllByRecursion}
use Rattle.iv_algebra.specs.Plans.{Lists}
use Rattle.iv_rows.specs.Options.{if_some}
use Rattle.iv_machine.specs.Machine.{difference, ending, first_cause, line_for, lines_told as machine_line}
use Rattle.iv_machine.specs.Reached.{AreUnique}
use Rattle.iv_machine.specs.State.{Subscription, actor, is_within, missing_for, plan_at, subscription_of, view_shown}
use Rattle.iv_machine.specs.declared.Cause.{Cause}
use Rattle.iv_machine.proofs.UniqueNumbers.{AreGiven-filter, AreUnique-filter}
use Rattle.iv_store.specs.Store.{IsOpen, IsRoleCircuit, IsSoundStore, IsStored, IsWithin, Store, at, frame_of, is_read, may_read, place_of, shown_rows}
use Rattle.iv_store.specs.Turned.{stays_open, turned_by, turned_line}
use Rattle.iv_database.specs.Stands.{Stands}
use Rattle.iv_readers.specs.Readers.{RoleCircuit}
use Rattle.iv_store.proofs.RelationCircuits.{IsCircuitFor-other_readers}
use Rattle.iv_store.proofs.FilteredLists.{AllByRecursion-filter, AllByRecursion-filtered_pass}
use Rattle.iv_store.proofs.SubscriptionViews.{subscription_of-each, subscription_of-kept_one, kept_one, lists_behind, shown_is, Stands-IsStored}
use Rattle.iv_store.proofs.RequestSteps.{flat_map-each_same}
use Rattle.iv_readers.proofs.Lists.{AllByRecursion-map, AllByRecursion-zip}

-- why a subscription stays open
pub not-first_cause : (m w : Bool) → not (is_some (first_cause m w)) ≡ true → not m ≡ true
not-first_cause true w h = cc
not-first_cause false w h = refl

pub within-first_cause : (m w : Bool) → not (is_some (first_cause m w)) ≡ true → w ≡ true
within-first_cause true w h = cc
within-first_cause false true h = refl
within-first_cause false false h = cc

pub IfSome-each : (o : Option ℕ) (P : ℕ → Type 0) → ((i : ℕ) → o ≡ Some i → P i) → IfSome o P
IfSome-each None P go = tt
IfSome-each (Some i) P go = go i refl

-- ---- what is left of a store, where subscriptions end that something ends

module _ (c : Store) (stored : IsStored c) where
  kept_stored : (p : Subscription → Bool) (cs : List RoleCircuit) → IsStored (record c { subscriptions = filter p c.subscriptions; circuits = cs })
  kept_stored p cs = record {
    numbers = record { unique = AreUnique-filter p c.subscriptions stored.numbers.unique; given = AreGiven-filter c.last p c.subscriptions stored.numbers.given };
    database = stored.database;
    shows = let new : Store = record c { subscriptions = filter p c.subscriptions; circuits = cs } in
        AllByRecursion-filter (IsOpen new) p c.subscriptions (AllByRecursion-map (IsOpen c) (IsOpen new) c.subscriptions (λ s o. record { session = o.session; known = o.known }) stored.shows);
  }

  each_within : (ks : List Subscription) → ((T : Lists) → Stands T c.tables → AllByRecursion (λ s. is_within (at c T) s ≡ true) ks) → AllByRecursion (IsWithin c) ks
  each_within [] all = tt
  each_within (s ∷ ks) all = (λ T stands. (all T stands).0, each_within ks (λ T stands. (all T stands).1))

  abbrev lacks : Subscription → Bool
  lacks s = is_some (missing_for (frame_of c) (actor (frame_of c) s.session) s.rel)

  pub left_sound : (ks : List Subscription) (cs : List RoleCircuit) → ((T : Lists) → Stands T c.tables → ks ≡ filter (stays_open c T) c.subscriptions) → AllByRecursion (IsRoleCircuit c) cs
      → AllByRecursion (λ s. is_some (place_of (record c { subscriptions = ks; circuits = cs }) s) ≡ true) ks
      → AllByRecursion (λ k. is_read (frame_of (record c { subscriptions = ks; circuits = cs })) k ≡ true) cs → IsSoundStore (record c { subscriptions = ks; circuits = cs })
  left_sound ks cs keeps circuits there read =
      let T = lists_behind c in
      let is = keeps T (Stands-IsStored c stored) in
      record {
        stored = subst (λ (xs : List Subscription). IsStored (record c { subscriptions = xs; circuits = cs })) (sym is) (kept_stored (stays_open c T) cs);
        served = subst (AllByRecursion (λ s. may_read c s ≡ true)) (sym is)
            (AllByRecursion-map (λ s. stays_open c T s ≡ true) (λ s. may_read c s ≡ true) (filter (stays_open c T) c.subscriptions) (λ s o. not-first_cause (lacks s) (is_within (at c T) s) o) (AllByRecursion-filtered_pass (stays_open c T) c.subscriptions));
        within = each_within ks (λ U stands. subst (AllByRecursion (λ s. is_within (at c U) s ≡ true)) (sym (keeps U stands))
            (AllByRecursion-map (λ s. stays_open c U s ≡ true) (λ s. is_within (at c U) s ≡ true) (filter (stays_open c U) c.subscriptions) (λ s o. within-first_cause (lacks s) (is_within (at c U) s) o) (AllByRecursion-filtered_pass (stays_open c U) c.subscriptions)));
        circuits = AllByRecursion-map (IsRoleCircuit c) (IsRoleCircuit (record c { subscriptions = ks; circuits = cs })) cs
            (λ k i. record {
              known = i.known;
              is = IsCircuitFor-other_readers c ks cs c.last k.role
                  (plan_at c.catalog k.rel) k.circuit i.is;
              opened = i.opened;
            }) circuits;
        there = there;
        read = read;
      }

-- ---- the lines, from what was shown in the one store to what is shown in the other, whose subscriptions were the same

module _ (e c : Store) (unique : AreUnique e.subscriptions) (T U : Lists) where
  abbrev left : Store
  left = record c { subscriptions = filter (stays_open c U) e.subscriptions }

  line_by : (s : Subscription) (why : Option Cause) → machine_line why s (difference (shown_rows e T s) (if_some (cond (not (is_some why)) (Some s) None) [] (view_shown (at left U)))) ≡ turned_by why s (shown_rows e T s) (shown_rows c U s)
  line_by s None = refl
  line_by s (Some why) = refl

  record Found (s : Subscription) : Type 0 where
    before : subscription_of e.subscriptions s.number ≡ Some s
    after : subscription_of (filter (stays_open c U) e.subscriptions) s.number ≡ kept_one (stays_open c U) s

  line_is : (s : Subscription) → Found s → line_for (at e T) (at left U) (ending (at c U)) s ≡ turned_line c U s (shown_rows e T s)
  line_is s x = (λ i. machine_line (ending (at c U) s) s (difference (shown_is e T s x.before i) (if_some (x.after i) [] (view_shown (at left U))))) ∙ line_by s (ending (at c U) s)

  found : AllByRecursion Found e.subscriptions
  found = AllByRecursion-zip (λ s. subscription_of e.subscriptions s.number ≡ Some s) (λ s. subscription_of (filter (stays_open c U) e.subscriptions) s.number ≡ kept_one (stays_open c U) s) Found e.subscriptions
      (λ s a b. record { before = a; after = b }) (subscription_of-each e.subscriptions unique)
      (subscription_of-kept_one (stays_open c U) e.subscriptions unique)

  pub turned_lines : flat_map (line_for (at e T) (at left U) (ending (at c U))) e.subscriptions ≡ flat_map (λ s. turned_line c U s (shown_rows e T s)) e.subscriptions
  turned_lines = flat_map-each_same (line_for (at e T) (at left U) (ending (at c U))) (λ s. turned_line c U s (shown_rows e T s)) e.subscriptions
      (AllByRecursion-map Found (λ s. line_for (at e T) (at left U) (ending (at c U)) s ≡ turned_line c U s (shown_rows e T s)) e.subscriptions line_is found)

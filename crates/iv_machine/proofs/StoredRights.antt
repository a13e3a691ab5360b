-- Rights, catalog and policies stay sound.
use Rattle.std.proofs.Common.{◌≡◌, ℕ, zero, suc, ◌+◌, Bool, true, false, not, List, [], ◌∷◌, ◌++◌, map, length, Option, Some, None, Result, Ok, Err, ap, ◌∙◌, sym, refl, subst, arith}
use Rattle.std.specs.Prelude.{bytes_eq, find, IfOk, IfSome, is_some, nat_le, slice_get, unwrap_or, if◌then◌else◌, ◌&&◌}
use Rattle.std.specs.List.{All, list_all}
use Rattle.std.specs.Str.{IsUtf8}
use Rattle.std.specs.Ordering.{is_lt, nat_cmp}
use Rattle.std.specs.Cmp.Lexicographic.{slice_cmp}
use Rattle.std.proofs.lemmas.List.Elements.{All-nil, All-cons, All-filter, All-head, All-tail}
use Rattle.iv_rows.specs.Columns.{Column}
use Rattle.iv_rows.specs.Names.{is_name}
use Rattle.iv_rows.specs.declared.value.Kind.TheVariants.{Text}
use Rattle.iv_query.specs.Trees.{PredTree, QueryTree}
use Rattle.iv_query.specs.TextReading.{read_pred, read_query}
use Rattle.iv_query.specs.Texts.{IsOutcome, IsPredText, HasPredFault, IsQueryText, HasQueryFault}
use Rattle.iv_query.specs.Well.{IsWellPred}
use Rattle.iv_query.specs.declared.fault.Fault as reading
use Rattle.iv_query.specs.declared.tree.Dialect.TheVariants.{Policy as OfPolicy}
use Rattle.iv_query.proofs.WellTokens.{preds_well, queries_well}
use Rattle.iv_algebra.specs.Fits.{condition_fits}
use Rattle.iv_algebra.specs.Shapes.{Condition}
use Rattle.iv_bind.specs.Binding.{bound_pred, under}
use Rattle.iv_bind.specs.BoundTexts.{TextFault, FaultAt, bound_policy, bound_query, of_binding, then_bound}
use Rattle.iv_bind.specs.Catalogs.{BoundQuery, Held, Table, View, named, table_in}
use Rattle.iv_bind.specs.Catalogs as catalogs
use Rattle.iv_rows.specs.Options.{if_some}
use Rattle.iv_bind.specs.Faults as binding
use Rattle.iv_bind.specs.Sound.{IsSoundCatalog, IsSoundView, ReadsWell}
use Rattle.iv_bind.proofs.Joins.{kinds_in-under}
use Rattle.iv_bind.proofs.Predicates.{condition_fits-pred_bound}
use Rattle.iv_access.specs.declared.fault.AccessFault.TheVariants as fault
use Rattle.iv_access.specs.declared.policy.Check.{Check}
use Rattle.iv_access.specs.declared.policy.Check.TheVariants as test
use Rattle.iv_access.specs.declared.policy.PolicyCommand.{PolicyCommand}
use Rattle.iv_access.specs.declared.policy.PolicyCommand.TheVariants.{All as ForAll, Select, Insert, Update, Delete}
use Rattle.iv_access.specs.NewPolicies.{NewPolicy}
use Rattle.iv_access.specs.Changing.{changed_at, insert_policy, remove_policy, with_relation}
use Rattle.iv_access.specs.Faults.{grant_role_fault, is_grantee, is_role}
use Rattle.iv_access.specs.Faults as faults
use Rattle.iv_access.specs.Access.{grantee_of, role_number}
use Rattle.iv_access.specs.Policies.{covers, is_named, policies_of, policy_of, predicate}
use Rattle.iv_access.specs.Policies as policies
use Rattle.iv_roles.specs.Roles.{is_admin}
use Rattle.iv_access.specs.Privileges.{acts_as, role_of}
use Rattle.iv_access.specs.Reached.{IsReached, at_start, role_created, role_granted, role_revoked, relation_added, privileges_granted, privileges_revoked, security_switched, policy_created, policy_dropped}
use Rattle.iv_access.specs.Rights.{Guard, Name, Policy}
use Rattle.iv_machine.specs.Act.{Act, create_role, create_table, create_view, grant, revoke, grant_role, revoke_role, row_security, create_policy, drop_policy, Command, PolicyText, Refusal, membership_loop, name_taken, no_session, not_a_table, not_administrator, too_many, unknown_relation, unknown_role}
use Rattle.iv_machine.specs.State.{State, Frame, actor, columns_at, is_open, next_rel, rel_of, start, table_columns}
use Rattle.iv_machine.specs.Changing.{condition_of_text, policy_for, view_held, with_held, after_frame, after_rights, after}
use Rattle.iv_machine.specs.Changing as changing
use Rattle.iv_machine.specs.Machine.{outcome, step, run}
use Rattle.iv_machine.specs.Numbered.{AreNumbered, IsNumbered}
use Rattle.iv_machine.specs.Refusing.{administrator, bad_policy_text, bad_text, first, full, has_policy, known_grantee, known_relation, known_role, owner_alone, refusal, table_alone, free_relation, views, frame_refusal, tests_by}
use Rattle.iv_machine.specs.Refusing as tests
use Rattle.iv_machine.specs.Stored.{AreGuarded, Fits, FitHeld, FitsColumns, HasTexts}
use Rattle.iv_machine.specs.Typed.{FitsCatalog}
use Rattle.iv_machine.specs.Parts.{has_texts, is_between}
use Rattle.iv_machine.specs.Well.{is_grantee as is_named_grantee, is_well_act, is_well_policy}
use Rattle.iv_machine.proofs.Distinct.{test-None}
use Rattle.iv_machine.proofs.SubscriptionPlaces.{some_of}
use Rattle.iv_machine.proofs.OpenSubscriptions.{refusal-None, or_else-None, test_not-None, and-both_true}

-- ---- what tests find of a policy and a membership

-- a request of an open session test_not-None the tests of its role
pub tests_by-None : (f : Frame) (n : ℕ) (act : Act) → tests.or_else (tests.test (not (is_open f n)) no_session) (first (tests_by f n (actor f n) act)) ≡ None → first (tests_by f n (actor f n) act) ≡ None
tests_by-None f n act h = (or_else-None (tests.test (not (is_open f n)) no_session) (first (tests_by f n (actor f n) act)) h).1

pub record IsTested (f : Frame) (n : ℕ) (p : PolicyText) : Type 0 where
  pub known : is_some (named f.catalog p.rel) ≡ true
  pub table : is_some (table_columns f.catalog p.rel) ≡ true
  pub roles : first (map (known_grantee f) p.to) ≡ None
  pub free : has_policy f p.rel p.name ≡ false
  pub using : bad_policy_text (columns_at f.catalog p.rel) p.using_text ≡ None
  pub check : bad_policy_text (columns_at f.catalog p.rel) p.check_text ≡ None
  pub few : nat_le 32 (tests.policies f p.rel) ≡ false

pub IsTested-create_policy : (f : Frame) (n : ℕ) (p : PolicyText) → first (tests_by f n (actor f n) (create_policy p)) ≡ None → IsTested f n p
IsTested-create_policy f n p h =
    let columns = columns_at f.catalog p.rel in
    let a = or_else-None (known_relation f p.rel) _ h in
    let b = or_else-None (table_alone f p.rel) _ a.1 in
    let d = or_else-None (owner_alone f (actor f n) p.rel) _ b.1 in
    let r = or_else-None (first (map (known_grantee f) p.to)) _ d.1 in
    let t = or_else-None (tests.test (has_policy f p.rel p.name) name_taken) _ r.1 in
    let u = or_else-None (bad_policy_text columns p.using_text) _ t.1 in
    let k = or_else-None (bad_policy_text columns p.check_text) _ u.1 in
    let m = or_else-None (full 32 (tests.policies f p.rel)) None k.1 in
    record {
      known = test_not-None (is_some (named f.catalog p.rel)) unknown_relation a.0;
      table = test_not-None (is_some (table_columns f.catalog p.rel)) not_a_table b.0;
      roles = r.0;
      free = test-None (has_policy f p.rel p.name) name_taken t.0;
      using = u.0;
      check = k.0;
      few = test-None (nat_le 32 (tests.policies f p.rel)) too_many m.0;
    }

-- ---- rights

one_known : (f : Frame) (o : Option Name) → known_grantee f o ≡ None → is_grantee f.rights o ≡ true
one_known f None h = refl
one_known f (Some name) h = test_not-None (is_some (role_of f.rights name)) unknown_role h

all_known : (f : Frame) (to : List (Option Name)) → first (map (known_grantee f) to) ≡ None → list_all (is_grantee f.rights) to ≡ true
all_known f [] h = refl
all_known f (o ∷ to) h =
    let a = or_else-None (known_grantee f o) _ h in
    ap (λ b. b && list_all (is_grantee f.rights) to) (one_known f o a.0) ∙ all_known f to a.1

policy_free : (a b c : Bool) → a ≡ true → b ≡ false → c ≡ false → (a && (not b && not c)) ≡ true
policy_free a b c h k l = λ i. h i && (not (k i) && not (l i))

member_free : (a b c d : Bool) → a ≡ true → b ≡ true → c ≡ true → d ≡ false
    → faults.first_fault ((not a, fault.NotAdmin) ∷ (not b, fault.Role) ∷ (not c, fault.Role) ∷ (d, fault.Loop) ∷ []) ≡ None
member_free a b c d h k l m = λ i. faults.first_fault ((not (h i), fault.NotAdmin) ∷ (not (k i), fault.Role) ∷ (not (l i), fault.Role) ∷ (m i, fault.Loop) ∷ [])

-- the policy as it is asked for, with its conditions
abbrev asked_for : Frame → PolicyText → NewPolicy
asked_for f p = let columns = columns_at f.catalog p.rel in record {
  name = p.name;
  restrictive = p.restrictive;
  command = p.command;
  to = p.to;
  using = condition_of_text columns p.using_text;
  check = condition_of_text columns p.check_text;
}

pub IsReached-after_rights : (f : Frame) (n : ℕ) (act : Act) → frame_refusal f n act ≡ None → IsReached f.rights → IsReached (after_rights f act)
IsReached-after_rights f n (create_role name) r h = role_created f.rights name h
IsReached-after_rights f n (create_table name owner columns) r h = relation_added f.rights (role_number f.rights owner) h
IsReached-after_rights f n (create_view name owner query) r h = relation_added f.rights (role_number f.rights owner) h
IsReached-after_rights f n (grant rel ps to) r h = privileges_granted f.rights (rel_of f.catalog rel) ps (grantee_of f.rights to) h
IsReached-after_rights f n (revoke rel ps to) r h = privileges_revoked f.rights (rel_of f.catalog rel) ps (grantee_of f.rights to) h
IsReached-after_rights f n (grant_role role to) r h =
    let a = or_else-None (administrator (actor f n)) _ (tests_by-None f n (grant_role role to) r) in
    let b = or_else-None (known_role f role) _ a.1 in
    let d = or_else-None (known_role f to) _ b.1 in
    let e = or_else-None (tests.test (acts_as f.rights (role_number f.rights role) (role_number f.rights to)) membership_loop) None d.1 in
    role_granted f.rights (actor f n) role to
    (member_free (is_admin (actor f n)) (is_role f.rights role) (is_role f.rights to) (acts_as f.rights (role_number f.rights role) (role_number f.rights to))
    (test_not-None (is_admin (actor f n)) not_administrator a.0) (test_not-None (is_role f.rights role) unknown_role b.0) (test_not-None (is_role f.rights to) unknown_role d.0)
    (test-None (acts_as f.rights (role_number f.rights role) (role_number f.rights to)) membership_loop e.0)) h
IsReached-after_rights f n (revoke_role role to) r h = role_revoked f.rights (role_number f.rights role) (role_number f.rights to) h
IsReached-after_rights f n (row_security rel enable force) r h = security_switched f.rights (rel_of f.catalog rel) enable force h
IsReached-after_rights f n (create_policy p) r h =
    let t = IsTested-create_policy f n p (tests_by-None f n (create_policy p) r) in
    policy_created f.rights (rel_of f.catalog p.rel) (asked_for f p)
    (policy_free (list_all (is_grantee f.rights) p.to) (has_policy f p.rel p.name) (nat_le 32 (tests.policies f p.rel)) (all_known f p.to t.roles) t.free t.few) h
IsReached-after_rights f n (drop_policy rel name) r h = policy_dropped f.rights (rel_of f.catalog rel) name h
IsReached-after_rights f n _ r h = h

-- ---- each relation and its guard

guarded_push : (es : List catalogs.CatalogEntry) (gs : List Guard) (e : catalogs.CatalogEntry) (g : Guard) → AreGuarded es gs → FitHeld e.held g.policies → AreGuarded (es ++ e ∷ []) (gs ++ g ∷ [])
guarded_push [] [] e g a h = (h, tt)
guarded_push [] (y ∷ gs) e g a h = absurd a
guarded_push (x ∷ es) [] e g a h = absurd a
guarded_push (x ∷ es) (y ∷ gs) e g a h = (a.0, guarded_push es gs e g a.1 h)

-- a change that keeps what fits the relation at the place
guarded_at : (k : ℕ) (change : Guard → Guard) (es : List catalogs.CatalogEntry) (gs : List Guard)
    → ((e : catalogs.CatalogEntry) → slice_get es k ≡ Some e → (g : Guard) → FitHeld e.held g.policies → FitHeld e.held (change g).policies)
    → AreGuarded es gs → AreGuarded es (changed_at k change gs)
guarded_at k change [] [] go a = a
guarded_at k change [] (y ∷ gs) go a = absurd a
guarded_at k change (x ∷ es) [] go a = absurd a
guarded_at zero change (x ∷ es) (y ∷ gs) go a = (go x refl y a.0, a.1)
guarded_at (suc k) change (x ∷ es) (y ∷ gs) go a = (a.0, guarded_at k change es gs go a.1)

-- the place of a relation that is found
pub record IsAt (n : ℕ) (es : List catalogs.CatalogEntry) (e : catalogs.CatalogEntry) : Type 0 where
  pub place : ℕ
  pub rel : e.rel ≡ n + place
  pub there : slice_get es place ≡ Some e

pub IsAt-find : (n : ℕ) (es : List catalogs.CatalogEntry) (p : catalogs.CatalogEntry → Bool) (e : catalogs.CatalogEntry) → AreNumbered n es → find p es ≡ Some e → IsAt n es e
IsAt-find n [] p e a h = cc
IsAt-find n (x ∷ es) p e a h = by (p x) h (IsAt-find (suc n) es p e a.1)
  where
    first_place : n ≡ n + 0
    first_place = omega arith

    later : (k : ℕ) → suc n + k ≡ n + suc k
    later k = omega arith

    by : (b : Bool) → (if b then Some x else find p es) ≡ Some e → (find p es ≡ Some e → IsAt (suc n) es e) → IsAt n (x ∷ es) e
    by true k go = let same : x ≡ e = cc in record { place = 0; rel = ap (λ (y : catalogs.CatalogEntry). y.rel) (sym same) ∙ a.0 ∙ first_place; there = ap Some same }
    by false k go = let r = go k in record { place = suc r.place; rel = r.rel ∙ later r.place; there = r.there }

-- ---- policies

filtered_fit : (held : Held) (name : Name) (ps : List Policy) → FitHeld held ps → FitHeld held (remove_policy name ps)
filtered_fit (Table columns) name ps h = All-filter (λ p. not (is_named name p)) (FitsColumns columns) ps h
filtered_fit (View answer) name ps h = ap (remove_policy name) h

fits_inserted : (columns : List Column) (p : Policy) (ps : List Policy) → FitsColumns columns p → All (FitsColumns columns) ps → All (FitsColumns columns) (insert_policy p ps)
fits_inserted columns p [] h a = All-cons (FitsColumns columns) p [] h a
fits_inserted columns p (q ∷ qs) h a =
    elim (is_lt (slice_cmp nat_cmp p.name q.name)) as (λ b. All (FitsColumns columns) (if b then p ∷ q ∷ qs else q ∷ insert_policy p qs)) [
      | true ↦ All-cons (FitsColumns columns) p (q ∷ qs) h a
      | false ↦ All-cons (FitsColumns columns) q (insert_policy p qs) (All-head (FitsColumns columns) q qs a) (fits_inserted columns p qs h (All-tail (FitsColumns columns) q qs a))
    ]

inserted_fit : (held : Held) (p : Policy) (ps : List Policy) → is_some (table_in held) ≡ true → FitsColumns (unwrap_or (table_in held) []) p → FitHeld held ps → FitHeld held (insert_policy p ps)
inserted_fit (Table columns) p ps t f h = fits_inserted columns p ps f h
inserted_fit (View answer) p ps t f h = cc

-- a policy has the conditions of its texts
is_there : (columns : List Column) (o : Option (List ℕ)) → bad_policy_text columns o ≡ None → is_some (condition_of_text columns o) ≡ is_some o
is_there columns None h = refl
is_there columns (Some text) h = by (bound_policy columns text) h
  where
    by : (r : Result Condition TextFault) → bad_text r ≡ None → is_some (changing.or_none r) ≡ true
    by (Ok c) k = refl
    by (Err (FaultAt place why)) k = cc

either_there : (later sooner : Option Condition) → is_some later ≡ true → is_some (policies.or_later sooner later) ≡ true
either_there later None h = h
either_there later (Some c) h = refl

first_there : (later sooner : Option Condition) → is_some sooner ≡ true → is_some (policies.or_later sooner later) ≡ true
first_there later None h = cc
first_there later (Some c) h = refl

-- and so one for each test that it applies to
has_tests : (command : PolicyCommand) (a b : Option (List ℕ)) (p : Policy) → p.command ≡ command → is_some p.using ≡ is_some a → is_some p.check ≡ is_some b → has_texts command a b ≡ true
    → (t : Check) → covers command t ≡ true → is_some (predicate t p) ≡ true
has_tests ForAll a b p e u k h test.Select c = u ∙ h
has_tests ForAll a b p e u k h test.Insert c = either_there p.using p.check (u ∙ h)
has_tests ForAll a b p e u k h test.UpdateOld c = u ∙ h
has_tests ForAll a b p e u k h test.UpdateNew c = either_there p.using p.check (u ∙ h)
has_tests ForAll a b p e u k h test.Delete c = u ∙ h
has_tests Select a b p e u k h test.Select c = u ∙ (and-both_true (is_some a) _ h).0
has_tests Insert a b p e u k h test.Insert c = first_there p.using p.check (k ∙ (and-both_true _ (is_some b) h).1)
has_tests Update a b p e u k h test.UpdateOld c = u ∙ h
has_tests Update a b p e u k h test.UpdateNew c = either_there p.using p.check (u ∙ h)
has_tests Delete a b p e u k h test.Delete c = u ∙ (and-both_true (is_some a) _ h).0
has_tests _ a b p e u k h _ c = cc

-- ---- what laws say of texts

module _ (reads_pred : (bs : List ℕ) → IsUtf8 bs → IsOutcome IsPredText HasPredFault bs (read_pred bs)) where
  tree_fits : (columns : List Column) (t : PredTree) (c : Condition) → IsWellPred OfPolicy t → bound_pred columns t ≡ Ok c → Fits columns c
  unfolding bound_pred
  tree_fits columns t c w h = (λ i. condition_fits (Some Text) (sym (kinds_in-under [] columns) i) c) ∙ condition_fits-pred_bound OfPolicy (under [] columns) t c w h

  pred_well : (text : List ℕ) → IsUtf8 text → (t : PredTree) → read_pred text ≡ Ok t → IsWellPred OfPolicy t
  pred_well text u t e = preds_well text (λ (x : PredTree). x) (Ok t) (subst (IsOutcome IsPredText HasPredFault text) e (reads_pred text u))

  text_fits : (columns : List Column) (text : List ℕ) (c : Condition) → IsUtf8 text → bound_policy columns text ≡ Ok c → Fits columns c
  text_fits columns text c u h = part (read_pred text) (pred_well text u) h
    where
      of_tree : (r : Result Condition binding.Fault) → ((b : Condition) → r ≡ Ok b → Fits columns b) → of_binding r ≡ Ok c → Fits columns c
      of_tree (Ok b) k e = let same : b ≡ c = cc in subst (Fits columns) same (k b refl)
      of_tree (Err (binding.FaultAt place why)) k e = cc

      part : (r : Result PredTree reading.Fault) → ((t : PredTree) → r ≡ Ok t → IsWellPred OfPolicy t) → then_bound (bound_pred columns) r ≡ Ok c → Fits columns c
      part (Ok t) k e = of_tree (bound_pred columns t) (λ b g. tree_fits columns t b (k t refl) g) e
      part (Err fault) k e = cc

  condition_is : (columns : List Column) (o : Option (List ℕ)) → IfSome o IsUtf8 → IfSome (condition_of_text columns o) (Fits columns)
  condition_is columns None u = tt
  condition_is columns (Some text) u = by (bound_policy columns text) (λ c h. text_fits columns text c u h)
    where
      by : (r : Result Condition TextFault) → ((c : Condition) → r ≡ Ok c → Fits columns c) → IfSome (changing.or_none r) (Fits columns)
      by (Ok c) k = k c refl
      by (Err fault) k = tt

  policy_fits : (f : Frame) (n : ℕ) (p : PolicyText) → is_well_policy p ≡ true → HasTexts (create_policy p) → IsTested f n p → FitsColumns (columns_at f.catalog p.rel) (policy_for f p)
  policy_fits f n p w x t =
      let columns = columns_at f.catalog p.rel in
      let h = (and-both_true (list_all is_named_grantee p.to) _ (and-both_true (is_between 1 16 (length p.to)) _ (and-both_true (is_name p.name) _ (and-both_true (is_name p.rel) _ w).1).1).1).1 in
      record {
        using = condition_is columns p.using_text x.0;
        check = condition_is columns p.check_text x.1;
        tests = has_tests p.command p.using_text p.check_text (policy_for f p) refl (is_there columns p.using_text t.using) (is_there columns p.check_text t.check) h;
      }

  guarded_by : (f : Frame) (n : ℕ) (p : PolicyText) → is_well_policy p ≡ true → HasTexts (create_policy p) → IsTested f n p → IsNumbered f
      → AreGuarded f.catalog f.rights.guards → AreGuarded f.catalog (after_rights f (create_policy p)).guards
  guarded_by f n p w x t m a =
      some_of (named f.catalog p.rel) t.known (AreGuarded f.catalog (after_rights f (create_policy p)).guards) (λ e found.
      guarded_at (rel_of f.catalog p.rel) (λ g. record g { policies = insert_policy (policy_for f p) g.policies }) f.catalog f.rights.guards (at e found) a)
    where
      -- the place of the table has the table
      at : (e : catalogs.CatalogEntry) → named f.catalog p.rel ≡ Some e → (y : catalogs.CatalogEntry) → slice_get f.catalog (rel_of f.catalog p.rel) ≡ Some y → (g : Guard)
          → FitHeld y.held g.policies → FitHeld y.held (insert_policy (policy_for f p) g.policies)
      at e found y there g h =
          let place = IsAt-find 0 f.catalog (λ (z : catalogs.CatalogEntry). bytes_eq p.rel z.name) e m.relations found in
          let zero_more : 0 + place.place ≡ place.place = omega arith in
          let number : rel_of f.catalog p.rel ≡ place.place = ap (λ o. if_some o (next_rel f.catalog) (λ z. z.rel)) found ∙ place.rel ∙ zero_more in
          let both_there : Some y ≡ Some e = sym there ∙ ap (slice_get f.catalog) number ∙ place.there in
          let same : y ≡ e = cc in
          let named_so : named f.catalog p.rel ≡ Some y = found ∙ ap Some (sym same) in
          inserted_fit y.held (policy_for f p) g.policies
          (sym (ap (λ o. is_some (if_some o None (λ z. table_in z.held))) named_so) ∙ t.table)
          (subst (λ columns. FitsColumns columns (policy_for f p)) (ap (λ o. unwrap_or (if_some o None (λ z. table_in z.held)) []) named_so) (policy_fits f n p w x t)) h

  -- ---- the catalog

  module _ (reads_query : (bs : List ℕ) → IsUtf8 bs → IsOutcome IsQueryText HasQueryFault bs (read_query bs))
      (bound_sound : (es : List catalogs.CatalogEntry) (text : List ℕ) → IsSoundCatalog es → ReadsWell text → IfOk (bound_query es text) (λ a. IsSoundView es a)) where
    pub reads_well : (text : List ℕ) → IsUtf8 text → ReadsWell text
    reads_well text u q e = queries_well text (λ (x : QueryTree). x) (Ok q) (subst (IsOutcome IsQueryText HasQueryFault text) e (reads_query text u))

    pub fits_given : (catalog : List catalogs.CatalogEntry) (act : Act) → is_well_act act ≡ true → HasTexts act → IsSoundCatalog catalog → FitsCatalog catalog act
    fits_given catalog (create_table name owner columns) w x k = (and-both_true (is_name owner) _ (and-both_true (is_name name) _ w).1).1
    fits_given catalog (create_view name owner query) w x k = λ a h. subst (λ r. IfOk r (λ b. IsSoundView catalog b)) h (bound_sound catalog query k (reads_well query x))
    fits_given catalog _ w x k = tt

    guarded_view : (f : Frame) (name : Name) (owner : ℕ) (r : Result BoundQuery TextFault) → bad_text r ≡ None → AreGuarded f.catalog f.rights.guards
        → AreGuarded (with_held name (view_held r) f.catalog) (with_relation owner f.rights).guards
    guarded_view f name owner (Ok answer) b a = guarded_push f.catalog f.rights.guards (record { name = name; rel = next_rel f.catalog; held = View answer }) (record { owner = owner; enabled = false; forced = false; policies = [] }) a refl
    guarded_view f name owner (Err (FaultAt place why)) b a = cc

    pub guarded_after : (f : Frame) (n : ℕ) (act : Act) → frame_refusal f n act ≡ None → is_well_act act ≡ true → HasTexts act → IsNumbered f
        → AreGuarded f.catalog f.rights.guards → AreGuarded (after_frame f n act).catalog (after_frame f n act).rights.guards
    guarded_after f n (create_table name owner columns) r w x m a =
        guarded_push f.catalog f.rights.guards (record { name = name; rel = next_rel f.catalog; held = Table columns }) (record { owner = role_number f.rights owner; enabled = false; forced = false; policies = [] })
        a (All-nil (FitsColumns columns))
    guarded_after f n (create_view name owner query) r w x m a =
        let b = or_else-None (administrator (actor f n)) _ (tests_by-None f n (create_view name owner query) r) in
        let d = or_else-None (known_role f owner) _ b.1 in
        let e = or_else-None (free_relation f name) _ d.1 in
        let t = or_else-None (bad_text (bound_query f.catalog query)) (first (full 64 (views f) ∷ [])) e.1 in
        guarded_view f name (role_number f.rights owner) (bound_query f.catalog query) t.0 a
    guarded_after f n (row_security rel enable force) r w x m a =
        guarded_at (rel_of f.catalog rel) (λ g. record g { enabled = enable; forced = force }) f.catalog f.rights.guards (λ e there g h. h) a
    guarded_after f n (create_policy p) r w x m a = guarded_by f n p w x (IsTested-create_policy f n p (tests_by-None f n (create_policy p) r)) m a
    guarded_after f n (drop_policy rel name) r w x m a =
        guarded_at (rel_of f.catalog rel) (λ g. record g { policies = remove_policy name g.policies }) f.catalog f.rights.guards (λ e there g h. filtered_fit e.held name g.policies h) a
    guarded_after f n _ r w x m a = a

-- ---- rights, whatever the commands

outcome_rights : (s : State) (c : Command) (o : Option Refusal) → refusal s c.session c.act ≡ o → IsReached s.frame.rights → IsReached (outcome s c o).state.frame.rights
outcome_rights s c None h k = IsReached-after_rights s.frame c.session c.act (refusal-None s c.session c.act h).0 k
outcome_rights s c (Some x) h k = k

pub step_rights : (s : State) (c : Command) → IsReached s.frame.rights → IsReached (step s c).state.frame.rights
step_rights s c k = outcome_rights s c (refusal s c.session c.act) refl k

run_rights : (s : State) (cs : List Command) → IsReached s.frame.rights → IsReached (run s cs).state.frame.rights
run_rights s [] k = k
run_rights s (c ∷ cs) k = run_rights (step s c).state cs (step_rights s c k)

pub IsReached-run : (cap : ℕ) (cs : List Command) → IsReached (run (start cap) cs).state.frame.rights
IsReached-run cap cs = run_rights (start cap) cs at_start

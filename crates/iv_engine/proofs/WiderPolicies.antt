-- A restrictive policy less: a role sees of each table what it saw before, and of the rows of which its condition did not hold perhaps more.
use Rattle.std.proofs.Common.{◌≡◌, ℕ, ◌+ℤ◌, ℤ, ⊎_elim, Bool, true, false, cond, not, ◌&&◌, ◌||◌, List, [], ◌∷◌, Option, Some, None, filter, option_map, pos, ap, arith, sym, subst, refl, ◌∙◌}
use Rattle.std.proofs.lemmas.Bool.Decides.{nat_tests}
use Rattle.std.proofs.lemmas.Int.{ints}
use Rattle.std.specs.Prelude.{◌==◌, ◌≢◌, IfSome, Ok, is_some, slice_get, if◌then◌else◌}
use Rattle.std.specs.List.{AllByRecursion, list_any}
use Rattle.iv_rows.specs.Order.{cell_cmp, row_eq}
use Rattle.iv_rows.specs.declared.schema.RelId.{RelId}
use Rattle.iv_zset.specs.Weights.{SameZ, weight_of, Weighed}
use Rattle.iv_zset.proofs.Rows.{Tells-row_eq}
use Rattle.iv_algebra.specs.Contents.{rows_of}
use Rattle.iv_algebra.specs.declared.tables.Table.{Table}
use Rattle.iv_algebra.specs.Evaluation.{holds, term_value}
use Rattle.iv_algebra.specs.Predicates.{agrees}
use Rattle.iv_algebra.specs.Rows.{Cells}
use Rattle.iv_algebra.specs.Shapes.{Condition, Constant, Compare, And, Or, Not, Term, Column, Literal, User}
use Rattle.iv_access.specs.Changing.{changed_at, remove_policy, without_policy}
use Rattle.iv_access.specs.Policies.{applies, by_policies, forbids, is_exempt, is_met, is_named, is_pass, IsRestriction, may_see, passes, permits, policies_of}
use Rattle.iv_access.specs.Privileges.{role_name}
use Rattle.iv_access.specs.Access.{Access}
use Rattle.iv_access.specs.Rights.{Guard, Name, Policy, Rights}
use Rattle.iv_access.specs.declared.policy.Check.TheVariants.{Select}
use Rattle.iv_access.specs.declared.policy.Verdict.TheVariants.{Pass}
use Rattle.iv_access.proofs.Further.{slice_get-changed_at, slice_get-changed_elsewhere, same_verdict}
use Rattle.iv_access.proofs.Policies.{is_pass-filter}
use Rattle.iv_circuit.specs.Circuits.{given_by, HiddenRows}
use Rattle.iv_database.specs.Database.{Database}
use Rattle.iv_database.specs.Owned.{IsGuarded}
use Rattle.iv_machine.specs.Act.{drop_policy}
use Rattle.iv_machine.specs.State.{rel_of}
use Rattle.iv_store.specs.Store.{database_of, with_database, IsRoleCircuit, IsSoundStore, Store}
use Rattle.iv_engine.specs.Restricted.{is_user, names_user, IsHidden, IsRestricted}
use Rattle.iv_store.specs.Turned.{IsNarrowed}
use Rattle.iv_readers.proofs.Lists.{AllByRecursion-map}
use Rattle.iv_engine.proofs.GuardChanges.{IsGuarding-drop_policy, guard_is, guarded}

-- ---- conditions that do not read the name of the user

neither : (a b : Bool) → (a || b) ≡ false → (a ≡ false) × (b ≡ false)
neither true b h = cc
neither false b h = (refl, h)

same_value : (t : Term) (u v : Name) (row : Cells) → is_user t ≡ false → term_value t u row ≡ term_value t v row
same_value (Column k) u v row h = refl
same_value (Literal x) u v row h = refl
same_value User u v row h = cc

pub same_for_all : (c : Condition) (u v : Name) (row : Cells) → names_user c ≡ false → holds c u row ≡ holds c v row
same_for_all (Constant b) u v row h = refl
same_for_all (Compare a c b) u v row h =
    let n = neither (is_user a) (is_user b) h in λ i. agrees c (cell_cmp (same_value a u v row n.0 i) (same_value b u v row n.1 i))
same_for_all (And a b) u v row h = let n = neither (names_user a) (names_user b) h in λ i. same_for_all a u v row n.0 i && same_for_all b u v row n.1 i
same_for_all (Or a b) u v row h = let n = neither (names_user a) (names_user b) h in λ i. same_for_all a u v row n.0 i || same_for_all b u v row n.1 i
same_for_all (Not a) u v row h = λ i. not (same_for_all a u v row h i)

-- ---- a list of policies without those of the name

module _ (r : Rights) (role : ℕ) (row : Cells) (name : Name) (c : Condition) where
  abbrev permitted : Policy → Bool
  permitted = permits r role Select row

  abbrev forbidden : Policy → Bool
  forbidden = forbids r role Select row

  abbrev without : List Policy → List Policy
  without ps = remove_policy name ps

  no_permit : (restrictive x : Bool) → restrictive ≡ true → (not restrictive && x) ≡ false
  no_permit true x h = refl
  no_permit false x h = cc

  left_out : (a b : Bool) → a ≡ false → b ≡ (a || b)
  left_out true b h = cc
  left_out false b h = refl

  same_permits : (ps : List Policy) → AllByRecursion (IsRestriction name c) ps → list_any permitted (without ps) ≡ list_any permitted ps
  same_permits [] h = refl
  same_permits (p ∷ ps) h = part (is_named name p) h.0 (same_permits ps h.1)
    where
      part : (b : Bool) → (b ≡ true → (p.restrictive ≡ true) × (p.using ≡ Some c)) → list_any permitted (without ps) ≡ list_any permitted ps
          → list_any permitted (cond (not b) (p ∷ without ps) (without ps)) ≡ (permitted p || list_any permitted ps)
      part true is e = e ∙ left_out (permitted p) (list_any permitted ps) (no_permit p.restrictive (applies r role Select p && passes (role_name r role) Select row p) (is refl).0)
      part false is e = ap (λ x. permitted p || x) e

  or_more : (a b d : Bool) → (b ≡ true → d ≡ true) → (a || b) ≡ true → (a || d) ≡ true
  or_more true b d f h = refl
  or_more false b d f h = f h

  or_right : (a d : Bool) → d ≡ true → (a || d) ≡ true
  or_right true d h = refl
  or_right false d h = h

  -- what still forbids the row did so before
  forbids_less : (ps : List Policy) → list_any forbidden (without ps) ≡ true → list_any forbidden ps ≡ true
  forbids_less [] h = h
  forbids_less (p ∷ ps) h = part (is_named name p) (forbids_less ps) h
    where
      part : (b : Bool) → (list_any forbidden (without ps) ≡ true → list_any forbidden ps ≡ true)
          → list_any forbidden (cond (not b) (p ∷ without ps) (without ps)) ≡ true → (forbidden p || list_any forbidden ps) ≡ true
      part true less k = or_right (forbidden p) (list_any forbidden ps) (less k)
      part false less k = or_more (forbidden p) (list_any forbidden (without ps)) (list_any forbidden ps) less k

  no_forbid : (restrictive a m : Bool) → m ≡ true → (restrictive && (a && not m)) ≡ false
  no_forbid restrictive a false h = cc
  no_forbid true true true h = refl
  no_forbid true false true h = refl
  no_forbid false a true h = refl

  -- where the condition holds, nothing that forbade it is gone
  same_forbids : (ps : List Policy) → AllByRecursion (IsRestriction name c) ps → holds c (role_name r role) row ≡ true
      → list_any forbidden (without ps) ≡ list_any forbidden ps
  same_forbids [] h met = refl
  same_forbids (p ∷ ps) h met = part (is_named name p) h.0 (same_forbids ps h.1 met)
    where
      part : (b : Bool) → (b ≡ true → (p.restrictive ≡ true) × (p.using ≡ Some c)) → list_any forbidden (without ps) ≡ list_any forbidden ps
          → list_any forbidden (cond (not b) (p ∷ without ps) (without ps)) ≡ (forbidden p || list_any forbidden ps)
      part true is e = e ∙ left_out (forbidden p) (list_any forbidden ps)
          (no_forbid p.restrictive (applies r role Select p) (passes (role_name r role) Select row p) (ap (λ o. is_met o (role_name r role) row) (is refl).1 ∙ met))
      part false is e = ap (λ x. forbidden p || x) e

  -- ---- what the role sees by them

  abbrev sees : Bool → List Policy → Bool
  sees exempt ps = is_pass (if exempt then Pass else by_policies r role Select row ps)

  all_kept : (exempt p q f g : Bool) → q ≡ p → (g ≡ true → f ≡ true) → (exempt || (p && not f)) ≡ true → (exempt || (q && not g)) ≡ true
  all_kept true p q f g e k h = refl
  all_kept false false q f g e k h = cc
  all_kept false true q true g e k h = cc
  all_kept false true true false true e k h = k refl
  all_kept false true true false false e k h = refl
  all_kept false true false f g e k h = cc

  sees_all : (exempt : Bool) (ps : List Policy) → AllByRecursion (IsRestriction name c) ps → sees exempt ps ≡ true → sees exempt (without ps) ≡ true
  sees_all exempt ps each h =
      sym (is_pass-filter exempt r role Select row (without ps))
      ∙ all_kept exempt (list_any permitted ps) (list_any permitted (without ps)) (list_any forbidden ps) (list_any forbidden (without ps))
      (same_permits ps each) (forbids_less ps) (is_pass-filter exempt r role Select row ps ∙ h)

  sees_same : (exempt : Bool) (ps : List Policy) → AllByRecursion (IsRestriction name c) ps → holds c (role_name r role) row ≡ true → sees exempt (without ps) ≡ sees exempt ps
  sees_same exempt ps each met =
      sym (is_pass-filter exempt r role Select row (without ps))
      ∙ (λ i. exempt || (same_permits ps each i && not (same_forbids ps each met i)))
      ∙ is_pass-filter exempt r role Select row ps

-- ---- a table without those policies

same_number : (n m : ℕ) → (n == m) ≡ true → n ≡ m
same_number n m h = grind (arith, nat_tests)

other_number : (n m : ℕ) → (n == m) ≡ false → n ≢ m
other_number n m h = grind (arith, nat_tests)

abbrev dropped : Name → Guard → Guard
dropped name g = record g { policies = remove_policy name g.policies }

module _ (r : Rights) (t role : ℕ) (row : Cells) (name : Name) (c : Condition) (each : AllByRecursion (IsRestriction name c) (policies_of (slice_get r.guards t))) where
  abbrev by_guard : Option Guard → Bool
  by_guard o = is_pass (if is_exempt r role o then Pass else by_policies r role Select row (policies_of o))

  after_there : may_see (without_policy t name r) role t row ≡ by_guard (option_map (dropped name) (slice_get r.guards t))
  after_there =
      ap is_pass (same_verdict r (changed_at t (dropped name) r.guards) role Select row (slice_get (changed_at t (dropped name) r.guards) t))
      ∙ ap by_guard (slice_get-changed_at t (dropped name) r.guards)

  after_elsewhere : (k : ℕ) → k ≢ t → may_see (without_policy t name r) role k row ≡ may_see r role k row
  after_elsewhere k apart =
      ap is_pass (same_verdict r (changed_at t (dropped name) r.guards) role Select row (slice_get (changed_at t (dropped name) r.guards) k))
      ∙ ap by_guard (slice_get-changed_elsewhere t k (dropped name) r.guards apart)

  guard_all : (o : Option Guard) → AllByRecursion (IsRestriction name c) (policies_of o) → by_guard o ≡ true → by_guard (option_map (dropped name) o) ≡ true
  guard_all None a h = h
  guard_all (Some g) a h = sees_all r role row name c (is_exempt r role (Some g)) g.policies a h

  guard_same : (o : Option Guard) → AllByRecursion (IsRestriction name c) (policies_of o) → holds c (role_name r role) row ≡ true
      → by_guard (option_map (dropped name) o) ≡ by_guard o
  guard_same None a met = refl
  guard_same (Some g) a met = sees_same r role row name c (is_exempt r role (Some g)) g.policies a met

  pub sees_more : (k : ℕ) → may_see r role k row ≡ true → may_see (without_policy t name r) role k row ≡ true
  sees_more k h = part (k == t) refl
    where
      part : (b : Bool) → (k == t) ≡ b → may_see (without_policy t name r) role k row ≡ true
      part true e = subst (λ n. may_see (without_policy t name r) role n row ≡ true) (sym (same_number k t e))
          (after_there ∙ guard_all (slice_get r.guards t) each (subst (λ n. may_see r role n row ≡ true) (same_number k t e) h))
      part false e = after_elsewhere k (other_number k t e) ∙ h

  neither_way : {A : Type 0} (b d : Bool) → b ≡ d → b ≡ true → d ≡ false → A
  neither_way true true e h g = cc
  neither_way true false e h g = cc
  neither_way false d e h g = cc

  -- a row that it sees now and did not see before is one of the table of which the condition does not hold
  pub came_back : (k : ℕ) → may_see (without_policy t name r) role k row ≡ true → may_see r role k row ≡ false → (k ≡ t) × (holds c (role_name r role) row ≡ false)
  came_back k now was = part (k == t) refl
    where
      met : (b : Bool) → k ≡ t → holds c (role_name r role) row ≡ b → holds c (role_name r role) row ≡ false
      met true e m = neither_way (may_see (without_policy t name r) role t row) (may_see r role t row) (after_there ∙ guard_same (slice_get r.guards t) each m)
          (subst (λ n. may_see (without_policy t name r) role n row ≡ true) e now) (subst (λ n. may_see r role n row ≡ false) e was)
      met false e m = m

      part : (b : Bool) → (k == t) ≡ b → (k ≡ t) × (holds c (role_name r role) row ≡ false)
      part true e = (same_number k t e, met (holds c (role_name r role) row) (same_number k t e) refl)
      part false e = neither_way (may_see (without_policy t name r) role k row) (may_see r role k row) (after_elsewhere k (other_number k t e)) now was

-- ---- rows that pass a test (as in iv_delta, which is no library of this crate)

zero_left : (w : ℤ) → pos 0 +ℤ w ≡ w
zero_left w = omega (arith, ints)

filter_weighs : (p : Cells → Bool) (es : Weighed) (q : Cells) → weight_of (filter (λ e. p e.0) es) q ≡ cond (p q) (weight_of es q) (pos 0)
filter_weighs p [] q = hidden (p q)
  where
    hidden : (b : Bool) → pos 0 ≡ cond b (pos 0) (pos 0)
    hidden true = refl
    hidden false = refl
filter_weighs p (e ∷ es) q =
    ⊎_elim
    (λ y. own (p e.0) (p q) (row_eq q e.0) (filter (λ e. p e.0) es) (ap p (sym y.1)) y.0 (filter_weighs p es q))
    (λ n. other (p e.0) (row_eq q e.0) (filter (λ e. p e.0) es) n.0 (filter_weighs p es q))
    (Tells-row_eq q e.0)
  where
    own : (b c t : Bool) (rest : Weighed) → b ≡ c → row_eq q e.0 ≡ true → weight_of rest q ≡ cond c (weight_of es q) (pos 0) → weight_of (cond b (e ∷ rest) rest) q ≡ cond c (cond (row_eq q e.0) e.1 (pos 0) +ℤ weight_of es q) (pos 0)
    own true true t rest h y ih = ap (λ w. cond (row_eq q e.0) e.1 (pos 0) +ℤ w) ih
    own true false t rest h y ih = cc
    own false true t rest h y ih = cc
    own false false t rest h y ih = ih

    other : (b t : Bool) (rest : Weighed) → row_eq q e.0 ≡ false → weight_of rest q ≡ cond (p q) (weight_of es q) (pos 0) → weight_of (cond b (e ∷ rest) rest) q ≡ cond (p q) (cond (row_eq q e.0) e.1 (pos 0) +ℤ weight_of es q) (pos 0)
    other true t rest n ih = ap (λ u. cond u e.1 (pos 0) +ℤ weight_of rest q) n ∙ zero_left (weight_of rest q) ∙ ih ∙ ap (λ w. cond (p q) w (pos 0)) (sym (ap (λ u. cond u e.1 (pos 0) +ℤ weight_of es q) n ∙ zero_left (weight_of es q)))
    other false t rest n ih = ih ∙ ap (λ w. cond (p q) w (pos 0)) (sym (ap (λ u. cond u e.1 (pos 0) +ℤ weight_of es q) n ∙ zero_left (weight_of es q)))

-- ---- circuits

module _ (e : Store) (t : ℕ) (name : Name) (c : Condition) (each : AllByRecursion (IsRestriction name c) (policies_of (slice_get e.known.rights.guards t))) (plain : names_user c ≡ false)
    (h : HiddenRows) (here : h.table ≡ t) (rows : (q : Cells) → weight_of h.rows q ≡ weight_of (filter (λ x. not (holds c [] x.0)) (rows_of e.tables t)) q) where
  there : (k : ℕ) (q : Cells) → k ≡ t → holds c [] q ≡ false → weight_of (given_by h k) q ≡ weight_of (rows_of e.tables k) q
  there k q is fails =
      (λ i. weight_of (cond (here i == is i) h.rows []) q) ∙ ap (λ b. weight_of (cond b h.rows []) q) (self t)
      ∙ rows q ∙ filter_weighs (λ row. not (holds c [] row)) (rows_of e.tables t) q
      ∙ ap (λ b. cond (not b) (weight_of (rows_of e.tables t) q) (pos 0)) fails
      ∙ ap (λ n. weight_of (rows_of e.tables n) q) (sym is)
    where
      self : (n : ℕ) → (n == n) ≡ true
      self n = grind (arith, nat_tests)

  pub widened : IsSoundStore e → AllByRecursion (IsNarrowed (guarded t (dropped name) e) (Some h)) e.circuits
  widened sound = AllByRecursion-map (IsRoleCircuit e) (IsNarrowed (guarded t (dropped name) e) (Some h)) e.circuits
      (λ k i. record {
        rights = e.known.rights;
        is = i.is;
        more = λ table row now was.
            let b = came_back e.known.rights t k.role row name c each table now was in
            there table row b.0 (same_for_all c [] (role_name e.known.rights k.role) row plain ∙ b.1);
        kept = λ _ table row was. sees_more e.known.rights t k.role row name c each table was;
      }) sound.circuits

-- where the rows were found that the policy of the name hid, each role sees what it saw, and of them more
pub policy_widens : (e u : Store) (d : Database) (n : ℕ) (rel name : Name) (is : u ≡ e) (s : IsSoundStore e) (table : RelId) → IsGuarded (database_of u) n (drop_policy rel name) rel (Ok table) d
    → (c : Condition) → IsRestricted e rel name c → (h : HiddenRows) → IsHidden (with_database d u) table.0 (Some c) h
    → AllByRecursion (IsNarrowed (with_database d u) (Some h)) (with_database d u).circuits
policy_widens e u d n rel name is s table told c asked h found =
    let after = guard_is e u d n (drop_policy rel name) rel is (IsGuarding-drop_policy e n rel name) s table told in
    let t : rel_of e.catalog rel ≡ table.0 = ap (λ (v : Store). rel_of v.catalog rel) (sym is) ∙ told.1 in
    let same : found.condition ≡ c = own c found.condition found.asked in
    subst (λ (v : Store). AllByRecursion (IsNarrowed v (Some h)) v.circuits) (sym after)
    (widened e (rel_of e.catalog rel) name c asked.each asked.plain h (found.table ∙ sym t)
    (λ q. found.rows q
    ∙ (λ i. weight_of (filter (λ x. not (holds (same i) [] x.0)) (rows_of (after i).tables (sym t i))) q)) s)
  where
    own : (c x : Condition) → Some c ≡ Some x → x ≡ c
    own c x e = cc

-- the same of what was found, if rows were found
pub policy_brings : (e u : Store) (d : Database) (n : ℕ) (rel name : Name) (is : u ≡ e) (s : IsSoundStore e) (table : RelId) → IsGuarded (database_of u) n (drop_policy rel name) rel (Ok table) d
    → (asked : Option Condition) → IfSome asked (IsRestricted e rel name) → (o : Option HiddenRows) → IfSome o (IsHidden (with_database d u) table.0 asked)
    → is_some o ≡ true → AllByRecursion (IsNarrowed (with_database d u) o) (with_database d u).circuits
policy_brings e u d n rel name is s table told asked r None h some = cc
policy_brings e u d n rel name is s table told None r (Some x) h some = let no = h.asked in cc
policy_brings e u d n rel name is s table told (Some c) r (Some x) h some = policy_widens e u d n rel name is s table told c r x h

if_some_as : {A B : Type 0} (f : A → B) (P : B → Type 0) (o : Option A) → IfSome o (λ x. P (f x)) → IfSome (option_map f o) P
if_some_as f P None h = tt
if_some_as f P (Some x) h = h

-- the same by the predicate that was found, and of rows that are lent
pub IsNarrowed-drop_policy : {A B : Type 0} (now : B → HiddenRows) (l : Option B) (condition : A → Condition) (found : Option A) (hidden : Option HiddenRows) → option_map now l ≡ hidden
    → (e u : Store) (d : Database) (n : ℕ) (rel name : Name) (is : u ≡ e) (s : IsSoundStore e) (table : RelId) → IsGuarded (database_of u) n (drop_policy rel name) rel (Ok table) d
    → IfSome found (λ p. IsRestricted e rel name (condition p)) → IfSome hidden (IsHidden (with_database d u) table.0 (option_map condition found))
    → is_some hidden ≡ true → AllByRecursion (IsNarrowed (with_database d u) (option_map now l)) (with_database d u).circuits
IsNarrowed-drop_policy now l condition found hidden lent e u d n rel name is s table told r h some =
    subst (λ (o : Option HiddenRows). AllByRecursion (IsNarrowed (with_database d u) o) (with_database d u).circuits) (sym lent)
    (policy_brings e u d n rel name is s table told (option_map condition found) (if_some_as condition (IsRestricted e rel name) found r) hidden h some)

-- ---- the condition, and the rows, by what calls answered

pub IsRestricted-policies_of : (e : Store) (k : Access) (rel name : Name) (t : ℕ) (u c : Condition) → k ≡ e.known → rel_of e.catalog rel ≡ t → c ≡ u
    → AllByRecursion (IsRestriction name u) (policies_of (slice_get k.rights.guards t)) → names_user u ≡ false → IsRestricted e rel name c
IsRestricted-policies_of e k rel name t u c known number same each plain = record {
  each = subst (λ (x : Condition). AllByRecursion (IsRestriction name x) (policies_of (slice_get e.known.rights.guards (rel_of e.catalog rel)))) (sym same)
      (subst (λ (n : ℕ). AllByRecursion (IsRestriction name u) (policies_of (slice_get e.known.rights.guards n))) (sym number)
      (subst (λ (x : Access). AllByRecursion (IsRestriction name u) (policies_of (slice_get x.rights.guards t))) known each));
  plain = ap names_user same ∙ plain;
}

pub IsHidden-filter : (e : Store) (ts : List Table) (t : ℕ) (h : HiddenRows) (asked : Option Condition) (c : Condition) → ts ≡ e.tables → h.table ≡ t
    → asked ≡ Some c
    → SameZ h.rows (filter (λ x. not (holds c [] x.0)) (rows_of ts t)) → IsHidden e t asked h
IsHidden-filter e ts t h asked c tables here is rows = record {
  table = here;
  condition = c;
  asked = is;
  rows = subst (λ (x : List Table). SameZ h.rows (filter (λ y. not (holds c [] y.0)) (rows_of x t))) tables rows;
}

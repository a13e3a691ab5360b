-- The tests of a write that look at no row of a table.
use Rattle.std.proofs.Common.{◌≡◌, ℕ, zero, suc, ◌-◌, ◌<◌, Bool, true, false, cond, not, ◌&&◌, List, [], ◌∷◌, length, map, get_or, Option, None, Some, refl, sym, ap, subst, ◌∙◌, arith}
use Rattle.std.specs.Prelude.{Result, Err, is_some, option_map, slice_get, unwrap_or}
use Rattle.std.specs.Borrow.{Bor}
use Rattle.std.specs.List.{AllByRecursion, list_all}
use Rattle.iv_rows.specs.Cell.{Cell}
use Rattle.iv_rows.specs.Columns.{Column, accepts, kinds_of}
use Rattle.iv_bind.specs.Catalogs.{named}
use Rattle.iv_access.specs.Privileges.{first_missing, has}
use Rattle.iv_access.specs.Rights.{Name}
use Rattle.iv_access.specs.declared.policy.Check.{Check}
use Rattle.iv_access.specs.declared.privilege.Privilege.{Privilege}
use Rattle.iv_machine.specs.Act as machine
use Rattle.iv_machine.specs.Act.{Entry, Op, write}
use Rattle.iv_machine.specs.Refusing.{checks_for, each_entry, entry_check, entry_policies, entry_privileges, entry_shape, first, frame_refusal, missing, or_else, rows_in, test}
use Rattle.iv_machine.specs.State.{Frame, name_of, session_of, table_columns}
use Rattle.iv_database.specs.Database.{Database, frame_of}
use Rattle.iv_database.specs.Placed.{Placed, entry_of, first_of}
use Rattle.iv_database.specs.Resolving.{AreChecked, AreEntries}
use Rattle.iv_command.specs.Stops.{IsTested}
use Rattle.iv_command.specs.Views.{refusal_of}
use Rattle.iv_command.specs.declared.stop.Stop.{Stop}
use Rattle.iv_command.specs.declared.stop.Stop.TheVariants.{Refused, Memory}
use Rattle.iv_database.proofs.RightsRefusals.{first-tests_by}

-- ---- the shape of an entry

pub entry_shape-named : (f : Frame) (n : ℕ) (name : Name) (op : Op) (k : ℕ) (c : List Column) → is_some (named f.catalog name) ≡ true → table_columns f.catalog name ≡ Some c
    → entry_shape f n (record { rel = name; op = op; copies = k }) ≡ or_else (test (not (list_all (accepts (kinds_of c)) (rows_in op))) (machine.bad_row n)) None
entry_shape-named f n name op k c there columns =
    λ i. or_else (test (not (there i)) machine.unknown_relation) (or_else (test (not (is_some (columns i))) machine.not_a_table) (or_else (test (not (list_all (accepts (kinds_of (unwrap_or (columns i) []))) (rows_in op))) (machine.bad_row n)) None))

pub get_is : (cs : List (List Column)) (k : ℕ) (c : List Column) → k < length cs → c ≡ get_or cs k c → slice_get cs k ≡ Some c
get_is [] k c l h = absurd (omega arith)
get_is (d ∷ cs) zero c l h = ap Some (sym h)
get_is (d ∷ cs) (suc k) c l h = get_is cs k c (omega arith) h

-- ---- privileges

-- the first that is missing, as it is told
abbrev told : Name → Option (Privilege × ℕ) → Option machine.Refusal
told name p = option_map (λ x. machine.missing_privilege x.0 name) p

pub missing_is : (f : Frame) (role k : ℕ) (name : Name) (ps : List Privilege) → name_of f.catalog k ≡ name
    → missing f (first_missing f.rights role (map (λ p. (p, k)) ps)) ≡ option_map (λ x. machine.missing_privilege x.0 name) (first_missing f.rights role (map (λ p. (p, k)) ps))
missing_is f role k name [] h = refl
missing_is f role k name (p ∷ ps) h = by (has f.rights role p k) (missing_is f role k name ps h)
  where
    by : (b : Bool) → missing f (first_missing f.rights role (map (λ p. (p, k)) ps)) ≡ told name (first_missing f.rights role (map (λ p. (p, k)) ps))
        → missing f (cond b (first_missing f.rights role (map (λ p. (p, k)) ps)) (Some (p, k))) ≡ told name (cond b (first_missing f.rights role (map (λ p. (p, k)) ps)) (Some (p, k)))
    by true ih = ih
    by false ih = ap (λ x. Some (machine.missing_privilege p x)) h

-- ---- tests one after another

-- the first fails
pub IsTested-Err : (o rest : Option machine.Refusal) (stop : Stop) → IsTested o (Err stop) → IsTested (or_else o rest) (Err stop)
IsTested-Err o rest (Refused r) h = ap (λ x. or_else x rest) h
IsTested-Err o rest Memory h = tt

-- tests of rows that are borrowed
pub first_of-first : (f : Check × List Cell → Option machine.Refusal) (tests : List (Check × Bor (List Cell))) → first_of f tests ≡ first (map f (map (λ t. (t.0, t.1.now)) tests))
first_of-first f [] = refl
first_of-first f (t ∷ ts) = ap (or_else (f (t.0, t.1.now))) (first_of-first f ts)

-- the tests of an update
pub IsTested-update : (f : Frame) (role n : ℕ) (p : Placed) (old new : List Cell) (x : Result Unit Stop) → p.op ≡ machine.update old new
    → IsTested (first (map (entry_check f role n p.name) (checks_for (machine.update old new)))) x → IsTested (entry_policies f role n (entry_of p)) x
IsTested-update f role n p old new x is h = subst (λ (o : Op). IsTested (first (map (entry_check f role n p.name) (checks_for o))) x) (sym is) h

-- ---- the tests in their order

module _ (e : Database) (a : ℕ) (n : ℕ) (es : List Entry) (acting : Some a ≡ option_map (λ s. s.role) (session_of e.sessions n)) where
  in_order : frame_refusal (frame_of e) n (write es) ≡ or_else (each_entry (entry_shape (frame_of e)) 1 es) (or_else (each_entry (entry_privileges (frame_of e) a) 1 es) (or_else (each_entry (entry_policies (frame_of e) a) 1 es) None))
  in_order = first-tests_by e n a (write es) acting

  by_shape : (r : machine.Refusal) → each_entry (entry_shape (frame_of e)) 1 es ≡ Some r → frame_refusal (frame_of e) n (write es) ≡ Some r
  by_shape r shape = in_order ∙ ap (λ x. or_else x (or_else (each_entry (entry_privileges (frame_of e) a) 1 es) (or_else (each_entry (entry_policies (frame_of e) a) 1 es) None))) shape

  pub shape_stops : (stop : Stop) → AreEntries (frame_of e) es (Err stop) → AreChecked (frame_of e) n es (Err stop)
  shape_stops (Refused r) h = by_shape (refusal_of r) h
  shape_stops Memory h = tt

  module _ (shape : each_entry (entry_shape (frame_of e)) 1 es ≡ None) where
    by_privilege : (r : machine.Refusal) → each_entry (entry_privileges (frame_of e) a) 1 es ≡ Some r → frame_refusal (frame_of e) n (write es) ≡ Some r
    by_privilege r lacks = in_order ∙ (λ i. or_else (shape i) (or_else (lacks i) (or_else (each_entry (entry_policies (frame_of e) a) 1 es) None)))

    pub by_policy : (o : Option machine.Refusal) → each_entry (entry_privileges (frame_of e) a) 1 es ≡ None → each_entry (entry_policies (frame_of e) a) 1 es ≡ o → frame_refusal (frame_of e) n (write es) ≡ o
    by_policy o has_all denied = in_order ∙ (λ i. or_else (shape i) (or_else (has_all i) (or_else (denied i) None))) ∙ last o
      where
        last : (o : Option machine.Refusal) → or_else o None ≡ o
        last None = refl
        last (Some r) = refl

    pub privilege_stops : (stop : Stop) → IsTested (each_entry (entry_privileges (frame_of e) a) 1 es) (Err stop) → AreChecked (frame_of e) n es (Err stop)
    privilege_stops (Refused r) h = by_privilege (refusal_of r) h
    privilege_stops Memory h = tt

    pub policy_stops : each_entry (entry_privileges (frame_of e) a) 1 es ≡ None → (stop : Stop) → IsTested (each_entry (entry_policies (frame_of e) a) 1 es) (Err stop) → AreChecked (frame_of e) n es (Err stop)
    policy_stops has_all (Refused r) h = by_policy (Some (refusal_of r)) has_all h
    policy_stops has_all Memory h = tt

-- ---- entries that keep the rules on shape

pub and-true_both : (b c : Bool) → (b && c) ≡ true → (b ≡ true) × (c ≡ true)
and-true_both true c h = (refl, h)
and-true_both false c h = cc

-- what holds of all holds of the last
pub last-AllByRecursion : {A : Type 0} (P : A → Type 0) (xs : List A) (d : A) → AllByRecursion P xs → 0 < length xs → d ≡ get_or xs (length xs - 1) d → P d
last-AllByRecursion P [] d a l h = absurd (omega arith)
last-AllByRecursion P (x ∷ []) d a l h = subst P (sym h) a.0
last-AllByRecursion P (x ∷ y ∷ xs) d a l h =
    let less : suc (suc (length xs)) - 1 ≡ suc (suc (length xs) - 1) = omega arith in
    last-AllByRecursion P (y ∷ xs) d a.1 (omega arith) (h ∙ ap (λ k. get_or (x ∷ y ∷ xs) k d) less)

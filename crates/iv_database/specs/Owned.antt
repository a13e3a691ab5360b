-- The requests on the policies of a table, which its owner and `admin` alone may make.
use Rattle.std.specs.Prelude.{◌≡◌, ℕ, ◌<◌, Bool, true, not, nat_le, List, ◌∷◌, length, Option, Some, None, option_map, is_some, slice_get, Result, Ok, Err}
use Rattle.std.specs.List.{list_all}
use Rattle.iv_rows.specs.Columns.{Column}
use Rattle.iv_algebra.specs.declared.pred.Pred.{Pred}
use Rattle.iv_algebra.specs.Shapes.{Condition, condition_of}
use Rattle.iv_bind.specs.BoundTexts.{TextFault}
use Rattle.iv_bind.specs.Catalogs.{named, schema_of}
use Rattle.iv_access.specs.NewPolicies.{NewPolicy, policy_from}
use Rattle.iv_access.specs.Changing.{with_policy}
use Rattle.iv_access.specs.Faults.{is_grantee}
use Rattle.iv_access.specs.Policies.{policies_of, policy_of}
use Rattle.iv_access.specs.Privileges.{owns}
use Rattle.iv_access.specs.Rights.{Name, Rights}
use Rattle.iv_rows.specs.declared.schema.RelId.{RelId}
use Rattle.iv_machine.specs.Act.{Act, PolicyText, Refusal, create_policy, name_taken, no_session, unknown_role}
use Rattle.iv_machine.specs.Changing as machine
use Rattle.iv_machine.specs.Refusing.{bad_policy_text, bad_text, first, frame_refusal, known_relation, or_else, owner_alone, table_alone, test}
use Rattle.iv_machine.specs.State.{Frame, actor, columns_at, is_open, rel_of, table_columns}
use Rattle.iv_database.specs.Database.{Database, frame_of, with_rights}
use Rattle.iv_database.specs.Next.{database_after}
use Rattle.iv_command.specs.Views.{refusal_of}
use Rattle.iv_database.specs.declared.policies.Predicates.{Predicates}
use Rattle.iv_command.specs.declared.stop.Stop.{Stop}
use Rattle.iv_command.specs.declared.stop.Stop.TheVariants.{Refused, Memory}

-- ---- texts

-- the condition of a text, or the refusal that tells its first fault, unless memory runs out
abbrev pub IsBound : Result Condition TextFault → Result Pred Stop → Type 0
IsBound bound (Ok pred) = bound ≡ Ok (condition_of pred)
IsBound bound (Err (Refused r)) = bad_text bound ≡ Some (refusal_of r)
IsBound bound (Err Memory) = Unit {0}

-- the same of a text that may be missing
abbrev pub IsBoundText : List Column → Option (List ℕ) → Result (Option Pred) Stop → Type 0
IsBoundText columns text (Ok pred) = (bad_policy_text columns text ≡ None) × (machine.condition_of_text columns text ≡ option_map condition_of pred)
IsBoundText columns text (Err (Refused r)) = bad_policy_text columns text ≡ Some (refusal_of r)
IsBoundText columns text (Err Memory) = Unit {0}

-- the tests of the two texts
abbrev pub text_tests : List Column → PolicyText → Option Refusal
text_tests columns p = or_else (bad_policy_text columns p.using_text) (bad_policy_text columns p.check_text)

-- the conditions of both texts, or the refusal that tells the first fault
abbrev pub AreBound : List Column → PolicyText → Result Predicates Stop → Type 0
AreBound columns p (Ok preds) = (text_tests columns p ≡ None)
    × (machine.condition_of_text columns p.using_text ≡ option_map condition_of preds.using)
    × (machine.condition_of_text columns p.check_text ≡ option_map condition_of preds.check)
AreBound columns p (Err (Refused r)) = text_tests columns p ≡ Some (refusal_of r)
AreBound columns p (Err Memory) = Unit {0}

-- ---- the owner

-- the tests that all such requests have, and more
abbrev pub owner_tests : Frame → ℕ → Name → List (Option Refusal) → Option Refusal
owner_tests f n rel more = or_else (test (not (is_open f n)) no_session)
    (first (known_relation f rel ∷ table_alone f rel ∷ owner_alone f (actor f n) rel ∷ more))

-- the role of the session may change the policies of the table of the name
pub record IsOwner (e : Database) (n : ℕ) (rel : Name) (t : RelId) : Type 0 where
  pub session : is_open (frame_of e) n ≡ true
  pub known : is_some (named e.catalog rel) ≡ true
  pub number : rel_of e.catalog rel ≡ t.0
  pub columns : table_columns e.catalog rel ≡ schema_of e.catalog t.0
  pub table : is_some (schema_of e.catalog t.0) ≡ true
  pub below : t.0 < length e.catalog
  pub owns : owns e.known.rights (actor (frame_of e) n) t.0 ≡ true

-- it may, or the refusal that tells the first test that fails, whatever tests follow
abbrev pub IsOwned : Database → ℕ → Name → Result RelId Stop → Type 0
IsOwned e n rel (Ok t) = IsOwner e n rel t
IsOwned e n rel (Err (Refused r)) = (more : List (Option Refusal)) → owner_tests (frame_of e) n rel more ≡ Some (refusal_of r)
IsOwned e n rel (Err Memory) = Unit {0}

-- ---- a policy

-- each role is known, and the name is free
abbrev pub named_tests : Rights → ℕ → Name → List (Option Name) → Option Refusal
named_tests r table name to = or_else (test (not (list_all (is_grantee r) to)) unknown_role) (test (is_some (policy_of r table name)) name_taken)

abbrev pub name_tests : Rights → ℕ → PolicyText → Option Refusal
name_tests r table p = named_tests r table p.name p.to

-- the table may have another policy
abbrev pub has_room : Rights → ℕ → Bool
has_room r table = not (nat_le 32 (length (policies_of (slice_get r.guards table))))

-- the policy with its predicates
abbrev pub asked : PolicyText → Predicates → NewPolicy
asked p preds = record {
  name = p.name;
  restrictive = p.restrictive;
  command = p.command;
  to = p.to;
  using = option_map condition_of preds.using;
  check = option_map condition_of preds.check;
}

-- with the policy
abbrev pub with_asked : ℕ → NewPolicy → Database → Database
with_asked table a e = with_rights (with_policy table (policy_from e.known.rights a) e.known.rights) e

-- all tests of a policy pass but that of the number of policies
pub record IsReady (e : Database) (n : ℕ) (p : PolicyText) (t : RelId) (preds : Predicates) : Type 0 where
  pub owner : IsOwner e n p.rel t
  pub names : name_tests e.known.rights t.0 p ≡ None
  pub texts : AreBound (columns_at (frame_of e).catalog p.rel) p (Ok preds)

-- they do, or the refusal that tells the first that fails
abbrev pub IsChecked : Database → ℕ → PolicyText → Result (RelId × Predicates) Stop → Type 0
IsChecked e n p (Ok c) = IsReady e n p c.0 c.1
IsChecked e n p (Err (Refused r)) = frame_refusal (frame_of e) n (create_policy p) ≡ Some (refusal_of r)
IsChecked e n p (Err Memory) = Unit {0}

-- ---- the requests

-- they have changed the table of the name; or the refusal that tells the first test that fails, and nothing has changed,
-- unless memory runs out
abbrev pub IsGuarded : Database → ℕ → Act → (rel : Name) → Result RelId Stop → Database → Type 0
IsGuarded d n act rel (Ok table) new = (frame_refusal (frame_of d) n act ≡ None) × (rel_of d.catalog rel ≡ table.0) × (new ≡ database_after d n act)
IsGuarded d n act rel (Err (Refused r)) new = (frame_refusal (frame_of d) n act ≡ Some (refusal_of r)) × (new ≡ d)
IsGuarded d n act rel (Err Memory) new = Unit {0}

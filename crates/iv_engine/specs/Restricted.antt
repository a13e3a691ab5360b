-- The rows that come back when a restrictive policy goes.
use Rattle.std.specs.Prelude.{◌≡◌, ℕ, ◌||◌, Bool, true, false, not, [], Option, Some, filter, slice_get}
use Rattle.std.specs.List.{AllByRecursion}
use Rattle.iv_zset.specs.Weights.{SameZ}
use Rattle.iv_algebra.specs.Contents.{rows_of}
use Rattle.iv_algebra.specs.Evaluation.{holds}
use Rattle.iv_algebra.specs.Shapes.{Condition, Constant, Compare, And, Or, Not, Term, Column, Literal, User}
use Rattle.iv_access.specs.Policies.{IsRestriction, policies_of}
use Rattle.iv_access.specs.Rights.{Name}
use Rattle.iv_circuit.specs.Circuits.{HiddenRows}
use Rattle.iv_machine.specs.State.{rel_of}
use Rattle.iv_store.specs.Store.{Store}

-- the term is the name of the user
abbrev pub is_user : Term → Bool
is_user (Column k) = false
is_user (Literal v) = false
is_user User = true

-- the condition reads the name of the user
abbrev pub names_user : Condition → Bool
names_user (Constant b) = false
names_user (Compare a c b) = is_user a || is_user b
names_user (And a b) = names_user a || names_user b
names_user (Or a b) = names_user a || names_user b
names_user (Not a) = names_user a

-- what policies of the name ask of the table's rows that are there; whoever reads, they hide the same rows
pub record IsRestricted (e : Store) (rel name : Name) (c : Condition) : Type 0 where
  pub each : AllByRecursion (IsRestriction name c) (policies_of (slice_get e.known.rights.guards (rel_of e.catalog rel)))
  pub plain : names_user c ≡ false

-- the rows of the table that the condition does not hold of
pub record IsHidden (e : Store) (t : ℕ) (o : Option Condition) (h : HiddenRows) : Type 0 where
  pub table : h.table ≡ t
  pub condition : Condition
  pub asked : o ≡ Some condition
  pub rows : SameZ h.rows (filter (λ x. not (holds condition [] x.0)) (rows_of e.tables t))

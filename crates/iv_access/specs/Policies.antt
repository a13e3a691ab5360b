-- What policies say of a row (PostgreSQL 16, Row Security Policies, and CREATE POLICY).
-- Read `verdict`: a role passes that policies do not bind; of another some permissive policy that applies has to pass, and then each restrictive one.
-- `role` and `table` are numbers, `p` is a policy, `test` what a row is tested for, and `user` the name of the role, which is not that of a role that it reaches.
use Rattle.std.specs.Prelude.{◌≡◌, ℕ, ◌&&◌, ◌||◌, Bool, true, false, not, if◌then◌else◌, List, [], ◌∷◌, Option, Some, None, option_map, position, bytes_eq, slice_get}
use Rattle.std.specs.List.{list_any, filter}
use Rattle.iv_algebra.specs.Rows.{Cells}
use Rattle.iv_algebra.specs.Plans.{Lists}
use Rattle.iv_algebra.specs.Shapes.{Condition}
use Rattle.iv_algebra.specs.Evaluation.{holds}
use Rattle.iv_access.specs.declared.policy.PolicyCommand.{PolicyCommand}
use Rattle.iv_access.specs.declared.policy.PolicyCommand.TheVariants as command
use Rattle.iv_access.specs.declared.policy.Check.{Check}
use Rattle.iv_access.specs.declared.policy.Check.TheVariants.{Select, Insert, UpdateOld, UpdateNew, Delete}
use Rattle.iv_access.specs.declared.policy.Verdict.{Verdict}
use Rattle.iv_access.specs.declared.policy.Verdict.TheVariants.{Pass, NoPermissive, Restrictive}
use Rattle.iv_access.specs.Rights.{Name, Guard, Policy, Rights}
use Rattle.iv_roles.specs.Roles.{is_admin}
use Rattle.iv_access.specs.Privileges.{is_for, is_owner, role_name}

-- ---- what a write is tested for

-- the tests of an update in their order, each with its row (PostgreSQL 16, CREATE POLICY, Policies Applied by Command Type)
abbrev pub update_tests : (old new : Cells) → List (Check × Cells)
update_tests old new = (Select, old) ∷ (UpdateOld, old) ∷ (UpdateNew, new) ∷ (Select, new) ∷ []

-- ---- which policies apply, and what they look at

-- a policy for the command applies to the test
abbrev pub covers : PolicyCommand → Check → Bool
covers command.All test = true
covers command.Select Select = true
covers command.Insert Insert = true
covers command.Update UpdateOld = true
covers command.Update UpdateNew = true
covers command.Delete Delete = true
covers _ _ = false

-- the policy is for the test, and goes to the role
abbrev pub applies : Rights → ℕ → Check → Policy → Bool
applies r role test p = covers p.command test && list_any (is_for r role) p.to

abbrev pub or_later : Option Condition → Option Condition → Option Condition
or_later None later = later
or_later (Some c) later = Some c

-- a row that is added is checked, by `using` where there is no `check`
abbrev pub predicate : Check → Policy → Option Condition
predicate Select p = p.using
predicate Insert p = or_later p.check p.using
predicate UpdateOld p = p.using
predicate UpdateNew p = or_later p.check p.using
predicate Delete p = p.using

-- no policy lacks the predicate of a test that it applies to
abbrev pub is_met : Option Condition → Name → Cells → Bool
is_met None user row = false
is_met (Some c) user row = holds c user row

abbrev pub passes : Name → Check → Cells → Policy → Bool
passes user test row p = is_met (predicate test p) user row

-- a permissive policy that applies and passes
abbrev pub permits : Rights → ℕ → Check → Cells → Policy → Bool
permits r role test row p = not p.restrictive && (applies r role test p && passes (role_name r role) test row p)

-- a restrictive policy that applies and fails
abbrev pub forbids : Rights → ℕ → Check → Cells → Policy → Bool
forbids r role test row p = p.restrictive && (applies r role test p && not (passes (role_name r role) test row p))

-- ---- the verdict

abbrev pub policies_of : Option Guard → List Policy
policies_of None = []
policies_of (Some g) = g.policies

-- policies have no effect: row security is off, or the role is `admin`, or the owner unless it is forced
abbrev pub is_exempt : Rights → ℕ → Option Guard → Bool
is_exempt r role None = false
is_exempt r role (Some g) = not g.enabled || (is_admin role || (is_owner r role (Some g) && not g.forced))

abbrev pub failed_at : Option ℕ → Verdict
failed_at None = Pass
failed_at (Some place) = Restrictive place

-- some permissive policy has to pass, and then each restrictive one; the first by name that fails is told
abbrev pub by_policies : Rights → ℕ → Check → Cells → List Policy → Verdict
by_policies r role test row ps =
    if list_any (permits r role test row) ps then failed_at (position (forbids r role test row) ps)
    else NoPermissive

abbrev pub verdict : Rights → (role table : ℕ) → Check → Cells → Verdict
verdict r role table test row = let guard = slice_get r.guards table in
    if is_exempt r role guard then Pass else by_policies r role test row (policies_of guard)

-- the table's policy of a name
abbrev pub is_named : Name → Policy → Bool
is_named name p = bytes_eq name p.name

abbrev pub policy_of : Rights → ℕ → Name → Option ℕ
policy_of r table name = position (is_named name) (policies_of (slice_get r.guards table))

-- the name of the table's policy at a place
abbrev pub policy_name : Rights → (table place : ℕ) → Option Name
policy_name r table place = option_map (λ p. p.name) (slice_get (policies_of (slice_get r.guards table)) place)

-- if the policy has the name, it is restrictive, and the condition is that of rows that are there
abbrev pub IsRestriction : Name → Condition → Policy → Type 0
IsRestriction name c p = is_named name p ≡ true → (p.restrictive ≡ true) × (p.using ≡ Some c)

-- ---- the rows that a reader sees

abbrev pub is_pass : Verdict → Bool
is_pass Pass = true
is_pass NoPermissive = false
is_pass (Restrictive place) = false

-- the reader's filter on a table
abbrev pub may_see : Rights → (role table : ℕ) → Cells → Bool
may_see r role table row = is_pass (verdict r role table Select row)

-- the rows of each table that the role sees, before any operator
abbrev pub allowed : Rights → ℕ → Lists → Lists
allowed r role T = λ t. filter (may_see r role t) (T t)

-- How the logic stores rights, so that a value that a contract sees may hold them.
use Rattle.std.specs.Prelude.{ℕ, Bool, true, cond, ◌==◌, List, ◌≡◌, ◌⊎◌, Option, refl}
use Rattle.std.specs.Coded.{Coded, code_by, coded_ℕ, coded_bool, coded_list, coded_option, coded×, coded⊎}
use mathlib.Core.Logic.{inl, inr}
use Rattle.iv_rows.specs.declared.value.Kind.{Kind}
use Rattle.iv_rows.specs.declared.value.Kind.TheVariants as kind
use Rattle.iv_algebra.specs.Shapes.{Condition}
use Rattle.iv_algebra.specs.Codes.{condition_code}
use Rattle.iv_access.specs.declared.privilege.Privilege.{Privilege}
use Rattle.iv_access.specs.declared.privilege.Privilege.TheVariants.{Select, Insert, Update, Delete}
use Rattle.iv_access.specs.declared.policy.PolicyCommand.{PolicyCommand}
use Rattle.iv_access.specs.declared.policy.PolicyCommand.TheVariants as command
use Rattle.iv_roles.specs.Memberships.{Membership}
use Rattle.iv_roles.specs.Codes.{membership_code}
use Rattle.iv_access.specs.Rights.{Name, Grantee, Public, Role, Grant, Guard, Policy, Rights}
use Rattle.iv_access.specs.Access.{Relation, Access}
use Rattle.iv_access.specs.NewPolicies.{NewPolicy}
use Rattle.iv_access.specs.Filters.{Filter}
use Rattle.iv_access.specs.Grants.{HeldGrants}

-- ---- grants

abbrev grantee_parts : Grantee → ℕ ⊎ Bool
grantee_parts (Role n) = inl n
grantee_parts Public = inr true

abbrev grantee_from : ℕ ⊎ Bool → Grantee
grantee_from (inl n) = Role n
grantee_from (inr b) = Public

pub grantee_from-grantee_parts : (g : Grantee) → grantee_from (grantee_parts g) ≡ g
grantee_from-grantee_parts Public = refl
grantee_from-grantee_parts (Role n) = refl

abbrev pub grantee_code : Coded Grantee
grantee_code = code_by (ℕ ⊎ Bool) (coded⊎ coded_ℕ coded_bool) grantee_parts grantee_from grantee_from-grantee_parts

abbrev privilege_number : Privilege → ℕ
privilege_number Select = 0
privilege_number Insert = 1
privilege_number Update = 2
privilege_number Delete = 3

abbrev privilege_from : ℕ → Privilege
privilege_from n = cond (n == 0) Select (cond (n == 1) Insert (cond (n == 2) Update Delete))

pub privilege_from-privilege_number : (p : Privilege) → privilege_from (privilege_number p) ≡ p
privilege_from-privilege_number Select = refl
privilege_from-privilege_number Insert = refl
privilege_from-privilege_number Update = refl
privilege_from-privilege_number Delete = refl

abbrev pub privilege_code : Coded Privilege
privilege_code = code_by ℕ coded_ℕ privilege_number privilege_from privilege_from-privilege_number

abbrev pub grant_code : Coded Grant
grant_code =
    code_by (Grantee × (Privilege × ℕ)) (coded× grantee_code (coded× privilege_code coded_ℕ))
    (λ g. (g.grantee, (g.privilege, g.rel))) (λ c. record { grantee = c.0; privilege = c.1.0; rel = c.1.1 }) (λ _. refl)

abbrev pub held_code : Coded HeldGrants
held_code =
    code_by (List Grant × (ℕ × ℕ)) (coded× (coded_list grant_code) (coded× coded_ℕ coded_ℕ))
    (λ h. (h.list, (h.spare, h.relations))) (λ c. record { list = c.0; spare = c.1.0; relations = c.1.1 }) (λ _. refl)

-- ---- policies

abbrev command_number : PolicyCommand → ℕ
command_number command.All = 0
command_number command.Select = 1
command_number command.Insert = 2
command_number command.Update = 3
command_number command.Delete = 4

abbrev command_from : ℕ → PolicyCommand
command_from n = cond (n == 0) command.All (cond (n == 1) command.Select (cond (n == 2) command.Insert (cond (n == 3) command.Update command.Delete)))

pub command_from-command_number : (c : PolicyCommand) → command_from (command_number c) ≡ c
command_from-command_number command.All = refl
command_from-command_number command.Select = refl
command_from-command_number command.Insert = refl
command_from-command_number command.Update = refl
command_from-command_number command.Delete = refl

abbrev pub command_code : Coded PolicyCommand
command_code = code_by ℕ coded_ℕ command_number command_from command_from-command_number

abbrev name_code : Coded Name
name_code = coded_list coded_ℕ

abbrev conditions_code : Coded (Option Condition × Option Condition)
conditions_code = coded× (coded_option condition_code) (coded_option condition_code)

abbrev pub policy_code : Coded Policy
policy_code =
    code_by ((Name × Bool) × ((PolicyCommand × List Grantee) × (Option Condition × Option Condition)))
    (coded× (coded× name_code coded_bool) (coded× (coded× command_code (coded_list grantee_code)) conditions_code))
    (λ p. ((p.name, p.restrictive), ((p.command, p.to), (p.using, p.check))))
    (λ c. record { name = c.0.0; restrictive = c.0.1; command = c.1.0.0; to = c.1.0.1; using = c.1.1.0; check = c.1.1.1 }) (λ _. refl)

abbrev pub asked_code : Coded NewPolicy
asked_code =
    code_by ((Name × Bool) × ((PolicyCommand × List (Option Name)) × (Option Condition × Option Condition)))
    (coded× (coded× name_code coded_bool) (coded× (coded× command_code (coded_list (coded_option name_code))) conditions_code))
    (λ p. ((p.name, p.restrictive), ((p.command, p.to), (p.using, p.check))))
    (λ c. record { name = c.0.0; restrictive = c.0.1; command = c.1.0.0; to = c.1.0.1; using = c.1.1.0; check = c.1.1.1 }) (λ _. refl)

abbrev pub filter_code : Coded Filter
filter_code =
    code_by ((Bool × Name) × (List Condition × List Condition))
    (coded× (coded× coded_bool name_code) (coded× (coded_list condition_code) (coded_list condition_code)))
    (λ f. ((f.exempt, f.user), (f.permissive, f.restrictive)))
    (λ c. record { exempt = c.0.0; user = c.0.1; permissive = c.1.0; restrictive = c.1.1 }) (λ _. refl)

-- ---- rights

abbrev pub guard_code : Coded Guard
guard_code =
    code_by ((ℕ × Bool) × (Bool × List Policy)) (coded× (coded× coded_ℕ coded_bool) (coded× coded_bool (coded_list policy_code)))
    (λ g. ((g.owner, g.enabled), (g.forced, g.policies))) (λ c. record { owner = c.0.0; enabled = c.0.1; forced = c.1.0; policies = c.1.1 }) (λ _. refl)

abbrev pub rights_code : Coded Rights
rights_code =
    code_by ((List Name × List Membership) × (List Guard × List Grant))
    (coded× (coded× (coded_list name_code) (coded_list membership_code)) (coded× (coded_list guard_code) (coded_list grant_code)))
    (λ r. ((r.roles, r.members), (r.guards, r.grants))) (λ c. record { roles = c.0.0; members = c.0.1; guards = c.1.0; grants = c.1.1 }) (λ _. refl)

-- ---- relations

abbrev kind_number : Kind → ℕ
kind_number kind.Int = 0
kind_number kind.Text = 1
kind_number kind.Flag = 2

abbrev kind_from : ℕ → Kind
kind_from n = cond (n == 0) kind.Int (cond (n == 1) kind.Text kind.Flag)

pub kind_from-kind_number : (k : Kind) → kind_from (kind_number k) ≡ k
kind_from-kind_number kind.Int = refl
kind_from-kind_number kind.Text = refl
kind_from-kind_number kind.Flag = refl

abbrev pub kind_code : Coded Kind
kind_code = code_by ℕ coded_ℕ kind_number kind_from kind_from-kind_number

abbrev pub relation_code : Coded Relation
relation_code =
    code_by (Name × Option (List Kind)) (coded× name_code (coded_option (coded_list kind_code)))
    (λ r. (r.name, r.kinds)) (λ c. record { name = c.0; kinds = c.1 }) (λ _. refl)

abbrev pub known_code : Coded Access
known_code =
    code_by (List Relation × Rights) (coded× (coded_list relation_code) rights_code)
    (λ k. (k.relations, k.rights)) (λ c. record { relations = c.0; rights = c.1 }) (λ _. refl)

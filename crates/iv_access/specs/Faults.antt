-- When a change of rights is refused, and why: the tests in their order; when a table takes a policy.
use Rattle.std.specs.Prelude.{ℕ, Bool, true, not, if◌then◌else◌, List, [], ◌∷◌, ◌&&◌, length, Option, Some, None, is_some, nat_le, slice_get, count_by}
use Rattle.std.specs.Bool.{beq}
use Rattle.std.specs.List.{list_all}
use Rattle.iv_access.specs.declared.fault.AccessFault.{AccessFault}
use Rattle.iv_access.specs.declared.fault.AccessFault.TheVariants as fault
use Rattle.iv_access.specs.Rights.{Name, Rights}
use Rattle.iv_roles.specs.Roles.{is_admin}
use Rattle.iv_access.specs.Privileges.{role_of, acts_as, owns}
use Rattle.iv_access.specs.Policies.{policies_of, policy_of}
use Rattle.iv_access.specs.Access.{Access, Relation, relation_of, role_number}

-- the first fault whose test is true
abbrev pub first_fault : List (Bool × AccessFault) → Option AccessFault
first_fault [] = None
first_fault (t ∷ ts) = if t.0 then Some t.1 else first_fault ts

abbrev pub is_role : Rights → Name → Bool
is_role r name = is_some (role_of r name)

-- all roles, or a role that is there
abbrev pub is_grantee : Rights → Option Name → Bool
is_grantee r None = true
is_grantee r (Some name) = is_role r name

-- ---- roles and relations

-- at most 256 roles, with `admin`
abbrev pub create_role_fault : Rights → ℕ → Name → Option AccessFault
create_role_fault r acting name =
    first_fault ((not (is_admin acting), fault.NotAdmin) ∷ (is_role r name, fault.Taken) ∷ (nat_le 256 (length r.roles), fault.TooMany) ∷ [])

-- `to` would become a member of `role`, and may not reach itself so
abbrev pub grant_role_fault : Rights → ℕ → Name → Name → Option AccessFault
grant_role_fault r acting role to =
    first_fault (
    (not (is_admin acting), fault.NotAdmin)
    ∷ (not (is_role r role), fault.Role)
    ∷ (not (is_role r to), fault.Role)
    ∷ (acts_as r (role_number r role) (role_number r to), fault.Loop)
    ∷ [])

abbrev pub revoke_role_fault : Rights → ℕ → Name → Name → Option AccessFault
revoke_role_fault r acting role to =
    first_fault ((not (is_admin acting), fault.NotAdmin) ∷ (not (is_role r role), fault.Role) ∷ (not (is_role r to), fault.Role) ∷ [])

-- how many tables there are, or how many views
abbrev pub count_like : Bool → List Relation → ℕ
count_like table rs = count_by (λ r. beq table (is_some r.kinds)) rs

-- at most 64 tables, and at most 64 views
abbrev pub add_relation_fault : Access → ℕ → Name → Name → Bool → Option AccessFault
add_relation_fault k acting name owner table =
    first_fault (
    (not (is_admin acting), fault.NotAdmin)
    ∷ (not (is_role k.rights owner), fault.Role)
    ∷ (is_some (relation_of k.relations name), fault.Taken)
    ∷ (nat_le 64 (count_like table k.relations), fault.TooMany)
    ∷ [])

-- ---- grants

abbrev pub grant_fault : Rights → (acting rel : ℕ) → Option Name → Option AccessFault
grant_fault r acting rel to = first_fault ((not (owns r acting rel), fault.NotOwner) ∷ (not (is_grantee r to), fault.Role) ∷ [])

-- ---- policies

-- the roles of a policy are there, none of the table's has its name, and there are fewer than 32
abbrev pub takes_policy : Rights → ℕ → Name → List (Option Name) → Bool
takes_policy r table name to =
    list_all (is_grantee r) to && (not (is_some (policy_of r table name)) && not (nat_le 32 (length (policies_of (slice_get r.guards table)))))

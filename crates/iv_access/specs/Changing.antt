-- How rights change.
use Rattle.std.specs.Prelude.{ℕ, zero, suc, ◌==◌, ◌&&◌, Bool, true, false, not, if◌then◌else◌, List, [], ◌∷◌, ◌++◌, length}
use Rattle.std.specs.List.{list_any, filter}
use Rattle.std.specs.Ordering.{nat_cmp, is_lt}
use Rattle.std.specs.Cmp.Lexicographic.{slice_cmp}
use Rattle.iv_access.specs.declared.privilege.Privilege.{Privilege}
use Rattle.iv_access.specs.declared.privilege.Privilege.TheVariants.{Select, Insert, Update, Delete}
use Rattle.iv_access.specs.Rights.{Name, Grantee, Public, Role, Grant, Guard, Policy, Rights}
use Rattle.iv_roles.specs.Memberships.{member_of, with_membership, without_membership}
use Rattle.iv_access.specs.Privileges.{privilege_eq}
use Rattle.iv_access.specs.Policies.{is_named}

-- ---- roles

abbrev pub with_role : Name → Rights → Rights
with_role name r = record r { roles = r.roles ++ name ∷ [] }

-- ---- memberships

-- the member becomes a member of the role
abbrev pub with_member : (role member : ℕ) → Rights → Rights
with_member role member r = record r { members = with_membership (member_of role member) r.members }

abbrev pub without_member : (role member : ℕ) → Rights → Rights
without_member role member r = record r { members = without_membership (member_of role member) r.members }

-- ---- grants

abbrev pub grantee_eq : Grantee → Grantee → Bool
grantee_eq Public Public = true
grantee_eq (Role a) (Role b) = a == b
grantee_eq _ _ = false

abbrev pub grant_eq : Grant → Grant → Bool
grant_eq a b = a.rel == b.rel && (privilege_eq a.privilege b.privilege && grantee_eq a.grantee b.grantee)

-- a grant that is held is not added again
abbrev pub granted : Grant → List Grant → List Grant
granted g gs = if list_any (grant_eq g) gs then gs else gs ++ g ∷ []

abbrev pub revoked : Grant → List Grant → List Grant
revoked g gs = filter (λ h. not (grant_eq g h)) gs

-- a change for each privilege
abbrev pub for_each : (Grant → List Grant → List Grant) → ℕ → List Privilege → Grantee → List Grant → List Grant
for_each change rel [] to gs = gs
for_each change rel (p ∷ ps) to gs = for_each change rel ps to (change (record { grantee = to; privilege = p; rel = rel }) gs)

abbrev pub with_grants : ℕ → List Privilege → Grantee → Rights → Rights
with_grants rel ps to r = record r { grants = for_each granted rel ps to r.grants }

abbrev pub without_grants : ℕ → List Privilege → Grantee → Rights → Rights
without_grants rel ps to r = record r { grants = for_each revoked rel ps to r.grants }

-- ---- relations

abbrev pub all_privileges : List Privilege
all_privileges = Select ∷ Insert ∷ Update ∷ Delete ∷ []

-- the next relation, without row security, whose owner is granted everything
abbrev pub with_relation : ℕ → Rights → Rights
with_relation owner r = with_grants (length r.guards) all_privileges (Role owner)
    (record r { guards = r.guards ++ record { owner = owner; enabled = false; forced = false; policies = [] } ∷ [] })

-- ---- row security and policies

-- what is at a place is changed
abbrev pub changed_at : ℕ → (Guard → Guard) → List Guard → List Guard
changed_at n change [] = []
changed_at zero change (g ∷ gs) = change g ∷ gs
changed_at (suc n) change (g ∷ gs) = g ∷ changed_at n change gs

abbrev pub with_security : ℕ → Bool → Bool → Rights → Rights
with_security table enabled forced r = record r { guards = changed_at table (λ g. record g { enabled = enabled; forced = forced }) r.guards }

-- before the first policy whose name comes later
abbrev pub insert_policy : Policy → List Policy → List Policy
insert_policy p [] = p ∷ []
insert_policy p (q ∷ qs) = if is_lt (slice_cmp nat_cmp p.name q.name) then p ∷ q ∷ qs else q ∷ insert_policy p qs

abbrev pub remove_policy : Name → List Policy → List Policy
remove_policy name ps = filter (λ p. not (is_named name p)) ps

abbrev pub with_policy : ℕ → Policy → Rights → Rights
with_policy table p r = record r { guards = changed_at table (λ g. record g { policies = insert_policy p g.policies }) r.guards }

abbrev pub without_policy : ℕ → Name → Rights → Rights
without_policy table name r = record r { guards = changed_at table (λ g. record g { policies = remove_policy name g.policies }) r.guards }

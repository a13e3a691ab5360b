-- No two roles reach each other in rights that changes lead to.
use Rattle.std.proofs.Common.{◌≡◌, [], ◌∷◌, Bool, true, false, refl, None}
use Rattle.iv_access.specs.declared.fault.AccessFault.TheVariants as fault
use Rattle.iv_access.specs.Faults.{first_fault}
use Rattle.iv_access.specs.Access.{role_number}
use Rattle.iv_roles.specs.Memberships.{member_of}
use Rattle.iv_access.specs.Reached.{IsReached, at_start, role_created, role_granted, role_revoked, relation_added, privileges_granted, privileges_revoked, security_switched, policy_created, policy_dropped}
use Rattle.iv_access.specs.Rights.{Rights}
use Rattle.iv_roles.proofs.Chains.{AreApart, AreApart-none, AreApart-with_membership, AreApart-without_membership}

no_loop : (a b c d : Bool) → first_fault ((a, fault.NotAdmin) ∷ (b, fault.Role) ∷ (c, fault.Role) ∷ (d, fault.Loop) ∷ []) ≡ None → d ≡ false
no_loop true b c d e = cc
no_loop false true c d e = cc
no_loop false false true d e = cc
no_loop false false false true e = cc
no_loop false false false false e = refl

pub AreApart-IsReached : {r : Rights} → IsReached r → AreApart r.members
AreApart-IsReached at_start = AreApart-none
AreApart-IsReached (role_created r name h) = AreApart-IsReached h
AreApart-IsReached (role_granted r acting role to free h) = AreApart-with_membership r.members (member_of (role_number r role) (role_number r to)) (no_loop _ _ _ _ free) (AreApart-IsReached h)
AreApart-IsReached (role_revoked r role member h) = AreApart-without_membership r.members (member_of role member) (AreApart-IsReached h)
AreApart-IsReached (relation_added r owner h) = AreApart-IsReached h
AreApart-IsReached (privileges_granted r rel ps to h) = AreApart-IsReached h
AreApart-IsReached (privileges_revoked r rel ps to h) = AreApart-IsReached h
AreApart-IsReached (security_switched r n enabled forced h) = AreApart-IsReached h
AreApart-IsReached (policy_created r n p free h) = AreApart-IsReached h
AreApart-IsReached (policy_dropped r n name h) = AreApart-IsReached h

-- Worked examples of memberships.
use Rattle.std.specs.Prelude.{pos, negsuc, true, false, [], ◌∷◌, codes, Some}
use Rattle.iv_access.specs.declared.privilege.Privilege.TheVariants.{Select}
use Rattle.iv_access.specs.Rights.{Name}
use Rattle.iv_machine.specs.Act.{create_role, create_table, create_policy, grant, revoke, grant_role, revoke_role, row_security, begin, change, ended, membership_loop, no_session, not_administrator, unknown_role}
use Rattle.tests_machine.specs.OfGrants.{taken_back}
use Rattle.iv_machine.specs.declared.Cause.TheVariants as cause
use Rattle.tests_machine.specs.Worked.{Steps, admin, ann, asks, bob, column, fails, int, notes, of_ann, of_bob, one, opens, policy, put, true_text}

abbrev pub team : Name
team = codes "team"

abbrev pub org : Name
org = codes "org"

-- after `first`: ann reads by a role that she is a member of through another
abbrev pub membership_chain : Steps
membership_chain =
    asks 1 (create_role team) []
    ∷ asks 1 (create_role org) []
    ∷ asks 1 (grant notes (Select ∷ []) (Some org)) []
    ∷ asks 1 (grant_role org team) []
    ∷ asks 1 (grant_role team ann) []
    ∷ asks 1 (revoke notes (Select ∷ []) (Some ann)) []
    ∷ asks 1 (revoke_role org team) taken_back
    ∷ []

-- after `first`: a policy goes to the members of its roles
abbrev pub membership_and_policy : Steps
membership_and_policy =
    asks 1 (row_security notes true false) (change 2 1 ((of_ann 1, negsuc 0) ∷ []) ∷ [])
    ∷ asks 1 (create_role team) []
    ∷ asks 1 (create_policy (record (policy notes (codes "t") true_text) { to = Some team ∷ [] })) []
    ∷ asks 1 (grant_role team ann) (change 2 1 ((of_ann 1, pos 1) ∷ []) ∷ [])
    ∷ asks 1 (revoke_role team ann) (change 2 1 ((of_ann 1, negsuc 0) ∷ []) ∷ [])
    ∷ []

-- after `first`: no role is a member of itself, and a member of the owner acts as the owner
abbrev pub membership_loop_and_owner : Steps
membership_loop_and_owner = let mine = codes "mine" in
    asks 1 (create_role bob) []
    ∷ asks 1 (create_table mine ann (column (codes "id") ∷ [])) []
    ∷ asks 1 (grant_role ann bob) []
    ∷ fails 1 (grant_role bob ann) membership_loop
    ∷ fails 1 (grant_role ann ann) membership_loop
    ∷ asks 3 (begin bob) []
    ∷ asks 3 (row_security mine true false) []
    ∷ asks 3 (put mine (one (int 1))) []
    ∷ opens 3 mine 2 (change 3 2 ((one (int 1), pos 1) ∷ []) ∷ [])
    ∷ asks 3 (row_security mine true true) (change 3 2 ((one (int 1), negsuc 0) ∷ []) ∷ [])
    ∷ []

-- after `first`: what leads to a role by two chains is lost with the last of them, and what was granted twice is revoked once
abbrev pub two_chains : Steps
two_chains = let crew = codes "crew" in
    asks 1 (create_role team) []
    ∷ asks 1 (create_role crew) []
    ∷ asks 1 (create_role org) []
    ∷ asks 1 (grant notes (Select ∷ []) (Some org)) []
    ∷ asks 1 (revoke notes (Select ∷ []) (Some ann)) taken_back
    ∷ asks 1 (grant_role team ann) []
    ∷ asks 1 (grant_role crew ann) []
    ∷ asks 1 (grant_role org team) []
    ∷ asks 1 (grant_role org crew) []
    ∷ fails 1 (grant_role ann org) membership_loop
    ∷ opens 2 notes 2 (change 2 2 ((of_ann 1, pos 1) ∷ []) ∷ [])
    ∷ asks 1 (grant_role org team) []
    ∷ asks 1 (revoke_role org team) []
    ∷ asks 1 (revoke_role org team) []
    ∷ asks 1 (revoke_role org crew) (ended 2 2 cause.Privilege ((of_ann 1, negsuc 0) ∷ []) ∷ [])
    ∷ []

-- after `first`: a policy goes to a role that is reached by two steps
abbrev pub policy_by_two_steps : Steps
policy_by_two_steps =
    asks 1 (row_security notes true false) (change 2 1 ((of_ann 1, negsuc 0) ∷ []) ∷ [])
    ∷ asks 1 (create_role team) []
    ∷ asks 1 (create_role org) []
    ∷ asks 1 (create_policy (record (policy notes (codes "o") true_text) { to = Some org ∷ [] })) []
    ∷ asks 1 (grant_role org team) []
    ∷ asks 1 (grant_role team ann) (change 2 1 ((of_ann 1, pos 1) ∷ []) ∷ [])
    ∷ asks 1 (revoke_role org team) (change 2 1 ((of_ann 1, negsuc 0) ∷ []) ∷ [])
    ∷ []

-- after `first`: one command ends a subscription, for want of a privilege, and takes the rows of another, for want of a policy
abbrev pub revoke_ends_and_takes : Steps
revoke_ends_and_takes =
    asks 1 (create_role team) []
    ∷ asks 1 (create_role bob) []
    ∷ asks 1 (grant notes (Select ∷ []) (Some team)) []
    ∷ asks 1 (grant notes (Select ∷ []) (Some bob)) []
    ∷ asks 1 (grant_role team ann) []
    ∷ asks 1 (grant_role ann bob) []
    ∷ asks 1 (revoke notes (Select ∷ []) (Some ann)) []
    ∷ asks 1 (row_security notes true false) (change 2 1 ((of_ann 1, negsuc 0) ∷ []) ∷ [])
    ∷ asks 1 (create_policy (record (policy notes (codes "t") true_text) { to = Some team ∷ [] })) (change 2 1 ((of_ann 1, pos 1) ∷ []) ∷ [])
    ∷ asks 3 (begin bob) []
    ∷ opens 3 notes 2 (change 3 2 ((of_ann 1, pos 1) ∷ []) ∷ [])
    ∷ asks 1 (revoke_role team ann) (ended 2 1 cause.Privilege ((of_ann 1, negsuc 0) ∷ []) ∷ change 3 2 ((of_ann 1, negsuc 0) ∷ []) ∷ [])
    ∷ []

-- after `first`: a role that a policy goes to lends its rows, and not its name
abbrev pub members_keep_their_names : Steps
members_keep_their_names =
    asks 1 (row_security notes true false) (change 2 1 ((of_ann 1, negsuc 0) ∷ []) ∷ [])
    ∷ asks 1 (create_role bob) []
    ∷ asks 1 (put notes (of_bob 2)) []
    ∷ asks 1 (create_policy (record (policy notes (codes "own") (codes "who = current_user")) { to = Some bob ∷ [] })) []
    ∷ asks 1 (grant_role bob ann) (change 2 1 ((of_ann 1, pos 1) ∷ []) ∷ [])
    ∷ []

-- after `first`: what fails first is told
abbrev pub membership_refusals : Steps
membership_refusals =
    fails 3 (grant_role bob bob) no_session
    ∷ fails 2 (grant_role bob bob) not_administrator
    ∷ fails 1 (grant_role bob bob) unknown_role
    ∷ fails 1 (grant_role ann bob) unknown_role
    ∷ fails 1 (grant_role ann ann) membership_loop
    ∷ fails 3 (revoke_role bob bob) no_session
    ∷ fails 2 (revoke_role bob bob) not_administrator
    ∷ fails 1 (revoke_role bob ann) unknown_role
    ∷ fails 1 (revoke_role ann bob) unknown_role
    ∷ asks 1 (revoke_role ann admin) []
    ∷ asks 1 (grant_role ann admin) []
    ∷ []

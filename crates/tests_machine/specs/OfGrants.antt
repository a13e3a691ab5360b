-- Worked examples of grants, revokes, unsubscribes and refusals.
use Rattle.std.specs.Prelude.{ℕ, pos, negsuc, true, List, [], ◌∷◌, ◌++◌, codes, Some, None}
use Rattle.iv_rows.specs.Cell.{text}
use Rattle.iv_query.specs.declared.fault.Why.TheVariants as reading
use Rattle.iv_bind.specs.BoundTexts.{Reading}
use Rattle.iv_access.specs.declared.privilege.Privilege.TheVariants.{Select, Insert, Update, Delete}
use Rattle.iv_access.specs.Rights.{Name}
use Rattle.iv_machine.specs.Act.{begin, finish, create_role, create_table, create_view, grant, revoke, subscribe, unsubscribe, no_session, session_in_use, name_taken, not_a_table, bad_row, not_administrator, missing_privilege, unknown_subscription, too_many, Line, change, ended, row_security, create_policy, drop_policy, write, insert, delete, unknown_role, unknown_relation, not_owner, bad_query}
use Rattle.tests_machine.specs.Worked.{Steps, admin, asks, fails, opens, one, two, int, put, column, ann, bob, notes, of_ann, of_x, many, entry, policy, take, swap}
use Rattle.iv_machine.specs.declared.Cause.TheVariants as cause

-- all that ann holds in subscription 1 is taken back
abbrev pub taken_back : List Line
taken_back = ended 2 1 cause.Privilege ((of_ann 1, negsuc 0) ∷ []) ∷ []

-- after `first`
abbrev pub revoke_takes_back : Steps
revoke_takes_back =
    asks 1 (revoke notes (Select ∷ []) (Some ann)) taken_back
    ∷ asks 1 (grant notes (Select ∷ []) (Some ann)) []
    ∷ asks 1 (put notes (of_x 2)) []
    ∷ opens 2 notes 2 (change 2 2 ((of_ann 1, pos 1) ∷ (of_x 2, pos 1) ∷ []) ∷ [])
    ∷ []

-- after `first`
abbrev pub public_grant_and_revoke : Steps
public_grant_and_revoke =
    asks 1 (grant notes (Select ∷ []) None) []
    ∷ asks 1 (revoke notes (Select ∷ []) (Some ann)) []
    ∷ asks 1 (revoke notes (Select ∷ []) None) taken_back
    ∷ []

-- after `first`
abbrev pub owner_revokes_own : Steps
owner_revokes_own = let mine = codes "mine" in
    asks 1 (create_table mine ann (column (codes "id") ∷ [])) []
    ∷ asks 2 (revoke mine (Insert ∷ []) (Some ann)) []
    ∷ fails 2 (put mine (one (int 1))) (missing_privilege Insert mine)
    ∷ asks 2 (grant mine (Insert ∷ []) (Some ann)) []
    ∷ asks 2 (put mine (one (int 1))) []
    ∷ []

-- after `before_first`
abbrev pub ended_with_no_rows : Steps
ended_with_no_rows = asks 1 (revoke notes (Select ∷ []) (Some ann)) (ended 2 1 cause.Privilege [] ∷ []) ∷ []

-- from the start: owners and `admin` grant and write, and changes come in the order of sessions
abbrev pub owners_grant : Steps
owners_grant = let mine = codes "mine" in
    asks 1 (begin admin) []
    ∷ asks 1 (create_role ann) []
    ∷ asks 1 (create_role bob) []
    ∷ asks 1 (create_table mine ann (column (codes "id") ∷ [])) []
    ∷ asks 2 (begin ann) []
    ∷ asks 3 (begin bob) []
    ∷ fails 3 (subscribe mine) (missing_privilege Select mine)
    ∷ asks 2 (grant mine (Select ∷ []) (Some bob)) []
    ∷ asks 1 (grant mine (Insert ∷ []) (Some bob)) []
    ∷ fails 3 (grant mine (Select ∷ []) (Some ann)) (not_owner mine)
    ∷ opens 3 mine 1 []
    ∷ asks 3 (put mine (one (int 7))) (change 3 1 ((one (int 7), pos 1) ∷ []) ∷ [])
    ∷ opens 2 mine 2 (change 2 2 ((one (int 7), pos 1) ∷ []) ∷ [])
    ∷ asks 1 (write (many 1 mine (insert (one (int 8))) ∷ many 3 mine (insert (one (int 7))) ∷ many 1 mine (insert (one (int 8))) ∷ []))
    (change 2 2 ((one (int 7), pos 3) ∷ (one (int 8), pos 2) ∷ []) ∷ change 3 1 ((one (int 7), pos 3) ∷ (one (int 8), pos 2) ∷ []) ∷ [])
    ∷ asks 2 (grant mine (Select ∷ Select ∷ []) (Some bob)) []
    ∷ []

-- after `first`: a reader needs select on all that a view reaches
abbrev pub reader_needs_every_relation : Steps
reader_needs_every_relation =
    asks 1 (create_role bob) []
    ∷ asks 1 (create_view (codes "v") admin (codes "select id from notes")) []
    ∷ asks 1 (create_view (codes "w") admin (codes "select id from v")) []
    ∷ asks 1 (grant (codes "v") (Select ∷ []) (Some bob)) []
    ∷ asks 1 (grant (codes "w") (Select ∷ []) (Some bob)) []
    ∷ asks 3 (begin bob) []
    ∷ fails 3 (subscribe (codes "v")) (missing_privilege Select notes)
    ∷ fails 3 (subscribe (codes "w")) (missing_privilege Select notes)
    ∷ []

-- after `first`
abbrev pub one_of_each_refusal : Steps
one_of_each_refusal =
    fails 9 finish no_session
    ∷ fails 2 (create_role bob) not_administrator
    ∷ fails 2 (put notes (of_ann 2)) (missing_privilege Insert notes)
    ∷ fails 1 (put notes (two (text (codes "x")) (int 1))) (bad_row 1)
    ∷ fails 2 (begin ann) session_in_use
    ∷ []

-- after `first`
abbrev pub owners_have_all_four : Steps
owners_have_all_four = let mine = codes "mine" in
    asks 1 (create_table mine ann (column (codes "id") ∷ [])) []
    ∷ asks 2 (put mine (one (int 1))) []
    ∷ asks 2 (swap mine (one (int 1)) (one (int 2))) []
    ∷ opens 2 mine 2 (change 2 2 ((one (int 2), pos 1) ∷ []) ∷ [])
    ∷ asks 2 (take mine (one (int 2))) (change 2 2 ((one (int 2), negsuc 0) ∷ []) ∷ [])
    ∷ []

-- after `first`: a delete and an update need select too, which is asked for after their own privilege
abbrev pub select_for_old_rows : Steps
select_for_old_rows =
    asks 1 (revoke notes (Select ∷ []) (Some ann)) taken_back
    ∷ fails 2 (take notes (of_ann 1)) (missing_privilege Delete notes)
    ∷ fails 2 (swap notes (of_ann 1) (of_ann 2)) (missing_privilege Update notes)
    ∷ asks 1 (grant notes (Insert ∷ Update ∷ Delete ∷ []) (Some ann)) []
    ∷ fails 2 (take notes (of_ann 1)) (missing_privilege Select notes)
    ∷ fails 2 (swap notes (of_ann 1) (of_ann 2)) (missing_privilege Select notes)
    ∷ asks 2 (put notes (of_ann 2)) []
    ∷ []

abbrev pub gone : Name
gone = codes "gone"

abbrev pub view_text : List ℕ
view_text = codes "select id from notes"

-- after `first`: what fails first is told
abbrev pub refusals_in_order : Steps
refusals_in_order = let v = codes "v" in
    fails 2 (begin bob) session_in_use
    ∷ fails 3 (begin bob) unknown_role
    ∷ fails 3 (create_role ann) no_session
    ∷ fails 2 (create_role ann) not_administrator
    ∷ fails 1 (create_role ann) name_taken
    ∷ fails 2 (create_table notes bob []) not_administrator
    ∷ fails 1 (create_table notes bob []) unknown_role
    ∷ fails 1 (create_table notes ann []) name_taken
    ∷ fails 2 (create_view notes bob []) not_administrator
    ∷ fails 1 (create_view notes bob []) unknown_role
    ∷ fails 1 (create_view notes ann []) name_taken
    ∷ fails 1 (create_view v ann []) (bad_query 0 (Reading reading.Unexpected))
    ∷ asks 1 (create_view v admin view_text) []
    ∷ fails 2 (grant gone (Select ∷ []) (Some bob)) unknown_relation
    ∷ fails 2 (grant notes (Select ∷ []) (Some bob)) (not_owner notes)
    ∷ fails 1 (revoke notes (Select ∷ []) (Some bob)) unknown_role
    ∷ fails 2 (row_security gone true true) unknown_relation
    ∷ fails 2 (row_security v true true) not_a_table
    ∷ fails 2 (row_security notes true true) (not_owner notes)
    ∷ fails 2 (create_policy (record (policy notes v []) { to = Some bob ∷ [] })) (not_owner notes)
    ∷ fails 1 (create_policy (record (policy notes v []) { to = Some bob ∷ [] })) unknown_role
    ∷ asks 1 (create_policy (policy notes v (codes "true"))) []
    ∷ fails 1 (create_policy (policy notes v [])) name_taken
    ∷ fails 2 (drop_policy v v) not_a_table
    ∷ fails 2 (drop_policy notes gone) (not_owner notes)
    ∷ fails 1 (write (entry notes (insert (of_ann 2)) ∷ entry notes (insert []) ∷ entry gone (insert []) ∷ [])) (bad_row 2)
    ∷ fails 2 (write (entry notes (insert (of_ann 2)) ∷ entry v (insert []) ∷ [])) not_a_table
    ∷ fails 2 (write (entry notes (delete (of_ann 2)) ∷ [])) (missing_privilege Delete notes)
    ∷ fails 2 (subscribe gone) unknown_relation
    ∷ fails 2 (subscribe v) (missing_privilege Select v)
    ∷ fails 1 (unsubscribe 1) unknown_subscription
    ∷ []

-- after `first`
abbrev pub unsubscribe_twice : Steps
unsubscribe_twice =
    asks 2 (unsubscribe 1) []
    ∷ fails 2 (unsubscribe 1) unknown_subscription
    ∷ asks 1 (put notes (of_x 2)) []
    ∷ opens 2 notes 2 (change 2 2 ((of_ann 1, pos 1) ∷ (of_x 2, pos 1) ∷ []) ∷ [])
    ∷ []

-- after `first`: a session that is closed takes its subscriptions with it, without a line, and its number is free
abbrev pub finished_sessions : Steps
finished_sessions =
    asks 2 finish []
    ∷ fails 2 (subscribe notes) no_session
    ∷ asks 1 (put notes (of_ann 2)) []
    ∷ asks 2 (begin ann) []
    ∷ opens 2 notes 2 (change 2 2 ((of_ann 1, pos 1) ∷ (of_ann 2, pos 1) ∷ []) ∷ [])
    ∷ []

-- after `first`
abbrev pub views_are_not_tables : Steps
views_are_not_tables =
    asks 1 (create_view (codes "v") admin (codes "select id from notes")) []
    ∷ fails 1 (put (codes "v") (one (int 1))) not_a_table
    ∷ fails 1 (create_table (codes "v") admin (column (codes "id") ∷ [])) name_taken
    ∷ []

-- further subscriptions of ann's session
abbrev pub further : ℕ → List ℕ → Steps
further n [] = []
further n (k ∷ ks) = opens n notes k (change n k ((of_ann 1, pos 1) ∷ []) ∷ []) ∷ further n ks

-- after `first`
abbrev pub sixteen_subscriptions : Steps
sixteen_subscriptions = further 2 (2 ∷ 3 ∷ 4 ∷ 5 ∷ 6 ∷ 7 ∷ 8 ∷ 9 ∷ 10 ∷ 11 ∷ 12 ∷ 13 ∷ 14 ∷ 15 ∷ 16 ∷ [])
    ++ fails 2 (subscribe notes) too_many
    ∷ asks 2 (unsubscribe 1) []
    ∷ further 2 (17 ∷ [])

-- Worked examples of row security, policies and checked writes.
use Rattle.std.specs.Prelude.{ℕ, zero, suc, ◌++◌, pos, negsuc, true, false, List, [], ◌∷◌, codes, Option, Some, None}
use Rattle.iv_rows.specs.Cell.{num, text}
use Rattle.iv_query.specs.declared.fault.Why.TheVariants as reading
use Rattle.iv_bind.specs.declared.fault.BindWhy.TheVariants as binding
use Rattle.iv_bind.specs.BoundTexts.{Reading, Binding}
use Rattle.iv_access.specs.declared.privilege.Privilege.TheVariants as privilege
use Rattle.iv_access.specs.declared.policy.PolicyCommand.{PolicyCommand}
use Rattle.iv_access.specs.declared.policy.PolicyCommand.TheVariants as command
use Rattle.iv_access.specs.declared.policy.Check.TheVariants as check
use Rattle.iv_access.specs.Rights.{Name}
use Rattle.iv_machine.specs.Act.{Act, create_policy, drop_policy, create_table, row_security, grant, write, insert, delete, no_permissive, restrictive_failed, no_such_row, unknown_policy, bad_query, change}
use Rattle.tests_machine.specs.Worked.{Steps, asks, fails, opens, one, two, int, entry, put, take, swap, policy, restrictive, column, ann, notes, of_ann, of_bob, of_x}

-- after `first`, with row security on
abbrev pub restrictive_alone : Steps
restrictive_alone =
    asks 1 (row_security notes true false) (change 2 1 ((of_ann 1, negsuc 0) ∷ []) ∷ [])
    ∷ asks 1 (restrictive notes (codes "r") (codes "id > 0")) []
    ∷ []

-- after `secured`
abbrev pub insert_check_refused : Steps
insert_check_refused =
    asks 1 (grant notes (privilege.Insert ∷ []) (Some ann)) []
    ∷ fails 2 (put notes (of_bob 2)) (no_permissive notes check.Insert 1)
    ∷ []

-- after that
abbrev pub restrictive_named_first : Steps
restrictive_named_first =
    asks 1 (restrictive notes (codes "b_pos") (codes "id > 0 and id < 150")) []
    ∷ asks 1 (restrictive notes (codes "a_small") (codes "id < 100")) []
    ∷ fails 2 (put notes (two (num (negsuc 0)) (text ann))) (restrictive_failed (codes "b_pos") notes check.Insert 1)
    ∷ fails 2 (put notes (of_ann 200)) (restrictive_failed (codes "a_small") notes check.Insert 1)
    ∷ []

-- after `secured`
abbrev pub update_needs_select_on_new : Steps
update_needs_select_on_new =
    asks 1 (grant notes (privilege.Update ∷ []) (Some ann)) []
    ∷ asks 1 (create_policy (record (policy notes (codes "give") (codes "true")) { command = command.Update; check_text = Some (codes "true") })) []
    ∷ fails 2 (swap notes (of_ann 1) (two (int 1) (text (codes "bob")))) (no_permissive notes check.Select 1)
    ∷ []

-- after `secured`
abbrev pub hidden_row_delete : Steps
hidden_row_delete =
    asks 1 (grant notes (privilege.Delete ∷ []) (Some ann)) []
    ∷ asks 1 (put notes (of_bob 5)) []
    ∷ fails 2 (take notes (of_bob 5)) (no_permissive notes check.Select 1)
    ∷ fails 2 (take notes (of_bob 6)) (no_permissive notes check.Select 1)
    ∷ fails 2 (take notes (of_ann 6)) (no_such_row 1)
    ∷ []

-- after `secured`
abbrev pub update_tests : Steps
update_tests =
    asks 1 (grant notes (privilege.Update ∷ []) (Some ann)) []
    ∷ fails 2 (swap notes (of_ann 1) (of_bob 1)) (no_permissive notes check.UpdateNew 1)
    ∷ asks 2 (swap notes (of_ann 1) (of_ann 2)) (change 2 1 ((of_ann 1, negsuc 0) ∷ (of_ann 2, pos 1) ∷ []) ∷ [])
    ∷ asks 2 (swap notes (of_ann 2) (of_ann 2)) []
    ∷ []

-- after `first`
abbrev pub presence_in_batch_order : Steps
presence_in_batch_order =
    asks 1 (write (entry notes (insert (of_x 7)) ∷ entry notes (delete (of_x 7)) ∷ [])) []
    ∷ fails 1 (write (entry notes (delete (of_x 7)) ∷ entry notes (insert (of_x 7)) ∷ [])) (no_such_row 1)
    ∷ []

-- after `secured`
abbrev pub unknown_name : Steps
unknown_name = fails 1 (drop_policy notes (codes "none")) unknown_policy ∷ []

-- after `first`
abbrev pub refused_batch_leaves_nothing : Steps
refused_batch_leaves_nothing =
    fails 1 (write (entry notes (insert (of_x 2)) ∷ entry notes (insert (of_x 3)) ∷ entry notes (delete (of_x 9)) ∷ [])) (no_such_row 3)
    ∷ opens 2 notes 2 (change 2 2 ((of_ann 1, pos 1) ∷ []) ∷ [])
    ∷ []

-- after `first`
abbrev pub owner_and_force : Steps
owner_and_force = let mine = codes "mine" in
    asks 1 (create_table mine ann (column (codes "id") ∷ [])) []
    ∷ asks 2 (row_security mine true false) []
    ∷ asks 2 (put mine (one (int 1))) []
    ∷ opens 2 mine 2 (change 2 2 ((one (int 1), pos 1) ∷ []) ∷ [])
    ∷ opens 1 mine 3 (change 1 3 ((one (int 1), pos 1) ∷ []) ∷ [])
    ∷ asks 2 (row_security mine true true) (change 2 2 ((one (int 1), negsuc 0) ∷ []) ∷ [])
    ∷ []

-- after `secured`: a row that is added is checked by `check`, if there is one
abbrev pub check_in_place_of_using : Steps
check_in_place_of_using =
    asks 1 (grant notes (privilege.Insert ∷ privilege.Update ∷ []) (Some ann)) []
    ∷ asks 1 (create_policy (record (policy notes (codes "r") (codes "true")) { restrictive = true; check_text = Some (codes "id < 100") })) []
    ∷ fails 2 (put notes (of_ann 200)) (restrictive_failed (codes "r") notes check.Insert 1)
    ∷ fails 2 (swap notes (of_ann 1) (of_ann 200)) (restrictive_failed (codes "r") notes check.UpdateNew 1)
    ∷ asks 2 (swap notes (of_ann 1) (of_ann 99)) (change 2 1 ((of_ann 1, negsuc 0) ∷ (of_ann 99, pos 1) ∷ []) ∷ [])
    ∷ []

-- a policy for one command, which has a text for `using`, or for `check` alone
abbrev pub for_command : PolicyCommand → Name → Option (List ℕ) → Option (List ℕ) → Act
for_command c name using check = create_policy (record (policy notes name []) { command = c; using_text = using; check_text = check })

-- after `first`: a policy is for its command alone
abbrev pub policies_by_command : Steps
policies_by_command =
    asks 1 (row_security notes true false) (change 2 1 ((of_ann 1, negsuc 0) ∷ []) ∷ [])
    ∷ asks 1 (grant notes (privilege.Insert ∷ privilege.Delete ∷ privilege.Update ∷ []) (Some ann)) []
    ∷ asks 1 (for_command command.Insert (codes "i") None (Some (codes "true"))) []
    ∷ asks 2 (put notes (of_ann 2)) []
    ∷ fails 2 (take notes (of_ann 2)) (no_permissive notes check.Select 1)
    ∷ asks 1 (for_command command.Delete (codes "d") (Some (codes "id = 2")) None) []
    ∷ asks 1 (for_command command.Update (codes "u") (Some (codes "id = 1")) (Some (codes "true"))) []
    ∷ fails 2 (take notes (of_ann 2)) (no_permissive notes check.Select 1)
    ∷ asks 1 (for_command command.Select (codes "s") (Some (codes "true")) None) (change 2 1 ((of_ann 1, pos 1) ∷ (of_ann 2, pos 1) ∷ []) ∷ [])
    ∷ fails 2 (take notes (of_ann 1)) (no_permissive notes check.Delete 1)
    ∷ fails 2 (swap notes (of_ann 2) (of_ann 3)) (no_permissive notes check.UpdateOld 1)
    ∷ asks 2 (take notes (of_ann 2)) (change 2 1 ((of_ann 2, negsuc 0) ∷ []) ∷ [])
    ∷ asks 2 (swap notes (of_ann 1) (of_ann 3)) (change 2 1 ((of_ann 1, negsuc 0) ∷ (of_ann 3, pos 1) ∷ []) ∷ [])
    ∷ []

-- after `secured`: a row is seen as long as some policy lets it pass
abbrev pub policy_swap_same_rows : Steps
policy_swap_same_rows =
    asks 1 (create_policy (policy notes (codes "own2") (codes "who = current_user"))) []
    ∷ asks 1 (drop_policy notes (codes "own")) []
    ∷ asks 1 (drop_policy notes (codes "own2")) (change 2 1 ((of_ann 1, negsuc 0) ∷ []) ∷ [])
    ∷ []

-- after `secured`
abbrev pub policy_adds_a_row : Steps
policy_adds_a_row =
    asks 1 (put notes (of_bob 5)) []
    ∷ asks 1 (create_policy (policy notes (codes "b5") (codes "id = 5"))) (change 2 1 ((of_bob 5, pos 1) ∷ []) ∷ [])
    ∷ asks 1 (write (entry notes (delete (of_ann 1)) ∷ entry notes (delete (of_bob 5)) ∷ []))
    (change 2 1 ((of_ann 1, negsuc 0) ∷ (of_bob 5, negsuc 0) ∷ []) ∷ [])
    ∷ []

-- a policy with a text of so many words `not` before `true`
abbrev pub nots : ℕ → List ℕ
nots zero = codes "true"
nots (suc n) = codes "not " ++ nots n

-- after `first`
abbrev pub policy_texts : Steps
policy_texts =
    asks 1 (create_policy (policy notes (codes "a") (codes "who = Current_User"))) []
    ∷ fails 1 (create_policy (policy notes (codes "b") (codes "1 = 'a'"))) (bad_query 4 (Binding binding.KindMismatch))
    ∷ asks 1 (create_policy (policy notes (codes "c") (codes "true = false"))) []
    ∷ asks 1 (create_policy (policy notes (codes "d") (nots 32))) []
    ∷ fails 1 (create_policy (policy notes (codes "e") (nots 33))) (bad_query 128 (Reading reading.TooDeep))
    ∷ []

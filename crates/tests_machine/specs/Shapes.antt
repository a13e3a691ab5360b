-- Worked examples of acts that a line may give, and of acts that none may.
use Rattle.std.specs.Prelude.{ℕ, ◌-◌, ◌^◌, true, false, List, [], ◌∷◌, ◌++◌, map, codes, Some, None}
use Rattle.std.specs.List.{repeat}
use Rattle.iv_rows.specs.Cell.{Cell, text}
use Rattle.iv_access.specs.declared.policy.PolicyCommand.TheVariants.{All, Select, Insert, Update, Delete}
use Rattle.iv_access.specs.declared.privilege.Privilege.TheVariants as privilege
use Rattle.iv_access.specs.Rights.{Name}
use Rattle.iv_machine.specs.Act.{Act, begin, finish, create_role, create_table, create_view, grant, revoke, grant_role, revoke_role, row_security, create_policy, drop_policy, subscribe, unsubscribe, write, insert, delete, update, Command}
use Rattle.tests_machine.specs.OfPolicies.{for_command}
use Rattle.tests_machine.specs.Worked.{admin, ann, notes, column, many, policy}

-- sixteen names
abbrev pub names : List Name
names =
    codes "a" ∷ codes "b" ∷ codes "c" ∷ codes "d" ∷ codes "e" ∷ codes "f" ∷ codes "g" ∷ codes "h" ∷ codes "i" ∷ codes "j"
    ∷ codes "k" ∷ codes "l" ∷ codes "m" ∷ codes "n" ∷ codes "o" ∷ codes "p" ∷ []

abbrev pub wide : List Name → Act
wide columns = create_table notes ann (map column columns)

-- a write of so many copies of a row
abbrev pub writes : List Cell → ℕ → Act
writes row copies = write (many copies notes (insert row) ∷ [])

abbrev pub long_text : ℕ → Cell
long_text n = text (repeat n (codes "x"))

-- a policy that goes to so many
abbrev pub goes_to : ℕ → Act
goes_to n = create_policy (record (policy notes ann []) { to = repeat n (Some ann ∷ []) })

abbrev pub good : List Act
good =
    begin admin
    ∷ finish
    ∷ create_role (codes "_r9")
    ∷ create_role (repeat 63 (codes "r"))
    ∷ wide names
    ∷ create_table (codes "public_") ann (column (codes "a") ∷ [])
    ∷ create_view notes ann []
    ∷ grant notes (privilege.Select ∷ privilege.Insert ∷ privilege.Update ∷ privilege.Delete ∷ []) (Some ann)
    ∷ revoke notes (privilege.Select ∷ privilege.Select ∷ []) None
    ∷ grant_role ann admin
    ∷ revoke_role notes ann
    ∷ row_security notes true false
    ∷ goes_to 1
    ∷ goes_to 16
    ∷ for_command All ann (Some []) None
    ∷ for_command All ann (Some []) (Some [])
    ∷ for_command Select ann (Some []) None
    ∷ for_command Insert ann None (Some [])
    ∷ for_command Update ann (Some []) None
    ∷ for_command Update ann (Some []) (Some [])
    ∷ for_command Delete ann (Some []) None
    ∷ drop_policy notes ann
    ∷ writes [] 1
    ∷ writes (long_text 1024 ∷ []) (2 ^ 63 - 1)
    ∷ write (many 1 notes (delete []) ∷ many 1 notes (update [] []) ∷ [])
    ∷ write (repeat 1000 (many 1 notes (insert []) ∷ []))
    ∷ subscribe notes
    ∷ unsubscribe 1
    ∷ unsubscribe (2 ^ 63 - 1)
    ∷ []

abbrev pub bad : List Act
bad =
    begin (codes "Admin")
    ∷ begin []
    ∷ create_role (codes "9r")
    ∷ create_role (codes "public")
    ∷ create_role (repeat 64 (codes "r"))
    ∷ create_table (codes "select") ann (map column names)
    ∷ create_table notes (codes "a b") (map column names)
    ∷ wide []
    ∷ wide (names ++ codes "q" ∷ [])
    ∷ wide (codes "a" ∷ codes "a" ∷ [])
    ∷ wide (codes "sum" ∷ [])
    ∷ create_view (codes "union") ann []
    ∷ create_view notes [] []
    ∷ grant notes [] (Some ann)
    ∷ grant notes (repeat 5 (privilege.Select ∷ [])) None
    ∷ grant notes (privilege.Select ∷ []) (Some (codes "public"))
    ∷ revoke (codes "from") (privilege.Select ∷ []) (Some ann)
    ∷ grant_role admin ann
    ∷ grant_role (codes "public") ann
    ∷ grant_role ann (codes "public")
    ∷ revoke_role admin ann
    ∷ revoke_role ann []
    ∷ row_security (codes "order") true true
    ∷ goes_to 0
    ∷ goes_to 17
    ∷ create_policy (record (policy notes ann []) { to = Some (codes "all") ∷ [] })
    ∷ create_policy (policy notes (codes "using") [])
    ∷ for_command All ann None None
    ∷ for_command All ann None (Some [])
    ∷ for_command Select ann None None
    ∷ for_command Select ann (Some []) (Some [])
    ∷ for_command Insert ann None None
    ∷ for_command Insert ann (Some []) (Some [])
    ∷ for_command Update ann None (Some [])
    ∷ for_command Delete ann None None
    ∷ for_command Delete ann (Some []) (Some [])
    ∷ drop_policy notes (codes "with")
    ∷ write []
    ∷ write (repeat 1001 (many 1 notes (insert []) ∷ []))
    ∷ writes [] 0
    ∷ writes [] (2 ^ 63)
    ∷ writes (text (0 ∷ []) ∷ []) 1
    ∷ writes (long_text 1025 ∷ []) 1
    ∷ write (many 1 notes (update [] (long_text 1025 ∷ [])) ∷ [])
    ∷ write (many 1 notes (insert []) ∷ many 1 [] (insert []) ∷ [])
    ∷ subscribe (codes "union")
    ∷ unsubscribe 0
    ∷ unsubscribe (2 ^ 63)
    ∷ []

abbrev pub of_session : ℕ → Command
of_session n = record { session = n; act = subscribe notes }

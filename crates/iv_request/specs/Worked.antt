-- Words of the requests that are worked out.
use Rattle.std.specs.Prelude.{◌≡◌, ℕ, pos, List, [], ◌∷◌, ◌++◌, codes, true, false, Option, Some, None, option_and_then}
use Rattle.iv_rows.specs.Cell.{Cell, num, text}
use Rattle.iv_rows.specs.Columns.{Column}
use Rattle.iv_rows.specs.declared.value.Kind.TheVariants as kind
use Rattle.iv_access.specs.declared.policy.PolicyCommand.TheVariants as command
use Rattle.iv_machine.specs.Act.{Act, create_view, write, Command, Op, PolicyText}
use Rattle.serde_json.specs.Read.{read}
use Rattle.iv_request.specs.Request as asked
use Rattle.iv_request.specs.Request.{column, entry, everyone, policy, request, scope}

abbrev pub asked_by : List ℕ → Option Command
asked_by line = option_and_then request (read line)

-- the line is this request of the session
abbrev pub IsAsked : List ℕ → ℕ → Act → Type 0
IsAsked line session act = asked_by line ≡ Some (asked.command session act)

-- the line is no request
abbrev pub IsNotAsked : List ℕ → Type 0
IsNotAsked line = asked_by line ≡ None

abbrev pub ann : List ℕ
ann = codes "ann"

abbrev pub team : List ℕ
team = codes "team"

abbrev pub notes : List ℕ
notes = codes "notes"

abbrev pub notes_columns : List Column
notes_columns = column (codes "id") kind.Int ∷ column (codes "who") kind.Text ∷ []

abbrev pub first_row : List Cell
first_row = num (pos 1) ∷ text ann ∷ []

abbrev pub table_line : List ℕ
table_line = codes "{\"do\":\"create_table\",\"name\":\"notes\",\"owner\":\"admin\",\"columns\":[[\"id\",\"int\"],[\"who\",\"text\"]],\"session\":1}"

abbrev pub grant_line : List ℕ → List ℕ
grant_line to = codes "{\"do\":\"grant\",\"on\":\"notes\",\"privileges\":[\"select\"],\"session\":1,\"to\":\"" ++ (to ++ codes "\"}")

abbrev pub revoke_line : List ℕ
revoke_line = codes "{\"do\":\"revoke\",\"on\":\"notes\",\"privileges\":[\"select\",\"insert\"],\"to\":\"ann\",\"session\":1}"

abbrev pub write_line : List ℕ
write_line = codes "{\"do\":\"write\",\"entries\":[{\"on\":\"notes\",\"insert\":[1,\"ann\"]}],\"session\":1}"

-- a request that names a role and a member
abbrev pub membership_line : (word role to : List ℕ) → List ℕ
membership_line word role to =
    codes "{\"do\":\"" ++ (word ++ (codes "\",\"role\":\"" ++ (role ++ (codes "\",\"session\":1,\"to\":\"" ++ (to ++ codes "\"}")))))

-- ---- policies, and entries that remove or replace rows

abbrev pub row_security_line : List ℕ
row_security_line = codes "{\"do\":\"row_security\",\"on\":\"notes\",\"enable\":true,\"force\":false,\"session\":1}"

-- a permissive policy for all commands, to PUBLIC
abbrev pub own_line : List ℕ
own_line = codes "{\"do\":\"create_policy\",\"on\":\"notes\",\"name\":\"own\",\"using\":\"who = current_user\",\"session\":1}"

abbrev pub own : PolicyText
own = policy notes (codes "own") (scope false command.All everyone) (Some (codes "who = current_user")) None

abbrev pub few_line : List ℕ
few_line = codes "{\"do\":\"create_policy\",\"on\":\"notes\",\"name\":\"few\",\"restrictive\":true,\"command\":\"insert\",\"to\":[\"ann\",\"public\"],\"check\":\"id < 9\",\"session\":1}"

abbrev pub few : PolicyText
few = policy notes (codes "few") (scope true command.Insert (Some ann ∷ None ∷ [])) None (Some (codes "id < 9"))

abbrev pub give_line : List ℕ
give_line = codes "{\"do\":\"create_policy\",\"on\":\"notes\",\"name\":\"give\",\"command\":\"update\",\"using\":\"true\",\"check\":\"false\",\"session\":1}"

abbrev pub give : PolicyText
give = policy notes (codes "give") (scope false command.Update everyone) (Some (codes "true")) (Some (codes "false"))

-- a write of one entry of notes
abbrev pub entry_line : List ℕ → List ℕ
entry_line does = codes "{\"do\":\"write\",\"entries\":[{\"on\":\"notes\"," ++ (does ++ codes "}],\"session\":1}")

abbrev pub second_row : List Cell
second_row = num (pos 2) ∷ text ann ∷ []

abbrev pub one_entry : Op → ℕ → Act
one_entry op copies = write (entry notes op copies ∷ [])

-- a policy of notes, with these keys
abbrev pub policy_line : List ℕ → List ℕ
policy_line keys = codes "{\"do\":\"create_policy\",\"on\":\"notes\",\"name\":\"p\"," ++ (keys ++ codes ",\"session\":1}")

-- ---- views

-- a view of this query
abbrev pub view_line : List ℕ → List ℕ
view_line query = codes "{\"do\":\"create_view\",\"name\":\"ids\",\"owner\":\"admin\",\"query\":" ++ (query ++ codes ",\"session\":1}")

abbrev pub unsubscribe_line : List ℕ → List ℕ
unsubscribe_line number = codes "{\"do\":\"unsubscribe\",\"session\":2,\"sub\":" ++ (number ++ codes "}")

abbrev pub view_of : List ℕ → Act
view_of query = create_view (codes "ids") (codes "admin") query

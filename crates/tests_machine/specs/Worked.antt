-- Words of the worked examples, and the one that most of them begin with: first_change.
use Rattle.std.specs.Prelude.{◌≡◌, ℕ, pos, negsuc, true, false, List, [], ◌∷◌, map, flat_map, codes, Some, None}
use Rattle.iv_rows.specs.Cell.{Cell, num, text}
use Rattle.iv_rows.specs.Columns.{Column}
use Rattle.iv_rows.specs.declared.value.Kind.TheVariants.{Int, Text}
use Rattle.iv_access.specs.declared.privilege.Privilege.TheVariants.{Select}
use Rattle.iv_access.specs.declared.policy.PolicyCommand.TheVariants.{All}
use Rattle.iv_access.specs.Rights.{Name}
use Rattle.iv_machine.specs.Act.{Act, begin, create_role, create_table, grant, row_security, create_policy, subscribe, write, Op, insert, delete, update, Entry, PolicyText, Command, Refusal, Line, reply, change, done, subscribed, refused}
use Rattle.iv_machine.specs.State.{State, start}
use Rattle.iv_machine.specs.Machine.{run}

-- ---- words

-- commands, and the lines of each
abbrev pub Steps : Type 0
Steps = List (Command × List Line)

abbrev pub commands : Steps → List Command
commands = map (λ p. p.0)

abbrev pub lines : Steps → List Line
lines = flat_map (λ p. p.1)

-- from the state the commands have their lines
abbrev pub Computes : State → Steps → Type 0
Computes s steps = (run s (commands steps)).lines ≡ lines steps

abbrev pub after_steps : State → Steps → State
after_steps s steps = (run s (commands steps)).state

-- a session asks, and its request is done, and then these lines
abbrev pub asks : ℕ → Act → List Line → Command × List Line
asks n act ls = (record { session = n; act = act }, reply n done ∷ ls)

-- the same of a request that is refused
abbrev pub fails : ℕ → Act → Refusal → Command × List Line
fails n act r = (record { session = n; act = act }, reply n (refused r) ∷ [])

-- the same of a subscribe, which gives a number
abbrev pub opens : ℕ → Name → ℕ → List Line → Command × List Line
opens n rel k ls = (record { session = n; act = subscribe rel }, reply n (subscribed k) ∷ ls)

abbrev pub Row : Type 0
Row = List Cell

abbrev pub int : ℕ → Cell
int n = num (pos n)

abbrev pub one : Cell → Row
one a = a ∷ []

abbrev pub two : Cell → Cell → Row
two a b = a ∷ b ∷ []

-- some copies of a row
abbrev pub many : ℕ → Name → Op → Entry
many copies rel op = record { rel = rel; op = op; copies = copies }

abbrev pub entry : Name → Op → Entry
entry rel op = many 1 rel op

abbrev pub put : Name → Row → Act
put rel row = write (entry rel (insert row) ∷ [])

abbrev pub take : Name → Row → Act
take rel row = write (entry rel (delete row) ∷ [])

abbrev pub swap : Name → Row → Row → Act
swap rel old new = write (entry rel (update old new) ∷ [])

-- a permissive policy for all commands and roles, with a text for using
abbrev pub policy : Name → Name → List ℕ → PolicyText
policy rel name using = record { rel = rel; name = name; restrictive = false; command = All; to = None ∷ []; using_text = Some using; check_text = None }

abbrev pub true_text : List ℕ
true_text = codes "true"

abbrev pub restrictive : Name → Name → List ℕ → Act
restrictive rel name using = create_policy (record (policy rel name using) { restrictive = true })

abbrev pub column : List ℕ → Column
column name = record { name = name; kind = Int }

abbrev pub texts : List ℕ → Column
texts name = record { name = name; kind = Text }

-- ---- first_change

abbrev pub admin : Name
admin = codes "admin"

abbrev pub ann : Name
ann = codes "ann"

abbrev pub bob : Name
bob = codes "bob"

abbrev pub notes : Name
notes = codes "notes"

abbrev pub of_ann : ℕ → Row
of_ann n = two (int n) (text ann)

abbrev pub of_bob : ℕ → Row
of_bob n = two (int n) (text bob)

abbrev pub of_x : ℕ → Row
of_x n = two (int n) (text (codes "x"))

-- `admin` in session 1, and ann, who reads notes, in session 2
abbrev pub opened : Steps
opened =
    asks 1 (begin admin) []
    ∷ asks 1 (create_role ann) []
    ∷ asks 1 (create_table notes admin (column (codes "id") ∷ texts (codes "who") ∷ [])) []
    ∷ asks 1 (grant notes (Select ∷ []) (Some ann)) []
    ∷ asks 2 (begin ann) []
    ∷ opens 2 notes 1 []
    ∷ []

-- the least row limit of an engine
abbrev pub least_cap : ℕ
least_cap = 1024

abbrev pub before_first : State
before_first = after_steps (start least_cap) opened

abbrev pub first_change : Steps
first_change = asks 1 (put notes (of_ann 1)) (change 2 1 ((of_ann 1, pos 1) ∷ []) ∷ []) ∷ []

-- the state after it
abbrev pub first : State
first = after_steps before_first first_change

-- ---- row_security_then_policy

abbrev pub row_security_then_policy : Steps
row_security_then_policy =
    asks 1 (row_security notes true false) (change 2 1 ((of_ann 1, negsuc 0) ∷ []) ∷ [])
    ∷ asks 1 (create_policy (policy notes (codes "own") (codes "who = current_user"))) (change 2 1 ((of_ann 1, pos 1) ∷ []) ∷ [])
    ∷ []

-- the state after it: ann sees her own notes alone
abbrev pub secured : State
secured = after_steps first row_security_then_policy

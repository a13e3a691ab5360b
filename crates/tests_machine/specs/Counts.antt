-- Frames that have as many items of a kind as there may be.
use Rattle.std.specs.Prelude.{ℕ, ◌-◌, ◌^◌, false, List, [], ◌∷◌, codes, Some, None}
use Rattle.std.specs.List.{repeat}
use Rattle.iv_algebra.specs.Shapes.{Constant, Scan}
use Rattle.iv_bind.specs.Catalogs.{CatalogEntry, Table, View}
use Rattle.iv_access.specs.declared.policy.PolicyCommand.TheVariants.{All}
use Rattle.iv_access.specs.Rights.{Name, Guard, Policy, Public}
use Rattle.iv_access.specs.Rights as rights
use Rattle.iv_machine.specs.Act.{Act, create_policy, create_view}
use Rattle.iv_machine.specs.State.{State, Frame, Session, start_frame}
use Rattle.tests_machine.specs.Worked.{admin, column, least_cap, policy}

-- ---- sessions and roles

abbrev pub session_of : ℕ → ℕ → Session
session_of number role = record { number = number; role = role }

-- session 1 is open, and n others
abbrev pub sessions : ℕ → Frame
sessions n = record (start_frame least_cap) { sessions = session_of 1 0 ∷ repeat n (session_of 2 0 ∷ []) }

-- a role that was granted nothing
abbrev pub stranger : Name
stranger = codes "r"

-- `admin` and n others
abbrev pub roles : ℕ → Frame
roles n = record (sessions 0) { rights = record rights.rights_at_start { roles = admin ∷ repeat n (stranger ∷ []) } }

-- ---- relations

abbrev pub one : Name
one = codes "one"

abbrev pub two : Name
two = codes "two"

abbrev pub table : CatalogEntry
table = record { name = one; rel = 0; held = Table (column (codes "id") ∷ []) }

abbrev pub view : CatalogEntry
view = record { name = two; rel = 1; held = View (record { plan = Scan 0; schema = column (codes "id") ∷ []; needs = 0 ∷ [] }) }

-- a policy of the name two
abbrev pub some_policy : Policy
some_policy = record { name = two; restrictive = false; command = All; to = Public ∷ []; using = Some (Constant false); check = None }

-- the guard of a table with n policies
abbrev pub guard : ℕ → Guard
guard n = record { owner = 0; enabled = false; forced = false; policies = repeat n (some_policy ∷ []) }

abbrev pub tables : ℕ → Frame
tables n = record (sessions 0) { rights = record rights.rights_at_start { guards = guard 0 ∷ [] }; catalog = repeat n (table ∷ []) }

-- a table, and n views
abbrev pub views : ℕ → Frame
views n = record (sessions 0) { catalog = table ∷ repeat n (view ∷ []) }

abbrev pub policies : ℕ → Frame
policies n = record (tables 1) { rights = record rights.rights_at_start { guards = guard n ∷ [] } }

abbrev pub new_view : Name → List ℕ → Act
new_view name query = create_view name admin query

abbrev pub good_text : List ℕ
good_text = codes "select id from one"

abbrev pub new_policy : Name → List ℕ → Act
new_policy name using = create_policy (policy one name using)

-- ---- numbers of subscriptions

-- the number n was the last that a subscription was given
abbrev pub numbers : ℕ → Frame
numbers n = record (tables 1) { last = n }

abbrev pub last_number : ℕ
last_number = 2 ^ 63 - 1

-- the last number is given, and session 1 acts for the stranger
abbrev pub strange_numbers : Frame
strange_numbers = record (numbers last_number) { rights = (roles 1).rights; sessions = session_of 1 1 ∷ [] }

-- a table has a row, and room for none
abbrev pub over : Frame → State
over f = record { frame = record f { cap = 0 }; rows = λ _. [] ∷ [] }

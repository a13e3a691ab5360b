-- Worked examples of the gateway: steps of a log, and requests with names.
use Rattle.std.specs.Prelude.{ℕ, ◌^◌, ◌++◌, pos, Bool, false, List, [], ◌∷◌, codes, Option, Some, None, drop, length, map}
use Rattle.iv_rows.specs.Cell.{Cell, num}
use Rattle.iv_rows.specs.Options.{if_some}
use Rattle.iv_rows.specs.declared.value.Kind.TheVariants.{Int}
use Rattle.iv_access.specs.declared.privilege.Privilege.TheVariants.{Insert, Select}
use Rattle.iv_access.specs.Rights.{Name}
use Rattle.iv_machine.specs.Act.{Act, create_role, create_table, create_view, done, grant, insert, revoke, write}
use Rattle.iv_message.specs.Told.{Told, answered, changed, settled}
use Rattle.iv_clients.specs.Clients.{client_at, told, untold}
use Rattle.iv_records.specs.Journal.{Request}
use Rattle.iv_records.specs.Names.{holder_of, place_text}
use Rattle.iv_clients.specs.Tokens.{Token}
use Rattle.iv_once.specs.Names.{Ask, verdict}
use Rattle.iv_gate.specs.Arriving.{Step, takes}
use Rattle.iv_gate.specs.Events.{leading}
use Rattle.iv_gate.specs.Gate.{Gate, Log, answer_text, by_verdict, names_of, reads, with_session}
use Rattle.iv_gate.specs.Restoring.{gate_at_start}

abbrev pub admin : Name
admin = codes "admin"

abbrev pub ann : Name
ann = codes "ann"

abbrev pub notes : Name
notes = codes "notes"

abbrev pub total : Name
total = codes "total"

-- ann's token
abbrev pub anns : Token
anns = record { digest = codes "t"; role = ann; user = codes "a" }

abbrev pub order : Log
order = record { name = codes "order"; epoch = codes "e" }

abbrev pub begins : Gate
begins = gate_at_start 1024 (anns ∷ []) 1 (record { epoch = codes "e"; places = λ holder. None; holders = 0; log = Some order; position = 0 }) []

abbrev pub by_admin : Act → Request
by_admin act = record { role = admin; line = []; act = act }

abbrev pub by_ann : Act → Request
by_ann act = record { role = ann; line = []; act = act }

abbrev pub step : ℕ → ℕ → List Request → Step
step from to requests = record { log = order; from = from; to = to; requests = requests; names = [] }

abbrev pub row : ℕ → List Cell
row n = num (pos n) ∷ []

abbrev pub put : ℕ → Act
put n = write (record { rel = notes; op = insert (row n); copies = 1 } ∷ [])

abbrev pub may_read : Act
may_read = grant notes (Select ∷ []) (Some ann)

abbrev pub may_not_read : Act
may_not_read = revoke notes (Select ∷ []) (Some ann)

-- a table, and ann, who may read and write it
abbrev pub made : List Request
made =
    by_admin (create_role ann)
    ∷ by_admin (create_table notes admin (record { name = codes "n"; kind = Int } ∷ []))
    ∷ by_admin may_read
    ∷ by_admin (grant notes (Insert ∷ []) (Some ann))
    ∷ []

-- a view of sums of its rows
abbrev pub sums_made : List Request
sums_made = by_admin (create_view total admin (codes "select n, sum(n) as s from notes group by n")) ∷ by_admin (grant total (Select ∷ []) (Some ann)) ∷ []

-- the log has them by its first step; ann is let in, and reads a relation
abbrev pub let_in : Gate → Gate
let_in g = let h = with_session g ann in record h { clients = Some (untold anns) ∷ [] }

abbrev pub reads_of : Name → List Request → Gate
reads_of rel more = reads (let_in (takes begins (step 0 1 (made ++ more)))) 0 (untold anns) None rel

abbrev pub reads_notes : Gate
reads_notes = reads_of notes []

-- what she is told more
abbrev pub all_told : Gate → List Told
all_told g = if_some (client_at g.clients 0) [] told

abbrev pub told_more : Gate → Gate → List Told
told_more g h = drop (length (all_told g)) (all_told h)

-- ---- steps

-- the right is taken, rows come, and it is given again
abbrev pub taken_and_given : Step
taken_and_given = step 1 7 (by_admin may_not_read ∷ by_admin (put 2) ∷ by_admin (put 1) ∷ by_admin may_read ∷ [])

abbrev pub both_rows : List Told
both_rows = changed 1 ((row 1, pos 1) ∷ (row 2, pos 1) ∷ []) ∷ settled ∷ []

-- a row comes, and the right is taken
abbrev pub taken : Step
taken = step 1 7 (by_admin (put 2) ∷ by_admin may_not_read ∷ [])

-- the right is given again, to one who may write
abbrev pub given_again : Step
given_again = step 7 8 (by_admin may_read ∷ [])

-- a sum beyond 64 bits: nobody's view refuses a step
abbrev pub too_large : Step
too_large = step 1 2 (by_admin (put (2 ^ 62)) ∷ by_admin (put (2 ^ 62)) ∷ [])

-- what was taken already; what begins elsewhere; of another log; what ann may not do
abbrev pub taken_before : Step
taken_before = step 0 1 (by_admin (put 3) ∷ [])

abbrev pub later : Step
later = step 2 3 []

abbrev pub foreign_step : Step
foreign_step = record (step 1 3 []) { log = record order { epoch = codes "f" } }

abbrev pub without_right : Step
without_right = step 1 2 (by_admin (put 2) ∷ by_ann (create_role (codes "bob")) ∷ [])

-- ---- names

-- the same gateway, with an order of its own
abbrev pub writes : Gate
writes = record reads_notes { head = record reads_notes.head { log = None } }

-- ann writes a row by a name, at a place, with such a digest
abbrev pub asks : ℕ → List ℕ → Ask
asks count digest = record { holder = holder_of ann (codes "a"); name = codes "n"; at = record { epoch = codes "e"; count = count }; digest = digest }

abbrev pub puts : Gate → Ask → ℕ → Gate
puts g a n = by_verdict g 0 None (by_ann (put n)) a (verdict (names_of g) a)

abbrev pub wrote : Gate
wrote = puts writes (asks 0 (codes "d")) 7

abbrev pub is_done : (again : Bool) → Told
is_done again = answered None again (place_text (record { epoch = codes "e"; count = 1 })) (answer_text done)

abbrev pub done_and_told : List Told
done_and_told = is_done false ∷ changed 1 ((row 7, pos 1) ∷ []) ∷ []

-- she asks by a place of another journal, and by one that is ahead
abbrev pub foreign_ask : Ask
foreign_ask = record (asks 0 (codes "d")) { at = record { epoch = codes "f"; count = 0 } }

abbrev pub ahead_ask : Ask
ahead_ask = asks 1 (codes "d")

-- ---- leading

-- the first gateway again, which leads its log from position 1 on
abbrev pub leads : Gate
leads = leading reads_notes

abbrev pub led_on : Gate
led_on = puts leads (asks 0 (codes "d")) 7

-- ann, who may not revoke anything, asks that by the next name
abbrev pub refused_ask : Ask
refused_ask = record (asks 1 (codes "r")) { name = codes "o" }

abbrev pub led_twice : Gate
led_twice = by_verdict led_on 0 None (by_ann may_not_read) refused_ask (verdict (names_of led_on) refused_ask)

-- the positions of steps, and how many requests each has
abbrev pub steps_in : Gate → List (Option ℕ × ℕ)
steps_in g = map (λ e. (e.position, length e.requests)) g.entries

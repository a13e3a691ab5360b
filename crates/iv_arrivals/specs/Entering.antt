-- For contracts of the code: what the journal, the names and the shape get of what arrives.
use Rattle.std.specs.Prelude.{ℕ, Bool, true, false, List, [], ◌∷◌, ◌++◌, Option, None}
use Rattle.iv_rows.specs.Options.{if_some}
use Rattle.iv_machine.specs.Act.{Act, Reply}
use Rattle.iv_records.specs.Journal.{Request, name_text, position_text, record_of}
use Rattle.iv_records.specs.Parsed.{text_of_request}
use Rattle.iv_gate.specs.Gate.{entries_of, shape_text}
use Rattle.iv_journal.specs.Journal.{Line}
use Rattle.iv_once.specs.Names as once
use Rattle.iv_once.specs.Names.{Ask, Named, Names, pushed}
use Rattle.iv_arrivals.specs.Speaking.{Asking, request_of}

-- ---- a request of a client

-- the text of what its entry makes of the shape
abbrev pub made_of : Asking → Act → Option Ask → Reply → List ℕ
made_of a act name r = shape_text (entries_of None (request_of a act) name r)

-- the text of a step's position
abbrev pub text_at : Option ℕ → List (List ℕ)
text_at position = if_some position [] (λ p. position_text p ∷ [])

-- the lines of its entry, if it has one: of it, where it is accepted, of its name, if it has one, and of its position, if it is a step
abbrev pub lines_entered : Asking → Bool → Option Named → (position : Option ℕ) → List Line
lines_entered a true name position = record_of (text_of_request a.role a.line ∷ (if_some name [] (λ n. name_text n ∷ []) ++ text_at position))
lines_entered a false name position = if_some name [] (λ n. record_of (name_text n ∷ text_at position))

-- ---- a step

-- the text of the shape that one request makes
abbrev pub shape_in : Request → List ℕ
shape_in q = shape_text (record { requests = q ∷ []; names = []; position = None } ∷ [])

-- with these names learned, one after another
abbrev pub all_pushed : Names → List Named → Names
all_pushed n [] = n
all_pushed n (e ∷ es) = all_pushed (pushed n (once.named e)) es

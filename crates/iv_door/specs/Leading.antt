-- What a gateway that leads says of the records that it decides: the lines by which a keeper brings steps to one that follows.
use Rattle.std.specs.Prelude.{◌≡◌, ℕ, ◌+◌, if◌then◌else◌, List, [], ◌∷◌, ◌++◌, codes, decimal, flat_map, map}
use Rattle.iv_journal.specs.Journal.{Line}
use Rattle.iv_records.specs.Journal.{Entry, journal_of, name_text, request_text}
use Rattle.iv_gate.specs.Arriving.{AreNext}
use Rattle.iv_door.specs.Said.{Said, brings, ends, line_of}

-- ---- as lines of a journal

-- a part of a record is brought; the last one, which is its position, ends the step from another on
abbrev pub line_from : ℕ → Line → List ℕ
line_from p l = (if l.is_last then codes "{\"from\":" ++ (decimal p ++ 44 ∷ l.text) else 123 ∷ l.text) ++ 10 ∷ []

-- each record goes on by one
abbrev pub lines_from : ℕ → List Line → List ℕ
lines_from p [] = []
lines_from p (l ∷ ls) = line_from p l ++ lines_from (if l.is_last then p + 1 else p) ls

-- ---- as what a keeper says

abbrev pub said_line : Said → List ℕ
said_line s = line_of s ++ 10 ∷ []

-- an entry is a step: its texts are brought, and end it
abbrev pub step_said : ℕ → Entry → List Said
step_said p e = map brings (map request_text e.requests ++ map name_text e.names) ++ ends p (p + 1) ∷ []

abbrev pub steps_said : ℕ → List Entry → List Said
steps_said p [] = []
steps_said p (e ∷ es) = step_said p e ++ steps_said (p + 1) es

-- what a gateway that leads says of entries is what a keeper says to bring them as steps, to one that follows
abbrev pub LeadsAsAKeeper : Type 0
LeadsAsAKeeper = (p : ℕ) (es : List Entry) → AreNext p es → lines_from p (journal_of es) ≡ flat_map said_line (steps_said p es)

-- The bytes that answer bytes: lines are cut and read, and the machine runs the commands among them.
-- Read `answer` from the end: bytes are cut into at most `n` lines (`heard`), of which each is a command or the number of a fault, and the texts of the
-- machine's lines follow one another, command after command. `rs` are these readings, and `h` is what was heard.
use Rattle.std.specs.Prelude.{ℕ, zero, suc, List, [], ◌∷◌, ◌++◌, flat_map, if◌then◌else◌}
use Rattle.iv_machine.specs.Act.{Command}
use Rattle.iv_machine.specs.Machine.{run, step}
use Rattle.iv_machine.specs.State.{State}
use Rattle.iv_request.specs.Reading.{Reading, faulty, asked, reading_of}
use Rattle.iv_lines.specs.Cut.{Cut, nothing, whole, endless, cut, is_blank_line}
use Rattle.iv_lines.specs.Texts.{line_text, fault_text}
use Rattle.iv_lines.specs.declared.lines.End.{End}
use Rattle.iv_lines.specs.declared.lines.End.TheVariants.{Input, Lines, TooLong}

-- ---- one line

-- a line without an end
abbrev pub too_long : Reading
too_long = faulty 22

-- a blank line is passed over
abbrev pub readings_of : List ℕ → List Reading
readings_of line = if is_blank_line line then [] else reading_of line ∷ []

-- ---- up to n lines

-- what the lines are, how they end, and what follows those that were taken
pub record Heard : Type 0 where
  pub readings : List Reading
  pub end : End
  pub rest : List ℕ

abbrev pub behind : List Reading → Heard → Heard
behind rs h = record { readings = rs ++ h.readings; end = h.end; rest = h.rest }

-- what the cut gives, if `more` hears what is after the line
abbrev pub heard_cut : (List ℕ → Heard) → Cut → Heard
heard_cut more nothing = record { readings = []; end = Input; rest = [] }
heard_cut more endless = record { readings = too_long ∷ []; end = TooLong; rest = [] }
heard_cut more (whole line bytes) = behind (readings_of line) (more bytes)

abbrev pub heard : ℕ → List ℕ → Heard
heard zero bytes = record { readings = []; end = Lines; rest = bytes }
heard (suc n) bytes = heard_cut (heard n) (cut bytes)

-- ---- what they are answered

abbrev pub commands_of : List Reading → List Command
commands_of [] = []
commands_of (faulty n ∷ rs) = commands_of rs
commands_of (asked c ∷ rs) = c ∷ commands_of rs

-- the texts of the machine's lines, command after command, and between them what is answered to the others
abbrev pub text_answered : State → List Reading → List ℕ
text_answered s [] = []
text_answered s (faulty n ∷ rs) = fault_text n ++ text_answered s rs
text_answered s (asked c ∷ rs) = let one = step s c in flat_map line_text one.lines ++ text_answered one.state rs

-- the state then, and the text
pub record Told : Type 0 where
  pub state : State
  pub text : List ℕ

abbrev pub told : State → List Reading → Told
told s rs = record { state = (run s (commands_of rs)).state; text = text_answered s rs }

pub record Answer : Type 0 where
  pub state : State
  pub text : List ℕ
  pub end : End
  pub rest : List ℕ

abbrev pub answer_to : State → Heard → Answer
answer_to s h = let t = told s h.readings in record { state = t.state; text = t.text; end = h.end; rest = h.rest }

abbrev pub answer : ℕ → State → List ℕ → Answer
answer n s bytes = answer_to s (heard n bytes)

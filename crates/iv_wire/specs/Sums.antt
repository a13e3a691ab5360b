-- How a text has the machine's lines, and what was written of them.
use Rattle.std.specs.Prelude.{ℕ, List, [], ◌∷◌, ◌++◌}
use Rattle.std.specs.Io.KnownBytes.{Appends}
use Rattle.iv_machine.specs.Act.{Command, Line}
use Rattle.iv_machine.specs.Machine.{run}
use Rattle.iv_machine.specs.Reached.{AddsUp, AreNumbersUnique}
use Rattle.iv_machine.specs.State.{State}
use Rattle.iv_engine.specs.Engine.{IsBehind}
use Rattle.iv_wire.specs.Endings.{Run}
use Rattle.iv_lines.specs.Texts.{line_text, fault_text}

-- the text has the texts of these lines, in their order, and between them what lines are answered that are no request
pub data IsTextOf : List Line → List ℕ → Type 0 where
  nothing : IsTextOf [] []
  line : (l : Line) {ls : List Line} {text : List ℕ} → IsTextOf ls text → IsTextOf (l ∷ ls) (line_text l ++ text)
  fault : (n : ℕ) {ls : List Line} {text : List ℕ} → IsTextOf ls text → IsTextOf ls (fault_text n ++ text)

-- lines of the machine's run were written, and its state stands behind the engine; for each subscription that its reader
-- did not close the lines add up to what it shows then, minus what it showed before
pub record HasWritten (before : State) (r : Run) : Type 0 where
  pub commands : List Command
  pub text : List ℕ
  pub behind : IsBehind (run before commands).state r.now
  pub numbers : AreNumbersUnique (run before commands).state.frame
  pub written : Appends r.taken r.written text
  pub texts : IsTextOf (run before commands).lines text
  pub sums : AddsUp before commands

-- What a run does to the engine, even if the reader does not tell its bytes.
use Rattle.std.specs.Prelude.{ℕ, ◌≤◌, List, length}
use Rattle.std.specs.List.{All}
use Rattle.iv_machine.specs.Act.{Command}
use Rattle.iv_machine.specs.Machine.{run}
use Rattle.iv_machine.specs.State.{State}
use Rattle.iv_machine.specs.Stored.{IsGiven}
use Rattle.iv_engine.specs.Engine.{Engine, IsBehind}

-- commands that a line may give were answered, no more than lines, and the machine's state after them stands behind the engine
pub record HasRun (lines : ℕ) (before : State) (now : Engine) : Type 0 where
  pub commands : List Command
  pub most : length commands ≤ lines
  pub given : All IsGiven commands
  pub behind : IsBehind (run before commands).state now

-- What a connection is answered, and what it leaves.
use Rattle.std.specs.Prelude.{◌≡◌, false, Result, OnOk, IfSome}
use Rattle.iv_machine.specs.Machine.{hung}
use Rattle.iv_machine.specs.State.{State}
use Rattle.iv_engine.specs.Engine.{Engine, IsBehind}
use Rattle.iv_lines.specs.declared.lines.End.{End}
use Rattle.iv_lines.specs.declared.lines.RunFault.{RunFault}
use Rattle.iv_lines.specs.Reads.{is_memory}
use Rattle.iv_wire.specs.Endings.{Run, IsAnswered}
use Rattle.iv_wire.specs.Sums.{HasWritten}

-- its lines are answered as a run answers them, which leaves some engine; after that all sessions and subscriptions are
-- closed, unless memory ran out
pub record IsConnection (before : State) (r : Run) (result : Result End RunFault) : Type 0 where
  pub ran : Engine
  pub answered : IsAnswered before (record r { now = ran }) result
  pub adds_up : OnOk result (IfSome r.given (λ _. HasWritten before (record r { now = ran })))
  pub hung : is_memory result ≡ false → (s : State) → IsBehind s ran → IsBehind (hung s) r.now

use Rattle.std.proofs.Common.{◌≡◌, ◌<◌, false}
use Rattle.iv_machine.specs.Reached.{AreNumbersUnique}
use Rattle.iv_machine.specs.State.{State}
use Rattle.iv_engine.specs.Engine.{IsBehind}
use Rattle.iv_engine.specs.Sound.{IsSoundEngine}
use Rattle.iv_program.specs.Serves.{HasServed, IsClosed}
use Rattle.iv_program.proofs.serving.serve_on.Given as goal

abbrev pub invariant-loop : goal.invariant-loop
invariant-loop l = record {
  served : (s : State) → IsBehind s l.fn.engine → HasServed l.lines l.counter s l.engine;
  sound : IsSoundEngine l.fn.engine → IsSoundEngine l.engine;
  closed : 0 < l.counter → IsClosed l.engine.frame;
  numbers : AreNumbersUnique l.engine.frame;
  failed : l.engine.failed ≡ false;
}

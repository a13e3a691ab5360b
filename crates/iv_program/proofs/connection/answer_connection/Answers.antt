use Rattle.std.proofs.Common.{◌∙◌}
use Rattle.iv_program.proofs.Connections.{OnOk-at_state, IsClosed-hung_up, HasServed-HasRun, or-first_false, failed-hung_up}
use Rattle.iv_program.proofs.connection.answer_connection.Goals as goal

pub returns-clause-answered : goal.returns-clause-answered
returns-clause-answered g c = λ s b. record {
  ran = c.run-ended.new.engine;
  answered = c.run-ended.ensures.answered s b;
  adds_up = OnOk-at_state _ _ _ c.run-ended.ensures.adds_up s b;
  hung = λ m. c.hang_up.ensures.hung (or-first_false _ _ _ c.run-ended.ensures.failed c.requires ∙ m);
}

pub returns-clause-served : goal.returns-clause-served
returns-clause-served g c = λ m s b. HasServed-HasRun c.args.lines s c.run-ended.new.engine _
    (c.run-ended.ensures.ran m s b)
    (c.hang_up.ensures.hung (or-first_false _ _ _ c.run-ended.ensures.failed c.requires ∙ m))

pub returns-clause-sound : goal.returns-clause-sound
returns-clause-sound g c = λ m h. c.hang_up.ensures.sound (c.run-ended.ensures.sound m h)

pub returns-clause-closed : goal.returns-clause-closed
returns-clause-closed g c =
    λ m. IsClosed-hung_up c.run-ended.new.engine _ (c.hang_up.ensures.closed (or-first_false _ _ _ c.run-ended.ensures.failed c.requires ∙ m))

pub returns-clause-failed : goal.returns-clause-failed
returns-clause-failed g c = failed-hung_up c.run-ended.new.engine _ c.hang_up.ensures.closed c.hang_up.ensures.failed_unchanged ∙ or-first_false _ _ _ c.run-ended.ensures.failed c.requires

use Rattle.iv_lines.proofs.Moments.{ReadsAt-none}
use Rattle.iv_program.proofs.Endings.{IsAnswered-Memory_at_start}
use Rattle.iv_program.proofs.replaying.replay.Goals as goal

pub returns-clause-answers : goal.returns-clause-answers
returns-clause-answers g c = c.replay_on-ended.ensures.answers c.args.rows c.in-Ok.ensures.start

pub returns-clause-adds_up : goal.returns-clause-adds_up
returns-clause-adds_up g c = c.replay_on-ended.ensures.adds_up c.args.rows c.in-Ok.ensures.start

pub returns-in_default-clause-answers : goal.returns-in_default-clause-answers
returns-in_default-clause-answers g c = IsAnswered-Memory_at_start c.args.rows c.args.lines _ _ _ c.requires.lines

pub returns-clause-turns : goal.returns-clause-turns
returns-clause-turns g c = λ f. c.replay_on-ended.ensures.turns f c.args.rows c.in-Ok.ensures.start

pub returns-in_default-clause-turns : goal.returns-in_default-clause-turns
returns-in_default-clause-turns g c = λ f. ReadsAt-none _ _

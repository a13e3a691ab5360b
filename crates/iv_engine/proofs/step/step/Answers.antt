use Rattle.iv_command.specs.Views.{act_of}
use Rattle.iv_store.proofs.RunLines.{counted_by, left_sound, left_state, said_lines, unchanged}
use Rattle.iv_engine.proofs.step.step.Goals as goal

pub returns-clause-lines : goal.returns-clause-lines
returns-clause-lines c = said_lines c.args.store.now c.act-answer.new.store c.args.command.session (act_of c.args.command.act) _ c.act-answer.result c.act-answer.ensures c.in_ok-lines.ensures

pub returns-clause-state : goal.returns-clause-state
returns-clause-state c = left_state c.args.store.now c.act-answer.new.store c.args.command.session (act_of c.args.command.act) _ c.act-answer.result c.act-answer.ensures c.in_ok-lines.ensures

pub returns-clause-refused : goal.returns-clause-refused
returns-clause-refused c = unchanged c.args.store.now c.act-answer.new.store c.args.command.session (act_of c.args.command.act) _ c.act-answer.result c.act-answer.ensures c.in_ok-lines.ensures

pub returns-clause-rounds : goal.returns-clause-rounds
returns-clause-rounds c = counted_by c.args.store.now c.act-answer.new.store c.args.command.session (act_of c.args.command.act) _ c.act-answer.result c.act-answer.ensures c.in_ok-lines.ensures

pub returns-clause-sound : goal.returns-clause-sound
returns-clause-sound c = left_sound c.args.store.now c.act-answer.new.store c.args.command.session (act_of c.args.command.act) _ c.act-answer.result c.requires.sound c.act-answer.ensures c.in_ok-lines.ensures

use Rattle.std.proofs.Common.{map, flat_map, ap, ◌∙◌}
use Rattle.std.proofs.lemmas.Result.{IfOk-weaker}
use Rattle.iv_command.specs.Views.{line_of}
use Rattle.iv_lines.specs.Texts.{line_text}
use Rattle.iv_wire.proofs.running.answer_command.Goals as goal

pub returns-in-Ok-clause-text : goal.returns-in-Ok-clause-text
returns-in-Ok-clause-text c = IfOk-weaker c.write_lines.result _ _ (λ text h s b. h ∙ ap (λ ls. flat_map line_text (map line_of ls)) c.deref.ensures.value ∙ ap (flat_map line_text) (c.in-Ok.ensures.lines s b)) c.write_lines.ensures

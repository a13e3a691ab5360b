use Rattle.std.proofs.Common.{◌∙◌, ◌++◌, ap}
use Rattle.std.specs.Prelude.{codes}
use Rattle.iv_lines.specs.Parts.{cause_part, rest_text}
use Rattle.iv_lines.proofs.LineParts.{OnOk-append_four}
use Rattle.iv_lines.proofs.answers.push_ended.Goals as goal

pub returns : goal.returns
returns c = OnOk-append_four c.push_rest.result c.args.text.now.items (codes "{\"changes\":") c.args.rows.now (cause_part c.args.cause) (rest_text c.args.session c.args.sub) c.extend_from_slice.new.self.items c.extend_from_slice-2.new.self.items c.extend_from_slice-3.new.self.items c.push_rest.new.text.items c.in_ok-extend_from_slice.ensures.items c.in_ok-extend_from_slice-2.ensures.items (c.in_ok-extend_from_slice-3.ensures.items ∙ ap (λ v. c.extend_from_slice-2.new.self.items ++ v) c.cause_part.ensures) c.push_rest.ensures

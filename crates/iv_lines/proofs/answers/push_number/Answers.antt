use Rattle.std.proofs.Common.{◌∙◌, ◌++◌, ap}
use Rattle.std.specs.Prelude.{decimal}
use Rattle.iv_lines.proofs.LineParts.{append-two}
use Rattle.iv_lines.proofs.answers.push_number.Goals as goal

pub returns : goal.returns
returns c = append-two c.args.text.now.items c.args.before.now (decimal c.args.number) c.extend_from_slice.new.self.items c.extend_from_slice-2.new.self.items c.in_ok-extend_from_slice.ensures.items (c.in_ok-extend_from_slice-2.ensures.items ∙ ap (λ v. c.extend_from_slice.new.self.items ++ v) (c.as_bytes.ensures.value ∙ c.format.ensures.text))

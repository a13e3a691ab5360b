use Rattle.std.proofs.Common.{◌++◌}
use Rattle.std.specs.Prelude.{codes, decimal}
use Rattle.iv_lines.proofs.LineParts.{append-three}
use Rattle.iv_lines.proofs.answers.push_rest.Goals as goal

pub returns : goal.returns
returns c = append-three c.args.text.now.items (codes ",\"session\":" ++ decimal c.args.session) (codes ",\"sub\":" ++ decimal c.args.sub) (codes "}\n") c.push_number.new.text.items c.push_number-2.new.text.items c.extend_from_slice.new.self.items c.in_ok-push_number.ensures c.in_ok-push_number-2.ensures c.in_ok-extend_from_slice.ensures.items

use Rattle.std.proofs.Common.{◌++◌}
use Rattle.std.specs.Prelude.{codes, decimal}
use Rattle.iv_lines.proofs.LineParts.{append-four}
use Rattle.iv_lines.proofs.answers.push_change.Goals as goal

pub returns : goal.returns
returns c =
    append-four c.args.text.now.items (codes "{\"changes\":") c.args.rows.now (c.args.part.now ++ decimal c.args.sub) (codes "}\n")
    c.extend_from_slice.new.self.items c.extend_from_slice-2.new.self.items c.push_number.new.text.items c.extend_from_slice-3.new.self.items
    c.in_ok-extend_from_slice.ensures.items c.in_ok-extend_from_slice-2.ensures.items c.in_ok-push_number.ensures c.in_ok-extend_from_slice-3.ensures.items

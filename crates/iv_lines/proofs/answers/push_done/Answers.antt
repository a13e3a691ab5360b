use Rattle.std.proofs.Common.{◌++◌}
use Rattle.std.specs.Prelude.{codes, decimal}
use Rattle.iv_lines.proofs.LineParts.{append-two}
use Rattle.iv_lines.proofs.answers.push_done.Goals as goal

pub returns : goal.returns
returns c = append-two c.args.text.now.items (codes "{\"ok\":true,\"session\":" ++ decimal c.args.session) (codes "}\n") c.push_number.new.text.items c.extend_from_slice.new.self.items c.in_ok-push_number.ensures c.in_ok-extend_from_slice.ensures.items

use Rattle.std.specs.Prelude.{codes}
use Rattle.iv_lines.specs.Parts.{rest_text}
use Rattle.iv_lines.proofs.LineParts.{OnOk-append_two}
use Rattle.iv_lines.proofs.answers.push_subscribed.Goals as goal

pub returns : goal.returns
returns c = OnOk-append_two c.push_rest.result c.args.text.now.items (codes "{\"ok\":true") (rest_text c.args.session c.args.sub) c.extend_from_slice.new.self.items c.push_rest.new.text.items c.in_ok-extend_from_slice.ensures.items c.push_rest.ensures

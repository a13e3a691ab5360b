use Rattle.std.proofs.Common.{ap, flat_map}
use Rattle.iv_lines.specs.Texts.{line_text}
use Rattle.iv_wire.specs.Learned.{commands_in}
use Rattle.iv_wire.proofs.laws.bytes_tell_roles_nothing_else.Goals as goal

pub returns : goal.returns
returns c = λ role s t n bytes v h k. ap (flat_map line_text) (c.readers_learn_nothing_else.ensures.run role s t (commands_in n bytes) v h k)

use Rattle.std.proofs.Common.{refl}
use Rattle.std.specs.Fmt.{digits}
use Rattle.iv_door.proofs.laws.said_lines_are_these.Goals as goal

pub returns : goal.returns
unfolding digits
returns c = refl

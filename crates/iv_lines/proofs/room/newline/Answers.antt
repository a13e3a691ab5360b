-- The first newline that the search finds is the first place of the list whose byte is 10.
use Rattle.std.proofs.Common.{◌==◌}
use Rattle.iv_lines.proofs.BytePlaces.{position-IsFirstByte}
use Rattle.iv_lines.proofs.room.newline.Goals as goal

pub returns : goal.returns
returns c = position-IsFirstByte (λ b. b == 10) c.args.bytes.now c.memchr.result c.memchr.ensures

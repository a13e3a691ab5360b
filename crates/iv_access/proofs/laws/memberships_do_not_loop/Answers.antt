use Rattle.iv_access.proofs.NoLoops.{AreApart-IsReached}
use Rattle.iv_access.proofs.laws.memberships_do_not_loop.Goals as goal

pub returns : goal.returns
returns c = λ r h role other x y. AreApart-IsReached h role other x y

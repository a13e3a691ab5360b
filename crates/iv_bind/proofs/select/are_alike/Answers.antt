use Rattle.iv_bind.proofs.Alike.{kinds_eq-not_alike}
use Rattle.iv_bind.proofs.select.are_alike.Goals as goal

pub returns-then-a-b : goal.returns-then-a-b
returns-then-a-b c = kinds_eq-not_alike c.args.a.now c.args.b.now c.if-a-b.true

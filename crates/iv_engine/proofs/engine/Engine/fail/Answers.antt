use Rattle.std.proofs.Common.{rules}
use Rattle.iv_engine.proofs.engine.Engine.fail.Goals as goal

pub returns : goal.returns
returns c = search rules

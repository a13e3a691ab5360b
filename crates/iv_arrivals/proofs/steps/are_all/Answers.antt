use Rattle.std.proofs.Common.{arith, length-drop}
use Rattle.std.proofs.lemmas.Bool.Decides.{nat_tests}
use Rattle.iv_arrivals.proofs.steps.are_all.Goals as goal

pub returns : goal.returns
returns c = let more = length-drop c.args.count c.args.lines.now in grind (arith, nat_tests)

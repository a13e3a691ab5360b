use Rattle.iv_hall.proofs.NumberPlaces.{AreSet-HasGained, AreSet-HasLost}
use Rattle.iv_hall.proofs.numbers.Numbers.set.Goals as goal

pub returns-then-is_in : goal.returns-then-is_in
returns-then-is_in c = AreSet-HasGained c.args.number c.args.is_in c.args.self.now c.insert.new.self c.if-is_in.true c.insert.ensures

pub returns-else-is_in : goal.returns-else-is_in
returns-else-is_in c = AreSet-HasLost c.args.number c.args.is_in c.args.self.now c.remove.new.self c.if-is_in.false c.remove.ensures

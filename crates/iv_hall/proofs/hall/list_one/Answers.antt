use Rattle.iv_hall.specs.Hall.{is_told_at}
use Rattle.iv_hall.proofs.NumberPlaces.{AreSet-by}
use Rattle.iv_hall.proofs.hall.list_one.Goals as goal

pub returns : goal.returns
returns c = AreSet-by c.args.client c.is_told_at.result (is_told_at c.args.clients.now) c.args.told.now c.set.new.self c.is_told_at.ensures c.set.ensures

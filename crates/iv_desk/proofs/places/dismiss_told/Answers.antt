use Rattle.std.proofs.Common.{refl}
use Rattle.iv_desk.specs.Front.{dismissed}
use Rattle.iv_desk.proofs.ClientsToTell.{IsCalledBehind-at_each}
use Rattle.iv_desk.proofs.places.dismiss_told.Goals as goal

pub returns : goal.returns
returns c = λ d b.
    IsCalledBehind-at_each c.told_texts_are_lines.ensures dismissed d c.args.gateway.now c.args.gateway.now c.args.places.now.items
    c.dismiss_each.new.places.items
    c.told.result.now c.told.result.now b refl c.told.ensures.listed
    (c.in_ok-dismiss_each.ensures d b)

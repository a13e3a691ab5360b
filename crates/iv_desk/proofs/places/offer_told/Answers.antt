use Rattle.std.proofs.Common.{◌∙◌}
use Rattle.iv_desk.specs.Front.{offered}
use Rattle.iv_desk.proofs.ClientsToTell.{IsCalledBehind-at_each}
use Rattle.iv_desk.proofs.places.offer_told.Goals as goal

pub returns : goal.returns
returns c = λ d b.
    IsCalledBehind-at_each c.told_texts_are_lines.ensures offered d c.args.gateway.now c.offer_each.new.gateway c.args.places.now.items
    c.offer_each.new.places.items
    c.told.result.now c.deref.result.now b (c.deref.ensures.value ∙ c.in_ok-numbers.ensures.items) c.told.ensures.listed
    (c.in_ok-offer_each.ensures d b)

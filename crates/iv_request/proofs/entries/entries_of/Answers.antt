use Rattle.iv_request.specs.Request.{entry_of}
use Rattle.iv_request.proofs.Each.{each-drop_next}
use Rattle.iv_request.proofs.entries.entries_of.Goals as goal

pub loop-item-preserved : goal.loop-item-preserved
loop-item-preserved c =
    let l = c.loop-item in
    let found = rw c.in-Some.is at c.in_ok-entry_of.ensures in
    rw c.in_ok-push-in-Some.ensures.items
    (each-drop_next entry_of c.args.items.now l.entries.items l.item-index c.item-item.result c.in-Some.entry c.loop-item-test.true c.item-item.is l.invariant
    found)

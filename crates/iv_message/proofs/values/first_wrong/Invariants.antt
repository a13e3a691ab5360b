use Rattle.std.proofs.Common.{◌≡◌, suc, drop}
use Rattle.iv_request.specs.Documents.{items_data}
use Rattle.iv_message.specs.Message.{first_wrong}
use Rattle.iv_message.proofs.values.first_wrong.Given as goal

abbrev pub invariant-loop-item : goal.invariant-loop-item
invariant-loop-item l = (l.number ≡ l.item-index) × (first_wrong 1 (items_data l.items) ≡ first_wrong (suc l.item-index) (items_data (drop l.item-index l.items)))

use Rattle.std.proofs.Common.{◌≡◌, drop}
use Rattle.iv_request.specs.Documents.{items_data}
use Rattle.iv_request.specs.Request.{each, entry_of}
use Rattle.iv_request.proofs.Each.{behind}
use Rattle.iv_request.proofs.entries.entries_of.Given as goal

abbrev pub invariant-loop-item : goal.invariant-loop-item
invariant-loop-item l = each entry_of (items_data l.items) ≡ behind l.entries.items (each entry_of (items_data (drop l.item-index l.items)))

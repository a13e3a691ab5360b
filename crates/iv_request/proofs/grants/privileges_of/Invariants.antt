use Rattle.std.proofs.Common.{◌≡◌, drop}
use Rattle.iv_request.specs.Documents.{items_data}
use Rattle.iv_request.specs.Request.{each, privilege_of}
use Rattle.iv_request.proofs.Each.{behind}
use Rattle.iv_request.proofs.grants.privileges_of.Given as goal

abbrev pub invariant-loop-item : goal.invariant-loop-item
invariant-loop-item l = each privilege_of (items_data l.items) ≡ behind l.privileges.items (each privilege_of (items_data (drop l.item-index l.items)))

use Rattle.std.proofs.Common.{◌≡◌, drop, map, option_map}
use Rattle.std.specs.Prelude.{string_bytes}
use Rattle.iv_request.specs.Documents.{items_data}
use Rattle.iv_request.specs.Request.{each, grantee_of}
use Rattle.iv_request.proofs.Each.{behind}
use Rattle.iv_request.proofs.policies.each_grantee.Given as goal

abbrev pub invariant-loop-item : goal.invariant-loop-item
invariant-loop-item l = each grantee_of (items_data l.items) ≡ behind (map (option_map string_bytes) l.grantees.items) (each grantee_of (items_data (drop l.item-index l.items)))

use Rattle.std.proofs.Common.{◌≡◌, drop, map}
use Rattle.std.specs.Prelude.{option_map, string_bytes}
use Rattle.std.specs.List.{list_all}
use Rattle.iv_machine.specs.Well.{is_grantee}
use Rattle.iv_embedded.proofs.shape.are_grantees.Given as goal

abbrev pub invariant-loop-grantee : goal.invariant-loop-grantee
invariant-loop-grantee l = list_all is_grantee (map (option_map string_bytes) l.grantees) ≡ list_all is_grantee (map (option_map string_bytes) (drop l.grantee-index l.grantees))

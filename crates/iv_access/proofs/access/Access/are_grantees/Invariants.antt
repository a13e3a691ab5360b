use Rattle.std.proofs.Common.{◌≡◌, drop, map, option_map, string_bytes}
use Rattle.std.specs.List.{list_all}
use Rattle.iv_access.specs.Faults.{is_grantee}
use Rattle.iv_access.proofs.access.Access.are_grantees.Given as goal

abbrev pub invariant-loop-name : goal.invariant-loop-name
invariant-loop-name l = list_all (is_grantee l.self.rights) (map (option_map string_bytes) l.to) ≡ list_all (is_grantee l.self.rights) (map (option_map string_bytes) (drop l.name-index l.to))

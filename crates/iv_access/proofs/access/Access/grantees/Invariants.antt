use Rattle.std.proofs.Common.{◌≡◌, map, take, option_map, string_bytes}
use Rattle.iv_access.specs.Grants.{seen}
use Rattle.iv_access.specs.Access.{grantee_of}
use Rattle.iv_access.proofs.access.Access.grantees.Given as goal

abbrev pub invariant-loop-name : goal.invariant-loop-name
invariant-loop-name l = map seen l.grantees.items ≡ map (λ t. grantee_of l.self.rights (option_map string_bytes t)) (take l.name-index l.to)

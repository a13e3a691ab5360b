use Rattle.std.proofs.Common.{◌≡◌, drop, map}
use Rattle.iv_access.specs.Privileges.{first_missing, select_from}
use Rattle.iv_access.proofs.access.Access.first_unread.Given as goal

-- none so far is missing
abbrev pub invariant-loop-rel : goal.invariant-loop-rel
invariant-loop-rel l = first_missing l.self.rights l.role.0 (map select_from l.rels) ≡ first_missing l.self.rights l.role.0 (map select_from (drop l.rel-index l.rels))

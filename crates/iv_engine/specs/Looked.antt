-- For contracts of the code: what a role has on the relation that the rights have under a name.
use Rattle.std.specs.Prelude.{ℕ, Bool, false}
use Rattle.iv_rows.specs.Options.{if_some}
use Rattle.iv_access.specs.Access.{Access, relation_of}
use Rattle.iv_access.specs.Privileges.{has}
use Rattle.iv_access.specs.Rights.{Name}
use Rattle.iv_access.specs.declared.privilege.Privilege.{Privilege}
use Rattle.iv_engine.specs.Known.{has_any}

-- the role has some privilege on it
abbrev pub has_named : Access → ℕ → Name → Bool
has_named a role rel = if_some (relation_of a.relations rel) false (has_any a.rights role)

-- the role has the privilege on it
abbrev pub has_one : Access → ℕ → Privilege → Name → Bool
has_one a role p rel = if_some (relation_of a.relations rel) false (has a.rights role p)

-- What an engine tells without a command: a relation's columns, and what a role has.
use Rattle.std.specs.Prelude.{ℕ, Bool, false, List, [], ◌∷◌, filter, map}
use Rattle.std.specs.List.{list_any}
use Rattle.iv_rows.specs.Columns.{Column}
use Rattle.iv_rows.specs.Options.{if_some}
use Rattle.iv_bind.specs.Catalogs.{columns_of, named}
use Rattle.iv_access.specs.Privileges.{acts_as, has, role_of}
use Rattle.iv_access.specs.Rights.{Name, Rights}
use Rattle.iv_access.specs.declared.privilege.Privilege.{Privilege}
use Rattle.iv_access.specs.declared.privilege.Privilege.TheVariants.{Select, Insert, Update, Delete}
use Rattle.iv_machine.specs.State.{Frame}

-- the columns of the relation of a name; none if there is no such relation
abbrev pub columns_named : Frame → Name → List Column
columns_named f rel = if_some (named f.catalog rel) [] (λ e. columns_of e.held)

-- the role has some privilege on the relation, both by number
abbrev pub has_any : Rights → (role rel : ℕ) → Bool
has_any r role rel = list_any (λ p. has r role p rel) (Select ∷ Insert ∷ Update ∷ Delete ∷ [])

-- the role has some privilege on the relation (PostgreSQL 16, Privileges)
abbrev pub has_some : Frame → Name → Name → Bool
has_some f role rel = if_some (role_of f.rights role) false (λ r. if_some (named f.catalog rel) false (λ e. has_any f.rights r e.rel))

-- the role has the privilege on the relation (PostgreSQL 16, Privileges)
abbrev pub has_on : Frame → Name → Privilege → Name → Bool
has_on f role p rel = if_some (role_of f.rights role) false (λ r. if_some (named f.catalog rel) false (λ e. has f.rights r p e.rel))

-- the role is the other, or a member of it (PostgreSQL 16, Role Membership)
abbrev pub is_member : Frame → Name → Name → Bool
is_member f role other = if_some (role_of f.rights role) false (λ r. if_some (role_of f.rights other) false (acts_as f.rights r))

-- the relations on which the role has some privilege
abbrev pub relations_with : Frame → Name → List Name
relations_with f role = filter (has_some f role) (map (λ e. e.name) f.catalog)

-- Which circuits a change of rights concerns: a flag beside each.
use Rattle.std.specs.Prelude.{ℕ, Bool, false, not, List, map, Option}
use Rattle.iv_rows.specs.Options.{if_some}
use Rattle.iv_roles.specs.Memberships.{reaches}
use Rattle.iv_access.specs.Rights.{Rights}
use Rattle.iv_roles.specs.declared.role.RoleId.{RoleId}
use Rattle.iv_store.specs.Counting.{scans_at}
use Rattle.iv_store.specs.Store.{Store, role_reads}

-- whether what the relation shows is read from the table
abbrev pub scanning : Store → (table : ℕ) → List Bool
scanning e table = map (λ k. scans_at e.catalog k.rel table) e.circuits

-- whether its role may not read the relation
abbrev pub unreadable : Store → List Bool
unreadable e = map (λ k. not (role_reads e k.role k.rel)) e.circuits

-- the role reaches the other, if there is one
abbrev pub reaches_some : Rights → (role : ℕ) → Option RoleId → Bool
reaches_some r role other = if_some other false (λ o. reaches r.members role o.0)

-- whether its role reaches the other
abbrev pub reaching : Store → Option RoleId → List Bool
reaching e other = map (λ k. reaches_some e.known.rights k.role other) e.circuits

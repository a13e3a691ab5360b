-- What Access knows: the rights, and the name and the kinds of each relation.
use Rattle.std.specs.Prelude.{ℕ, List, [], Option, Some, None, option_map, unwrap_or, position, bytes_eq, slice_get, length}
use Rattle.std.specs.Borrow.{Bor}
use Rattle.std.specs.Global.{Vec}
use Rattle.iv_rows.specs.declared.value.Kind.{Kind}
use Rattle.iv_access.specs.Rights.{Name, Grantee, Public, Role, Rights, rights_at_start}
use Rattle.iv_access.specs.Privileges.{role_of}

-- a table has the kinds of its columns, and a view has none
pub record Relation : Type 0 where
  pub name : Name
  pub kinds : Option (List Kind)

-- a relation's number is its place
pub record Access : Type 0 where
  pub relations : List Relation
  pub rights : Rights

abbrev pub access_at_start : Access
access_at_start = record { relations = []; rights = rights_at_start }

-- the number of the relation of a name
abbrev pub relation_of : List Relation → Name → Option ℕ
relation_of rs name = position (λ r. bytes_eq name r.name) rs

-- the name of the relation of a number
abbrev pub relation_name : List Relation → ℕ → Option Name
relation_name rs rel = option_map (λ r. r.name) (slice_get rs rel)

-- the number of the role of a name; nothing asks for the number of a name that no role has
abbrev pub role_number : Rights → Name → ℕ
role_number r name = unwrap_or (role_of r name) (length r.roles)

-- to whom a name goes: all roles if there is none
abbrev pub grantee_of : Rights → Option Name → Grantee
grantee_of r None = Public
grantee_of r (Some name) = Role (role_number r name)

-- the name that is given, if one is
abbrev pub name_given : Option (Bor Name) → Option Name
name_given to = option_map (λ n. n.now) to

-- a table with the kinds, or a view with none
abbrev pub relation_with : Name → Option (Vec Kind) → Relation
relation_with name kinds = record { name = name; kinds = option_map (λ ks. ks.items) kinds }

-- What the parts of a request have to be.
use Rattle.std.specs.Prelude.{ℕ, ◌^◌, ◌&&◌, Bool, not, List, bytes_eq, codes, nat_le, nat_lt, Option, is_some, is_none}
use Rattle.iv_rows.specs.Names.{is_name}
use Rattle.iv_access.specs.declared.policy.PolicyCommand.{PolicyCommand}
use Rattle.iv_access.specs.declared.policy.PolicyCommand.TheVariants.{All, Select, Insert, Update, Delete}
use Rattle.iv_access.specs.Rights.{Name}

abbrev pub is_between : (low high n : ℕ) → Bool
is_between low high n = nat_le low n && nat_le n high

-- 1 to 2^63 - 1
abbrev pub is_positive : ℕ → Bool
is_positive n = nat_le 1 n && nat_lt n (2 ^ 63)

-- the superuser has no members
abbrev pub is_group : Name → Bool
is_group role = is_name role && not (bytes_eq role (codes "admin"))

-- which texts a policy for a command has (PostgreSQL 16, CREATE POLICY); one that reads or removes rows, or replaces
-- them, has `using`
abbrev pub has_texts : PolicyCommand → (using check : Option (List ℕ)) → Bool
has_texts All using check = is_some using
has_texts Select using check = is_some using && is_none check
has_texts Insert using check = is_none using && is_some check
has_texts Update using check = is_some using
has_texts Delete using check = is_some using && is_none check

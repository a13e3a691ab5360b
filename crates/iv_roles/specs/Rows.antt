-- The roles that each role reaches, as rows of flags.
use Rattle.std.specs.Prelude.{◌≡◌, ℕ, ◌<◌, ◌==◌, ◌||◌, Bool, false, List, [], length, get_or}
use Rattle.std.specs.List.{All}
use Rattle.iv_roles.specs.Memberships.{Membership, reaches}

abbrev pub flag : List (List Bool) → ℕ → ℕ → Bool
flag rows a b = get_or (get_or rows a []) b false

-- the role a is b, or its row has the flag of b
abbrev pub leads : List (List Bool) → ℕ → ℕ → Bool
leads rows a b = a == b || flag rows a b

-- the role and the member have rows, and rows a flag for the role
pub record IsWithin (n : ℕ) (m : Membership) : Type 0 where
  pub wide : m.role < 256
  pub role : m.role < n
  pub member : m.member < n

pub record AreRows (ms : List Membership) (rows : List (List Bool)) : Type 0 where
  pub within : All (IsWithin (length rows)) ms
  pub follow : (a b : ℕ) → leads rows a b ≡ reaches ms a b

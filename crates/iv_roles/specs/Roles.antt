-- The one superuser.
use Rattle.std.specs.Prelude.{ℕ, ◌==◌, Bool}

-- it is the first role
abbrev pub is_admin : ℕ → Bool
is_admin role = role == 0

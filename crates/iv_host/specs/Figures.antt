-- Who is there, by role, and in all.
use Rattle.std.specs.Prelude.{◌≡◌, ℕ, if◌then◌else◌, List, [], ◌∷◌, bytes_eq}
use Rattle.iv_host.specs.Counts.{raised}

-- roles, and how many clients each has
abbrev pub ByRole : Type 0
ByRole = List (List ℕ × ℕ)

-- one client more of a role
abbrev pub one_more : List ℕ → ByRole → ByRole
one_more role [] = (role, 1) ∷ []
one_more role (r ∷ rs) = if bytes_eq r.0 role then (r.0, raised r.1 1) ∷ rs else r ∷ one_more role rs

-- how many clients there are
abbrev pub clients_in : ByRole → ℕ
clients_in [] = 0
clients_in (r ∷ rs) = raised r.1 (clients_in rs)

-- who is counted by role is counted in all
abbrev pub RolesAddUp : Type 0
RolesAddUp = (role : List ℕ) (rs : ByRole) → clients_in (one_more role rs) ≡ raised (clients_in rs) 1

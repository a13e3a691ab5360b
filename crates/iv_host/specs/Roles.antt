-- For contracts of the code: roles with their counts, as names and numbers.
use Rattle.std.specs.Prelude.{ℕ, zero, suc, if◌then◌else◌, List, [], ◌∷◌, Option, Some, None, String, bytes_eq, map, option_map, string_bytes}
use Rattle.std.specs.declared.alloc.Global.{Global}
use Rattle.iv_host.specs.Counts.{raised}
use Rattle.iv_host.specs.Figures.{ByRole}

abbrev pub role_of : String Global × ℕ → List ℕ × ℕ
role_of r = (string_bytes r.0, r.1)

abbrev pub by_role : List (String Global × ℕ) → ByRole
by_role rs = map role_of rs

-- where a role is first
abbrev pub first_at : List ℕ → ByRole → Option ℕ
first_at role [] = None
first_at role (r ∷ rs) = if bytes_eq r.0 role then Some 0 else option_map suc (first_at role rs)

-- one client more of the role at a place
abbrev pub more_at : ℕ → ByRole → ByRole
more_at n [] = []
more_at zero (r ∷ rs) = (r.0, raised r.1 1) ∷ rs
more_at (suc n) (r ∷ rs) = r ∷ more_at n rs

-- all of them, counted from left to right
abbrev pub sum_from : ℕ → ByRole → ℕ
sum_from n [] = n
sum_from n (r ∷ rs) = sum_from (raised n r.1) rs

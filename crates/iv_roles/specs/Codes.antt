-- How the logic stores a membership, so that a value that a contract sees may hold some.
use Rattle.std.specs.Prelude.{ℕ, refl}
use Rattle.std.specs.Coded.{Coded, code_by, coded_ℕ, coded×}
use Rattle.iv_roles.specs.Memberships.{Membership}

abbrev pub membership_code : Coded Membership
membership_code = code_by (ℕ × ℕ) (coded× coded_ℕ coded_ℕ) (λ m. (m.role, m.member)) (λ c. record { role = c.0; member = c.1 }) (λ _. refl)

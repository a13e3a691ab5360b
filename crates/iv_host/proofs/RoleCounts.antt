-- Who is counted by role is counted in all.
use Rattle.std.proofs.Common.{◌≡◌, ℕ, ◌-◌, ◌^◌, ◌≤◌, Bool, true, false, cond, List, [], ◌∷◌, bytes_eq, refl, sym, ap, ◌∙◌, arith}
use Rattle.iv_host.specs.Counts.{raised}
use Rattle.iv_host.specs.Figures.{ByRole, clients_in, one_more}
use Rattle.iv_host.specs.Roles.{sum_from}

pub clients_bound : (rs : ByRole) → clients_in rs ≤ 2 ^ 64 - 1
clients_bound [] = omega arith
clients_bound (r ∷ rs) = omega arith

none_more : (n : ℕ) → n ≤ 2 ^ 64 - 1 → raised 0 n ≡ n
none_more n h = omega (arith, h)

pub raised_nothing : (rs : ByRole) → raised 0 (clients_in rs) ≡ clients_in rs
raised_nothing rs = none_more (clients_in rs) (clients_bound rs)

-- counts add up in any order
pub raised_in_turn : (a b c : ℕ) → raised (raised a c) b ≡ raised (raised a b) c
raised_in_turn a b c = omega arith

pub raised_behind : (a b c : ℕ) → raised a (raised b c) ≡ raised (raised a b) c
raised_behind a b c = omega arith

added : (d : Bool) (role : List ℕ) (r : List ℕ × ℕ) (rs : ByRole) → clients_in (one_more role rs) ≡ raised (clients_in rs) 1
    → clients_in (cond d ((r.0, raised r.1 1) ∷ rs) (r ∷ one_more role rs)) ≡ raised (raised r.1 (clients_in rs)) 1
added true role r rs h = raised_in_turn r.1 (clients_in rs) 1
added false role r rs h = ap (raised r.1) h ∙ raised_behind r.1 (clients_in rs) 1

pub clients_in-one_more : (role : List ℕ) (rs : ByRole) → clients_in (one_more role rs) ≡ raised (clients_in rs) 1
clients_in-one_more role [] = refl
clients_in-one_more role (r ∷ rs) = added (bytes_eq r.0 role) role r rs (clients_in-one_more role rs)

-- a sum from left to right
sum_from_is : (n : ℕ) (rs : ByRole) → n ≤ 2 ^ 64 - 1 → sum_from n rs ≡ raised n (clients_in rs)
sum_from_is n [] h = omega (arith, h)
sum_from_is n (r ∷ rs) h = sum_from_is (raised n r.1) rs (omega arith) ∙ sym (raised_behind n r.1 (clients_in rs))

pub sum_from-clients_in : (rs : ByRole) → sum_from 0 rs ≡ clients_in rs
sum_from-clients_in rs = sum_from_is 0 rs (omega arith) ∙ raised_nothing rs

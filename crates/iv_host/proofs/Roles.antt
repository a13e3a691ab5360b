-- Where a role stands among roles, and what one client more of it makes of them.
use Rattle.std.proofs.Common.{◌≡◌, ℕ, zero, suc, ◌<◌, ◌≤◌, Bool, true, false, cond, List, [], ◌∷◌, ◌++◌, Some, None, length, get_or, set, bytes_eq, refl, sym, ap, ◌∙◌, arith}
use Rattle.std.specs.Prelude.{Option, String, option_map, string_bytes}
use Rattle.std.specs.declared.alloc.Global.{Global}
use Rattle.iv_host.specs.Counts.{raised}
use Rattle.iv_host.specs.Figures.{ByRole, one_more}
use Rattle.iv_host.specs.Roles.{by_role, first_at, more_at}

is_none_some : (n : ℕ) → None ≡ Some n → ⊥
is_none_some n h = cc h

is_some_none : (n : ℕ) → Some n ≡ None → ⊥
is_some_none n h = cc h

same_number : (m n : ℕ) → Some m ≡ Some n → m ≡ n
same_number m n h = cc

-- ---- one more

one_more_by : (role : List ℕ) (r : List ℕ × ℕ) (rs : ByRole) (n : ℕ) → ((m : ℕ) → first_at role rs ≡ Some m → one_more role rs ≡ more_at m rs) → (b : Bool) (o : Option ℕ)
    → first_at role rs ≡ o → cond b (Some 0) (option_map suc o) ≡ Some n → cond b ((r.0, raised r.1 1) ∷ rs) (r ∷ one_more role rs) ≡ more_at n (r ∷ rs)
one_more_by role r rs n more true o e k = ap (λ m. more_at m (r ∷ rs)) (same_number 0 n k)
one_more_by role r rs n more false None e k = absurd (is_none_some n k)
one_more_by role r rs n more false (Some m) e k = ap (λ l. r ∷ l) (more m e) ∙ ap (λ q. more_at q (r ∷ rs)) (same_number (suc m) n k)

pub one_more-first_at : (role : List ℕ) (rs : ByRole) (n : ℕ) → first_at role rs ≡ Some n → one_more role rs ≡ more_at n rs
one_more-first_at role [] n h = absurd (is_none_some n h)
one_more-first_at role (r ∷ rs) n h = one_more_by role r rs n (λ m e. one_more-first_at role rs m e) (bytes_eq r.0 role) (first_at role rs) refl h

behind_by : (role : List ℕ) (r : List ℕ × ℕ) (rs : ByRole) → (first_at role rs ≡ None → one_more role rs ≡ rs ++ (role, 1) ∷ []) → (b : Bool) (o : Option ℕ)
    → first_at role rs ≡ o → cond b (Some 0) (option_map suc o) ≡ None → cond b ((r.0, raised r.1 1) ∷ rs) (r ∷ one_more role rs) ≡ (r ∷ rs) ++ (role, 1) ∷ []
behind_by role r rs more true o e k = absurd (is_some_none 0 k)
behind_by role r rs more false None e k = ap (λ l. r ∷ l) (more e)
behind_by role r rs more false (Some m) e k = absurd (is_some_none (suc m) k)

one_more_behind : (role : List ℕ) (rs : ByRole) → first_at role rs ≡ None → one_more role rs ≡ rs ++ (role, 1) ∷ []
one_more_behind role [] h = refl
one_more_behind role (r ∷ rs) h = behind_by role r rs (λ e. one_more_behind role rs e) (bytes_eq r.0 role) (first_at role rs) refl h

-- ---- in the code's list

pub by_role-set : (n : ℕ) (xs : List (String Global × ℕ)) (x y : String Global × ℕ) → n < length xs → x ≡ get_or xs n x → y.0 ≡ x.0 → y.1 ≡ raised x.1 1
    → by_role (set xs n y) ≡ more_at n (by_role xs)
by_role-set n [] x y h e p q = absurd (let no : ⊥ = omega (arith, h) in no)
by_role-set zero (z ∷ zs) x y h e p q =
    let name : string_bytes y.0 ≡ string_bytes z.0 = ap string_bytes p ∙ ap (λ w. string_bytes w.0) e in
    let count : y.1 ≡ raised z.1 1 = q ∙ ap (λ w. raised w.1 1) e in
    ap (λ k. (k, y.1) ∷ by_role zs) name ∙ ap (λ k. (string_bytes z.0, k) ∷ by_role zs) count
by_role-set (suc n) (z ∷ zs) x y h e p q = ap (λ l. (string_bytes z.0, z.1) ∷ l) (by_role-set n zs x y (omega (arith, h)) e p q)

pub more_at-past : (n : ℕ) (xs : List (String Global × ℕ)) → length xs ≤ n → by_role xs ≡ more_at n (by_role xs)
more_at-past n [] h = refl
more_at-past zero (z ∷ zs) h = absurd (let no : ⊥ = omega (arith, h) in no)
more_at-past (suc n) (z ∷ zs) h = ap (λ l. (string_bytes z.0, z.1) ∷ l) (more_at-past n zs (omega (arith, h)))

behind : (xs : List (String Global × ℕ)) (y : String Global × ℕ) → by_role (xs ++ y ∷ []) ≡ by_role xs ++ (string_bytes y.0, y.1) ∷ []
behind [] y = refl
behind (x ∷ xs) y = ap (λ l. (string_bytes x.0, x.1) ∷ l) (behind xs y)

pub by_role-push : (role : List ℕ) (xs ys : List (String Global × ℕ)) (name : String Global) → first_at role (by_role xs) ≡ None → string_bytes name ≡ role → ys ≡ xs ++ (name, 1) ∷ []
    → by_role ys ≡ one_more role (by_role xs)
by_role-push role xs ys name h e p = ap by_role p ∙ (behind xs (name, 1) ∙ (ap (λ k. by_role xs ++ (k, 1) ∷ []) e ∙ sym (one_more_behind role (by_role xs) h)))

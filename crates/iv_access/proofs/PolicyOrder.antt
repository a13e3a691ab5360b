-- A table's policies stand in the order of their names, and no two have one name.
use Rattle.std.proofs.Common.{◌≡◌, ℕ, zero, suc, ◌<◌, List, [], ◌∷◌, ◌++◌, Bool, true, false, refl, ◌∙◌, Option, Some, None, length, get_or, inl, inr, subst, bytes_eq, arith}
use Rattle.std.specs.Prelude.{◌&&◌, All, is_some, not, slice_get, if◌then◌else◌}
use Rattle.std.specs.List.{list_any, position}
use Rattle.std.specs.declared.cmp.Ordering.{Ordering}
use Rattle.std.specs.declared.cmp.Ordering.TheVariants.{Less, Equal, Greater}
use Rattle.std.specs.Ordering.{is_lt, is_eq, ordering_reverse, nat_cmp}
use Rattle.std.specs.Cmp.Lexicographic.{slice_cmp}
use Rattle.std.proofs.lemmas.Bool.{cases_lt, cases_eq}
use Rattle.std.proofs.lemmas.Cmp.{nat_list_cmp_total}
use Rattle.std.proofs.lemmas.List.Elements.{All-nil, All-cons, All-head, All-tail}
use Rattle.std.proofs.lemmas.List.Kept.{AllPairs-cons, AllPairs-filter}
use Rattle.std.proofs.lemmas.List.Quantifiers.{position-Some}
use Rattle.std.proofs.lemmas.Map.Text.{is_eq-slice_cmp}
use Rattle.std.proofs.lemmas.Option.{slice_get-get_or}
use Rattle.iv_access.specs.declared.policy.PolicyCommand.TheVariants as command
use Rattle.iv_access.specs.declared.policy.Verdict.TheVariants.{Pass, NoPermissive, Restrictive}
use Rattle.iv_access.specs.Rights.{Name, Guard, Policy, Rights}
use Rattle.iv_access.specs.NewPolicies.{policy_from}
use Rattle.iv_access.specs.Changing.{changed_at, insert_policy, remove_policy}
use Rattle.iv_access.specs.Policies.{failed_at, is_named, policies_of, policy_of}
use Rattle.iv_access.specs.Reached.{IsReached, at_start, role_created, role_granted, role_revoked, relation_added, privileges_granted, privileges_revoked, security_switched, policy_created, policy_dropped, ComesBefore, Rise, IsFirstByName}
use Rattle.iv_roles.proofs.Lists.{list_any-no_position}
use Rattle.iv_access.proofs.Lists.{or_left, or_right}

-- ---- names

less : (o : Ordering) → is_lt o ≡ true → o ≡ Less
less Less e = refl
less Equal e = cc
less Greater e = cc

turned : (o q : Ordering) → q ≡ ordering_reverse o → is_lt o ≡ false → is_eq o ≡ false → q ≡ Less
turned Less q e l n = cc
turned Equal q e l n = cc
turned Greater q e l n = e

-- a name that differs from another and does not stand before it stands after it
after : (a b : Name) → is_lt (slice_cmp nat_cmp a b) ≡ false → bytes_eq a b ≡ false → slice_cmp nat_cmp b a ≡ Less
after a b l n = turned (slice_cmp nat_cmp a b) (slice_cmp nat_cmp b a) (nat_list_cmp_total.antisymm b a) l (is_eq-slice_cmp a b ∙ n)

-- ---- the policies of a table

behind : (p q : Policy) (ps : List Policy) → ComesBefore p q → All (ComesBefore q) ps → All (ComesBefore p) ps
behind p q ps e all = λ k d within. nat_list_cmp_total.trans p.name q.name (get_or ps k d).name e (all k d within)

insert_behind : (q p : Policy) (ps : List Policy) → ComesBefore q p → All (ComesBefore q) ps → All (ComesBefore q) (insert_policy p ps)
insert_behind q p [] e all = All-cons (ComesBefore q) p [] e all
insert_behind q p (x ∷ xs) e all =
    elim (is_lt (slice_cmp nat_cmp p.name x.name)) as (λ b. All (ComesBefore q) (if b then p ∷ x ∷ xs else x ∷ insert_policy p xs)) [
      | true ↦ All-cons (ComesBefore q) p (x ∷ xs) e all
      | false ↦ All-cons (ComesBefore q) x (insert_policy p xs) (All-head (ComesBefore q) x xs all) (insert_behind q p xs e (All-tail (ComesBefore q) x xs all))
    ]

pub rise_inserted : (p : Policy) (ps : List Policy) → list_any (is_named p.name) ps ≡ false → Rise ps → Rise (insert_policy p ps)
rise_inserted p [] none h = AllPairs-cons ComesBefore p [] (All-nil (ComesBefore p)) h
rise_inserted p (q ∷ qs) none h =
    let head : All (ComesBefore q) qs = λ k d within. h zero (suc k) d (omega arith) (omega arith) in
    let rest : Rise qs = λ i j d lt within. h (suc i) (suc j) d (omega arith) (omega arith) in
    elim (is_lt (slice_cmp nat_cmp p.name q.name)) as (λ b. is_lt (slice_cmp nat_cmp p.name q.name) ≡ b → Rise (if b then p ∷ q ∷ qs else q ∷ insert_policy p qs)) [
      | true ↦ λ e.
          let before : ComesBefore p q = less (slice_cmp nat_cmp p.name q.name) e in
          AllPairs-cons ComesBefore p (q ∷ qs) (All-cons (ComesBefore p) q qs before (behind p q qs before head)) h
      | false ↦ λ e.
          let behind_q : ComesBefore q p = after p.name q.name e (or_left (is_named p.name q) (list_any (is_named p.name) qs) none) in
          AllPairs-cons ComesBefore q (insert_policy p qs) (insert_behind q p qs behind_q head) (rise_inserted p qs (or_right (is_named p.name q) (list_any (is_named p.name) qs) none) rest)
    ] refl

-- ---- each table

rise_changed : (n : ℕ) (change : Guard → Guard) (gs : List Guard) → ((g : Guard) → slice_get gs n ≡ Some g → Rise (change g).policies)
    → ((m : ℕ) → Rise (policies_of (slice_get gs m))) → (m : ℕ) → Rise (policies_of (slice_get (changed_at n change gs) m))
rise_changed n change [] f h m = h m
rise_changed zero change (g ∷ gs) f h zero = f g refl
rise_changed zero change (g ∷ gs) f h (suc m) = h (suc m)
rise_changed (suc n) change (g ∷ gs) f h zero = h zero
rise_changed (suc n) change (g ∷ gs) f h (suc m) = rise_changed n change gs f (λ k. h (suc k)) m

rise_pushed : (gs : List Guard) (g : Guard) → Rise g.policies → ((m : ℕ) → Rise (policies_of (slice_get gs m))) → (m : ℕ) → Rise (policies_of (slice_get (gs ++ g ∷ []) m))
rise_pushed [] g e h zero = e
rise_pushed [] g e h (suc m) = h zero
rise_pushed (x ∷ xs) g e h zero = h zero
rise_pushed (x ∷ xs) g e h (suc m) = rise_pushed xs g e (λ k. h (suc k)) m

-- ---- where a policy may come

not_taken : (a b c : Bool) → (a && (not b && not c)) ≡ true → b ≡ false
not_taken false b c e = cc
not_taken true true c e = cc
not_taken true false c e = refl

no_place : (o : Option ℕ) → is_some o ≡ false → o ≡ None
no_place None e = refl
no_place (Some n) e = cc

nothing_rises : Rise []
nothing_rises i j d lt within = absurd (omega arith)

pub Rise-IsReached : {r : Rights} → IsReached r → (table : ℕ) → Rise (policies_of (slice_get r.guards table))
Rise-IsReached at_start table = nothing_rises
Rise-IsReached (role_created r name h) table = Rise-IsReached h table
Rise-IsReached (role_granted r acting role to free h) table = Rise-IsReached h table
Rise-IsReached (role_revoked r role member h) table = Rise-IsReached h table
Rise-IsReached (relation_added r owner h) table =
    rise_pushed r.guards (record { owner = owner; enabled = false; forced = false; policies = [] }) nothing_rises (Rise-IsReached h) table
Rise-IsReached (privileges_granted r rel ps to h) table = Rise-IsReached h table
Rise-IsReached (privileges_revoked r rel ps to h) table = Rise-IsReached h table
Rise-IsReached (security_switched r n enabled forced h) table =
    rise_changed n (λ g. record g { enabled = enabled; forced = forced }) r.guards
    (λ g e. subst (λ o. Rise (policies_of o)) e (Rise-IsReached h n)) (Rise-IsReached h) table
Rise-IsReached (policy_created r n p free h) table =
    let none : list_any (is_named p.name) (policies_of (slice_get r.guards n)) ≡ false =
    list_any-no_position (is_named p.name) (policies_of (slice_get r.guards n)) (no_place (policy_of r n p.name) (not_taken _ _ _ free)) in
    rise_changed n (λ g. record g { policies = insert_policy (policy_from r p) g.policies }) r.guards
    (λ g e. subst (λ o. Rise (insert_policy (policy_from r p) (policies_of o))) e (rise_inserted (policy_from r p) (policies_of (slice_get r.guards n)) none (Rise-IsReached h n))) (Rise-IsReached h) table
Rise-IsReached (policy_dropped r n name h) table =
    rise_changed n (λ g. record g { policies = remove_policy name g.policies }) r.guards
    (λ g e. subst (λ o. Rise (remove_policy name (policies_of o))) e (AllPairs-filter ComesBefore _ (policies_of (slice_get r.guards n)) (Rise-IsReached h n))) (Rise-IsReached h) table

-- ---- the one that is is-Restrictive

pub is-Restrictive : (exempt permitted : Bool) (o : Option ℕ) (place : ℕ) → (if exempt then Pass else (if permitted then failed_at o else NoPermissive)) ≡ Restrictive place → o ≡ Some place
is-Restrictive true permitted o place e = cc
is-Restrictive false false o place e = cc
is-Restrictive false true None place e = cc
is-Restrictive false true (Some n) place e = cc

same_read : {A : Type 0} (xs : List A) (i : ℕ) (c d : A) → i < length xs → get_or xs i c ≡ get_or xs i d
same_read xs i c d within = let one = slice_get-get_or xs i c within in let other = slice_get-get_or xs i d within in cc

no_policy : Policy
no_policy = record { name = []; restrictive = false; command = command.All; to = []; using = None; check = None }

both_ways : {A : Type 0} (b : Bool) → b ≡ true → b ≡ false → A
both_ways b e f = cc

pub IsFirstByName-Rise : (test : Policy → Bool) (ps : List Policy) (place : ℕ) → Rise ps → position test ps ≡ Some place → IsFirstByName test ps place
IsFirstByName-Rise test ps place h e =
    let found = position-Some test ps place no_policy e in
    record {
      policy = get_or ps place no_policy;
      there = slice_get-get_or ps place no_policy found.0;
      passes = found.1;
      before = λ k d within passed. elim (cases_lt k place) [
        | inl lt ↦ both_ways (test (get_or ps k d)) passed ((position-Some test ps place d e).2 k lt)
        | inr ge ↦ elim (cases_eq place k) [
          | inl same ↦ inl (subst (λ n. get_or ps n d ≡ get_or ps place no_policy) same (same_read ps place d no_policy found.0))
          | inr apart ↦ inr (subst (λ p. ComesBefore p (get_or ps k d)) (same_read ps place d no_policy found.0) (h place k d (omega (arith, ge, apart)) within))
        ]
      ];
    }

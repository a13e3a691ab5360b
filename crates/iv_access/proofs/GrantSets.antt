-- Grants as a set that keeps the order in which they came.
use Rattle.std.proofs.Common.{◌≡◌, inl, inr, ℕ, ◌==◌, List, [], ◌∷◌, Bool, true, false, cond, not, ◌&&◌, ◌||◌, refl, sym, ap, subst}
use Rattle.std.specs.Bool.{Decides}
use Rattle.std.specs.Cmp.{unsigned_Decides}
use Rattle.std.specs.List.{list_any, filter}
use Rattle.iv_access.specs.declared.privilege.Privilege.{Privilege}
use Rattle.iv_access.specs.Rights.{Grantee, Public, Role, Grant, Rights}
use Rattle.iv_access.specs.declared.privilege.Privilege.TheVariants.{Select, Insert, Update, Delete}
use Rattle.iv_access.specs.Given.{HasBy, as_admin, by_all, by_role, IsInherited, IsNotInherited, grant_to, is_among}
use Rattle.iv_roles.specs.Memberships.{reaches}
use Rattle.iv_roles.specs.Roles.{is_admin}
use Rattle.iv_access.specs.Privileges.{has, privilege_eq, is_for}
use Rattle.iv_access.specs.Changing.{grant_eq, grantee_eq}
use Rattle.iv_roles.proofs.Chains.{absurd-true_false, one_of, each_of, by_left, by_right, by_both, is-both_ways, Follows-reaches, reaches_itself, reaches-trans}

-- ---- grants that are found equal are one grant

privilege_same : (p q : Privilege) → privilege_eq p q ≡ true → p ≡ q
privilege_same Select Select e = refl
privilege_same Insert Insert e = refl
privilege_same Update Update e = refl
privilege_same Delete Delete e = refl
privilege_same Select Insert e = cc
privilege_same Select Update e = cc
privilege_same Select Delete e = cc
privilege_same Insert Select e = cc
privilege_same Insert Update e = cc
privilege_same Insert Delete e = cc
privilege_same Update Select e = cc
privilege_same Update Insert e = cc
privilege_same Update Delete e = cc
privilege_same Delete Select e = cc
privilege_same Delete Insert e = cc
privilege_same Delete Update e = cc

privilege_itself : (p : Privilege) → privilege_eq p p ≡ true
privilege_itself Select = refl
privilege_itself Insert = refl
privilege_itself Update = refl
privilege_itself Delete = refl

number_itself : (n : ℕ) → (n == n) ≡ true
number_itself n = (unsigned_Decides n n).1 refl

grantee_same : (a b : Grantee) → grantee_eq a b ≡ true → a ≡ b
grantee_same Public Public e = refl
grantee_same (Role a) (Role b) e = ap Role ((unsigned_Decides a b).0 e)
grantee_same Public (Role b) e = cc
grantee_same (Role a) Public e = cc

grantee_itself : (a : Grantee) → grantee_eq a a ≡ true
grantee_itself Public = refl
grantee_itself (Role a) = number_itself a

grant_same : (a b : Grant) → grant_eq a b ≡ true → a ≡ b
grant_same a b e =
    let first = each_of (a.rel == b.rel) (privilege_eq a.privilege b.privilege && grantee_eq a.grantee b.grantee) e in
    let second = each_of (privilege_eq a.privilege b.privilege) (grantee_eq a.grantee b.grantee) first.1 in
    λ i. record {
      grantee = grantee_same a.grantee b.grantee second.1 i;
      privilege = privilege_same a.privilege b.privilege second.0 i;
      rel = (unsigned_Decides a.rel b.rel).0 first.0 i;
    }

pub grant_eq-itself : (a : Grant) → grant_eq a a ≡ true
grant_eq-itself a = (λ i. number_itself a.rel i && (privilege_itself a.privilege i && grantee_itself a.grantee i))

pub grant_eq_decides : (a b : Grant) → Decides (grant_eq a b) (a ≡ b)
grant_eq_decides a b = (grant_same a b, λ e. subst (λ c. grant_eq a c ≡ true) e (grant_eq-itself a))

pub grant_eq-turned : (a b : Grant) → grant_eq a b ≡ grant_eq b a
grant_eq-turned a b =
    is-both_ways (grant_eq a b) (grant_eq b a)
    (λ e. (grant_eq_decides b a).1 (sym (grant_same a b e)))
    (λ e. (grant_eq_decides a b).1 (sym (grant_same b a e)))

-- ---- what is taken out

-- where none is there, none is taken out
pub filter-none_passes : {A : Type 0} (test : A → Bool) (xs : List A) → list_any test xs ≡ false → filter (λ x. not (test x)) xs ≡ xs
filter-none_passes test [] e = refl
filter-none_passes test (x ∷ xs) e =
    elim (test x) as (λ b. (b || list_any test xs) ≡ false → cond (not b) (x ∷ filter (λ y. not (test y)) xs) (filter (λ y. not (test y)) xs) ≡ (x ∷ xs)) [
      | true ↦ λ h. cc
      | false ↦ λ h. ap (λ ys. x ∷ ys) (filter-none_passes test xs h)
    ] e

-- ---- who has what

module _ (r : Rights) (role : ℕ) (p : Privilege) (rel : ℕ) where
  -- the grant gives the role the privilege
  abbrev pub gives : Grant → Bool
  gives g = rel == g.rel && (privilege_eq p g.privilege && is_for r role g.grantee)

  pub given : (to : Grantee) (gs : List Grant) → is_for r role to ≡ true → is_among gs (grant_to to p rel) ≡ true → list_any gives gs ≡ true
  given to [] f e = e
  given to (g ∷ gs) f e =
      elim (one_of (grant_eq (grant_to to p rel) g) (is_among gs (grant_to to p rel)) e) [
        | inl x ↦
            let own : gives (grant_to to p rel) ≡ true = by_both (rel == rel) (privilege_eq p p && is_for r role to) (number_itself rel) (by_both (privilege_eq p p) (is_for r role to) (privilege_itself p) f) in
            by_left (gives g) (list_any gives gs) (subst (λ h. gives h ≡ true) ((grant_eq_decides (grant_to to p rel) g).0 x) own)
        | inr x ↦ by_right (gives g) (list_any gives gs) (given to gs f x)
      ]

  pub giver : (gs : List Grant) → list_any gives gs ≡ true → (to : Grantee) × (is_for r role to ≡ true) × (is_among gs (grant_to to p rel) ≡ true)
  giver [] e = cc
  giver (g ∷ gs) e =
      elim (one_of (gives g) (list_any gives gs) e) [
        | inl x ↦
            let same = each_of (rel == g.rel) (privilege_eq p g.privilege && is_for r role g.grantee) x in
            let rest = each_of (privilege_eq p g.privilege) (is_for r role g.grantee) same.1 in
            let whole = each_of (g.rel == g.rel) (privilege_eq g.privilege g.privilege && grantee_eq g.grantee g.grantee) (grant_eq-itself g) in
            let to = (each_of (privilege_eq g.privilege g.privilege) (grantee_eq g.grantee g.grantee) whole.1).1 in (
              g.grantee,
              rest.1,
              by_left (grant_eq (grant_to g.grantee p rel) g) (is_among gs (grant_to g.grantee p rel))
                  (by_both (rel == g.rel) (privilege_eq p g.privilege && grantee_eq g.grantee g.grantee) same.0 (by_both (privilege_eq p g.privilege) (grantee_eq g.grantee g.grantee) rest.0 to)),
            )
        | inr x ↦
            let found = giver gs x in
            (found.0, found.1, by_right (grant_eq (grant_to found.0 p rel) g) (is_among gs (grant_to found.0 p rel)) found.2)
      ]

  by_grantee : (to : Grantee) → is_for r role to ≡ true → is_among r.grants (grant_to to p rel) ≡ true → HasBy r role p rel
  by_grantee Public f e = by_all r role p rel e
  by_grantee (Role other) f e = by_role r role other p rel ((Follows-reaches r.members role other).0 f) e

  pub has_by : has r role p rel ≡ true → HasBy r role p rel
  has_by e =
      elim (one_of (is_admin role) (list_any gives r.grants) e) [
        | inl x ↦ as_admin r role p rel x
        | inr x ↦ let found = giver r.grants x in by_grantee found.0 found.1 found.2
      ]

  abbrev pub own_or_all : Bool
  own_or_all = is_among r.grants (grant_to Public p rel) || is_among r.grants (grant_to (Role role) p rel)

  pub by_own : own_or_all ≡ true → list_any gives r.grants ≡ true
  by_own e =
      elim (one_of (is_among r.grants (grant_to Public p rel)) (is_among r.grants (grant_to (Role role) p rel)) e) [
        | inl y ↦ given Public r.grants refl y
        | inr y ↦ given (Role role) r.grants (reaches_itself r.members role) y
      ]

  told_to : (t : Bool) → (t ≡ false → IsNotInherited r role p rel) → (to : Grantee) → is_for r role to ≡ true → is_among r.grants (grant_to to p rel) ≡ true → (own_or_all || t) ≡ true
  told_to t lacks Public f e = by_left own_or_all t (by_left (is_among r.grants (grant_to Public p rel)) (is_among r.grants (grant_to (Role role) p rel)) e)
  told_to t lacks (Role other) f e =
      elim (role == other) as (λ b. (role == other) ≡ b → (own_or_all || t) ≡ true) [
        | true ↦ λ s.
            by_left own_or_all t (by_right (is_among r.grants (grant_to Public p rel)) (is_among r.grants (grant_to (Role role) p rel))
            (subst (λ o. is_among r.grants (grant_to (Role o) p rel) ≡ true) (sym ((unsigned_Decides role other).0 s)) e))
        | false ↦ λ s.
            by_right own_or_all t (elim t as (λ b. t ≡ b → b ≡ true) [
              | true ↦ λ _. refl
              | false ↦ λ h. absurd-true_false (is_among r.grants (grant_to (Role other) p rel)) e (lacks h other s f)
            ] refl)
      ] refl

  -- what was granted to all roles, to the role, or to another that it reaches, is what it has
  pub told : (t : Bool) → (t ≡ true → IsInherited r role p rel) → (t ≡ false → IsNotInherited r role p rel) → (own_or_all || t) ≡ list_any gives r.grants
  told t heir lacks =
      is-both_ways (own_or_all || t) (list_any gives r.grants)
      (λ e. elim (one_of own_or_all t e) [
        | inl x ↦ by_own x
        | inr x ↦ given (Role (heir x).other) r.grants (heir x).reached (heir x).granted
      ])
      (λ e. let found = giver r.grants e in told_to t lacks found.0 found.1 found.2)

pub has-HasBy : {r : Rights} {role : ℕ} {p : Privilege} {rel : ℕ} → HasBy r role p rel → has r role p rel ≡ true
has-HasBy (as_admin r role p rel e) = by_left (is_admin role) (list_any (gives r role p rel) r.grants) e
has-HasBy (by_all r role p rel e) = by_right (is_admin role) (list_any (gives r role p rel) r.grants) (given r role p rel Public r.grants refl e)
has-HasBy (by_role r role other p rel h e) = by_right (is_admin role) (list_any (gives r role p rel) r.grants) (given r role p rel (Role other) r.grants ((Follows-reaches r.members role other).1 h) e)

for_member : (r : Rights) (role other : ℕ) → reaches r.members role other ≡ true → (to : Grantee) → is_for r other to ≡ true → is_for r role to ≡ true
for_member r role other e Public f = refl
for_member r role other e (Role last) f = reaches-trans r.members role other last e f

pub has-reaches : (r : Rights) (role other : ℕ) (p : Privilege) (rel : ℕ) → reaches r.members role other ≡ true → is_admin other ≡ false → has r other p rel ≡ true → has r role p rel ≡ true
has-reaches r role other p rel e lacks h =
    elim (one_of (is_admin other) (list_any (gives r other p rel) r.grants) h) [
      | inl x ↦ absurd-true_false (is_admin other) x lacks
      | inr x ↦
          let found = giver r other p rel r.grants x in
          by_right (is_admin role) (list_any (gives r role p rel) r.grants) (given r role p rel found.0 r.grants (for_member r role other e found.0 found.1) found.2)
    ]

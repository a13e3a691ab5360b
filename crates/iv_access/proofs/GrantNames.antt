-- What grants and revokes name.
use Rattle.std.proofs.Common.{◌≡◌, ℕ, ◌==◌, List, [], ◌∷◌, ◌++◌, Bool, true, false, not, ◌&&◌, ◌||◌, refl, sym, ap, ◌∙◌, subst}
use Rattle.std.specs.Prelude.{if◌then◌else◌}
use Rattle.std.specs.List.{list_any, AllPass}
use Rattle.std.proofs.lemmas.List.Folds.{list_any-append}
use Rattle.std.proofs.lemmas.List.Elements.{All-head, All-tail}
use Rattle.std.proofs.lemmas.Map.Views.{any-filter_same}
use Rattle.iv_access.specs.declared.privilege.Privilege.{Privilege}
use Rattle.iv_access.specs.declared.privilege.Privilege.TheVariants.{Select, Insert, Update, Delete}
use Rattle.iv_access.specs.Rights.{Grantee, Grant}
use Rattle.iv_access.specs.Privileges.{privilege_eq}
use Rattle.iv_access.specs.Changing.{grantee_eq, grant_eq, granted, revoked, for_each}
use Rattle.iv_access.specs.Given.{is_among, is_named_by}
use Rattle.iv_access.proofs.GrantSets.{grant_eq_decides, grant_eq-turned}

or_false : (a : Bool) → (a || false) ≡ a
or_false true = refl
or_false false = refl

taken_in : (a b : Bool) → (b ≡ true → a ≡ true) → a ≡ (a || b)
taken_in true b f = refl
taken_in false true f = f refl
taken_in false false f = refl

-- one grant
pub is_among-granted : (g h : Grant) (gs : List Grant) → is_among (granted h gs) g ≡ (is_among gs g || grant_eq g h)
is_among-granted g h gs =
    elim (list_any (grant_eq h) gs) as (λ b. list_any (grant_eq h) gs ≡ b → list_any (grant_eq g) (if b then gs else gs ++ h ∷ []) ≡ (is_among gs g || grant_eq g h)) [
      | true ↦ λ t. taken_in (is_among gs g) (grant_eq g h) (λ e. subst (λ k. list_any (grant_eq k) gs ≡ true) (sym ((grant_eq_decides g h).0 e)) t)
      | false ↦ λ _. list_any-append (grant_eq g) gs (h ∷ []) ∙ ap (λ b. is_among gs g || b) (or_false (grant_eq g h))
    ] refl

-- one revoke
pub is_among-revoked : (g h : Grant) (gs : List Grant) → is_among (revoked h gs) g ≡ (not (grant_eq g h) && is_among gs g)
is_among-revoked g h gs =
    any-filter_same (grant_eq g) (λ k. not (grant_eq h k)) (not (grant_eq g h))
    (λ k e. ap not (ap (grant_eq h) (sym ((grant_eq_decides g k).0 e)) ∙ grant_eq-turned h g)) gs

no_more : (a t b : Bool) → b ≡ (b || (a && (false && t)))
no_more true t true = refl
no_more true t false = refl
no_more false t true = refl
no_more false t false = refl

one_more : (a x t y b : Bool) → ((b || (a && (x && t))) || (a && (y && t))) ≡ (b || (a && ((x || y) && t)))
one_more a x t y true = refl
one_more false x t y false = refl
one_more true true true y false = refl
one_more true true false true false = refl
one_more true true false false false = refl
one_more true false t y false = refl

pub is_among-for_each_granted : (rel : ℕ) (ps : List Privilege) (to : Grantee) (g : Grant) (gs : List Grant) → is_among (for_each granted rel ps to gs) g ≡ (is_among gs g || is_named_by rel ps to g)
is_among-for_each_granted rel [] to g gs = no_more (g.rel == rel) (grantee_eq g.grantee to) (is_among gs g)
is_among-for_each_granted rel (p ∷ ps) to g gs =
    is_among-for_each_granted rel ps to g (granted (record { grantee = to; privilege = p; rel = rel }) gs)
    ∙ ap (λ b. b || is_named_by rel ps to g) (is_among-granted g (record { grantee = to; privilege = p; rel = rel }) gs)
    ∙ one_more (g.rel == rel) (privilege_eq g.privilege p) (grantee_eq g.grantee to) (list_any (privilege_eq g.privilege) ps) (is_among gs g)

none_less : (a t b : Bool) → b ≡ (not (a && (false && t)) && b)
none_less true t b = refl
none_less false t b = refl

one_less : (a x t y b : Bool) → (not (a && (y && t)) && (not (a && (x && t)) && b)) ≡ (not (a && ((x || y) && t)) && b)
one_less false x t y b = refl
one_less true true true true b = refl
one_less true true true false b = refl
one_less true true false true b = refl
one_less true true false false b = refl
one_less true false true true b = refl
one_less true false true false b = refl
one_less true false false true b = refl
one_less true false false false b = refl

pub is_among-for_each_revoked : (rel : ℕ) (ps : List Privilege) (to : Grantee) (g : Grant) (gs : List Grant) → is_among (for_each revoked rel ps to gs) g ≡ (not (is_named_by rel ps to g) && is_among gs g)
is_among-for_each_revoked rel [] to g gs = none_less (g.rel == rel) (grantee_eq g.grantee to) (is_among gs g)
is_among-for_each_revoked rel (p ∷ ps) to g gs =
    is_among-for_each_revoked rel ps to g (revoked (record { grantee = to; privilege = p; rel = rel }) gs)
    ∙ ap (λ b. not (is_named_by rel ps to g) && b) (is_among-revoked g (record { grantee = to; privilege = p; rel = rel }) gs)
    ∙ one_less (g.rel == rel) (privilege_eq g.privilege p) (grantee_eq g.grantee to) (list_any (privilege_eq g.privilege) ps) (is_among gs g)

-- what is held is not added again
held_stays : (h : Grant) (gs : List Grant) → is_among gs h ≡ true → granted h gs ≡ gs
held_stays h gs e = ap (λ b. if b then gs else gs ++ h ∷ []) e

pub for_each-all_held : (rel : ℕ) (ps : List Privilege) (to : Grantee) (gs : List Grant) → AllPass (λ p. is_among gs (record { grantee = to; privilege = p; rel = rel })) ps → for_each granted rel ps to gs ≡ gs
for_each-all_held rel [] to gs h = refl
for_each-all_held rel (p ∷ ps) to gs h =
    ap (for_each granted rel ps to) (held_stays (record { grantee = to; privilege = p; rel = rel }) gs (All-head (λ q. is_among gs (record { grantee = to; privilege = q; rel = rel }) ≡ true) p ps h))
    ∙ for_each-all_held rel ps to gs (All-tail (λ q. is_among gs (record { grantee = to; privilege = q; rel = rel }) ≡ true) p ps h)

pub privilege_among_all : (p : Privilege) → list_any (privilege_eq p) (Select ∷ Insert ∷ Update ∷ Delete ∷ []) ≡ true
privilege_among_all Select = refl
privilege_among_all Insert = refl
privilege_among_all Update = refl
privilege_among_all Delete = refl

-- Grants as flags.
use Rattle.std.proofs.Common.{◌≡◌, inl, inr, ℕ, ◌-◌, ◌<◌, ◌≤◌, ◌==◌, List, [], ◌∷◌, ◌++◌, Bool, true, false, not, ◌&&◌, ◌||◌, refl, sym, ap, ◌∙◌, subst, length, get_or, set, replicate, arith, get_or-set_same, get_or-set_other}
use Rattle.std.specs.Prelude.{if◌then◌else◌}
use Rattle.std.proofs.lemmas.Bool.{cases_eq, cases_lt, eq-eqb, ne_eqb}
use Rattle.std.proofs.lemmas.List.{get_or_append_left, get_or-append_right, get_or_default, get_or_past, get_or-replicate, length-replicate}
use Rattle.iv_access.specs.declared.privilege.Privilege.TheVariants.{Select, Insert, Update, Delete}
use Rattle.iv_access.specs.declared.grants.Grantees.{Grantees}
use Rattle.iv_access.specs.declared.grants.RelationGrants.{RelationGrants}
use Rattle.iv_access.specs.Rights.{Grantee, Public, Role, Grant}
use Rattle.iv_access.specs.Privileges.{privilege_eq}
use Rattle.iv_access.specs.Changing.{grantee_eq, grant_eq, revoked}
use Rattle.iv_access.specs.Given.{is_among}
use Rattle.iv_access.specs.Grants.{AreFlags, FlagsStay, flag_of, grantees_of, IsClear, IsSetIn, is_flagged, no_grants}
use Rattle.iv_roles.proofs.Chains.{absurd-true_false}
use Rattle.iv_roles.proofs.Flags.{get_or-replicate_false}
use Rattle.iv_access.proofs.GrantSets.{filter-none_passes}
use Rattle.iv_access.proofs.GrantNames.{is_among-granted, is_among-revoked}

-- ---- no flag

abbrev pub nobody_of : ℕ → Grantees
nobody_of n = record { all = false; roles = replicate n false }

to_nobody : (n : ℕ) (to : Grantee) → flag_of (nobody_of n) to ≡ false
to_nobody n Public = refl
to_nobody n (Role k) = get_or-replicate_false n k

pub IsClear-nobody : (n : ℕ) → IsClear (record { select = nobody_of n; insert = nobody_of n; update = nobody_of n; delete = nobody_of n })
IsClear-nobody n Select to = to_nobody n to
IsClear-nobody n Insert to = to_nobody n to
IsClear-nobody n Update to = to_nobody n to
IsClear-nobody n Delete to = to_nobody n to

clear_past : IsClear no_grants
clear_past = IsClear-nobody 0

past_all : (rs : List RelationGrants) (g : Grant) → length rs ≤ g.rel → is_flagged rs g ≡ false
past_all rs g l = ap (λ r. flag_of (grantees_of r g.privilege) g.grantee) (get_or_past rs g.rel no_grants l) ∙ clear_past g.privilege g.grantee

all_clear : (k n : ℕ) (fresh : RelationGrants) → IsClear fresh → IsClear (get_or (replicate k fresh) n no_grants)
all_clear k n fresh h p to =
    elim (cases_lt n k) [
      | inl l ↦ ap (λ r. flag_of (grantees_of r p) to) (get_or-replicate k n fresh no_grants l) ∙ h p to
      | inr g ↦
          let long = length-replicate k fresh in
          ap (λ r. flag_of (grantees_of r p) to) (get_or_past (replicate k fresh) n no_grants (omega (arith, long, g))) ∙ clear_past p to
    ]

-- more relations without a flag
pub FlagsStay-append : (rs : List RelationGrants) (k : ℕ) (fresh : RelationGrants) → IsClear fresh → FlagsStay rs (rs ++ replicate k fresh)
FlagsStay-append rs k fresh h g =
    elim (cases_lt g.rel (length rs)) [
      | inl l ↦ ap (λ r. flag_of (grantees_of r g.privilege) g.grantee) (get_or_append_left rs (replicate k fresh) no_grants g.rel l)
      | inr past ↦
          ap (λ r. flag_of (grantees_of r g.privilege) g.grantee) (get_or-append_right rs (replicate k fresh) (length rs) g.rel no_grants refl past)
          ∙ all_clear k (g.rel - length rs) fresh h g.privilege g.grantee
          ∙ sym (past_all rs g past)
    ]

-- ---- one flag

changed : (rs : List RelationGrants) (h : Grant) (held : Bool) (old new : RelationGrants) → h.rel < length rs → old ≡ get_or rs h.rel old → IsSetIn h.privilege h.grantee held old new
    → (g : Grant) → is_flagged (set rs h.rel new) g ≡ (if grant_eq g h then held else is_flagged rs g)
changed rs h held old new l is step g =
    let other : (n : ℕ) → Bool → Bool = λ n same. if same && (privilege_eq g.privilege h.privilege && grantee_eq g.grantee h.grantee) then held else flag_of (grantees_of (get_or rs n no_grants) g.privilege) g.grantee in
    elim (cases_eq g.rel h.rel) [
      | inl same ↦
          subst (λ n. flag_of (grantees_of (get_or (set rs h.rel new) n no_grants) g.privilege) g.grantee ≡ other n (n == h.rel)) (sym same)
          (ap (λ r. flag_of (grantees_of r g.privilege) g.grantee) (get_or-set_same rs h.rel new no_grants l)
          ∙ step g.privilege g.grantee
          ∙ ap (λ r. if privilege_eq g.privilege h.privilege && grantee_eq g.grantee h.grantee then held else flag_of (grantees_of r g.privilege) g.grantee) (is ∙ get_or_default rs h.rel old no_grants l)
          ∙ ap (other h.rel) (sym (eq-eqb h.rel h.rel refl)))
      | inr apart ↦
          ap (λ r. flag_of (grantees_of r g.privilege) g.grantee) (get_or-set_other rs h.rel g.rel new no_grants apart)
          ∙ ap (other g.rel) (sym (ne_eqb g.rel h.rel apart))
    ]

set_here : (e f : Bool) → (if e then true else f) ≡ (f || e)
set_here true true = refl
set_here true false = refl
set_here false true = refl
set_here false false = refl

cleared_here : (e f : Bool) → (if e then false else f) ≡ (not e && f)
cleared_here true f = refl
cleared_here false f = refl

-- a grant that was not held
pub AreFlags-granted : (gs : List Grant) (rs : List RelationGrants) (h : Grant) (old new : RelationGrants) → AreFlags gs rs → is_among gs h ≡ false → h.rel < length rs
    → old ≡ get_or rs h.rel old → IsSetIn h.privilege h.grantee true old new → AreFlags (gs ++ h ∷ []) (set rs h.rel new)
AreFlags-granted gs rs h old new are none l is step g =
    changed rs h true old new l is step g
    ∙ set_here (grant_eq g h) (is_flagged rs g)
    ∙ ap (λ f. f || grant_eq g h) (are g)
    ∙ sym (is_among-granted g h gs)
    ∙ ap (λ b. is_among (if b then gs else gs ++ h ∷ []) g) none

-- a grant that is held no more
pub AreFlags-revoked : (gs : List Grant) (rs : List RelationGrants) (h : Grant) (old new : RelationGrants) → AreFlags gs rs → h.rel < length rs
    → old ≡ get_or rs h.rel old → IsSetIn h.privilege h.grantee false old new → AreFlags (revoked h gs) (set rs h.rel new)
AreFlags-revoked gs rs h old new are l is step g =
    changed rs h false old new l is step g
    ∙ cleared_here (grant_eq g h) (is_flagged rs g)
    ∙ ap (λ f. not (grant_eq g h) && f) (are g)
    ∙ sym (is_among-revoked g h gs)

pub revoked-absent : (gs : List Grant) (h : Grant) → is_among gs h ≡ false → gs ≡ revoked h gs
revoked-absent gs h none = sym (filter-none_passes (grant_eq h) gs none)

-- a grant that is held has a flag
pub lt-is_among : (gs : List Grant) (rs : List RelationGrants) (h : Grant) → AreFlags gs rs → is_among gs h ≡ true → h.rel < length rs
lt-is_among gs rs h are e =
    elim (cases_lt h.rel (length rs)) [
      | inl l ↦ l
      | inr past ↦ absurd-true_false (is_among gs h) e (sym (are h) ∙ past_all rs h past)
    ]

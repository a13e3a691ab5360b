use Rattle.std.proofs.Common.{◌≡◌, ◌∙◌, ◌==◌, ◌&&◌, ◌||◌, Bool, ℕ, true, false, refl, length}
use Rattle.std.specs.Cmp.{unsigned_Decides}
use Rattle.std.specs.List.{list_any}
use Rattle.iv_access.specs.declared.privilege.Privilege.{Privilege}
use Rattle.iv_access.specs.Rights.{Role, Grant, Rights}
use Rattle.iv_roles.specs.Roles.{is_admin}
use Rattle.iv_access.specs.Changing.{with_relation, all_privileges}
use Rattle.iv_access.specs.Given.{is_among}
use Rattle.iv_roles.proofs.Chains.{by_right, reaches_itself}
use Rattle.iv_access.proofs.GrantSets.{given, gives}
use Rattle.iv_access.proofs.GrantNames.{is_among-for_each_granted, privilege_among_all}
use Rattle.iv_access.proofs.laws.owners_have_all.Goals as goal

or_true : (a : Bool) → (a || true) ≡ true
or_true true = refl
or_true false = refl

same : (n : ℕ) → (n == n) ≡ true
same n = (unsigned_Decides n n).1 refl

own : (r : Rights) (owner : ℕ) (p : Privilege) → is_among (with_relation owner r).grants (record { grantee = Role owner; privilege = p; rel = length r.guards }) ≡ true
own r owner p =
    let g : Grant = record { grantee = Role owner; privilege = p; rel = length r.guards } in
    is_among-for_each_granted (length r.guards) all_privileges (Role owner) g r.grants
    ∙ (λ i. is_among r.grants g || (same (length r.guards) i && (privilege_among_all p i && same owner i)))
    ∙ or_true (is_among r.grants g)

pub returns : goal.returns
returns c = λ r owner p.
    let after = with_relation owner r in
    by_right (is_admin owner) (list_any (gives after owner p (length r.guards)) after.grants)
    (given after owner p (length r.guards) (Role owner) after.grants (reaches_itself r.members owner) (own r owner p))

use Rattle.std.proofs.Common.{◌≡◌, ◌∙◌, ap, option_map, subst, sym, true}
use Rattle.iv_clients.specs.Kept.{Kept}
use Rattle.iv_clients.proofs.Slots.{same-Some, not_None-Some}
use Rattle.iv_notices.specs.Newly.{is_among}
use Rattle.iv_notices.proofs.newly.add_role_of.Goals as goal

pub returns-in-None-clause-added : goal.returns-in-None-clause-added
returns-in-None-clause-added c = λ k e.
    absurd (not_None-Some k.role (sym (ap (option_map (λ (x : Kept). x.role)) e) ∙ (sym c.role_at.ensures ∙ ap (option_map (λ r. r.now)) c.in-None.is)))

pub returns-in_ok-add_role-in-Some-clause-added : goal.returns-in_ok-add_role-in-Some-clause-added
returns-in_ok-add_role-in-Some-clause-added c = λ k e.
    let role : c.in-Some.role.now ≡ k.role = same-Some c.in-Some.role.now k.role
    (sym (ap (option_map (λ r. r.now)) c.in-Some.is) ∙ (c.role_at.ensures ∙ ap (option_map (λ (x : Kept). x.role)) e)) in
    subst (λ r. is_among c.add_role.new.all.items r ≡ true) role c.in_ok-add_role-in-Some.ensures.added

use Rattle.std.proofs.Common.{◌∙◌, ap, sym}
use Rattle.iv_host.specs.Roles.{by_role, first_at}
use Rattle.iv_host.proofs.Roles.{by_role-push, one_more-first_at}
use Rattle.iv_host.proofs.figures.Now.count.Goals as goal

pub returns-in-Some : goal.returns-in-Some
returns-in-Some c =
    c.count_at.ensures ∙ sym (one_more-first_at c.args.role.now (by_role c.args.self.now.roles.items) c.in-Some.at
    (ap (λ l. first_at c.args.role.now (by_role l)) (sym c.deref.ensures.value) ∙ sym c.in-Some.ensures))

pub returns-in_ok-push-in-None : goal.returns-in_ok-push-in-None
returns-in_ok-push-in-None c =
    by_role-push c.args.role.now c.args.self.now.roles.items c.push.new.self.items c.in_ok-name-in-None.name
    (ap (λ l. first_at c.args.role.now (by_role l)) (sym c.deref.ensures.value) ∙ sym c.in-None.ensures) c.in_ok-name-in-None.ensures.ok c.in_ok-push-in-None.ensures.items

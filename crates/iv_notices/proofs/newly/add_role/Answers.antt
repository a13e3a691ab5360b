use Rattle.std.proofs.Common.{◌≡◌, ◌∙◌, ap, subst, sym, true}
use Rattle.std.specs.List.{AllByRecursion}
use Rattle.iv_notices.specs.Newly.{IsReadable, is_among}
use Rattle.iv_notices.proofs.NewRights.{all_more, among_more, among_still}
use Rattle.iv_notices.proofs.newly.add_role.Goals as goal

pub returns-then-is_among-clause-added : goal.returns-then-is_among-clause-added
returns-then-is_among-clause-added c =
    ap (λ rs. is_among rs c.args.role.now) (sym c.deref.ensures.value) ∙ (sym c.is_among.ensures ∙ c.if-is_among.true)

pub returns-clause-each : goal.returns-clause-each
returns-clause-each c = λ w.
    subst (AllByRecursion (IsReadable c.args.engine.now.frame)) (sym c.in_ok-push.ensures.items)
    (all_more c.args.engine.now.frame c.args.all.now.items c.in_ok-one.one w c.in_ok-one.ensures.readable)

pub returns-clause-added : goal.returns-clause-added
returns-clause-added c =
    subst (λ rs. is_among rs c.args.role.now ≡ true) (sym c.in_ok-push.ensures.items)
    (among_more c.args.all.now.items c.in_ok-one.one c.args.role.now c.in_ok-one.ensures.role)

pub returns-clause-others : goal.returns-clause-others
returns-clause-others c = λ other h.
    subst (λ rs. is_among rs other ≡ true) (sym c.in_ok-push.ensures.items) (among_still c.args.all.now.items c.in_ok-one.one other h)

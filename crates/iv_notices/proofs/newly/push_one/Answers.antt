use Rattle.std.proofs.Common.{◌∙◌, sym}
use Rattle.iv_notices.proofs.NewRights.{one_new, one_old}
use Rattle.iv_notices.proofs.newly.push_one.Goals as goal

pub returns-then-is_new : goal.returns-then-is_new
returns-then-is_new c =
    one_new c.args.engine.now.frame c.args.before.now c.args.rel.now c.args.text.now.items _ (sym c.is_new.ensures ∙ c.if-is_new.true)
    c.in_ok-push_granted.ensures

pub returns : goal.returns
returns c = one_old c.args.engine.now.frame c.args.before.now c.args.rel.now c.args.text.now.items (sym c.is_new.ensures ∙ c.if-is_new.false)

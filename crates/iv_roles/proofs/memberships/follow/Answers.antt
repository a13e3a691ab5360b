use Rattle.std.proofs.Common.{◌∙◌, ℕ, ap, ◌≡◌}
use Rattle.iv_roles.specs.Memberships.{further}
use Rattle.iv_roles.specs.Rows.{leads}
use Rattle.iv_roles.proofs.Flags.{leads-take_next}
use Rattle.iv_roles.proofs.memberships.follow.Goals as goal

pub loop-membership-preserved : goal.loop-membership-preserved
loop-membership-preserved c =
    let h = c.loop-membership.invariant in
    let rows = c.loop-membership.rows in
    let step : (a b : ℕ) → leads c.lead.new.rows a b ≡ further (leads rows) c.membership-item.result a b = λ a b.
    c.lead.ensures.flags a b ∙ ap (λ m. further (leads rows) m a b) c.membership.view_is in (
      leads-take_next c.args.direct.now c.loop-membership.membership-index c.membership-item.result rows c.lead.new.rows c.loop-membership-test.true c.membership-item.is h.0 step,
      c.lead.ensures.length ∙ h.1,
    )

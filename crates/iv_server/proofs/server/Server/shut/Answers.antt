use Rattle.std.proofs.Common.{◌∙◌, refl, subst, sym, add-one}
use Rattle.iv_desk.specs.Desks.{IsDesk}
use Rattle.iv_server.specs.Shutting.{closed_below}
use Rattle.iv_server.proofs.server.Server.shut.Goals as goal

pub loop-at-init : goal.loop-at-init
loop-at-init c = (λ may d h. h, λ d s. s, refl)

pub loop-at-preserved : goal.loop-at-preserved
loop-at-preserved c = (
  λ may d h. c.in_ok-close_at.ensures.serves may d (c.loop-at.invariant.0 may d h),
  λ d s. subst (λ k. IsDesk (closed_below k d) c.close_at.new.desk) (sym (add-one c.loop-at.at)) (c.in_ok-close_at.ensures.closed (closed_below c.loop-at.at d) (c.loop-at.invariant.1 d s)),
  c.in_ok-close_at.ensures.same ∙ c.loop-at.invariant.2,
)

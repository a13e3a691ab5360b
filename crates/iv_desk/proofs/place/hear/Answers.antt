use Rattle.std.proofs.Common.{subst}
use Rattle.iv_desk.specs.Desks.{IsHeardNext}
use Rattle.iv_desk.proofs.place.hear.Goals as goal

pub loop-init : goal.loop-init
loop-init c = λ g s w. w

pub returns-in-Some : goal.returns-in-Some
returns-in-Some c = λ g s w.
    subst (λ o. IsHeardNext g c.args.at s o c.hear_next.new.gateway c.hear_next.new.place) c.in-Some.is (c.in_ok-hearing.ensures g s (c.loop.invariant g s w))

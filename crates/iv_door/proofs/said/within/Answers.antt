use Rattle.std.proofs.Common.{◌∙◌, ◌++◌, refl, sym}
use Rattle.iv_door.proofs.Texts.{same_fronts}
use Rattle.iv_door.proofs.said.within.Goals as goal

pub returns-clause-none : goal.returns-clause-none
returns-clause-none c = λ e m h. c.before-2.ensures.none e m
    (same_fronts c.args.front.now (m ++ c.args.back.now) c.args.front.now c.in_ok-after.field-0.now (h ∙ sym c.in_ok-after.ensures.some) refl).behind

use Rattle.std.proofs.Common.{◌∙◌, ap, length, sym, take}
use Rattle.std.specs.Cmp.Lexicographic.{other_text}
use Rattle.std.proofs.Math.Seq.{take-append_seam}
use Rattle.iv_door.proofs.said.after.Goals as goal

pub returns-else-eq-clause-none : goal.returns-else-eq-clause-none
returns-else-eq-clause-none c = λ _ rest h. other_text c.split_at.result.0.now c.args.front.now c.if-eq.ensures
    (c.split_at.ensures.front ∙ (ap (λ z. take (length c.args.front.now) z) (sym h) ∙ take-append_seam c.args.front.now rest))

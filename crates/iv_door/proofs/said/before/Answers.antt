use Rattle.std.proofs.Common.{◌∙◌}
use Rattle.std.specs.Cmp.Lexicographic.{other_text}
use Rattle.iv_door.proofs.Texts.{drop_end}
use Rattle.iv_door.proofs.said.before.Goals as goal

pub returns-else-eq-clause-none : goal.returns-else-eq-clause-none
returns-else-eq-clause-none c = λ _ rest h. other_text c.split_at.result.1.now c.args.back.now c.if-eq.ensures
    (c.split_at.ensures.back ∙ drop_end rest c.args.back.now c.args.text.now h)

use Rattle.std.proofs.Common.{◌∙◌, ap}
use Rattle.std.specs.Prelude.{◌++◌, codes, decimal}
use Rattle.iv_door.proofs.Texts.{joined_5}
use Rattle.iv_door.proofs.answers.push_refused.Goals as goal

pub returns : goal.returns
returns c =
    c.in_ok-push_number.ensures
    ∙ (ap (λ z. z ++ decimal c.args.refusal) c.in_ok-push_both.ensures
    ∙ joined_5 c.args.out.now.items (codes "entry ") (decimal c.args.entry) (codes " of step ") (decimal c.args.to) (codes " is refused by ") (decimal c.args.refusal))

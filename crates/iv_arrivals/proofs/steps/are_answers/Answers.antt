use Rattle.std.proofs.Common.{◌∙◌, ap, sym}
use Rattle.std.specs.List.{list_all}
use Rattle.std.proofs.lemmas.List.{take_all}
use Rattle.iv_arrivals.specs.Reads.{is_answer}
use Rattle.iv_arrivals.proofs.StepLines.{all_further, all_stops}
use Rattle.iv_arrivals.proofs.steps.are_answers.Goals as goal

pub loop-name-preserved : goal.loop-name-preserved
loop-name-preserved c =
    all_further is_answer c.args.names.now c.loop-name.name-index c.name-item.result c.loop-name-test.true c.loop-name.invariant
    (ap is_answer (sym c.name-item.is) ∙ (sym c.in_ok-is_answer.ensures ∙ c.if-not-branch.false))

pub returns-then-not-branch : goal.returns-then-not-branch
returns-then-not-branch c =
    sym (all_stops is_answer c.args.names.now c.loop-name.name-index c.name-item.result c.loop-name-test.true
    (ap is_answer (sym c.name-item.is) ∙ (sym c.in_ok-is_answer.ensures ∙ c.if-not-branch.true)))

pub returns : goal.returns
returns c = sym (ap (list_all is_answer) (sym (take_all c.loop-name.name-index c.args.names.now c.loop-name-test.false)) ∙ c.loop-name.invariant)

use Rattle.std.proofs.Common.{◌∙◌, refl, sym}
use Rattle.std.specs.Prelude.{codes}
use Rattle.std.proofs.lemmas.Bool.{false≢true}
use Rattle.iv_door.specs.Said.{has_form}
use Rattle.iv_door.proofs.Texts.{log_line_is, log_middle, log_parts, same_ends}
use Rattle.iv_door.proofs.said.log_in.Goals as goal

pub returns-in_err-middle-clause-none : goal.returns-in_err-middle-clause-none
returns-in_err-middle-clause-none c = λ _ l h. c.in_err-middle.ensures.none refl (log_middle l) (log_line_is c.args.front.now l ∙ h.1)

pub returns-in_err-name-clause-none : goal.returns-in_err-name-clause-none
returns-in_err-name-clause-none c = λ _ l h.
    let p = log_parts c.args.front.now c.args.line.now c.in_ok-middle.middle.now c.in_ok-before.before.now c.in_ok-before.epoch.now l c.in_ok-middle.ensures.some c.in_ok-before.ensures.some h in
    c.in_err-name.ensures.none refl l.name (sym p.before)

pub returns-else-has_form-clause-none : goal.returns-else-has_form-clause-none
returns-else-has_form-clause-none c = λ _ l h.
    let p = log_parts c.args.front.now c.args.line.now c.in_ok-middle.middle.now c.in_ok-before.before.now c.in_ok-before.epoch.now l c.in_ok-middle.ensures.some c.in_ok-before.ensures.some h in
    let q = same_ends c.in_ok-name.name.now (codes "\",\"epoch\":\"") l.name (codes "\",\"epoch\":\"") (c.in_ok-name.ensures.some ∙ p.before) refl in
    false≢true (c.if-has_form.ensures ∙ ((λ i. has_form (record { name = q.before i; epoch = p.behind i })) ∙ h.0))

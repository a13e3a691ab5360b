use Rattle.std.proofs.Common.{◌∙◌, [], refl, subst, sym}
use Rattle.std.specs.Prelude.{◌++◌, codes, decimal}
use Rattle.iv_door.proofs.Texts.{HasNo, ends_line, from_fits, has_it, middle_is, middle_of, same_within, step_parts, to_fits, to_line}
use Rattle.iv_door.proofs.said.step_in.Goals as goal

pub returns-in_err-middle-clause-none : goal.returns-in_err-middle-clause-none
returns-in_err-middle-clause-none c = λ _ from to w h. c.in_err-middle.ensures.none refl (middle_of from to) (ends_line from to ∙ h)

pub returns-in_err-from-clause-none : goal.returns-in_err-from-clause-none
returns-in_err-from-clause-none c = λ _ from to w h. has_it 44 (decimal from) (codes "\"step\":" ++ decimal to)
    (subst (HasNo 44) (middle_is c.in_ok-middle.middle.now c.args.line.now from to c.in_ok-middle.ensures.some h) (c.in_err-from.ensures.none refl))

pub returns-in_err-to-clause-none : goal.returns-in_err-to-clause-none
returns-in_err-to-clause-none c = λ _ from to w h.
    let p = step_parts c.in_ok-from.from.now c.in_ok-from.rest.now c.in_ok-middle.middle.now c.args.line.now from to c.in_ok-middle.ensures.some c.in_ok-from.ensures.some w h in
    c.in_err-to.ensures.none refl (decimal to) (to_line to ∙ sym p.behind)

pub returns-in_err-number_in-clause-none : goal.returns-in_err-number_in-clause-none
returns-in_err-number_in-clause-none c = λ _ from to w h.
    let p = step_parts c.in_ok-from.from.now c.in_ok-from.rest.now c.in_ok-middle.middle.now c.args.line.now from to c.in_ok-middle.ensures.some c.in_ok-from.ensures.some w h in
    c.in_err-number_in.ensures.none refl from (from_fits from to w) (sym p.before)

pub returns-in_err-number_in-2-clause-none : goal.returns-in_err-number_in-2-clause-none
returns-in_err-number_in-2-clause-none c = λ _ from to w h.
    let p = step_parts c.in_ok-from.from.now c.in_ok-from.rest.now c.in_ok-middle.middle.now c.args.line.now from to c.in_ok-middle.ensures.some c.in_ok-from.ensures.some w h in
    c.in_err-number_in-2.ensures.none refl to (to_fits from to w)
    (sym (same_within (codes "\"step\":") c.in_ok-to.to.now (decimal to) [] (c.in_ok-to.ensures.some ∙ (p.behind ∙ sym (to_line to)))))

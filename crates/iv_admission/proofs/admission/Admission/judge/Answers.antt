use Rattle.std.proofs.Common.{◌≡◌, ◌∙◌, sym, subst}
use Rattle.std.specs.Prelude.{OnOk}
use Rattle.iv_admission.specs.declared.admission.Admission.{Admission}
use Rattle.iv_admission.specs.Admitting.{IsLater, IsSameBut}
use Rattle.iv_admission.proofs.HandedTokens.{again_judged, again_same, again_web, with_known}
use Rattle.iv_admission.proofs.admission.Admission.judge.Goals as goal

pub returns-then-may_judge_again-clause-judged : goal.returns-then-may_judge_again-clause-judged
returns-then-may_judge_again-clause-judged c =
    let again = again_same c.args.self.now c.args.text.now c.judge.new.self c.in_ok-judged.judged c.in_ok-judged.ensures.judged c.in_ok-judged.ensures.kept
    (sym c.may_judge_again.ensures ∙ c.if-may_judge_again.true) in
    again_judged c.args.self.now (with_known c.judge.new.self c.args.self.now) c.args.text.now c.judge_again.result again.0 again.1 c.judge_again.ensures.judged

pub returns-then-may_judge_again-clause-web : goal.returns-then-may_judge_again-clause-web
returns-then-may_judge_again-clause-web c =
    let again = again_same c.args.self.now c.args.text.now c.judge.new.self c.in_ok-judged.judged c.in_ok-judged.ensures.judged c.in_ok-judged.ensures.kept
    (sym c.may_judge_again.ensures ∙ c.if-may_judge_again.true) in
    again_web c.args.self.now (with_known c.judge.new.self c.args.self.now) c.judge_again.new.self c.args.text.now c.judge_again.result again.0 again.1
    c.judge_again.ensures.web

pub returns-then-may_judge_again-clause-same : goal.returns-then-may_judge_again-clause-same
returns-then-may_judge_again-clause-same c =
    let again = again_same c.args.self.now c.args.text.now c.judge.new.self c.in_ok-judged.judged c.in_ok-judged.ensures.judged c.in_ok-judged.ensures.kept
    (sym c.may_judge_again.ensures ∙ c.if-may_judge_again.true) in
    subst (λ (z : Admission). OnOk c.judge_again.result (IsSameBut z c.judge_again.new.self × (c.judge_again.new.self.admins ≡ z.admins))) again.0
    c.judge_again.ensures.same

pub returns-then-may_judge_again-clause-later : goal.returns-then-may_judge_again-clause-later
returns-then-may_judge_again-clause-later c =
    let again = again_same c.args.self.now c.args.text.now c.judge.new.self c.in_ok-judged.judged c.in_ok-judged.ensures.judged c.in_ok-judged.ensures.kept
    (sym c.may_judge_again.ensures ∙ c.if-may_judge_again.true) in
    subst (λ (z : Admission). OnOk c.judge_again.result (IsLater z.known c.judge_again.new.self.known)) again.0 c.judge_again.ensures.later

use Rattle.std.proofs.Common.{rules, ◌≡◌, false, Ok, Err, sym, ◌∙◌}
use Rattle.iv_jwt.specs.Seen.{granted_by}
use Rattle.iv_tokens.specs.Web.{is_among}
use Rattle.iv_tokens.proofs.JudgedTexts.{IsWeb-IsGranted, answer_to-judged, answer_to-Known}
use Rattle.iv_tokens.proofs.known_tokens.answer_to.Goals as goal

pub returns-then-is_among-clause-answer : goal.returns-then-is_among-clause-answer
returns-then-is_among-clause-answer c =
    answer_to-Known c.args.entries.now c.args.secret.now c.args.web.now c.args.now c.args.text.now c.deref.result.now (search rules) (sym c.is_among.ensures ∙ c.if-is_among.true)

pub returns-in-Err-clause-answer : goal.returns-in-Err-clause-answer
returns-in-Err-clause-answer c =
    answer_to-judged c.args.entries.now c.args.secret.now c.args.web.now c.args.now c.args.text.now c.deref.result.now (Err c.in-Err.why) (search rules) (sym c.is_among.ensures ∙ c.if-is_among.false)
    (rw c.in-Err.is at c.in_ok-why.ensures.answer)

pub returns-in-Ok-clause-answer : goal.returns-in-Ok-clause-answer
returns-in-Ok-clause-answer c =
    let h : is_among c.deref.result.now c.args.entries.now c.args.web.now ≡ false = sym c.is_among.ensures ∙ c.if-is_among.false in
    c.web_for.ensures
    ∙ answer_to-judged c.args.entries.now c.args.secret.now c.args.web.now c.args.now c.args.text.now c.in_ok-digest.digest.items (Ok (granted_by c.in-Ok.claims)) (search rules) (rw c.deref.ensures.value at h)
    (rw c.in-Ok.is at c.in_ok-why.ensures.answer)

pub returns-in-Ok-clause-granted : goal.returns-in-Ok-clause-granted
returns-in-Ok-clause-granted c =
    IsWeb-IsGranted c.args.secret.now c.args.web.now c.args.now c.args.text.now c.in_ok-digest.digest.items (granted_by c.in-Ok.claims) c.web_for.result (search rules)
    (rw c.in-Ok.is at c.in_ok-why.ensures.granted) c.web_for.ensures

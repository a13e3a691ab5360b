use Rattle.std.proofs.Common.{◌∙◌, sym}
use Rattle.iv_journal.proofs.Fronts.{body_of-has_front, BeginsNoLine-not_has_front, BeginsNoLine-not_is_text}
use Rattle.iv_journal.proofs.reading.next_line.Goals as goal

pub returns-then-not-has_front-clause-none : goal.returns-then-not-has_front-clause-none
returns-then-not-has_front-clause-none c = λ _.
    BeginsNoLine-not_has_front c.args.before.now c.args.rest.now c.in_ok-body.body.now c.behind-text.result.now c.digest_of-digest.result c.is_last-is_last.result c.has_front.result
    c.behind-text.ensures c.is_last-is_last.ensures c.digest_of-digest.ensures c.has_front.ensures c.if-not-has_front.true
    c.in_ok-body.ensures.some.0 c.in_ok-body.ensures.some.1

pub returns-then-not-is_text-clause-none : goal.returns-then-not-is_text-clause-none
returns-then-not-is_text-clause-none c = λ _.
    BeginsNoLine-not_is_text c.args.before.now c.args.rest.now c.in_ok-body.body.now c.behind-text.result.now
    c.behind-text.ensures (sym c.is_text.ensures ∙ c.if-not-is_text.true)
    c.in_ok-body.ensures.some.0 c.in_ok-body.ensures.some.1

pub returns-clause-bytes : goal.returns-clause-bytes
returns-clause-bytes c =
    body_of-has_front c.args.before.now c.args.rest.now c.in_ok-body.body.now c.behind-text.result.now c.digest_of-digest.result c.is_last-is_last.result
    c.has_front.result
    c.behind-text.ensures c.digest_of-digest.ensures c.has_front.ensures c.if-not-has_front.false
    c.in_ok-body.ensures.some.1

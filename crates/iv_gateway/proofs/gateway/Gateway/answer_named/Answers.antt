use Rattle.std.proofs.Common.{◌≡◌, ◌∙◌, false, not, Some, rules, subst}
use Rattle.iv_command.specs.Views.{reply_of}
use Rattle.iv_message.specs.Told.{answered}
use Rattle.iv_records.specs.Names.{place_text}
use Rattle.iv_gate.specs.Gate.{Gate, answer_text, entered, entries_of, place_of, tells, next_position}
use Rattle.iv_arrivals.specs.Speaking.{asked_id, request_of}
use Rattle.iv_gateway.specs.Views.{IsAlive}
use Rattle.iv_gateway.proofs.gateway.Gateway.answer_named.Goals as goal

pub returns : goal.returns
returns c = λ g act b s t.
    let h : Gate = entered g (entries_of (next_position g) (request_of c.args.asked.now act) (Some c.args.ask) (reply_of c.args.reply.now)) in
    let waits = c.in_ok-enter_request.ensures g act (Some c.args.ask) (reply_of c.args.reply.now) b s c.is_done-is_accepted.ensures
    (λ i. Some (record { ask = c.args.ask; refused = not (c.is_done-is_accepted.ensures i); answer = c.in_ok-answer.ensures i })) t in
    let holder : c.as_str.result.now ≡ c.args.ask.holder = search rules in
    let text : c.deref.result.now ≡ answer_text (reply_of c.args.reply.now) = c.deref.ensures.value ∙ c.in_ok-text.ensures in
    subst (λ z. IsAlive z c.tell_answer.new.self)
    (λ i. tells h c.args.asked.now.client (answered (asked_id c.args.asked.now) false (place_text (place_of h (holder i))) (text i)))
    (c.in_ok-tell_answer.ensures h waits)

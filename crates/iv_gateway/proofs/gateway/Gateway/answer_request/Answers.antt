use Rattle.std.proofs.Common.{◌∙◌, ap, subst, sym}
use Rattle.iv_command.specs.Views.{reply_of}
use Rattle.iv_gate.specs.Gate.{replies_to}
use Rattle.iv_arrivals.specs.Speaking.{asked_id, request_of}
use Rattle.iv_arrivals.specs.Entering.{made_of}
use Rattle.iv_gateway.specs.Views.{IsAlive}
use Rattle.iv_gateway.proofs.gateway.Gateway.answer_request.Goals as goal

pub returns-in_ok-answer_plain-in-None : goal.returns-in_ok-answer_plain-in-None
returns-in_ok-answer_plain-in-None c = λ g act b s t.
    subst (λ n. IsAlive (replies_to g c.args.asked.now.client (asked_id c.args.asked.now) (request_of c.args.asked.now act) n (reply_of c.args.reply.now)) c.answer_plain.new.self)
    (sym c.in-None.is)
    (c.in_ok-answer_plain-in-None.ensures g act b s (t ∙ ap (λ n. made_of c.args.asked.now act n (reply_of c.args.reply.now)) c.in-None.is))

pub returns-in_ok-answer_named-in-Some : goal.returns-in_ok-answer_named-in-Some
returns-in_ok-answer_named-in-Some c = λ g act b s t.
    subst (λ n. IsAlive (replies_to g c.args.asked.now.client (asked_id c.args.asked.now) (request_of c.args.asked.now act) n (reply_of c.args.reply.now)) c.answer_named.new.self)
    (sym c.in-Some.is)
    (c.in_ok-answer_named-in-Some.ensures g act b s (t ∙ ap (λ n. made_of c.args.asked.now act n (reply_of c.args.reply.now)) c.in-Some.is))

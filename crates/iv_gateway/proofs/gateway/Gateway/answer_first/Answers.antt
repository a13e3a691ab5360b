use Rattle.std.proofs.Common.{◌≡◌, ◌∙◌, ap, map, subst, sym}
use Rattle.iv_command.specs.Views.{line_of, reply_of}
use Rattle.iv_machine.specs.Act.{Reply, no_session, refused}
use Rattle.iv_gate.specs.Gate.{replies_to, reply_in}
use Rattle.iv_arrivals.specs.Speaking.{asked_id, request_of}
use Rattle.iv_arrivals.specs.Entering.{made_of}
use Rattle.iv_gateway.specs.Views.{IsAlive}
use Rattle.iv_gateway.proofs.gateway.Gateway.answer_first.Goals as goal

pub returns-in_ok-answer_request-in-None : goal.returns-in_ok-answer_request-in-None
returns-in_ok-answer_request-in-None c = λ g act b s t.
    let first : reply_in (map line_of c.args.lines.now) ≡ refused no_session = sym c.in-None.ensures in
    subst (λ (r : Reply). IsAlive (replies_to g c.args.asked.now.client (asked_id c.args.asked.now) (request_of c.args.asked.now act) c.args.name r) c.answer_request-in-None.new.self) (sym first)
    (c.in_ok-answer_request-in-None.ensures g act b s (t ∙ ap (made_of c.args.asked.now act c.args.name) first))

pub returns-in_ok-answer_request-in-Some : goal.returns-in_ok-answer_request-in-Some
returns-in_ok-answer_request-in-Some c = λ g act b s t.
    let first : reply_in (map line_of c.args.lines.now) ≡ reply_of c.in-Some.reply.now = sym c.in-Some.ensures in
    subst (λ (r : Reply). IsAlive (replies_to g c.args.asked.now.client (asked_id c.args.asked.now) (request_of c.args.asked.now act) c.args.name r) c.answer_request.new.self) (sym first)
    (c.in_ok-answer_request-in-Some.ensures g act b s (t ∙ ap (made_of c.args.asked.now act c.args.name) first))

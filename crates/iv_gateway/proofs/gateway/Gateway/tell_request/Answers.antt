use Rattle.std.proofs.Common.{◌∙◌, map, subst}
use Rattle.iv_command.specs.Views.{line_of}
use Rattle.iv_machine.specs.Machine.{step}
use Rattle.iv_gate.specs.Gate.{Gate, entries_of, in_session, informs, ran, replies_to, reply_in, reply_to, next_position}
use Rattle.iv_arrivals.specs.Speaking.{asked_id, request_of}
use Rattle.iv_gateway.specs.Views.{IsAlive}
use Rattle.iv_gateway.proofs.AddedEntries.{shape_text-entries_at}
use Rattle.iv_gateway.proofs.HeardMessages.{IsRun-replies_to}
use Rattle.iv_gateway.proofs.gateway.Gateway.tell_request.Goals as goal

pub returns : goal.returns
returns c = λ g act n run s t k.
    let a = c.args.asked.now in
    let lines = map line_of c.args.lines.now in
    let q = request_of c.args.asked.now act in
    let answered : Gate = record g { machine = (step g.machine (in_session n act)).state } in
    let told = c.in_ok-answer_first.ensures answered act run.gate s t in
    let first = IsRun-replies_to g c.args.asked.now.client (asked_id c.args.asked.now) (request_of c.args.asked.now act) c.args.name n (map line_of c.args.lines.now) c.answer_first.new.self
    run.lines told in
    let replying : Gate = replies_to g c.args.asked.now.client (asked_id c.args.asked.now) (request_of c.args.asked.now act) c.args.name (reply_to g (in_session n act)) in
    let heard = c.in_ok-hear.ensures replying (in_session n act) first k in
    subst (λ ls. IsAlive (informs (ran replying (in_session n act)) (entries_of (next_position g) (request_of c.args.asked.now act) c.args.name (reply_in ls))) c.inform.new.self) run.lines
    (c.in_ok-inform.ensures (ran replying (in_session n act)) (entries_of (next_position g) (request_of c.args.asked.now act) c.args.name (reply_in (map line_of c.args.lines.now))) heard
    (t ∙ shape_text-entries_at (next_position g) (request_of c.args.asked.now act) c.args.name (reply_in (map line_of c.args.lines.now))))

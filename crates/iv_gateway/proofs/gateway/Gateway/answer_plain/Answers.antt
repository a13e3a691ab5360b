use Rattle.std.proofs.Common.{◌≡◌, None, option_map, refl, rules, subst, ap}
use Rattle.iv_command.specs.Views.{reply_of}
use Rattle.iv_message.specs.Seen.{id_data}
use Rattle.iv_message.specs.Told.{replied}
use Rattle.iv_gate.specs.Gate.{Gate, entered, entries_of, tells, next_position}
use Rattle.iv_arrivals.specs.Speaking.{asked_id, request_of}
use Rattle.iv_gateway.specs.Views.{IsAlive}
use Rattle.iv_gateway.proofs.gateway.Gateway.answer_plain.Goals as goal

pub returns : goal.returns
returns c = λ g act b s t.
    let r = reply_of c.args.reply.now in
    let h : Gate = entered g (entries_of (next_position g) (request_of c.args.asked.now act) None (reply_of c.args.reply.now)) in
    let client : c.asked.inside.client ≡ c.args.asked.now.client = search rules in
    let same : c.asked.inside.id.now ≡ c.args.asked.now.id = search rules in
    let id : option_map id_data c.asked.inside.id.now ≡ asked_id c.args.asked.now = ap (option_map id_data) same in
    subst (λ z. IsAlive z c.reply.new.self) (λ i. tells h (client i) (replied (id i) (reply_of c.args.reply.now)))
    (c.in_ok-reply.ensures h (c.in_ok-enter_request.ensures g act None (reply_of c.args.reply.now) b s c.is_done.ensures refl t))

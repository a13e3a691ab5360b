use Rattle.std.proofs.Common.{◌≡◌, ◌∙◌, rules, sym}
use Rattle.iv_command.specs.Views.{act_of}
use Rattle.iv_clients.specs.Feeds.{seat_of}
use Rattle.iv_arrivals.specs.Speaking.{asked_id, request_of}
use Rattle.iv_gateway.proofs.HeardMessages.{IsAlive-carries, IsAlive-carries_no_room, IsAlive-carries_no_session}
use Rattle.iv_gateway.proofs.gateway.Gateway.carry.Goals as goal

pub returns-then-not-has_shape_room : goal.returns-then-not-has_shape_room
returns-then-not-has_shape_room c = λ g b.
    IsAlive-carries_no_room g c.args.asked.now.client (asked_id c.args.asked.now) (request_of c.args.asked.now (act_of c.args.act)) c.args.name _
    (sym (c.has_shape_room.ensures g b) ∙ c.if-not-has_shape_room.true) (c.in_ok-refuse_request.ensures g (act_of c.args.act) b c.requires.shared)

pub returns-in_ok-refuse_request-in-None : goal.returns-in_ok-refuse_request-in-None
returns-in_ok-refuse_request-in-None c = λ g b.
    let role : c.asked.inside.role.now ≡ c.args.asked.now.role = search rules in
    let seats = c.deref.ensures.value ∙ b.seats in
    IsAlive-carries_no_session g c.args.asked.now.client (asked_id c.args.asked.now) (request_of c.args.asked.now (act_of c.args.act)) c.args.name _
    (sym (c.has_shape_room.ensures g b) ∙ c.if-not-has_shape_room.false) (sym (c.seat_of.ensures ∙ (λ i. seat_of (seats i) (role i))) ∙ c.in-None.is)
    (c.in_ok-refuse_request-in-None.ensures g (act_of c.args.act) b c.requires.shared)

pub returns-in_ok-request_in-in-Some : goal.returns-in_ok-request_in-in-Some
returns-in_ok-request_in-in-Some c = λ g b.
    let role : c.asked.inside.role.now ≡ c.args.asked.now.role = search rules in
    let seats = c.deref.ensures.value ∙ b.seats in
    IsAlive-carries g c.args.asked.now.client (asked_id c.args.asked.now) (request_of c.args.asked.now (act_of c.args.act)) c.args.name c.in-Some.session _
    (sym (c.has_shape_room.ensures g b) ∙ c.if-not-has_shape_room.false) (sym (c.seat_of.ensures ∙ (λ i. seat_of (seats i) (role i))) ∙ c.in-Some.is)
    (c.in_ok-request_in-in-Some.ensures g b)

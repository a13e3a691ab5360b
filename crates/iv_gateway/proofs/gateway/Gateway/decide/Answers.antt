use Rattle.std.proofs.Common.{◌∙◌, ap, is_some, not, subst, sym}
use Rattle.iv_command.specs.Views.{act_of}
use Rattle.iv_gate.specs.Gate.{decided_elsewhere, tells}
use Rattle.iv_arrivals.specs.Speaking.{asked_id, request_of}
use Rattle.iv_gateway.specs.Views.{IsAlive}
use Rattle.iv_gateway.proofs.HeardMessages.{IsAlive-decides, IsAlive-decided_elsewhere}
use Rattle.iv_gateway.proofs.gateway.Gateway.decide.Goals as goal

pub returns-then-not-is_elsewhere : goal.returns-then-not-is_elsewhere
returns-then-not-is_elsewhere c = λ g b.
    IsAlive-decides g c.args.asked.now.client (asked_id c.args.asked.now) (request_of c.args.asked.now (act_of c.args.act)) c.args.name _
    (sym (c.is_elsewhere.ensures g b) ∙ c.if-not-is_elsewhere.true) (c.in_ok-carry.ensures g b)

pub returns-in-None : goal.returns-in-None
returns-in-None c = λ g b.
    IsAlive-decided_elsewhere g c.args.asked.now.client (asked_id c.args.asked.now) (request_of c.args.asked.now (act_of c.args.act)) c.args.name _
    (sym (c.is_elsewhere.ensures g b) ∙ c.if-not-is_elsewhere.false)
    (subst (λ n. IsAlive (tells g c.args.asked.now.client (decided_elsewhere (asked_id c.args.asked.now) n)) c.deny.new.self) (sym c.in-None.is) (c.in_ok-deny-in-None.ensures g b))

pub returns : goal.returns
returns c = λ g b.
    IsAlive-decided_elsewhere g c.args.asked.now.client (asked_id c.args.asked.now) (request_of c.args.asked.now (act_of c.args.act)) c.args.name _
    (sym (c.is_elsewhere.ensures g b) ∙ c.if-not-is_elsewhere.false)
    (subst (λ n. IsAlive (tells g c.args.asked.now.client (decided_elsewhere (asked_id c.args.asked.now) n)) c.leave.new.self) (sym c.in-Some.is) (c.in_ok-leave-in-Some.ensures g b))

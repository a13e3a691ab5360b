use Rattle.std.proofs.Common.{◌∙◌, refl, sym}
use Rattle.iv_gate.specs.Events.{message}
use Rattle.iv_gateway.proofs.LiveGateways.{IsGate-IsAlive}
use Rattle.iv_gateway.proofs.HeardMessages.{dead-said}
use Rattle.iv_gateway.proofs.gateway.Gateway.said.Goals as goal

pub returns-in-Ok-clause-gate : goal.returns-in-Ok-clause-gate
returns-in-Ok-clause-gate c = λ g b.
    let lives = sym b.dead ∙ c.if-self.false in
    let a = (c.in-Ok.ensures g (b.alive lives)).1 in
    IsGate-IsAlive g (message c.args.client c.args.text.now) _ lives refl
    (dead-said g c.args.client c.args.text.now lives (c.events_leave_their_marks.ensures.marks g (message c.args.client c.args.text.now) tt lives))
    (record { tokens = a.tokens; machine = a.machine; seats = a.seats; feeds = a.feeds; clients = a.clients; names = a.names; log = a.log; leads = a.leads; position = a.position; settled = a.settled; forgiven = a.forgiven; pending = a.pending; shape = a.shape })

pub returns-in-Ok-clause-heard : goal.returns-in-Ok-clause-heard
returns-in-Ok-clause-heard c = λ g b. (c.in-Ok.ensures g (b.alive (sym b.dead ∙ c.if-self.false))).0

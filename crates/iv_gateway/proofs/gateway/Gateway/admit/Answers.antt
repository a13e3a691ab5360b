use Rattle.std.proofs.Common.{◌∙◌, refl, sym}
use Rattle.iv_gate.specs.Events.{presented}
use Rattle.iv_gateway.proofs.LiveGateways.{IsGate-IsAlive}
use Rattle.iv_gateway.proofs.TokenEntries.{dead-came}
use Rattle.iv_gateway.proofs.gateway.Gateway.admit.Goals as goal

pub returns-in-Ok-clause-gate : goal.returns-in-Ok-clause-gate
returns-in-Ok-clause-gate c = λ g b.
    let lives = sym b.dead ∙ c.if-self.false in
    let a = (c.in-Ok.ensures g (b.alive lives)).1 in
    IsGate-IsAlive g (presented c.args.client c.args.token.now) _ lives refl (dead-came g c.args.client c.args.token.now)
    (record { tokens = a.tokens; machine = a.machine; seats = a.seats; feeds = a.feeds; clients = a.clients; names = a.names; log = a.log; leads = a.leads; position = a.position; settled = a.settled; forgiven = a.forgiven; pending = a.pending; shape = a.shape })

pub returns-in-Ok-clause-came : goal.returns-in-Ok-clause-came
returns-in-Ok-clause-came c = λ g b. (c.in-Ok.ensures g (b.alive (sym b.dead ∙ c.if-self.false))).0

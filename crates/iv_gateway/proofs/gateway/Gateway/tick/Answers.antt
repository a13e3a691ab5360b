use Rattle.std.proofs.Common.{◌∙◌, refl, sym}
use Rattle.iv_gate.specs.Events.{ticked}
use Rattle.iv_gateway.proofs.LiveGateways.{IsGate-IsAlive}
use Rattle.iv_gateway.proofs.gateway.Gateway.tick.Goals as goal

pub returns-in-Ok-clause-gate : goal.returns-in-Ok-clause-gate
returns-in-Ok-clause-gate c = λ g b.
    let lives = sym b.dead ∙ c.if-self.false in
    let a = c.in-Ok.ensures g (b.alive lives) in
    IsGate-IsAlive g ticked _ lives refl refl
    (record { tokens = a.tokens; machine = a.machine; seats = a.seats; feeds = a.feeds; clients = a.clients; names = a.names; log = a.log; leads = a.leads; position = a.position; settled = a.settled; forgiven = a.forgiven; pending = a.pending; shape = a.shape })

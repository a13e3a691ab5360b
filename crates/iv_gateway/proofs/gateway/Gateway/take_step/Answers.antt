use Rattle.std.proofs.Common.{◌∙◌, refl, sym}
use Rattle.iv_gate.specs.Events.{arrived}
use Rattle.iv_gateway.proofs.LiveGateways.{IsGate-IsAlive}
use Rattle.iv_gateway.proofs.Landed.{taken_lives}
use Rattle.iv_gateway.proofs.gateway.Gateway.take_step.Goals as goal

pub returns-in-Ok-clause-gate : goal.returns-in-Ok-clause-gate
returns-in-Ok-clause-gate c = λ g b.
    let lives = sym b.dead ∙ c.if-self.false in
    let r = c.in-Ok.ensures.gate g (b.alive lives) in
    let a = r.1 in
    IsGate-IsAlive g (arrived c.args.step) _ lives refl (taken_lives g c.args.step r.0.none)
    (record {
      tokens = a.tokens;
      machine = a.machine;
      seats = a.seats;
      feeds = a.feeds;
      clients = a.clients;
      names = a.names;
      log = a.log;
      leads = a.leads;
      position = a.position;
      settled = a.settled;
      forgiven = a.forgiven;
      pending = a.pending;
      shape = a.shape;
    })

pub returns-in-Ok-clause-taken : goal.returns-in-Ok-clause-taken
returns-in-Ok-clause-taken c = λ g b. (c.in-Ok.ensures.gate g (b.alive (sym b.dead ∙ c.if-self.false))).0

pub returns-in-Err-clause-fault : goal.returns-in-Err-clause-fault
returns-in-Err-clause-fault c = λ g b lives. c.in-Err.ensures.fault g (b.alive lives)

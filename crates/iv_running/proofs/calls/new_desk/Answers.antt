use Rattle.std.proofs.Common.{[], refl}
use Rattle.iv_gate.specs.Restoring.{gate_at_start}
use Rattle.iv_running.proofs.calls.new_desk.Goals as goal

pub returns-in-Ok : goal.returns-in-Ok
returns-in-Ok c = λ h is. record {
  most = c.args.clients;
  places = c.args.clients;
  stands = c.in-Ok.ensures (gate_at_start c.args.rows c.args.tokens.items c.args.clients h []) (c.in_ok-gateway.ensures c.args.rows h c.in_ok-engine.ensures.start is) refl;
}

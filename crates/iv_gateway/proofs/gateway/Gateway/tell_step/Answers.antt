use Rattle.std.proofs.Common.{[], ◌∷◌, ◌++◌, map}
use Rattle.iv_message.specs.Told.{granted}
use Rattle.iv_clients.specs.Clients.{Client, own_lines}
use Rattle.iv_gate.specs.Arriving.{newly}
use Rattle.iv_gate.specs.Gate.{informs, went_on}
use Rattle.iv_gateway.proofs.gateway.Gateway.tell_step.Goals as goal

pub returns : goal.returns
returns c = λ g o e b l n m.
    let told = went_on g o (λ (k : Client). own_lines g.feeds o.lines k.subs ++ map granted (newly g.machine.frame o.state.frame k.role)) in
    c.in_ok-settle_told.ensures (informs told (e ∷ [])) (c.in_ok-inform.ensures told (e ∷ []) (c.in_ok-hear_step.ensures g o b l n) m)

use Rattle.std.proofs.Common.{option_map}
use Rattle.std.specs.Prelude.{string_bytes}
use Rattle.iv_machine.specs.Act.{subscribe}
use Rattle.iv_message.specs.Seen.{id_data}
use Rattle.iv_gate.specs.Gate.{in_session, reply_to, subscribes}
use Rattle.iv_gateway.proofs.gateway.Gateway.join_shared.Goals as goal

pub returns : goal.returns
returns c = λ g b.
    c.in_ok-join_opened.ensures (subscribes g c.args.client (option_map id_data c.args.id.now) c.args.session (string_bytes c.args.role)
    (string_bytes c.args.rel))
    (reply_to g (in_session c.args.session (subscribe (string_bytes c.args.rel)))) (c.in_ok-opening.ensures.gate g b) (c.in_ok-opening.ensures.opening g b)

use Rattle.std.proofs.Common.{option_map, subst, sym}
use Rattle.iv_command.specs.Views.{act_of}
use Rattle.iv_message.specs.Seen.{id_data}
use Rattle.iv_clients.specs.Clients.{saying}
use Rattle.iv_gate.specs.Gate.{acts}
use Rattle.iv_gateway.specs.Views.{IsAlive}
use Rattle.iv_gateway.proofs.HeardMessages.{acts_none}
use Rattle.iv_gateway.proofs.gateway.Gateway.ask.Goals as goal

pub returns-in_ok-close-in-Unsubscribe : goal.returns-in_ok-close-in-Unsubscribe
returns-in_ok-close-in-Unsubscribe c = λ g k text b there is.
    subst (λ a. IsAlive (acts g c.args.client k (option_map id_data c.args.id.now) text (act_of a)) c.close.new.self) (sym c.in-Unsubscribe.is)
    (c.in_ok-close-in-Unsubscribe.ensures g (saying text k) b there)

pub returns-in_ok-refuse-in_default : goal.returns-in_ok-refuse-in_default
returns-in_ok-refuse-in_default c = λ g k text b there is.
    subst (λ z. IsAlive z c.refuse.new.self)
    (acts_none g c.args.client k (option_map id_data c.args.id.now) text c.args.act.now c.requires.own c.in_default.not-Subscribe c.in_default.not-Unsubscribe)
    (c.in_ok-refuse-in_default.ensures g b)

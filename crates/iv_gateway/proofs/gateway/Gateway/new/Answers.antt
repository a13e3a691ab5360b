use Rattle.std.proofs.Common.{◌∙◌, arith, refl, rules}
use Rattle.iv_notices.proofs.ClientChanges.{kept_slots-replicate}
use Rattle.iv_gateway.proofs.gateway.Gateway.new.Goals as goal

pub returns : goal.returns
returns c = λ cap h b i. record {
  dead = refl;
  alive = λ a. record {
    tokens = refl;
    machine = b;
    seats = search rules;
    feeds = search rules;
    clients = c.in_ok-clients.ensures ∙ kept_slots-replicate c.args.most;
    names = i.names;
    log = i.log;
    leads = refl;
    position = i.position;
    settled = i.position;
    forgiven = omega arith;
    pending = record { within = omega arith; lines = search rules };
    shape = search rules;
  };
}

use Rattle.std.proofs.Common.{subst}
use Rattle.iv_engine.specs.Stepped.{RefusesStep}
use Rattle.iv_gateway.proofs.gateway.Gateway.carry_step.Goals as goal

pub returns-in-Ok-clause-carried : goal.returns-in-Ok-clause-carried
returns-in-Ok-clause-carried c = λ g b.
    let t = c.in-Ok.ensures.taken g.machine b.machine in
    record {
      outcome = t.outcome;
      is = t.is;
      lines = t.told;
      gate = record {
        tokens = b.tokens;
        machine = t.left;
        seats = b.seats;
        feeds = b.feeds;
        clients = b.clients;
        names = b.names;
        log = b.log;
        leads = b.leads;
        position = b.position;
        settled = b.settled;
        forgiven = b.forgiven;
        pending = b.pending;
        shape = b.shape;
      };
    }

pub returns-in-Err-Refused-clause-refused : goal.returns-in-Err-Refused-clause-refused
returns-in-Err-Refused-clause-refused c = λ g b.
    let refuses = subst (RefusesStep c.args.self.now.engine c.args.facts.items) c.in-Err-Refused.field-0-is c.in-Err-Refused.ensures.refused in
    (refuses g.machine b.machine).first

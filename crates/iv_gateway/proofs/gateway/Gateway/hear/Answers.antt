use Rattle.std.proofs.Common.{◌∙◌, ap, cond, map, []}
use Rattle.iv_access.specs.Rights.{Name}
use Rattle.iv_command.specs.Views.{line_of}
use Rattle.iv_machine.specs.Machine.{step}
use Rattle.iv_message.specs.Told.{granted}
use Rattle.iv_clients.specs.Clients.{at_all}
use Rattle.iv_clients.specs.Feeds.{feeds_left}
use Rattle.iv_clients.specs.Kept.{Kept, holding_all, keeping_on}
use Rattle.iv_gate.specs.Gate.{granted_by, is_accepted, reply_in}
use Rattle.iv_notices.specs.Granting.{hearing_granted}
use Rattle.iv_hall.specs.Hearing.{hearing_lines}
use Rattle.iv_notices.proofs.GrantTexts.{at_all-hearing_granted, kept_slots-granted}
use Rattle.iv_gateway.proofs.gateway.Gateway.hear.Goals as goal

pub returns : goal.returns
returns c = λ g k b grants.
    let ls = map line_of c.args.lines.now in
    let o = step g.machine k in
    let places = c.args.self.now.clients in
    let more = λ (role : Name). cond (is_accepted (reply_in (step g.machine k).lines)) (map granted (granted_by (step g.machine k).state.frame k.act role)) []
    in
    let frame = c.args.self.now.engine.frame in
    let gives = at_all (hearing_granted (is_accepted (reply_in ls)) frame c.args.grants.now) in
    record {
      tokens = b.gate.tokens;
      machine = b.gate.machine;
      seats = b.gate.seats;
      names = b.gate.names;
      log = b.gate.log;
      leads = b.gate.leads;
      position = b.gate.position;
      settled = b.gate.settled;
      forgiven = b.gate.forgiven;
      pending = b.gate.pending;
      shape = b.gate.shape;
      feeds = c.drop_ended.ensures ∙ (ap (feeds_left ls) b.gate.feeds ∙ ap (λ z. feeds_left z g.feeds) b.lines);
      clients = c.stay.ensures
          ∙ (ap (at_all (keeping_on ls)) (c.in_ok-hear_grants.ensures
          ∙ (ap gives (c.in_ok-hear.ensures ∙ ap (λ fs. at_all (hearing_lines fs ls) places) (c.deref.ensures.value ∙ b.gate.feeds))
          ∙ at_all-hearing_granted ls (step g.machine k).lines frame (step g.machine k).state.frame k.act c.args.grants.now
          (at_all (hearing_lines g.feeds ls) places)
          b.lines b.gate.machine.frame grants))
          ∙ (ap (λ z. at_all (keeping_on z) (at_all (λ (x : Kept). holding_all (more x.role) x) (at_all (hearing_lines g.feeds z) places))) b.lines
          ∙ kept_slots-granted g.entries g.feeds (step g.machine k).lines more g.clients places b.gate.clients));
    }

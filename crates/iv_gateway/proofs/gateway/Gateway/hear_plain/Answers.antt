use Rattle.std.proofs.Common.{◌∙◌, ap, map, cond, []}
use Rattle.iv_command.specs.Views.{line_of}
use Rattle.iv_machine.specs.Machine.{step}
use Rattle.iv_clients.specs.Clients.{Client, at_all}
use Rattle.iv_clients.specs.Feeds.{feeds_left}
use Rattle.iv_clients.specs.Kept.{keeping_on}
use Rattle.iv_message.specs.Told.{granted}
use Rattle.iv_gate.specs.Gate.{granted_by, is_accepted, reply_in}
use Rattle.iv_hall.specs.Hearing.{hearing_lines}
use Rattle.iv_gateway.proofs.ClientStates.{cond-no_grants, kept_slots-heard}
use Rattle.iv_gateway.proofs.gateway.Gateway.hear_plain.Goals as goal

pub returns : goal.returns
returns c = λ g k b none.
    let ls = map line_of c.args.lines.now in
    let o = step g.machine k in
    let places = c.args.self.now.clients in
    record {
      tokens = b.gate.tokens;
      machine = b.gate.machine;
      seats = b.gate.seats;
      names = b.gate.names;
      log = b.gate.log;
      leads = b.gate.leads;
      position = b.gate.position;
      settled = b.gate.settled;
      forgiven = b.gate.forgiven;
      pending = b.gate.pending;
      shape = b.gate.shape;
      feeds = c.drop_ended.ensures ∙ (ap (feeds_left ls) b.gate.feeds ∙ ap (λ z. feeds_left z g.feeds) b.lines);
      clients = c.stay.ensures
          ∙ (ap (at_all (keeping_on ls)) (c.in_ok-hear.ensures ∙ ap (λ fs. at_all (hearing_lines fs ls) places) (c.deref.ensures.value ∙ b.gate.feeds))
          ∙ (ap (λ z. at_all (keeping_on z) (at_all (hearing_lines g.feeds z) places)) b.lines
          ∙ kept_slots-heard g.entries g.feeds (step g.machine k).lines (λ (x : Client).
          cond (is_accepted (reply_in (step g.machine k).lines)) (map granted (granted_by (step g.machine k).state.frame k.act x.role)) [])
          (λ x. cond-no_grants (is_accepted (reply_in (step g.machine k).lines)) (granted_by (step g.machine k).state.frame k.act x.role)
          (none (step g.machine k).state.frame x.role)) g.clients places b.gate.clients));
    }

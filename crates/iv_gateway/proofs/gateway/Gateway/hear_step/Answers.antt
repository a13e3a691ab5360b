use Rattle.std.proofs.Common.{◌∙◌, ap, map, subst, sym}
use Rattle.iv_access.specs.Rights.{Name}
use Rattle.iv_command.specs.Views.{line_of}
use Rattle.iv_message.specs.Told.{granted}
use Rattle.iv_clients.specs.Clients.{at_all}
use Rattle.iv_clients.specs.Feeds.{feeds_left}
use Rattle.iv_clients.specs.Kept.{Kept, holding_all, keeping_on}
use Rattle.iv_gate.specs.Arriving.{newly}
use Rattle.iv_notices.specs.Newly.{AreNewly, hearing_newly, newly_in}
use Rattle.iv_hall.specs.Hearing.{hearing_lines}
use Rattle.iv_notices.proofs.GrantTexts.{kept_slots-granted}
use Rattle.iv_notices.proofs.NewRights.{stands_newly}
use Rattle.iv_gateway.proofs.gateway.Gateway.hear_step.Goals as goal

pub returns : goal.returns
returns c = λ g o b l n.
    let ls = map line_of c.args.lines.now in
    let rs = c.args.before.now in
    let places = c.args.self.now.clients in
    let frame = c.args.self.now.engine.frame in
    let old = g.machine.frame in
    let more = λ (role : Name). map granted (newly old o.state.frame role) in
    let known : AreNewly old frame rs places =
    subst (λ z. AreNewly old z rs places) b.machine.frame (subst (λ z. AreNewly old o.state.frame rs z) (sym b.clients) n) in
    record {
      tokens = b.tokens;
      machine = b.machine;
      seats = b.seats;
      feeds = c.drop_ended.ensures ∙ (ap (feeds_left ls) b.feeds ∙ ap (λ z. feeds_left z g.feeds) l);
      clients = c.stay.ensures
          ∙ (ap (at_all (keeping_on ls)) (c.in_ok-hear_newly.ensures
          ∙ (ap (at_all (hearing_newly (map (newly_in frame) rs))) (c.in_ok-hear.ensures ∙ ap (λ fs. at_all (hearing_lines fs ls) places) (c.deref.ensures.value ∙ b.feeds))
          ∙ (stands_newly c.told_texts_are_lines.ensures old frame rs g.feeds ls places known
          ∙ ap (λ f. at_all (λ (k : Kept). holding_all (map granted (newly old f k.role)) k) (at_all (hearing_lines g.feeds ls) places)) (sym b.machine.frame))))
          ∙ (ap (λ z. at_all (keeping_on z) (at_all (λ (k : Kept). holding_all (more k.role) k) (at_all (hearing_lines g.feeds z) places))) l
          ∙ kept_slots-granted g.entries g.feeds o.lines more g.clients places b.clients));
      names = b.names;
      log = b.log;
      leads = b.leads;
      position = b.position;
      settled = b.settled;
      forgiven = b.forgiven;
      pending = b.pending;
      shape = b.shape;
    }

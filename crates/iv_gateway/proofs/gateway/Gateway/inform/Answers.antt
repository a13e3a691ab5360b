use Rattle.std.proofs.Common.{◌≡◌, ◌∙◌, false, length, sym, true, ap}
use Rattle.std.specs.Prelude.{◌==◌}
use Rattle.iv_clients.specs.Clients.{at_all}
use Rattle.iv_notices.specs.Granting.{holding_for}
use Rattle.iv_notices.specs.Shaping.{is_admin}
use Rattle.iv_notices.proofs.ShapeLines.{at_all-told_shape_empty, at_all-told_shape, kept_slots-informs}
use Rattle.iv_gateway.proofs.gateway.Gateway.inform.Goals as goal

pub returns-then-is_empty : goal.returns-then-is_empty
returns-then-is_empty c = λ g es b t.
    let places = c.args.self.now.clients in
    let empty : (length c.args.made.now == 0) ≡ true = sym c.is_empty.ensures ∙ c.if-is_empty.true in
    record {
      tokens = b.tokens;
      machine = b.machine;
      seats = b.seats;
      feeds = b.feeds;
      names = b.names;
      log = b.log;
      leads = b.leads;
      position = b.position;
      settled = b.settled;
      forgiven = b.forgiven;
      pending = b.pending;
      shape = b.shape;
      clients = kept_slots-informs g es places places b.clients
          (at_all-told_shape_empty c.told_texts_are_lines.ensures es places (ap (λ z. length z == 0) (sym t) ∙ empty));
    }

pub returns : goal.returns
returns c = λ g es b t.
    let places = c.args.self.now.clients in
    let some : (length c.args.made.now == 0) ≡ false = sym c.is_empty.ensures ∙ c.if-is_empty.false in
    record {
      tokens = b.tokens;
      machine = b.machine;
      seats = b.seats;
      feeds = b.feeds;
      names = b.names;
      log = b.log;
      leads = b.leads;
      position = b.position;
      settled = b.settled;
      forgiven = b.forgiven;
      pending = b.pending;
      shape = b.shape;
      clients = kept_slots-informs g es places c.inform_all.new.clients b.clients
          (c.in_ok-inform_all.ensures ∙ (ap (λ z. at_all (holding_for is_admin z) places) t ∙ at_all-told_shape es places
          (ap (λ z. length z == 0) (sym t) ∙ some)));
    }

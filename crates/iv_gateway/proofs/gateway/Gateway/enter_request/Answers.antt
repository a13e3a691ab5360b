use Rattle.std.proofs.Common.{◌≡◌, ◌∙◌, ap}
use Rattle.std.specs.Prelude.{◌++◌}
use Rattle.iv_once.specs.Views.{names_of}
use Rattle.iv_arrivals.specs.Entering.{lines_entered}
use Rattle.iv_gate.specs.Gate.{next_position}
use Rattle.iv_gateway.proofs.AddedEntries.{AreKept-entered, stands_at}
use Rattle.iv_gateway.proofs.gateway.Gateway.enter_request.Goals as goal

pub returns : goal.returns
returns c = λ g act by r b s a n t.
    let next = c.next_position-next.ensures g b in
    let at = c.position_with-position.ensures ∙ (λ i. stands_at (c.is_entered.ensures i) (next i) c.args.self.now.position) in
    let lines = c.in_ok-push_entry.ensures
    ∙ ap (λ p. c.args.self.now.pending.items ++ lines_entered c.args.asked.now c.args.accepted c.args.name p) next in
    let k =
    AreKept-entered g (next_position g) c.args.asked.now act by r c.args.accepted c.args.name c.args.self.now (names_of c.push_name.new.names) c.position_with-position.result
    c.push_entry.new.lines.items c.args.self.now.shape.items c.args.made.now c.extend_from_slice.new.self.items b s a n c.in_ok-push_name.ensures at lines b.shape t
    c.in_ok-extend_from_slice.ensures.items in
    record {
      tokens = b.tokens;
      machine = b.machine;
      seats = b.seats;
      feeds = b.feeds;
      clients = b.clients;
      names = k.names;
      log = b.log;
      leads = b.leads;
      position = k.position;
      settled = k.settled;
      forgiven = k.forgiven;
      pending = k.pending;
      shape = k.shape;
    }

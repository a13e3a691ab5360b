use Rattle.std.proofs.Common.{sym, subst}
use Rattle.iv_peer.specs.Socket.{passing}
use Rattle.iv_desk.specs.Front.{at_socket}
use Rattle.iv_desk.specs.Desks.{IsBehind}
use Rattle.iv_desk.proofs.StatesAfterStep.{IsBehind-passing}
use Rattle.iv_desk.proofs.desk.Desk.sent.Goals as goal

pub returns : goal.returns
returns c = λ d b. record {
  dead = b.dead;
  alive = λ h.
      subst (IsBehind (at_socket c.args.at (passing c.args.count) d) c.args.self.now.gateway) (sym c.pass_at.ensures)
      (IsBehind-passing c.args.count d c.args.at c.args.self.now.gateway c.args.self.now.places.items (b.alive h));
}

use Rattle.std.proofs.Common.{sym, subst}
use Rattle.iv_peer.specs.Socket.{closed}
use Rattle.iv_desk.specs.Front.{at_socket}
use Rattle.iv_desk.specs.Desks.{IsBehind}
use Rattle.iv_desk.proofs.StatesAfterStep.{IsBehind-closed}
use Rattle.iv_desk.proofs.DeskStates.{IsBehind-IsDesk, IsDesk-IsBehind}
use Rattle.iv_desk.proofs.desk.Desk.close.Goals as goal

pub returns-in-Ok-clause-front : goal.returns-in-Ok-clause-front
returns-in-Ok-clause-front c = λ d b.
    let a = IsBehind-IsDesk d c.args.self.now b c.if-self.false in
    IsDesk-IsBehind (at_socket c.args.at (closed c.args.code c.args.words.now) d) _
    (subst (IsBehind (at_socket c.args.at (closed c.args.code c.args.words.now) d) c.args.self.now.gateway) (sym c.in-Ok.ensures)
    (IsBehind-closed c.args.code c.args.words.now d c.args.at c.args.self.now.gateway c.args.self.now.places.items a)) c.if-self.false

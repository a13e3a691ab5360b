use Rattle.iv_desk.proofs.DeskStates.{IsBehind-IsDesk, IsDesk-IsBehind, IsBehind-Restores}
use Rattle.iv_desk.proofs.desk.Desk.restore.Goals as goal

pub returns-in-Ok-clause-restored : goal.returns-in-Ok-clause-restored
returns-in-Ok-clause-restored c = λ d new b.
    let a = IsBehind-IsDesk d c.args.self.now b c.if-self.false in
    let w = c.in-Ok.ensures.restored d.gate new a.gate in
    record {
      now = w.now;
      restores = w.restores;
      stands = IsDesk-IsBehind (record d { gate = w.now }) _
          (IsBehind-Restores d c.args.journal.now w.now c.args.self.now.gateway c.restore.new.self c.args.self.now.places.items a w.restores w.gate)
          c.if-self.false;
    }

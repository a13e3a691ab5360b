use Rattle.iv_desk.proofs.DeskStates.{IsBehind-IsDesk, IsHeard-IsHeardBehind}
use Rattle.iv_desk.proofs.desk.Desk.resume.Goals as goal

pub returns-in-Ok-clause-heard : goal.returns-in-Ok-clause-heard
returns-in-Ok-clause-heard c = λ d b.
    let a = IsBehind-IsDesk d c.args.self.now b c.if-self.false in
    IsHeard-IsHeardBehind d c.args.at c.in-Ok.hearing _ (c.in-Ok.ensures d a) c.if-self.false

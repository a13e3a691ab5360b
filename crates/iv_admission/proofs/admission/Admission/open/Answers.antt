use Rattle.iv_admission.specs.Admitting.{tokens_of}
use Rattle.iv_admission.proofs.HandedTokens.{told_handed}
use Rattle.iv_admission.proofs.admission.Admission.open.Goals as goal

pub returns-in_ok-self-in-Some-clause-handed : goal.returns-in_ok-self-in-Some-clause-handed
returns-in_ok-self-in-Some-clause-handed c =
    let others = rw c.in-Some.is at c.in_ok-at.ensures.others in
    told_handed c.args.self.now.known c.in-Some.tokens.items (tokens_of c.args.self.now) c.args.desk.now c.know.new.desk c.know.result others
    c.know.ensures.front

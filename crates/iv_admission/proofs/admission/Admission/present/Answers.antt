use Rattle.iv_admission.proofs.HandedTokens.{granted_told}
use Rattle.iv_admission.proofs.admission.Admission.present.Goals as goal

pub returns-in_ok-open-in-Granted-clause-granted : goal.returns-in_ok-open-in-Granted-clause-granted
returns-in_ok-open-in-Granted-clause-granted c = λ h.
    granted_told c.judge.new.self c.open.new.self c.args.desk.now c.open.new.desk (c.in_ok-judged.ensures.granted h) c.open.ensures.same
    c.in_ok-open-in-Granted.ensures.handed

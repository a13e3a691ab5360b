use Rattle.iv_admission.proofs.HandedTokens.{handed_later, kept_after}
use Rattle.iv_admission.proofs.admission.Admission.open_at.Goals as goal

pub returns-clause-handed : goal.returns-clause-handed
returns-clause-handed c =
    handed_later c.args.self.now c.turn_to.new.self c.open.new.self c.args.desk.now c.open.new.desk c.open.result c.turn_to.ensures.later c.open.ensures.same
    c.open.ensures.handed

pub returns-clause-kept : goal.returns-clause-kept
returns-clause-kept c = kept_after c.turn_to.new.self c.open.new.self c.open.result c.open.ensures.same c.open.ensures.kept

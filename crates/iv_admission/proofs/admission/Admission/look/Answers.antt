use Rattle.iv_admission.proofs.HandedTokens.{handed_read, web_read}
use Rattle.iv_admission.proofs.admission.Admission.look.Goals as goal

pub returns-clause-handed : goal.returns-clause-handed
returns-clause-handed c =
    handed_read c.args.self.now c.read.new.self c.open_at.new.self c.args.desk.now c.open_at.new.desk c.open_at.result c.read.ensures.later
    c.open_at.ensures.handed

pub returns-clause-web : goal.returns-clause-web
returns-clause-web c =
    web_read c.args.self.now c.read.new.self c.open_at.new.self c.second_now.result c.open_at.result c.read.ensures.web c.read.ensures.keeps.0.1
    c.open_at.ensures.web c.open_at.ensures.second

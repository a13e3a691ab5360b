use Rattle.iv_running.proofs.RunsByCalls.{Leads-led}
use Rattle.iv_running.proofs.leading.lead.Goals as goal

pub returns-clause-leads : goal.returns-clause-leads
returns-clause-leads c = Leads-led c.args.desk.now _ c.events_leave_their_marks.ensures.rests c.lead.ensures

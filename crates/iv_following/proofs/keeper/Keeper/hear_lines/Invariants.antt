use Rattle.std.proofs.Common.{◌≡◌}
use Rattle.iv_running.specs.Running.{Leads}
use Rattle.iv_following.specs.Following.{HeedsAll, house}
use Rattle.iv_following.proofs.keeper.Keeper.hear_lines.Given as goal

abbrev pub invariant-lines : goal.invariant-lines
invariant-lines l = record {
  leads : Leads l.fn.desk l.desk;
  heeds : HeedsAll l.fn.means.log l.fn.self.talk (house l.fn.desk l.fn.server.open l.fn.means.lead) l.self.talk
      (house l.desk l.server.open l.means.lead);
  same : l.means.log ≡ l.fn.means.log;
}

use Rattle.std.proofs.Common.{sym, subst}
use Rattle.iv_running.specs.Running.{HasCome}
use Rattle.iv_server.proofs.server.Server.read_all.Goals.{then-may_read+in_ok-read, else-may_read+in_ok-push}
use Rattle.iv_server.proofs.server.Server.read_all.Goals as goal

pub loop-at-preserved : goal.loop-at-preserved
loop-at-preserved c = elim c.if-may_read.branch [
  | then-may_read+in_ok-read w ↦ λ may d h. subst (HasCome may d) (sym w.desk-is) (w.in_ok-read.ensures may d (c.loop-at.invariant may d h))
  | else-may_read+in_ok-push w ↦ λ may d h. subst (HasCome may d) (sym w.desk-is) (c.loop-at.invariant may d h)
]

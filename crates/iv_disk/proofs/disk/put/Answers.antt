use Rattle.iv_disk.proofs.Known.{Appends-first_known, Appends-none, OnErr-whatever}
use Rattle.iv_disk.proofs.disk.put.Goals as goal

pub returns-in_err-end-clause-torn : goal.returns-in_err-end-clause-torn
returns-in_err-end-clause-torn g c = OnErr-whatever _ (Appends-none _ _)

pub returns-in-Err-clause-torn : goal.returns-in-Err-clause-torn
returns-in-Err-clause-torn g c = Appends-first_known _ _ _ _ _ c.in-Err.ensures.torn.0 _ c.in_ok-end.ensures c.in-Err.ensures.torn.1 c.cut.ensures.cuts c.cut.ensures.fails

use Rattle.iv_disk.proofs.Known.{OnErr-whatever, Appends-Keeps_whole}
use Rattle.iv_disk.proofs.disk.write_synced.Goals as goal

pub returns-in_err-sync-clause-torn : goal.returns-in_err-sync-clause-torn
returns-in_err-sync-clause-torn g c = OnErr-whatever _ (Appends-Keeps_whole _ _ _ _ c.in_ok-write_whole.ensures.appended c.in_err-sync.ensures.bytes)

use Rattle.iv_audit.proofs.JournalLines.{IsAnew-GoesOnWith}
use Rattle.iv_audit.proofs.writing.anew.Goals as goal

pub returns : goal.returns
returns c = IsAnew-GoesOnWith c.bytes_have_lines.ensures c.args.epoch.now c.args.lines.now _ _ _ _ _ _ c.new-chain.ensures c.new-out.ensures.items c.in_ok-push_head.ensures c.in_ok-push_records.ensures

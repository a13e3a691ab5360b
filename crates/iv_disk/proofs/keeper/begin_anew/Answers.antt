use Rattle.iv_disk.proofs.DiskBytes.{IsJournalTo-IsPushed, lines_in-IsPushed, IsPushed-seen}
use Rattle.iv_disk.proofs.keeper.begin_anew.Goals as goal

pub returns-clause-stands : goal.returns-clause-stands
returns-clause-stands g c =
    IsJournalTo-IsPushed c.args.epoch.now c.push_head.new.chain _ _ _ c.requires c.in_ok-put.ensures.appended c.in_ok-put.ensures.silent
    (IsPushed-seen c.args.epoch.now _ _ c.push_head.new.chain _ _ c.new-chain.ensures c.new-out.ensures.items c.deref.ensures.value c.in_ok-push_head.ensures)

pub returns-clause-none : goal.returns-clause-none
returns-clause-none g c =
    lines_in-IsPushed c.bytes_have_lines.ensures c.args.epoch.now c.push_head.new.chain _ _ _ c.requires c.in_ok-put.ensures.appended c.in_ok-put.ensures.silent
    (IsPushed-seen c.args.epoch.now _ _ c.push_head.new.chain _ _ c.new-chain.ensures c.new-out.ensures.items c.deref.ensures.value c.in_ok-push_head.ensures)

use Rattle.std.proofs.Common.{◌<◌, ◌^◌}
use Rattle.iv_disk.proofs.DiskBytes.{GivenFirst-itself, GoesOnWith-seen, IsJournalTo-GoesOnWith, is_whole-GoesOnWith, GivenFirst-GoesOnWith, GivenMore-GoesOnWith}
use Rattle.iv_disk.proofs.Known.{OnErr-whatever}
use Rattle.iv_disk.proofs.keeper.Keeper.append.Goals as goal

pub returns-clause-appended : goal.returns-clause-appended
returns-clause-appended g c =
    let small : c.args.second < 2 ^ 64 = c.ranges.second.fits in
    GivenMore-GoesOnWith c.journals_go_on_by_lines.ensures c.args.second c.args.shares.now c.args.lines.now c.args.self.now.chain _ _ _ _ small (c.args.self.now.whole c.if-self.false)
    (GoesOnWith-seen c.args.second c.args.shares.now c.args.lines.now c.args.self.now.chain _ _ _ _ c.new-out.ensures.items c.deref.ensures.value c.in_ok-push_records.ensures)
    c.in_ok-put.ensures.appended c.in_ok-put.ensures.silent

pub returns-then-self-clause-torn : goal.returns-then-self-clause-torn
returns-then-self-clause-torn g c = GivenFirst-itself _ c.args.lines.now

pub returns-in_err-push_records-clause-torn : goal.returns-in_err-push_records-clause-torn
returns-in_err-push_records-clause-torn g c = OnErr-whatever _ (GivenFirst-itself _ c.args.lines.now)

pub returns-in_err-put-clause-torn : goal.returns-in_err-put-clause-torn
returns-in_err-put-clause-torn g c =
    let small : c.args.second < 2 ^ 64 = c.ranges.second.fits in
    let (n, torn) = c.in_err-put.ensures.torn in
    OnErr-whatever _ (GivenFirst-GoesOnWith c.journals_go_on_by_lines.ensures c.args.second c.args.shares.now c.args.lines.now c.args.self.now.chain _ _ _ _ n small (c.args.self.now.whole c.if-self.false)
    (GoesOnWith-seen c.args.second c.args.shares.now c.args.lines.now c.args.self.now.chain _ _ _ _ c.new-out.ensures.items c.deref.ensures.value c.in_ok-push_records.ensures) torn
    c.put.ensures.silent)

pub invariant_of-self-2 : goal.invariant_of-self-2
invariant_of-self-2 g c =
    let small : c.args.second < 2 ^ 64 = c.ranges.second.fits in
    record {
      whole = λ e. is_whole-GoesOnWith c.journals_go_on_by_lines.ensures c.args.second c.args.shares.now c.args.lines.now c.args.self.now.chain _ _ _ _ small (c.args.self.now.whole c.if-self.false)
          (GoesOnWith-seen c.args.second c.args.shares.now c.args.lines.now c.args.self.now.chain _ _ _ _ c.new-out.ensures.items c.deref.ensures.value c.in_ok-push_records.ensures)
          c.in_ok-put.ensures.appended c.in_ok-put.ensures.silent;
    }

pub returns-clause-stands : goal.returns-clause-stands
returns-clause-stands g c =
    IsJournalTo-GoesOnWith c.journals_go_on_by_lines.ensures c.args.second c.args.shares.now c.args.lines.now c.args.self.now.chain _ _ _ _
    (GoesOnWith-seen c.args.second c.args.shares.now c.args.lines.now c.args.self.now.chain _ _ _ _ c.new-out.ensures.items c.deref.ensures.value c.in_ok-push_records.ensures)
    c.in_ok-put.ensures.appended c.in_ok-put.ensures.silent

use Rattle.std.proofs.Common.{◌≡◌, [], rules, drop_of_length-le}
use Rattle.iv_host.proofs.GivenLines.{option_map-append_none}
use Rattle.iv_host.proofs.journal.DiskJournalJournal.append.Goals as goal

pub returns-then-is_empty-clause-appended : goal.returns-then-is_empty-clause-appended
returns-then-is_empty-clause-appended g c =
    let empty : c.args.lines.now ≡ [] = drop_of_length-le c.args.lines.now {i = 0} (search rules) in
    option_map-append_none _ c.args.lines.now empty

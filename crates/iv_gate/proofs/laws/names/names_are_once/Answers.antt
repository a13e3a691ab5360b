use Rattle.iv_records.specs.Journal.{names_in}
use Rattle.iv_gate.specs.Gate.{known_at}
use Rattle.iv_gate.proofs.NameVerdicts.{le-times_first_known}
use Rattle.iv_gate.proofs.AddedEntries.{Texts}
use Rattle.iv_gate.proofs.TextsAndDisk.{IsWritten-Runs}
use Rattle.iv_gate.proofs.laws.names.names_are_once.Goals as goal

pub returns : goal.returns
returns c = λ cap g r holder name at.
    let texts : Texts = record { claims = c.names_are_texts.ensures.claims; holders = c.names_are_texts.ensures.holders; lines = c.told_texts_are_lines.ensures } in
    le-times_first_known 1 (names_in g.entries) (known_at g.head) holder name at (IsWritten-Runs c.records_are_read_back.ensures texts cap g r).booked.names

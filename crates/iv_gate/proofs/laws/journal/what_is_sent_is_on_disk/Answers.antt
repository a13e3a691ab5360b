use Rattle.iv_gate.proofs.TextsAndDisk.{SentIsKept-Runs}
use Rattle.iv_gate.proofs.laws.journal.what_is_sent_is_on_disk.Goals as goal

pub returns : goal.returns
returns c = SentIsKept-Runs c.records_are_read_back.ensures (record { claims = c.names_are_texts.ensures.claims; holders = c.names_are_texts.ensures.holders; lines = c.told_texts_are_lines.ensures })

use Rattle.iv_gate.proofs.AddedEntries.{Texts}
use Rattle.iv_gate.proofs.SoundCommands.{Sounds}
use Rattle.iv_gate.proofs.SoundRuns.{AreReplied-Runs}
use Rattle.iv_gate.proofs.TextsAndDisk.{IsWritten-Runs}
use Rattle.iv_gate.proofs.laws.messages_are_replied.Goals as goal

pub returns : goal.returns
returns c = λ cap g e r.
    let opens = c.requests_open_what_they_name.ensures in
    let laws : Sounds = record { sound = c.steps_keep_sound.ensures.step; lasts = c.what_stands_lasts.ensures; ends = c.ends_are_told.ensures; begins = opens.session; subscribes = opens.subscription; told = c.steps_are_told.ensures } in
    let texts : Texts = record { claims = c.names_are_texts.ensures.claims; holders = c.names_are_texts.ensures.holders; lines = c.told_texts_are_lines.ensures } in
    AreReplied-Runs c.lines_add_up.ensures c.steps_keep_sound.ensures.start laws cap g e r (IsWritten-Runs c.records_are_read_back.ensures texts cap g r).booked.names

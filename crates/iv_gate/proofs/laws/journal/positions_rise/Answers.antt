use Rattle.iv_gate.proofs.AddedEntries.{Texts}
use Rattle.iv_gate.proofs.LogPositions.{PositionsLast-Runs, PositionsRise-Runs}
use Rattle.iv_gate.proofs.laws.journal.positions_rise.Goals as goal

pub returns-clause-rise : goal.returns-clause-rise
returns-clause-rise c =
    let texts : Texts = record { claims = c.names_are_texts.ensures.claims; holders = c.names_are_texts.ensures.holders; lines = c.told_texts_are_lines.ensures } in
    PositionsRise-Runs c.records_are_read_back.ensures texts

pub returns-clause-last : goal.returns-clause-last
returns-clause-last c =
    let texts : Texts = record { claims = c.names_are_texts.ensures.claims; holders = c.names_are_texts.ensures.holders; lines = c.told_texts_are_lines.ensures } in
    PositionsLast-Runs c.records_are_read_back.ensures texts

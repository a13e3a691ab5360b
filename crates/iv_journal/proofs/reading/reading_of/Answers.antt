use Rattle.std.proofs.Common.{◌∙◌, List, ap, length, subst, sym, take}
use Rattle.iv_journal.specs.Journal.{Line, journal_of}
use Rattle.iv_journal.specs.Reading.{fault_of}
use Rattle.iv_journal.specs.Ends.{AreEnded}
use Rattle.iv_journal.proofs.RecordEnds.{take-whole_lines}
use Rattle.iv_journal.proofs.reading.reading_of.Goals as goal

pub returns-clause-reading : goal.returns-clause-reading
returns-clause-reading c = λ bytes b.
    let e = c.deref.ensures.value in
    record {
      lines = c.args.lines.items;
      rest = c.args.rest.now;
      begins = b;
      whole = c.truncate.ensures.items ∙ (ap (λ n. take n c.args.lines.items) c.requires.end.lines ∙ take-whole_lines c.args.lines.items);
      fault = c.fault_at-fault.ensures (c.requires.at.length ∙ ap (λ (z : List Line). length (journal_of z)) (sym e)) ∙ ap (λ (z : List Line). fault_of z c.args.rest.now) e;
    }

pub returns-clause-end : goal.returns-clause-end
returns-clause-end c =
    let kept = c.truncate.ensures.items ∙ (ap (λ n. take n c.args.lines.items) c.requires.end.lines ∙ take-whole_lines c.args.lines.items) in
    subst (λ (z : List Line). AreEnded z c.args.end.now) (sym kept) c.requires.end

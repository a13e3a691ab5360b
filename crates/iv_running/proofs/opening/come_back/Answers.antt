use Rattle.std.proofs.Common.{ℕ, List, None, subst}
use Rattle.iv_journal.specs.Reading.{IsReading}
use Rattle.iv_running.proofs.opening.come_back.Goals as goal

pub returns-clause-back : goal.returns-clause-back
returns-clause-back c =
    let read = c.in_ok-audit.ensures in
    let w = c.in_ok-desk.ensures.back in
    record {
      given = c.in_ok-audit.audit.lines.items;
      lines = record {
        lines = read.lines;
        reading = subst (λ (b : List ℕ). IsReading b (record { lines = read.lines; fault = None })) c.deref.ensures.value read.reading;
        are = read.given;
      };
      epoch = w.0;
      back = w.1;
    }

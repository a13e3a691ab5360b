use Rattle.std.proofs.Common.{◌∙◌, Vec, Global, sym}
use Rattle.iv_machine.specs.Act.{Entry}
use Rattle.iv_reading.proofs.Members.{Adds-do, Adds-session, Adds-entries}
use Rattle.iv_reading.proofs.writes.member_in.Goals as goal

pub returns-then-eq-clause-part : goal.returns-then-eq-clause-part
returns-then-eq-clause-part c writes found h =
    Adds-do c.args.key.now c.args.reader.now c.is_write_next-written.new.reader found _ _ _ _ (sym c.eq.ensures ∙ c.if-eq.true) (c.is_write_next-written.ensures.word writes) h

pub returns-then-eq-2-clause-part : goal.returns-then-eq-2-clause-part
returns-then-eq-2-clause-part c some found h =
    Adds-session c.session_in-written.result c.args.key.now c.args.reader.now c.session_in-written.new.reader found _ _ _ (sym c.eq-else-eq.ensures ∙ c.if-eq-2.true) (sym c.is_some.ensures ∙ some) c.session_in-written.ensures.session h

pub returns-in_ok-written-clause-part : goal.returns-in_ok-written-clause-part
returns-in_ok-written-clause-part c some found h =
    Adds-entries (λ (es : Vec Entry Global). es.items) c.in_ok-written.field-0 c.args.key.now c.args.reader.now c.some_entries_in.new.reader found _ _ _ (sym c.eq-else-eq-2.ensures ∙ c.if-eq-3.true) (sym c.is_some-then-eq-3.ensures ∙ some)
    c.in_ok-written.ensures.entries h

use Rattle.std.proofs.Common.{◌∙◌, Global, sym}
use Rattle.std.specs.Prelude.{string_bytes}
use Rattle.iv_command.specs.Entries.{op_of}
use Rattle.iv_reading.proofs.Members.{Adds-on, Adds-copies, Adds-op}
use Rattle.iv_reading.proofs.writes.part_in.Goals as goal

pub returns-in_ok-parts-clause-part : goal.returns-in_ok-parts-clause-part
returns-in_ok-parts-clause-part c some found h =
    Adds-on (string_bytes {Z = Global}) c.in_ok-parts.field-0 c.args.key.now c.args.reader.now c.name_in.new.reader found _ _ _ (sym c.eq.ensures ∙ c.if-eq.true) (sym c.is_some.ensures ∙ some) c.in_ok-parts.ensures.name h

pub returns-in-Some-clause-part : goal.returns-in-Some-clause-part
returns-in-Some-clause-part c _ found h =
    Adds-copies c.in-Some.copies c.args.key.now c.args.reader.now c.copies_in.new.reader found _ _ _ (sym c.eq-else-eq.ensures ∙ c.if-eq-2.true) c.in-Some.ensures.copies h

pub returns-in_ok-parts-2-clause-part : goal.returns-in_ok-parts-2-clause-part
returns-in_ok-parts-2-clause-part c some found h =
    Adds-op op_of c.in_ok-parts-2.field-0 c.args.parts.now.op c.args.key.now c.args.reader.now c.op_in.new.reader found _ _ (sym c.is_some-else-eq-2.ensures ∙ c.if-is_some.false) (sym c.is_some-else-is_some.ensures ∙ some)
    c.in_ok-parts-2.ensures.op h

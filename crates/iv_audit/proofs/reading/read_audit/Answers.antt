use Rattle.std.proofs.Common.{◌∙◌, sym}
use Rattle.iv_audit.proofs.ReadJournals.{IsAudit-IsReading}
use Rattle.iv_audit.proofs.reading.read_audit.Goals as goal

pub returns-clause-read : goal.returns-clause-read
returns-clause-read c =
    IsAudit-IsReading c.readings_tell_all_bytes.ensures c.journals_go_on.ensures c.args.bytes.now c.in-Ok.reading.lines.items c.deref.result.now c.deref-2.result.now c.deref-3.result.now c.in-Ok.reading.fault _
    c.in-Ok.ensures.reading c.in_default-fault.is c.deref.ensures.value (sym c.if-not-is_audit.false ∙ c.is_audit.ensures) c.in-Ok.ensures.end c.deref-2.ensures.value c.in-Ok-given_in.ensures
    c.deref-3.ensures.value c.epoch_of.ensures

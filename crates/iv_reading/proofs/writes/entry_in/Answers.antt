use Rattle.std.proofs.Common.{◌≡◌, true, arith}
use Rattle.iv_reading.specs.Pulled.{IsParts}
use Rattle.iv_request.specs.Request.{entry_of}
use Rattle.iv_reading.proofs.TokensAndValues.{Pulls-Closes}
use Rattle.iv_reading.proofs.writes.entry_in.Goals as goal

pub returns-then-branch-clause-entry : goal.returns-then-branch-clause-entry
returns-then-branch-clause-entry c =
    let begins : c.begins_object.result ≡ true = grind arith in
    Pulls-Closes 2 entry_of (IsParts c.parts_in.new.parts) c.whole_entry.result c.args.reader.now c.begins_object.new.reader c.parts_in.new.reader (c.begins_object.ensures begins)
    (c.in_ok-parts_in.ensures.parts c.if-branch.true c.new-parts.ensures) c.whole_entry.ensures

use Rattle.std.proofs.Common.{◌<◌, le-leb, lt-ltb, arith, sym, subst, w64}
use Rattle.std.proofs.lemmas.Int.{to_z_pos}
use Rattle.iv_machine.specs.Parts.{is_positive}
use Rattle.iv_command.specs.Entries.{copies_of}
use Rattle.iv_reading.specs.Pulled.{Pulls, natural_by}
use Rattle.iv_request.specs.Request.{positive_of}
use Rattle.iv_request.proofs.Keys.{both_true}
use Rattle.iv_reading.proofs.TokensAndValues.{Pulls-passing}
use Rattle.iv_reading.proofs.writes.copies_in.Goals as goal

pub returns-then-copies-le-MOST-clause-copies : goal.returns-then-copies-le-MOST-clause-copies
returns-then-copies-le-MOST-clause-copies c =
    let n = c.in-Some.copies in
    let below : n < 9223372036854775808 = omega (arith, c.if-copies-le-MOST.true) in
    subst (λ z. Pulls 0 positive_of c.args.reader.now (copies_of z) c.natural_in.new.reader) (sym (to_z_pos w64 n below))
    (Pulls-passing 0 natural_by is_positive c.args.reader.now n c.natural_in.new.reader c.in-Some.ensures.number (both_true _ _ (le-leb 1 n c.if-copies-ge1.true) (lt-ltb n 9223372036854775808 below)))

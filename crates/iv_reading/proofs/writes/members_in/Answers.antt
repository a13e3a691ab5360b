use Rattle.std.proofs.Common.{◌≡◌, Some, true, arith}
use Rattle.json.specs.Json.{read_key}
use Rattle.iv_reading.specs.Pulled.{IsWritten}
use Rattle.iv_reading.proofs.TokensAndValues.{Reaches-Adds}
use Rattle.iv_reading.proofs.writes.members_in.Goals as goal

pub members-preserved : goal.members-preserved
members-preserved c h =
    let l = c.members in
    let k = c.in-Ok-Some.key.now in
    let s = c.next_key.new.self in
    let key : read_key l.reader ≡ Some (Some k, s) = rw c.in-Ok-Some.field-0-is at c.in-Ok-Some.ensures.value in
    let done = c.in_ok-member_in-in-Ok-Some in
    let is_read : done.field-0 ≡ true = grind arith in
    Reaches-Adds 4 (IsWritten l.written) (IsWritten c.member_in.new.written) c.args.reader.now l.reader s c.member_in.new.reader k (done.ensures.shorter is_read) key (done.ensures.part is_read) (l.invariant h)

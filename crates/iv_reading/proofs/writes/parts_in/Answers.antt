use Rattle.std.proofs.Common.{◌≡◌, Some, true, arith}
use Rattle.json.specs.Json.{read_key}
use Rattle.json.proofs.Grammar.{read_key-shorter}
use Rattle.iv_reading.specs.Pulled.{IsParts}
use Rattle.iv_reading.proofs.TokensAndValues.{Reaches-Adds}
use Rattle.iv_reading.proofs.writes.parts_in.Goals as goal

pub members-preserved : goal.members-preserved
members-preserved c =
    let l = c.members in
    let k = c.in-Ok-Some.key.now in
    let s = c.next_key.new.self in
    let key : read_key l.reader ≡ Some (Some k, s) = rw c.in-Ok-Some.field-0-is at c.in-Ok-Some.ensures.value in
    let done = c.in_ok-part_in-in-Ok-Some in
    let is_read : done.field-0 ≡ true = grind arith in
    let less = done.ensures.shorter is_read in
    let lesser = read_key-shorter l.reader (Some k) s key in (
      λ h. Reaches-Adds 2 (IsParts l.parts) (IsParts c.part_in.new.parts) c.args.reader.now l.reader s c.part_in.new.reader k less key (done.ensures.part is_read) (l.invariant.0 h),
      omega (arith, less, lesser, l.invariant.1),
    )

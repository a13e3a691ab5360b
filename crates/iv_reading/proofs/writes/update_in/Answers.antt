use Rattle.std.proofs.Common.{◌≡◌, Some, true, arith}
use Rattle.json.specs.Json.{after_end_array}
use Rattle.iv_request.specs.Request.{row_of, update_of}
use Rattle.iv_reading.proofs.Members.{update_of-row_of}
use Rattle.iv_reading.proofs.TokensAndValues.{Pulls-two, Pulls-same_tokens}
use Rattle.iv_reading.proofs.writes.update_in.Goals as goal

pub returns-then-take_end_array-clause-op : goal.returns-then-take_end_array-clause-op
returns-then-take_end_array-clause-op c =
    let old = c.in-Some.old in
    let new = c.in-Some-2.new in
    let begins : c.begins_array.result ≡ true = grind arith in
    let ends : after_end_array c.row_in-2.new.reader ≡ Some c.take_end_array.new.self = grind arith in
    Pulls-same_tokens 2 update_of _ _ _ _ (c.begins_array.ensures begins)
    (Pulls-two 1 row_of update_of c.begins_array.new.reader c.row_in.new.reader c.row_in-2.new.reader c.take_end_array.new.self old new _ (rw c.in-Some.is at c.in_ok-old.ensures.shorter) (rw c.in-Some-2.is at c.in_ok-new.ensures.shorter)
    (rw c.in-Some.is at c.in_ok-old.ensures.row) (rw c.in-Some-2.is at c.in_ok-new.ensures.row) ends (update_of-row_of old new))

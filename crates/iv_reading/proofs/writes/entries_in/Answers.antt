use Rattle.std.proofs.Common.{◌≡◌, None, Some, true, length, ap, arith}
use Rattle.json.specs.Json.{after_end_array}
use Rattle.iv_request.specs.Request.{list_of, entry_of}
use Rattle.iv_reading.proofs.TokensAndValues.{HasRead-push, Pulls-list_of, Pulls-same_tokens}
use Rattle.iv_reading.proofs.writes.entries_in.Goals as goal

pub loop-alloc-preserved : goal.loop-alloc-preserved
loop-alloc-preserved c =
    let l = c.loop-alloc in
    let going : (after_end_array l.reader ≡ None) × (c.take_end_array.new.self ≡ l.reader) = grind arith in
    let here = rw c.in-Some.is at c.in_ok-entry_in.ensures.entry in
    let less = rw c.in-Some.is at c.in_ok-entry_in.ensures.shorter in (
      HasRead-push 3 entry_of _ l.reader c.take_end_array.new.self c.entry_in.new.reader l.entries.items _ c.in-Some.entry going.1 less c.in_ok-push-in-Some.ensures.items l.invariant.0 here,
      omega (arith, less, l.invariant.1, ap length going.1),
    )

pub returns-clause-entries : goal.returns-clause-entries
returns-clause-entries c =
    let l = c.loop-alloc in
    let ends : after_end_array l.reader ≡ Some c.take_end_array.new.self = grind arith in
    let begins : c.begins_array.result ≡ true = grind arith in
    Pulls-same_tokens 4 (list_of entry_of) _ _ _ _ (c.begins_array.ensures begins) (Pulls-list_of 3 entry_of c.begins_array.new.reader l.entries.items l.reader c.take_end_array.new.self l.invariant.0 ends)

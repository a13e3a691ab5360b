use Rattle.std.proofs.Common.{to_z-of_z}
use Rattle.iv_command.proofs.TokenTexts.{Adds-first, Adds-append, Adds-push, number_text-of_integer}
use Rattle.iv_command.proofs.rows.put_weighed.Goals as goal

pub returns : goal.returns
returns c =
    let fits = c.ranges.weight in
    let wrote = rw (to_z-of_z fits) at c.in_ok-i64.ensures.ok in
    let h0 = Adds-first c.args.out.now c.begin_array.new.self _ c.in_ok-begin_array.ensures.room.0 c.in_ok-begin_array.ensures.ok in
    let h1 = Adds-append c.args.out.now c.begin_array.new.self c.i64.new.self _ _ h0 (Adds-first c.begin_array.new.self c.i64.new.self _ c.in_ok-i64.ensures.room.0 wrote) in
    let h2 = Adds-append c.args.out.now c.i64.new.self c.put_cells.new.out _ _ h1 c.in_ok-put_cells.ensures in
    let all = Adds-push c.end_array.result c.args.out.now c.put_cells.new.out c.end_array.new.self _ _ h2 c.end_array.ensures in
    rw (number_text-of_integer c.args.weight) all

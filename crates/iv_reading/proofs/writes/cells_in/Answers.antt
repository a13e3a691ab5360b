use Rattle.std.proofs.Common.{◌≡◌, None, Some, length, ap, sym, subst, arith}
use Rattle.json.specs.Json.{after_end_array}
use Rattle.iv_rows.specs.View as view
use Rattle.iv_reading.specs.Pulled.{HasRead}
use Rattle.iv_request.specs.Request.{cell_of}
use Rattle.iv_reading.proofs.TokensAndValues.{HasRead-none, HasRead-push_map, Pulls-list_of}
use Rattle.iv_reading.proofs.writes.cells_in.Goals as goal

pub loop-alloc-init : goal.loop-alloc-init
loop-alloc-init c =
    let r = c.args.reader.now in
    (subst (λ vs. HasRead 0 cell_of r (view.cells_of vs) r) (sym (c.in_ok-values.ensures.items)) (HasRead-none 0 cell_of r), omega arith)

pub loop-alloc-preserved : goal.loop-alloc-preserved
loop-alloc-preserved c =
    let l = c.loop-alloc in
    let going : (after_end_array l.reader ≡ None) × (c.take_end_array.new.self ≡ l.reader) = grind arith in
    let here = rw c.in-Some.is at c.in_ok-cell_in.ensures.cell in
    let less = rw c.in-Some.is at c.in_ok-cell_in.ensures.shorter in (
      HasRead-push_map 0 cell_of view.cell_of _ l.reader c.take_end_array.new.self c.cell_in.new.reader l.values.items _ c.in-Some.value going.1 less c.in_ok-push-in-Some.ensures.items l.invariant.0 here,
      omega (arith, less, l.invariant.1, ap length going.1),
    )

pub returns-clause-row : goal.returns-clause-row
returns-clause-row c =
    let l = c.loop-alloc in
    let ends : after_end_array l.reader ≡ Some c.take_end_array.new.self = grind arith in
    Pulls-list_of 0 cell_of c.args.reader.now (view.cells_of l.values.items) l.reader c.take_end_array.new.self l.invariant.0 ends

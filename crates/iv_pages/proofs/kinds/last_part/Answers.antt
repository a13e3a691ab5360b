use Rattle.std.proofs.Common.{rules, ◌≡◌, Some, None}
use Rattle.iv_pages.specs.Cut.{cut_at}
use Rattle.iv_pages.proofs.Cuts.{lt-cut_at}
use Rattle.iv_pages.proofs.Tags.{last_of-end, last_of-next}
use Rattle.iv_pages.proofs.kinds.last_part.Goals as goal

pub loop-later-smaller : goal.loop-later-smaller
loop-later-smaller c =
    let cut : cut_at c.args.byte c.loop-later.rest.now ≡ Some (c.in-Some.field-0-0.now, c.in-Some.later.now) = search rules in
    lt-cut_at c.args.byte c.loop-later.rest.now (c.in-Some.field-0-0.now, c.in-Some.later.now) cut

pub loop-later-preserved : goal.loop-later-preserved
loop-later-preserved c =
    let cut : cut_at c.args.byte c.loop-later.rest.now ≡ Some (c.in-Some.field-0-0.now, c.in-Some.later.now) = search rules in
    last_of-next c.args.byte c.loop-later.rest.now c.in-Some.field-0-0.now c.in-Some.later.now _ cut c.loop-later.invariant

pub returns : goal.returns
returns c =
    let cut : cut_at c.args.byte c.loop-later.rest.now ≡ None = search rules in
    last_of-end c.args.byte c.loop-later.rest.now _ cut c.loop-later.invariant

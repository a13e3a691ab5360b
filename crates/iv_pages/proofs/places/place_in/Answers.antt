use Rattle.std.proofs.Common.{rules, ◌≡◌, Some, None, true, false}
use Rattle.percent_encoding.specs.Percent.{percent_decode}
use Rattle.iv_pages.specs.Cut.{cut_at}
use Rattle.iv_pages.specs.Place.{segment_named}
use Rattle.iv_pages.specs.Pushed.{IsNamed}
use Rattle.iv_pages.proofs.Cuts.{lt-cut_at}
use Rattle.iv_pages.proofs.PathSegments.{IsNamed-same, place_in-end, place_in-end_unnamed, place_in-next, place_in-stop}
use Rattle.iv_pages.proofs.places.place_in.Goals as goal

pub loop-segment-smaller : goal.loop-segment-smaller
loop-segment-smaller c =
    let cut : cut_at 47 c.loop-segment.rest.now ≡ Some (c.in-Some.segment.now, c.in-Some.later.now) = search rules in
    lt-cut_at 47 c.loop-segment.rest.now (c.in-Some.segment.now, c.in-Some.later.now) cut

pub returns-then-not-branch : goal.returns-then-not-branch
returns-then-not-branch c =
    let cut : cut_at 47 c.loop-segment.rest.now ≡ Some (c.in-Some.segment.now, c.in-Some.later.now) = search rules in
    let stops : IsNamed false (percent_decode c.in-Some.segment.now) c.loop-segment.place.items c.push_segment.new.place.items = IsNamed-same _ false _ _ _ c.if-not-branch.true c.in_ok-push_segment.ensures in
    place_in-stop c.loop-segment.place.items c.push_segment.new.place.items c.loop-segment.rest.now c.in-Some.segment.now c.in-Some.later.now _ cut stops c.loop-segment.invariant

pub loop-segment-preserved : goal.loop-segment-preserved
loop-segment-preserved c =
    let cut : cut_at 47 c.loop-segment.rest.now ≡ Some (c.in-Some.segment.now, c.in-Some.later.now) = search rules in
    let goes : IsNamed true (percent_decode c.in-Some.segment.now) c.loop-segment.place.items c.push_segment.new.place.items = IsNamed-same _ true _ _ _ c.if-not-branch.false c.in_ok-push_segment.ensures in
    place_in-next c.loop-segment.place.items c.push_segment.new.place.items c.push.new.self.items c.loop-segment.rest.now c.in-Some.segment.now c.in-Some.later.now _ cut goes
    c.in_ok-push.ensures.items c.loop-segment.invariant

pub returns-then-branch : goal.returns-then-branch
returns-then-branch c =
    let cut : cut_at 47 c.loop-segment.rest.now ≡ None = search rules in
    let goes : IsNamed true (segment_named c.loop-segment.rest.now) c.loop-segment.place.items c.push_last.new.place.items = IsNamed-same _ true _ _ _ c.if-branch.true c.in_ok-push_last.ensures in
    place_in-end c.loop-segment.place.items c.push_last.new.place.items c.loop-segment.rest.now _ cut goes c.loop-segment.invariant

pub returns-else-branch : goal.returns-else-branch
returns-else-branch c =
    let cut : cut_at 47 c.loop-segment.rest.now ≡ None = search rules in
    let stops : IsNamed false (segment_named c.loop-segment.rest.now) c.loop-segment.place.items c.push_last.new.place.items = IsNamed-same _ false _ _ _ c.if-branch.false c.in_ok-push_last.ensures in
    place_in-end_unnamed c.loop-segment.place.items c.push_last.new.place.items c.loop-segment.rest.now _ cut stops c.loop-segment.invariant

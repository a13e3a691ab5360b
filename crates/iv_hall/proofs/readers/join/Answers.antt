use Rattle.std.proofs.Common.{◌≡◌, ◌∙◌, Some, None, ap, subst, sym}
use Rattle.std.specs.Prelude.{◌==◌}
use Rattle.std.specs.List.{position}
use Rattle.iv_hall.specs.Readers.{HasJoined, Readers}
use Rattle.iv_hall.proofs.FeedReaders.{HasJoined-set, HasJoined-new, IsDistinct-none, with_number}
use Rattle.iv_hall.proofs.readers.join.Goals as goal

pub invariant_of-those : goal.invariant_of-those
invariant_of-those c = rw c.new.ensures.items IsDistinct-none

pub returns-in_ok-insert-in-Some : goal.returns-in_ok-insert-in-Some
returns-in_ok-insert-in-Some c =
    let place : position (λ (r : Readers). c.args.feed == r.feed) c.args.readers.now.items ≡ Some c.in-Some.at =
    ap (position (λ (r : Readers). c.args.feed == r.feed)) (sym c.deref.ensures.value) ∙ (sym c.place_of.ensures ∙ c.in-Some.is) in
    HasJoined-set c.args.readers.now.items c.args.feed c.in-Some.at c.args.number c.index_mut.result.now c.insert.new.self place c.index_mut.ensures.value
    c.in_ok-insert-in-Some.ensures

pub returns-in_ok-insert-in-None-2 : goal.returns-in_ok-insert-in-None-2
returns-in_ok-insert-in-None-2 c =
    let place : position (λ (r : Readers). c.args.feed == r.feed) c.args.readers.now.items ≡ None =
    ap (position (λ (r : Readers). c.args.feed == r.feed)) (sym c.deref.ensures.value) ∙ (sym c.place_of.ensures ∙ c.in-None.is) in
    subst (λ z. HasJoined c.args.feed c.args.number c.args.readers.now.items z) (sym c.in_ok-insert-in-None-2.ensures.items)
    (HasJoined-new c.args.readers.now.items c.args.feed c.args.number c.insert-in-None.new.self place
    (c.in_ok-insert-in-None.ensures ∙ ap (λ z. record { feed = c.args.feed; numbers = with_number c.args.number z }) c.new.ensures.items))

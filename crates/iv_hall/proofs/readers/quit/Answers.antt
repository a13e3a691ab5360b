use Rattle.std.proofs.Common.{◌≡◌, ◌∙◌, Some, None, ap, sym}
use Rattle.std.specs.Prelude.{◌==◌}
use Rattle.std.specs.List.{position}
use Rattle.iv_hall.specs.Readers.{Readers}
use Rattle.iv_hall.proofs.FeedReaders.{HasQuit-set, HasQuit-none, HasQuit-HasAll}
use Rattle.iv_hall.proofs.readers.quit.Goals as goal

pub returns-in-Some : goal.returns-in-Some
returns-in-Some c =
    let place : position (λ (r : Readers). c.args.feed == r.feed) c.args.readers.now.items ≡ Some c.in-Some.at =
    ap (position (λ (r : Readers). c.args.feed == r.feed)) (sym c.deref.ensures.value) ∙ (sym c.place_of.ensures ∙ c.in-Some.is) in
    HasQuit-HasAll c.args.feed c.args.number c.args.readers.now.items _ c.drop_empty.new.readers.items
    (HasQuit-set c.args.readers.now.items c.args.feed c.in-Some.at c.args.number c.index_mut.result.now c.remove.new.self place c.index_mut.ensures.value
    c.remove.ensures) c.drop_empty.ensures

pub returns-in-None : goal.returns-in-None
returns-in-None c =
    let place : position (λ (r : Readers). c.args.feed == r.feed) c.args.readers.now.items ≡ None =
    ap (position (λ (r : Readers). c.args.feed == r.feed)) (sym c.deref.ensures.value) ∙ (sym c.place_of.ensures ∙ c.in-None.is) in
    HasQuit-none c.args.readers.now.items c.args.feed c.args.number place

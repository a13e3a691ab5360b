use Rattle.std.proofs.Common.{◌≡◌, ◌∙◌, ap, length, sym, true}
use Rattle.std.specs.Prelude.{◌==◌}
use Rattle.iv_hall.specs.Readers.{readers_of}
use Rattle.iv_hall.proofs.FeedReaders.{HasAll-filter}
use Rattle.iv_hall.proofs.readers.drop_empty.Goals as goal

pub returns-then-is_empty : goal.returns-then-is_empty
returns-then-is_empty c =
    let none : (length (readers_of c.args.readers.now.items c.args.feed) == 0) ≡ true =
    ap (λ ns. length ns == 0) (sym (c.readers_of.ensures.numbers ∙ ap (λ z. readers_of z c.args.feed) c.deref.ensures.value))
    ∙ (sym c.is_empty.ensures ∙ c.if-is_empty.true) in
    HasAll-filter c.args.readers.now.items c.disband.new.readers.items c.args.feed none c.disband.ensures

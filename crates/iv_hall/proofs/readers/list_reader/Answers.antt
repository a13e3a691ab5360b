use Rattle.std.proofs.Common.{◌∙◌, sym}
use Rattle.iv_hall.proofs.FeedReaders.{IsReader-HasJoined}
use Rattle.iv_hall.proofs.readers.list_reader.Goals as goal

pub returns-in_ok-join : goal.returns-in_ok-join
returns-in_ok-join c =
    IsReader-HasJoined c.args.feed c.args.client c.args.clients.now c.args.readers.now.items c.join.new.readers.items
    (sym c.follows_at.ensures ∙ c.if-follows_at.true)
    c.in_ok-join.ensures

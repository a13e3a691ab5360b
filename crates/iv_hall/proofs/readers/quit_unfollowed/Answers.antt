use Rattle.std.proofs.Common.{◌∙◌, Option, ℕ, subst, sym}
use Rattle.iv_hall.specs.Readers.{HasKept}
use Rattle.iv_hall.proofs.FeedReaders.{HasKept-HasQuit}
use Rattle.iv_hall.proofs.readers.quit_unfollowed.Goals as goal

pub returns-then-not-follows_at : goal.returns-then-not-follows_at
returns-then-not-follows_at c =
    subst (λ (o : Option ℕ). HasKept c.args.client o c.args.clients.now c.args.readers.now.items c.quit.new.readers.items) (sym c.in-Some.is)
    (HasKept-HasQuit c.args.client c.in-Some.feed c.args.clients.now c.args.readers.now.items c.quit.new.readers.items
    (sym c.follows_at.ensures ∙ c.if-not-follows_at.true) c.quit.ensures)

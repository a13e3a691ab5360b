use Rattle.std.proofs.Common.{◌≡◌, ℕ, take}
use Rattle.std.specs.List.{list_any}
use Rattle.iv_store.specs.Reading.{reads}
use Rattle.iv_store.specs.Store.{frame_of, is_read_through}
use Rattle.iv_store.proofs.store.Store.still_read.Given as goal

-- what the subscriptions so far read
abbrev pub invariant-loop-subscription : goal.invariant-loop-subscription
invariant-loop-subscription l =
    (role rel : ℕ) → reads l.read role rel ≡ list_any (is_read_through (frame_of l.self) role rel) (take l.subscription-index l.self.subscriptions)

use Rattle.std.proofs.Common.{◌≡◌, ◌<◌, ℕ, Some, true}
use Rattle.std.specs.List.{AllByRecursion}
use Rattle.iv_clients.specs.Clients.{client_at}
use Rattle.iv_clients.specs.Kept.{Kept}
use Rattle.iv_notices.specs.Newly.{IsReadable, is_among}
use Rattle.iv_notices.proofs.newly.all_readable.Given as goal

abbrev pub invariant-loop-client : goal.invariant-loop-client
invariant-loop-client l =
    AllByRecursion (IsReadable l.engine.frame) l.all.items ×
    ((m : ℕ) (k : Kept) → m < l.client → client_at l.clients m ≡ Some k → is_among l.all.items k.role ≡ true)

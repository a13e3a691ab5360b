use Rattle.std.proofs.Common.{◌≡◌, ◌++◌, take, drop, map}
use Rattle.iv_clients.specs.Clients.{moved_sub}
use Rattle.iv_clients.proofs.clients.redirect_all.Given as goal

abbrev pub invariant-loop-sub : goal.invariant-loop-sub
invariant-loop-sub l = l.sub-items ≡ map (moved_sub l.from l.to) (take l.sub-index l.fn.subs.items) ++ drop l.sub-index l.fn.subs.items

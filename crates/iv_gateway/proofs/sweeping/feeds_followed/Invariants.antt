use Rattle.std.proofs.Common.{◌≡◌, map, take}
use Rattle.iv_gateway.proofs.sweeping.feeds_followed.Given as goal

abbrev pub invariant-loop-sub : goal.invariant-loop-sub
invariant-loop-sub l = l.feeds.items ≡ map (λ s. s.feed) (take l.sub-index l.subs)

use Rattle.std.proofs.Common.{◌≡◌, drop}
use Rattle.std.specs.Prelude.{◌==◌}
use Rattle.iv_zset.specs.Bags.{stands}
use Rattle.iv_bind.proofs.items.stands.Given as goal

abbrev pub invariant-loop-key : goal.invariant-loop-key
invariant-loop-key l = stands ◌==◌ l.k l.keys ≡ stands ◌==◌ l.k (drop l.key-index l.keys)

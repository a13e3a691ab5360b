use Rattle.std.proofs.Common.{◌≡◌, drop}
use Rattle.std.specs.Prelude.{◌==◌}
use Rattle.iv_zset.specs.Bags.{stands}
use Rattle.iv_bind.specs.Catalogs.{numbers}
use Rattle.iv_bind.proofs.binding.stands.Given as goal

abbrev pub invariant-loop-other : goal.invariant-loop-other
invariant-loop-other l = stands ◌==◌ l.rel.0 (numbers l.list) ≡ stands ◌==◌ l.rel.0 (numbers (drop l.other-index l.list))

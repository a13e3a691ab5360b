use Rattle.std.proofs.Common.{◌≡◌, map, take}
use Rattle.iv_notices.specs.Newly.{held_in}
use Rattle.iv_notices.proofs.newly.held_on_all.Given as goal

abbrev pub invariant-loop-rel : goal.invariant-loop-rel
invariant-loop-rel l = l.all.items ≡ map (held_in l.engine.frame l.role) (map (λ n. n.now) (take l.rel-index l.rels))

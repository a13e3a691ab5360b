use Rattle.std.proofs.Common.{◌≡◌, ◌++◌, map, take}
use Rattle.iv_notices.specs.Granting.{text_granted}
use Rattle.iv_notices.specs.Newly.{only_new}
use Rattle.iv_notices.proofs.newly.push_new.Given as goal

abbrev pub invariant-loop-rel : goal.invariant-loop-rel
invariant-loop-rel l = l.text.items ≡ l.fn.text.items ++ text_granted (only_new l.engine.frame l.before (map (λ n. n.now) (take l.rel-index l.rels)))

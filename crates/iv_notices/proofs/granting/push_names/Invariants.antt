use Rattle.std.proofs.Common.{◌≡◌, ◌++◌, map, take}
use Rattle.iv_notices.specs.Granting.{text_granted}
use Rattle.iv_notices.proofs.granting.push_names.Given as goal

abbrev pub invariant-loop-name : goal.invariant-loop-name
invariant-loop-name l = l.text.items ≡ l.fn.text.items ++ text_granted (map (λ n. n.now) (take l.name-index l.names))

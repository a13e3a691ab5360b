use Rattle.std.proofs.Common.{take}
use Rattle.iv_desk.specs.Front.{Front, dismissed}
use Rattle.iv_desk.specs.Desks.{IsBehind, at_each}
use Rattle.iv_desk.proofs.places.dismiss_each.Given as goal

abbrev pub invariant-loop-at : goal.invariant-loop-at
invariant-loop-at l = (d : Front) → IsBehind d l.fn.gateway l.fn.places.items → IsBehind (at_each dismissed (take l.at-index l.numbers) d) l.fn.gateway
    l.places.items

use Rattle.std.proofs.Common.{◌≡◌, map, not, take}
use Rattle.iv_store.specs.Store.{role_reads}
use Rattle.iv_store.proofs.store.Store.unreadable.Given as goal

abbrev pub invariant-loop-place : goal.invariant-loop-place
invariant-loop-place l = l.flags.items ≡ map (λ k. not (role_reads l.self k.role k.rel)) (take l.place l.self.circuits)

use Rattle.std.proofs.Common.{◌≡◌, map, take}
use Rattle.iv_store.specs.Concerned.{reaches_some}
use Rattle.iv_store.proofs.store.Store.reaching.Given as goal

abbrev pub invariant-loop-place : goal.invariant-loop-place
invariant-loop-place l = l.flags.items ≡ map (λ k. reaches_some l.self.known.rights k.role l.other) (take l.place l.self.circuits)

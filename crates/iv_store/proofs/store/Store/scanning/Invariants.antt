use Rattle.std.proofs.Common.{◌≡◌, map, take}
use Rattle.iv_store.specs.Counting.{scans_at}
use Rattle.iv_store.proofs.store.Store.scanning.Given as goal

abbrev pub invariant-loop-place : goal.invariant-loop-place
invariant-loop-place l = l.flags.items ≡ map (λ k. scans_at l.self.catalog k.rel l.table.0) (take l.place l.self.circuits)

use Rattle.std.proofs.Common.{◌≡◌, ℕ, List, ◌++◌, None}
use Rattle.std.specs.Io.KnownBytes.{Appends}
use Rattle.iv_disk.proofs.disk.write_whole.Given as goal

abbrev pub invariant-loop : goal.invariant-loop
invariant-loop g l = (done : List ℕ) × (l.initial.rest ≡ done ++ l.rest) × Appends (g.D.Disk.held l.initial.disk) (g.D.Disk.held l.disk) done
    × (g.D.Disk.held l.initial.disk ≡ None → g.D.Disk.held l.disk ≡ None)

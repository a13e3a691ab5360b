use Rattle.std.proofs.Common.{◌≡◌, length, drop}
use Rattle.iv_bind.specs.Faults.{through}
use Rattle.iv_bind.specs.Parts.{out_of}
use Rattle.iv_bind.specs.Binding.{output_bound, star_bound}
use Rattle.iv_bind.proofs.items.star.Given as goal

-- what is left to take gives behind what was taken what all of it does
abbrev pub invariant-loop-named : goal.invariant-loop-named
invariant-loop-named l = through (λ out n. output_bound l.place out (length out.columns) n.name n.kind) (out_of l.out) (drop l.named-index l.scope) ≡ star_bound l.scope l.place

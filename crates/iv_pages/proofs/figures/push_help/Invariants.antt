use Rattle.std.proofs.Common.{◌≡◌, ◌++◌, take}
use Rattle.std.specs.Prelude.{flat_map}
use Rattle.iv_pages.specs.Figures.{help_byte}
use Rattle.iv_pages.proofs.figures.push_help.Given as goal

abbrev pub invariant-loop-byte : goal.invariant-loop-byte
invariant-loop-byte l = l.out.items ≡ l.initial.out.items ++ flat_map help_byte (take l.byte-index l.help)

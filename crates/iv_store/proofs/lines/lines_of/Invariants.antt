use Rattle.std.proofs.Common.{◌≡◌, map, take}
use Rattle.std.specs.Prelude.{flat_map}
use Rattle.iv_store.specs.Touching.{line_at}
use Rattle.iv_command.specs.Views.{line_of}
use Rattle.iv_store.proofs.lines.lines_of.Given as goal

-- the lines of the readers so far
abbrev pub invariant-loop-reader : goal.invariant-loop-reader
invariant-loop-reader l = map line_of l.lines.items ≡ flat_map (line_at l.prepared) (take l.reader-index l.readers)

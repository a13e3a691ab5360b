-- The value that a `Value` of the program stands for.
use Rattle.std.specs.Prelude.{List, map, string_bytes}
use Rattle.iv_rows.specs.Cell.{Cell, num, text, flag}
use Rattle.iv_rows.specs.declared.value.Value.{Value}
use Rattle.iv_rows.specs.declared.value.Value.TheVariants.{Int, Text, Flag}

abbrev pub cell_of : Value → Cell
cell_of (Int n) = num n
cell_of (Text t) = text (string_bytes t)
cell_of (Flag b) = flag b

abbrev pub cells_of : List Value → List Cell
cells_of = map cell_of

-- Rows with their weights as JSON: values, and their compact text.
use Rattle.std.specs.Prelude.{ℕ, ℤ, List, map}
use Rattle.iv_rows.specs.Cell.{Cell, num, text, flag}
use Rattle.serde_json.specs.Data.{Data, number, string, boolean, array, item, no_items}
use Rattle.serde_json.specs.Find.{of_integer}
use Rattle.serde_json.specs.View.{items_of}
use Rattle.serde_json.specs.Written.{compact_text}

abbrev pub whole : ℤ → Data
whole z = number (of_integer z)

abbrev pub cell_data : Cell → Data
cell_data (num z) = whole z
cell_data (text t) = string t
cell_data (flag b) = boolean b

abbrev pub row_data : List Cell → Data
row_data row = array (items_of (map cell_data row))

-- [weight, row]
abbrev pub entry_data : List Cell × ℤ → Data
entry_data e = array (item (whole e.1) (item (row_data e.0) no_items))

abbrev pub rows_data : List (List Cell × ℤ) → Data
rows_data es = array (items_of (map entry_data es))

-- source: RFC 8259, without blanks
abbrev pub rows_text : List (List Cell × ℤ) → List ℕ
rows_text es = compact_text (rows_data es)

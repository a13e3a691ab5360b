-- For contracts of the code: what the lines of a file of tokens are read as.
use Rattle.std.specs.Prelude.{ℕ, List, ◌++◌, Option, Some, None, option_map, Result, Ok, Err}
use Rattle.std.specs.Global.{Vec}
use Rattle.iv_tokens.specs.declared.entries.Parts as code
use Rattle.iv_tokens.specs.Entries.{Entry, Parts}

-- what a line says, by its texts where they are
abbrev pub parts_by : code.Parts → Parts
parts_by p = record { digits = p.digits.now; role = p.role.now; holder = option_map (λ t. t.now) p.holder; until = option_map (λ t. t.now) p.until }

-- what is read after these entries
abbrev pub behind_entries : List Entry → Option (List Entry) → Option (List Entry)
behind_entries es o = option_map (λ more. es ++ more) o

abbrev pub entries_read : Result (Vec Entry) ℕ → Option (List Entry)
entries_read (Ok es) = Some es.items
entries_read (Err number) = None

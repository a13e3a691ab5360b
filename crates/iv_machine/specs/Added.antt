-- What a write adds to a table, row by row.
use Rattle.std.specs.Prelude.{◌≡◌, ℕ, ◌==◌, ℤ, pos, ◌+ℤ◌, ◌-ℤ◌, cond, List, [], ◌∷◌}
use Rattle.iv_rows.specs.Cell.{Cell}
use Rattle.iv_rows.specs.Order.{row_eq}
use Rattle.iv_zset.specs.Limits.{copies}
use Rattle.iv_algebra.specs.Plans.{Lists}
use Rattle.iv_bind.specs.Catalogs as catalogs
use Rattle.iv_machine.specs.Act.{Entry, Op, insert, delete, update}
use Rattle.iv_machine.specs.Changing.{written}
use Rattle.iv_machine.specs.State.{rel_of}

-- how many of c copies of a row are copies of the row q
abbrev pub copies_in : ℕ → List Cell → List Cell → ℤ
copies_in c row q = pos (cond (row_eq q row) c 0)

-- how many copies of the row q an entry of c copies adds to its table
abbrev pub adds : Op → ℕ → List Cell → ℤ
adds (insert new) c q = copies_in c new q
adds (delete old) c q = pos 0 -ℤ copies_in c old q
adds (update old new) c q = copies_in c new q -ℤ copies_in c old q

-- how many copies of the row q the entries add to table t
abbrev pub added : List catalogs.CatalogEntry → List Entry → ℕ → List Cell → ℤ
added catalog [] t q = pos 0
added catalog (e ∷ es) t q = cond (rel_of catalog e.rel == t) (adds e.op e.copies q) (pos 0) +ℤ added catalog es t q

-- the rows of table t after the entries are those before, and what the entries add
abbrev pub AddsCopies : List catalogs.CatalogEntry → List Entry → Lists → Type 0
AddsCopies catalog es T = (t : ℕ) (q : List Cell) → pos (copies q (written catalog es T t)) ≡ pos (copies q (T t)) +ℤ added catalog es t q

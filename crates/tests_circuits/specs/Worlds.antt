-- Tables of small tests, and what leads from one state of them to another.
use Rattle.std.specs.Prelude.{◌≡◌, ◌≢◌, ℕ, ℤ, List, ◌∷◌, ◌++◌}
use Rattle.iv_zset.specs.Weights.{SameZ, IsBag}
use Rattle.iv_algebra.specs.Contents.{AreOf, heads_of, Hold, rows_of}
use Rattle.iv_algebra.specs.Fits.{or_nothing}
use Rattle.iv_algebra.specs.Plans.{Lists}
use Rattle.iv_algebra.specs.Rows.{Cells}
use Rattle.iv_algebra.specs.declared.tables.Table.{Table}
use Rattle.iv_access.specs.Policies.{allowed}
use Rattle.iv_access.specs.Rights.{Rights}
use Rattle.iv_circuit.specs.Changing.{Given}
use Rattle.iv_circuit.specs.Circuits.{AreScans, Running}
use Rattle.iv_circuit.specs.Keeping.{StandsOn}

-- no row of the table has a weight below 0, and each is of its kinds
pub record IsSound (tables : List Table) (n : ℕ) : Type 0 where
  pub bag : IsBag (rows_of tables n)
  pub kinds : AreOf (or_nothing (heads_of tables n)) (rows_of tables n)

abbrev pub AreSound : List Table → Type 0
AreSound tables = (n : ℕ) → IsSound tables n

abbrev pub SameHeads : (old new : List Table) → Type 0
SameHeads old new = (n : ℕ) → heads_of new n ≡ heads_of old n

-- one table has so many more copies of a row, and the others are as they were
pub record HasMore (table : ℕ) (row : Cells) (copies : ℤ) (old new : Given) : Type 0 where
  pub own : SameZ (new table) ((row, copies) ∷ old table)
  pub others : (n : ℕ) → n ≢ table → new n ≡ old n

-- the changes lead from the rows of the tables to others
abbrev pub LeadTo : (old new : List Table) → Given → Type 0
LeadTo old new given = (n : ℕ) → SameZ (rows_of new n) (given n ++ rows_of old n)

-- the circuit stands on what its reader sees of the tables
pub record IsReader (tables : List Table) (c : Running) : Type 0 where
  pub rights : Rights
  pub role : ℕ
  pub scans : AreScans (heads_of tables) rights role c.node
  pub stands : (T : Lists) → Hold tables T → StandsOn c.cap c.node (allowed rights role T)

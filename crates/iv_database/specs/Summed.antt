-- What the entries of a write add to tables, and what that makes of them.
use Rattle.std.specs.Prelude.{◌≡◌, ℕ, zero, suc, ◌*◌, ◌^◌, ◌≤◌, ◌==◌, ℤ, pos, ◌+ℤ◌, ◌≤ℤ◌, true, false, List, [], ◌∷◌, ◌++◌, Result, Ok, Err}
use Rattle.std.specs.Global.{Vec}
use Rattle.std.specs.List.{list_any}
use Rattle.iv_rows.specs.Cell.{Cell}
use Rattle.iv_zset.specs.Limits.{Counts}
use Rattle.iv_zset.specs.Support.{rows_in}
use Rattle.iv_zset.specs.Weights.{Weighed, weight_of, SameZ, AllInRange, IsBag, IsOutOfRange, IsZSet}
use Rattle.iv_algebra.specs.Plans.{Lists}
use Rattle.iv_algebra.specs.declared.tables.Table.{Table}
use Rattle.iv_algebra.specs.Contents.{heads_of, rows_of}
use Rattle.iv_machine.specs.Act.{limit}
use Rattle.iv_machine.specs.Machine.{difference, weight}
use Rattle.iv_command.specs.Views.{refusal_of}
use Rattle.iv_command.specs.declared.stop.Stop.{Stop}
use Rattle.iv_command.specs.declared.stop.Stop.TheVariants.{Refused, Memory}
use Rattle.iv_database.specs.Changes.{Change, change_at}
use Rattle.iv_database.specs.Stands.{HasTable}

-- each is of one of the tables, and no two are of one
abbrev pub AreTables : List Table → List Change → Type 0
AreTables tables [] = Unit {0}
AreTables tables (c ∷ cs) = HasTable tables c.rel × (list_any (λ d. c.rel == d.rel) cs ≡ false) × AreTables tables cs

-- the first of table t is at the place
abbrev pub IsFirst : List Change → (place t : ℕ) → Type 0
IsFirst [] place t = ⊥
IsFirst (c ∷ cs) zero t = (c.rel == t) ≡ true
IsFirst (c ∷ cs) (suc place) t = ((c.rel == t) ≡ false) × IsFirst cs place t

-- no sum is further from 0 than n entries can bring it
abbrev pub AreSmall : ℕ → Weighed → Type 0
AreSmall n es = (q : List Cell) → (pos 0 ≤ℤ (weight_of es q +ℤ pos (n * 2 ^ 63))) × (weight_of es q ≤ℤ pos (n * 2 ^ 63))

-- a number of copies
abbrev pub AreCopies : ℤ → Type 0
AreCopies c = (pos 0 ≤ℤ c) × (c ≤ℤ pos (2 ^ 63))

-- the tables with the changes are those of the lists U
abbrev pub LeadTo : List Change → List Table → Lists → Type 0
LeadTo changes tables U = (t : ℕ) → Counts (change_at changes t ++ rows_of tables t) (U t)

-- a net change: each row once, in rising order, with its weight, which is not 0
pub record IsNet (rows : Weighed) : Type 0 where
  pub zset : IsZSet rows
  pub difference : (before after : List (List Cell)) → ((q : List Cell) → weight_of rows q ≡ weight before after q) → rows ≡ difference before after

-- the net change of the sums of a table; a limit if a sum is no weight
abbrev pub IsFinished : Change → Result Change Stop → Type 0
IsFinished s (Ok c) = (c.rel ≡ s.rel) × SameZ c.rows s.rows × IsNet c.rows
IsFinished s (Err (Refused r)) = (refusal_of r ≡ limit) × IsOutOfRange s.rows
IsFinished s (Err Memory) = Unit {0}

-- the net changes of the sums of tables
pub record AreNet (tables : List Table) (sums changes : List Change) : Type 0 where
  pub tables_are : AreTables tables changes
  pub same : (t : ℕ) → SameZ (change_at changes t) (change_at sums t)
  pub net : (t : ℕ) → IsNet (change_at changes t)

abbrev pub AreFinished : List Table → List Change → Result (Vec Change) Stop → Type 0
AreFinished tables sums (Ok changes) = AreNet tables sums changes.items
AreFinished tables sums (Err (Refused r)) = (refusal_of r ≡ limit) × ((t : ℕ) × HasTable tables t × IsOutOfRange (change_at sums t))
AreFinished tables sums (Err Memory) = Unit {0}

-- a bag with its change can be stored, with no more rows than there may be
pub record KeepsLimits (cap : ℕ) (bag change : Weighed) : Type 0 where
  pub in_range : AllInRange (change ++ bag)
  pub few : rows_in (change ++ bag) ≤ cap

-- the rows of each table have become their sum with its change
pub record AreAdded (old : List Table) (changes : List Change) (new : List Table) : Type 0 where
  pub heads : (t : ℕ) → heads_of new t ≡ heads_of old t
  pub zsets : (t : ℕ) → IsZSet (rows_of new t)
  pub sums : (t : ℕ) → SameZ (rows_of new t) (change_at changes t ++ rows_of old t)

-- rows and what is added to them are a bag that can be stored
pub record HasRoom (more base : Weighed) : Type 0 where
  pub bag : IsBag (more ++ base)
  pub in_range : AllInRange (more ++ base)

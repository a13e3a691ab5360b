-- The entries of a write at the numbers of their tables.
use Rattle.std.specs.Borrow.{Bor}
use Rattle.std.specs.Prelude.{◌≡◌, ℕ, ◌==◌, Bool, true, cond, pos, ◌+ℤ◌, List, Option, is_some, map}
use Rattle.iv_rows.specs.Cell.{Cell}
use Rattle.iv_zset.specs.Weights.{weight_of}
use Rattle.iv_algebra.specs.Plans.{Lists}
use Rattle.iv_algebra.specs.declared.tables.Table.{Table}
use Rattle.iv_bind.specs.Catalogs.{named, schema_of}
use Rattle.iv_access.specs.Rights.{Name}
use Rattle.iv_access.specs.declared.policy.Check.{Check}
use Rattle.iv_access.specs.declared.privilege.Privilege.{Privilege}
use Rattle.iv_machine.specs.Act.{Entry, Op, Refusal}
use Rattle.iv_machine.specs.Added.{adds}
use Rattle.iv_machine.specs.Refusing.{first, is_present, privileges_for}
use Rattle.iv_machine.specs.State.{Frame, name_of, rel_of, table_columns}
use Rattle.iv_database.specs.Changes.{Change, change_at}
use Rattle.iv_database.specs.Summed.{LeadTo}

-- an entry for the table of a name, which has the number
pub record Placed : Type 0 where
  pub rel : ℕ
  pub name : Name
  pub op : Op
  pub copies : ℕ

abbrev pub entry_of : Placed → Entry
entry_of p = record { rel = p.name; op = p.op; copies = p.copies }

-- the number is that of the name, and that of a table
pub record IsPlaced (f : Frame) (p : Placed) : Type 0 where
  pub known : is_some (named f.catalog p.name) ≡ true
  pub number : rel_of f.catalog p.name ≡ p.rel
  pub name : name_of f.catalog p.rel ≡ p.name
  pub columns : table_columns f.catalog p.name ≡ schema_of f.catalog p.rel
  pub table : is_some (schema_of f.catalog p.rel) ≡ true

-- the privileges that it needs, on its table
abbrev pub needs_of : Placed → List (Privilege × ℕ)
needs_of p = map (λ x. (x, p.rel)) (privileges_for p.op)

-- the first of the tests of rows that fails
abbrev pub first_of : (Check × List Cell → Option Refusal) → List (Check × Bor (List Cell)) → Option Refusal
first_of f tests = first (map (λ t. f (t.0, t.1.now)) tests)

-- whether the rows that it removes are there, in the tables with the sums
abbrev pub IsFound : Placed → List Change → List Table → Bool → Type 0
IsFound p sums tables found = (V : Lists) → LeadTo sums tables V → found ≡ is_present p.op p.copies (V p.rel)

-- what it adds is added to the sums of its table
abbrev pub IsGathered : Placed → (old new : List Change) → Type 0
IsGathered p old new = (t : ℕ) (q : List Cell)
    → weight_of (change_at new t) q ≡ weight_of (change_at old t) q +ℤ cond (p.rel == t) (adds p.op p.copies q) (pos 0)

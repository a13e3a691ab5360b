-- What a catalog holds: tables and views, by name and by number, in the order of adding.
use Rattle.std.specs.Prelude.{ℕ, ◌==◌, List, [], ◌∷◌, ◌++◌, map, find, Option, Some, None, bytes_eq, Contains}
use Rattle.iv_rows.specs.Columns.{Column}
use Rattle.iv_rows.specs.declared.schema.RelId.{RelId}
use Rattle.iv_bind.specs.declared.bound.Bound.{Bound}
use Rattle.iv_rows.specs.Options.{if_some}
use Rattle.iv_algebra.specs.Shapes.{Shape, Scan, shape_of}

-- a query that is bound: its plan, its columns, and the relations that it reaches
pub record BoundQuery : Type 0 where
  pub plan : Shape
  pub schema : List Column
  pub needs : List ℕ

pub data Held : Type 0 where
  Table : List Column → Held
  View : BoundQuery → Held

pub record CatalogEntry : Type 0 where
  pub name : List ℕ
  pub rel : ℕ
  pub held : Held

abbrev pub numbers : List RelId → List ℕ
numbers = map (λ r. r.0)

abbrev pub bound_of : Bound → BoundQuery
bound_of b = record { plan = shape_of b.plan; schema = b.schema; needs = numbers b.needs.items }

-- the relation of a name
abbrev pub named : List CatalogEntry → List ℕ → Option CatalogEntry
named catalog name = find (λ e. bytes_eq name e.name) catalog

-- the relation of a number
abbrev pub numbered : List CatalogEntry → ℕ → Option CatalogEntry
numbered catalog n = find (λ e. n == e.rel) catalog

-- each of the numbers is one of the others
abbrev pub AreAmong : List ℕ → List ℕ → Type 0
AreAmong ns others = (n : ℕ) → Contains ns n → Contains others n

abbrev pub columns_of : Held → List Column
columns_of (Table columns) = columns
columns_of (View answer) = answer.schema

-- a table is scanned, and a view is its whole plan
abbrev pub plan_of : ℕ → Held → Shape
plan_of rel (Table columns) = Scan rel
plan_of rel (View answer) = answer.plan

-- a relation comes before what it reaches
abbrev pub reached_by : ℕ → Held → List ℕ
reached_by rel (Table columns) = rel ∷ []
reached_by rel (View answer) = rel ∷ answer.needs

abbrev pub table_in : Held → Option (List Column)
table_in (Table columns) = Some columns
table_in (View answer) = None

abbrev pub view_in : Held → Option BoundQuery
view_in (Table columns) = None
view_in (View answer) = Some answer

-- a catalog with one relation more, after the others
abbrev pub extended : List CatalogEntry → List ℕ → ℕ → Held → List CatalogEntry
extended catalog name rel held = catalog ++ (record { name = name; rel = rel; held = held }) ∷ []

-- the columns of the table of a number
abbrev pub schema_of : List CatalogEntry → ℕ → Option (List Column)
schema_of catalog n = if_some (numbered catalog n) None (λ e. table_in e.held)

-- the view of a number
abbrev pub view_of : List CatalogEntry → ℕ → Option BoundQuery
view_of catalog n = if_some (numbered catalog n) None (λ e. view_in e.held)

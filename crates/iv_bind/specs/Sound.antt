-- What each relation of a catalog keeps.
use Rattle.std.specs.Prelude.{◌≡◌, ℕ, Bool, true, ◌&&◌, List, [], ◌∷◌, Option, Some, None, Ok}
use Rattle.iv_rows.specs.Columns.{Column, kinds_of, has_columns, has_distinct_names}
use Rattle.iv_rows.specs.declared.value.Kind.{Kind}
use Rattle.iv_rows.specs.declared.value.Kind.TheVariants.{Text}
use Rattle.iv_query.specs.declared.tree.Dialect.{Dialect}
use Rattle.iv_query.specs.declared.tree.Dialect.TheVariants.{Query, Policy}
use Rattle.iv_query.specs.TextReading.{read_query}
use Rattle.iv_query.specs.Trees.{QueryTree}
use Rattle.iv_query.specs.Well.{IsWellQuery}
use Rattle.iv_algebra.specs.Fits.{Heads, type_of}
use Rattle.iv_algebra.specs.Shapes.{scans}
use Rattle.iv_bind.specs.Catalogs.{BoundQuery, Held, Table, View, CatalogEntry, AreAmong}

-- the user is a text in a policy, and nothing in a query
abbrev pub user_kind : Dialect → Option Kind
user_kind Query = None
user_kind Policy = Some Text

-- ---- catalogs

abbrev pub held_agrees : Heads → ℕ → Held → Type 0
held_agrees heads rel (Table columns) = heads rel ≡ Some (kinds_of columns)
held_agrees heads rel (View answer) = Unit {0}

-- the tables that are there have the kinds of the catalog's tables
abbrev pub Agrees : List CatalogEntry → Heads → Type 0
Agrees [] heads = Unit {0}
Agrees (e ∷ es) heads = held_agrees heads e.rel e.held × Agrees es heads

-- over all such tables the plan fits, and its rows have the kinds of the columns
abbrev pub IsTyped : List CatalogEntry → BoundQuery → Type 0
IsTyped catalog a = (heads : Heads) → Agrees catalog heads → type_of heads a.plan ≡ Some (kinds_of a.schema)

abbrev pub is_schema : List Column → Bool
is_schema columns = has_columns columns && has_distinct_names columns

-- the columns of a schema, a plan that fits, and the tables that it scans among the needs
pub record IsSoundView (catalog : List CatalogEntry) (a : BoundQuery) : Type 0 where
  pub schema : is_schema a.schema ≡ true
  pub typed : IsTyped catalog a
  pub scanned : AreAmong (scans a.plan) a.needs

abbrev pub HeldIsSound : List CatalogEntry → Held → Type 0
HeldIsSound catalog (Table columns) = is_schema columns ≡ true
HeldIsSound catalog (View answer) = IsSoundView catalog answer

abbrev pub AreSound : List CatalogEntry → List CatalogEntry → Type 0
AreSound catalog [] = Unit {0}
AreSound catalog (e ∷ es) = HeldIsSound catalog e.held × AreSound catalog es

-- each table has the columns of a schema, and each view is sound
abbrev pub IsSoundCatalog : List CatalogEntry → Type 0
IsSoundCatalog catalog = AreSound catalog catalog

-- what the text is read as keeps the rules of trees
abbrev pub ReadsWell : List ℕ → Type 0
ReadsWell text = (q : QueryTree) → read_query text ≡ Ok q → IsWellQuery q

-- Binding, worked out by computing: tables a (k, x) and b (k, y), and notes (id, who).
use Rattle.std.specs.Prelude.{◌≡◌, ℕ, pos, false, List, [], ◌∷◌, Some, None, Ok, Err, codes}
use Rattle.iv_rows.specs.Cell.{num}
use Rattle.iv_rows.specs.Columns.{Column}
use Rattle.iv_rows.specs.declared.value.Kind.{Kind}
use Rattle.iv_rows.specs.declared.value.Kind.TheVariants.{Int, Text}
use Rattle.iv_query.specs.declared.tree.Op.TheVariants as op
use Rattle.iv_query.specs.declared.tree.SetOp.TheVariants as set
use Rattle.iv_query.specs.Trees.{Called, ColumnTree, ColumnAt, OfColumn, Literal, Comparison, SourceTree, SourceOf, PairOf, JoinOf, ItemOf, SumOf, CountOf, ListTree, StarAt, ItemsOf, SelectOf, QueryTree, One, Combined}
use Rattle.iv_algebra.specs.declared.pred.Comparison.TheVariants as comparison
use Rattle.iv_algebra.specs.declared.plan.Agg.TheVariants.{Sum, Count}
use Rattle.iv_bind.specs.declared.fault.BindWhy.TheVariants as why
use Rattle.iv_bind.specs.Faults.{FaultAt}
use Rattle.iv_algebra.specs.Shapes.{Shape, Scan, Filter, Project, Join, Union, Distinct, Except, Group}
use Rattle.iv_algebra.specs.Shapes as shape
use Rattle.iv_bind.specs.Catalogs.{CatalogEntry, Table, View}
use Rattle.iv_bind.specs.Binding.{bound}

abbrev pub column : List ℕ → Kind → Column
column name kind = record { name = name; kind = kind }

abbrev pub table : List ℕ → ℕ → List Column → CatalogEntry
table name rel columns = record { name = name; rel = rel; held = Table columns }

abbrev pub catalog : List CatalogEntry
catalog = table (codes "a") 1 (column (codes "k") Int ∷ column (codes "x") Int ∷ [])
    ∷ table (codes "b") 2 (column (codes "k") Int ∷ column (codes "y") Int ∷ [])
    ∷ table (codes "notes") 3 (column (codes "id") Int ∷ column (codes "who") Text ∷ [])
    ∷ record {
      name = codes "inner_view";
      rel = 4;
      held = View (record { plan = Project (0 ∷ []) (Scan 1); schema = column (codes "k") Int ∷ []; needs = 1 ∷ [] });
    }
    ∷ []

abbrev pub bare : List ℕ → ℕ → ColumnTree
bare name p = ColumnAt None name p

abbrev pub dotted : List ℕ → List ℕ → ℕ → ColumnTree
dotted source name p = ColumnAt (Some source) name p

abbrev pub source : List ℕ → ℕ → SourceTree
source name p = SourceOf (Called name p) None

-- select a.x, b.y from a join b on a.k = b.k
abbrev pub joined_text : QueryTree
joined_text = One (SelectOf 0 false (ItemsOf (ItemOf (dotted (codes "a") (codes "x") 7) None ∷ ItemOf (dotted (codes "b") (codes "y") 12) None ∷ []))
    (source (codes "a") 21) (JoinOf (source (codes "b") 28) (PairOf (dotted (codes "a") (codes "k") 33) (dotted (codes "b") (codes "k") 39) ∷ []) ∷ []) None [])

abbrev pub JoinedTables : Type 0
JoinedTables = bound catalog joined_text ≡ Ok (record {
  plan = Project (1 ∷ 3 ∷ []) (Join (Scan 1) (Scan 2) ((0, 0) ∷ []));
  schema = column (codes "x") Int ∷ column (codes "y") Int ∷ [];
  needs = 1 ∷ 2 ∷ [];
})

-- select who, sum(id) as s, count(*) as n from notes where id < 100 group by who
abbrev pub sums_text : QueryTree
sums_text = One (SelectOf 0 false
    (ItemsOf (ItemOf (bare (codes "who") 7) None ∷ SumOf 12 (bare (codes "id") 16) (Called (codes "s") 23) ∷ CountOf 26 (Called (codes "n") 38) ∷ []))
    (source (codes "notes") 45) [] (Some (Comparison (OfColumn (bare (codes "id") 57)) op.Less (Literal (num (pos 100)) 62))) (bare (codes "who") 75 ∷ []))

abbrev pub GroupedSums : Type 0
GroupedSums = bound catalog sums_text ≡ Ok (record {
  plan = Project (0 ∷ 1 ∷ 2 ∷ []) (Group (1 ∷ []) (Sum 0 ∷ Count ∷ [])
      (Filter (shape.Compare (shape.Column 0) comparison.Less (shape.Literal (num (pos 100)))) (Scan 3)));
  schema = column (codes "who") Text ∷ column (codes "s") Int ∷ column (codes "n") Int ∷ [];
  needs = 3 ∷ [];
})

-- select * from inner_view union select k from a
abbrev pub union_text : QueryTree
union_text = Combined (One (SelectOf 0 false (StarAt 7) (source (codes "inner_view") 14) [] None [])) set.Union
    (SelectOf 31 false (ItemsOf (ItemOf (bare (codes "k") 38) None ∷ [])) (source (codes "a") 45) [] None [])

-- a view is its plan, and is in the needs before what it reaches
abbrev pub ViewInUnion : Type 0
ViewInUnion = bound catalog union_text ≡ Ok (record {
  plan = Distinct (Union (Project (0 ∷ []) (Project (0 ∷ []) (Scan 1))) (Project (0 ∷ []) (Scan 1)));
  schema = column (codes "k") Int ∷ [];
  needs = 4 ∷ 1 ∷ [];
})

-- ---- faults

abbrev pub joined_by : ListTree → ColumnTree → ColumnTree → QueryTree
joined_by l left right = One (SelectOf 0 false l (source (codes "a") 16) (JoinOf (source (codes "b") 23) (PairOf left right ∷ []) ∷ []) None [])

abbrev pub x_of_a : ListTree
x_of_a = ItemsOf (ItemOf (dotted (codes "a") (codes "x") 7) None ∷ [])

-- select a.x from a join b on a.k = b.z
abbrev pub UnknownColumn : Type 0
UnknownColumn = bound catalog (joined_by x_of_a (dotted (codes "a") (codes "k") 28) (dotted (codes "b") (codes "z") 34)) ≡ Err (FaultAt 34 why.UnknownColumn)

-- select a.x from a join b on a.k = a.x
abbrev pub OneSide : Type 0
OneSide = bound catalog (joined_by x_of_a (dotted (codes "a") (codes "k") 28) (dotted (codes "a") (codes "x") 34)) ≡ Err (FaultAt 34 why.UnknownColumn)

-- select * from a join b on a.k = b.k
abbrev pub DuplicateName : Type 0
DuplicateName =
    bound catalog (One (SelectOf 0 false (StarAt 7) (source (codes "a") 14)
    (JoinOf (source (codes "b") 21) (PairOf (dotted (codes "a") (codes "k") 26) (dotted (codes "b") (codes "k") 32) ∷ []) ∷ []) None []))
    ≡ Err (FaultAt 7 why.DuplicateName)

-- select nope from notes
abbrev pub NoSuchColumn : Type 0
NoSuchColumn =
    bound catalog (One (SelectOf 0 false (ItemsOf (ItemOf (bare (codes "nope") 7) None ∷ [])) (source (codes "notes") 17) [] None []))
    ≡ Err (FaultAt 7 why.UnknownColumn)

-- select who, count(*) as n from notes
abbrev pub NoGroup : Type 0
NoGroup =
    bound catalog (One (SelectOf 0 false (ItemsOf (ItemOf (bare (codes "who") 7) None ∷ CountOf 12 (Called (codes "n") 24) ∷ []))
    (source (codes "notes") 31) [] None []))
    ≡ Err (FaultAt 12 why.NotGrouped)

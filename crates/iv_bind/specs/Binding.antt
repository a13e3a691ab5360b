-- Binding: the plan, the columns and the needs of a query over a catalog, or its first fault.
use Rattle.std.specs.Prelude.{ℕ, suc, ◌+◌, ◌-◌, ◌==◌, Bool, true, false, ◌&&◌, if◌then◌else◌, List, [], ◌∷◌, ◌++◌, map, length, nat_lt, nat_le, Option, Some, None, bytes_eq, Result, Ok, Err}
use Rattle.std.specs.List.{list_any, position_from}
use Rattle.iv_rows.specs.Columns.{kinds_of}
use Rattle.iv_rows.specs.Columns as rows
use Rattle.iv_rows.specs.declared.value.Kind.{Kind}
use Rattle.iv_rows.specs.declared.value.Kind.TheVariants as kind
use Rattle.iv_zset.specs.Bags.{stands}
use Rattle.iv_query.specs.declared.tree.Op.{Op}
use Rattle.iv_query.specs.declared.tree.Op.TheVariants as op
use Rattle.iv_query.specs.declared.tree.SetOp.{SetOp}
use Rattle.iv_query.specs.declared.tree.SetOp.TheVariants as set
use Rattle.iv_query.specs.Trees.{NameTree, Called, ColumnTree, ColumnAt, OperandTree, PredTree, SourceTree, SourceOf, PairTree, PairOf, JoinTree, JoinOf, ItemTree, ItemOf, SumOf, CountOf, ListTree, StarAt, ItemsOf, SelectTree, SelectOf, QueryTree, One, Combined}
use Rattle.iv_query.specs.Trees as tree
use Rattle.iv_algebra.specs.declared.pred.Comparison.{Comparison}
use Rattle.iv_algebra.specs.declared.pred.Comparison.TheVariants as comparison
use Rattle.iv_algebra.specs.declared.plan.Agg.{Agg}
use Rattle.iv_algebra.specs.declared.plan.Agg.TheVariants.{Sum, Count}
use Rattle.iv_algebra.specs.Predicates.{kind_of, kind_eq}
use Rattle.iv_algebra.specs.Fits.{kinds_eq}
use Rattle.iv_bind.specs.declared.fault.BindWhy.TheVariants as why
use Rattle.iv_bind.specs.Faults.{Fault, FaultAt, ◌>>=◌, through}
use Rattle.iv_rows.specs.Options.{if_some}
use Rattle.iv_algebra.specs.Shapes.{Term, Condition, Shape, Filter, Project, Join, Union, Distinct, Except, Group, nodes}
use Rattle.iv_algebra.specs.Shapes as shape
use Rattle.iv_bind.specs.Catalogs.{BoundQuery, CatalogEntry, named, columns_of, plan_of, reached_by}

-- ---- columns

-- a column of the sources of a select: its source's name there, its own name, and its kind
pub record Named : Type 0 where
  pub source : List ℕ
  pub name : List ℕ
  pub kind : Kind

abbrev pub column_place : ColumnTree → ℕ
column_place (ColumnAt source name p) = p

-- the text says this column: its name, and its source if one comes before a dot
abbrev pub is_meant : ColumnTree → Named → Bool
is_meant (ColumnAt None name p) n = bytes_eq name n.name
is_meant (ColumnAt (Some source) name p) n = bytes_eq source n.source && bytes_eq name n.name

-- the columns that are meant, by their places in the row, counted from k, and their kinds
abbrev pub meant : ColumnTree → ℕ → List Named → List (ℕ × Kind)
meant c k [] = []
meant c k (n ∷ ns) = if is_meant c n then (k, n.kind) ∷ meant c (suc k) ns else meant c (suc k) ns

-- only one may be
abbrev pub only : ℕ → List (ℕ × Kind) → Result (ℕ × Kind) Fault
only p [] = Err (FaultAt p why.UnknownColumn)
only p (x ∷ []) = Ok x
only p (x ∷ y ∷ xs) = Err (FaultAt p why.AmbiguousColumn)

unfoldable pub column_bound : List Named → ColumnTree → Result (ℕ × Kind) Fault
column_bound scope c = only (column_place c) (meant c 0 scope)

-- ---- predicates

abbrev pub comparison_of : Op → Comparison
comparison_of op.Equal = comparison.Equal
comparison_of op.NotEqual = comparison.NotEqual
comparison_of op.Less = comparison.Less
comparison_of op.LessEqual = comparison.AtMost
comparison_of op.Greater = comparison.Greater
comparison_of op.GreaterEqual = comparison.AtLeast

abbrev pub place_of_operand : OperandTree → ℕ
place_of_operand (tree.OfColumn c) = column_place c
place_of_operand (tree.Literal v p) = p
place_of_operand (tree.CurrentUser p) = p

-- the name of the user is a text
unfoldable pub operand_bound : List Named → OperandTree → Result (Term × Kind) Fault
operand_bound scope (tree.OfColumn c) = column_bound scope c >>= λ x. Ok (shape.Column x.0, x.1)
operand_bound scope (tree.Literal v p) = Ok (shape.Literal v, kind_of v)
operand_bound scope (tree.CurrentUser p) = Ok (shape.User, kind.Text)

-- two operands of one kind are compared
unfoldable pub compare_bound : List Named → OperandTree → Op → OperandTree → Result Condition Fault
compare_bound scope a o b = operand_bound scope a >>= λ x. operand_bound scope b >>= λ y.
    if kind_eq x.1 y.1 then Ok (shape.Compare x.0 (comparison_of o) y.0) else Err (FaultAt (place_of_operand b) why.KindMismatch)

unfoldable pub pred_bound : List Named → PredTree → Result Condition Fault
pred_bound scope (tree.Either a b) = pred_bound scope a >>= λ x. pred_bound scope b >>= λ y. Ok (shape.Or x y)
pred_bound scope (tree.Both a b) = pred_bound scope a >>= λ x. pred_bound scope b >>= λ y. Ok (shape.And x y)
pred_bound scope (tree.Negation a) = pred_bound scope a >>= λ x. Ok (shape.Not x)
pred_bound scope (tree.Constant b) = Ok (shape.Constant b)
pred_bound scope (tree.Comparison a o b) = compare_bound scope a o b

-- ---- sources

-- a plan, the columns of its rows, and the relations that it reaches
pub record From : Type 0 where
  pub plan : Shape
  pub scope : List Named
  pub reached : List ℕ

-- the name that a source has in its select: the alias, else the relation's
abbrev pub called : SourceTree → NameTree
called (SourceOf n None) = n
called (SourceOf n (Some a)) = a

abbrev pub name_text : NameTree → List ℕ
name_text (Called s p) = s

abbrev pub place_of_name : NameTree → ℕ
place_of_name (Called s p) = p

abbrev pub source_relation : SourceTree → NameTree
source_relation (SourceOf n alias) = n

abbrev pub under : List ℕ → List rows.Column → List Named
under source = map (λ c. record { source = source; name = c.name; kind = c.kind })

-- whether a source has the name: each source has a column
abbrev pub is_used : List Named → List ℕ → Bool
is_used scope name = list_any (λ n. bytes_eq name n.source) scope

abbrev pub source_of : CatalogEntry → List ℕ → From
source_of e name = record { plan = plan_of e.rel e.held; scope = under name (columns_of e.held); reached = reached_by e.rel e.held }

-- a source after those with the columns of scope
unfoldable pub source_bound : List CatalogEntry → List Named → SourceTree → Result From Fault
source_bound catalog scope s = if_some (named catalog (name_text (source_relation s)))
    (Err (FaultAt (place_of_name (source_relation s)) why.UnknownRelation))
    (λ e. if is_used scope (name_text (called s)) then Err (FaultAt (place_of_name (called s)) why.DuplicateName) else Ok (source_of e (name_text (called s))))

-- of two columns the one in the earlier sources, which have n, and the other's place in the new source
abbrev pub sides : (n i j : ℕ) → Option (ℕ × ℕ)
sides n i j = if nat_lt i n && nat_le n j then Some (i, j - n) else if nat_lt j n && nat_le n i then Some (j, i - n) else None

unfoldable pub pair_bound : ℕ → List Named → PairTree → Result (ℕ × ℕ) Fault
pair_bound n scope (PairOf a b) = column_bound scope a >>= λ x. column_bound scope b >>= λ y.
    if_some (sides n x.0 y.0) (Err (FaultAt (column_place b) why.UnknownColumn))
    (λ pair. if kind_eq x.1 y.1 then Ok pair else Err (FaultAt (column_place b) why.KindMismatch))

unfoldable pub pairs_bound : ℕ → List Named → List PairTree → Result (List (ℕ × ℕ)) Fault
pairs_bound n scope = through (λ pairs p. pair_bound n scope p >>= λ pair. Ok (pairs ++ pair ∷ [])) []

abbrev pub joined_sources : From → From → List (ℕ × ℕ) → From
joined_sources left right pairs = record { plan = Join left.plan right.plan pairs; scope = left.scope ++ right.scope; reached = left.reached ++ right.reached }

unfoldable pub joined_bound : From → From → List PairTree → Result From Fault
joined_bound left right on = pairs_bound (length left.scope) (left.scope ++ right.scope) on >>= λ pairs. Ok (joined_sources left right pairs)

unfoldable pub join_bound : List CatalogEntry → From → JoinTree → Result From Fault
join_bound catalog left (JoinOf s on) = source_bound catalog left.scope s >>= λ right. joined_bound left right on

unfoldable pub from_bound : List CatalogEntry → SourceTree → List JoinTree → Result From Fault
from_bound catalog s joins = source_bound catalog [] s >>= λ first. through (join_bound catalog) first joins

unfoldable pub filter_bound : From → Option PredTree → Result From Fault
filter_bound from None = Ok from
filter_bound from (Some p) = pred_bound from.scope p >>= λ c. Ok (record from { plan = Filter c from.plan })

-- ---- groups and items

-- the columns of a group, each once
unfoldable pub keys_bound : List Named → List ColumnTree → Result (List ℕ) Fault
keys_bound scope = through (λ keys c. column_bound scope c >>= λ x. Ok (if stands ◌==◌ x.0 keys then keys else keys ++ x.0 ∷ [])) []

-- the place of the first aggregate
abbrev pub first_aggregate : List ItemTree → Option ℕ
first_aggregate [] = None
first_aggregate (ItemOf c alias ∷ items) = first_aggregate items
first_aggregate (SumOf p c alias ∷ items) = Some p
first_aggregate (CountOf p alias ∷ items) = Some p

-- what a list has that does not go with the keys: an aggregate with none, a star with some
abbrev pub ungrouped : List ℕ → ListTree → Option ℕ
ungrouped [] (StarAt p) = None
ungrouped [] (ItemsOf items) = first_aggregate items
ungrouped (k ∷ keys) (StarAt p) = Some p
ungrouped (k ∷ keys) (ItemsOf items) = None

-- what a select gives: columns of the rows below, their names and kinds, and the aggregates of the group
pub record Out : Type 0 where
  pub columns : List ℕ
  pub schema : List rows.Column
  pub aggs : List Agg

abbrev pub nothing : Out
nothing = record { columns = []; schema = []; aggs = [] }

-- one column more, of this place in the rows below, name and kind, for the item at p
unfoldable pub output_bound : ℕ → Out → ℕ → List ℕ → Kind → Result Out Fault
output_bound p out k name kind = if list_any (λ c. bytes_eq name c.name) out.schema
    then Err (FaultAt p why.DuplicateName)
    else Ok (record out { columns = out.columns ++ k ∷ []; schema = out.schema ++ (record { name = name; kind = kind }) ∷ [] })

-- the place of a column in the rows of the group, which begin with the keys; without a group it keeps its own
abbrev pub within_group : List ℕ → ℕ → Option ℕ
within_group [] k = Some k
within_group (key ∷ keys) k = position_from (λ j. k == j) 0 (key ∷ keys)

-- the name of an output column: the alias, else the column's
abbrev pub output_name : ColumnTree → Option NameTree → List ℕ
output_name (ColumnAt source name p) None = name
output_name c (Some alias) = name_text alias

-- one aggregate more: they are after the keys
abbrev pub aggregated : Out → Agg → Out
aggregated out a = record out { aggs = out.aggs ++ a ∷ [] }

unfoldable pub item_bound : List Named → List ℕ → Out → ItemTree → Result Out Fault
item_bound scope keys out (ItemOf c alias) = column_bound scope c >>= λ x.
    if_some (within_group keys x.0) (Err (FaultAt (column_place c) why.NotGrouped)) (λ k. output_bound (column_place c) out k (output_name c alias) x.1)
item_bound scope keys out (SumOf p c alias) = column_bound scope c >>= λ x.
    if kind_eq x.1 kind.Int
    then output_bound p (aggregated out (Sum x.0)) (length keys + length out.aggs) (name_text alias) kind.Int
    else Err (FaultAt (column_place c) why.KindMismatch)
item_bound scope keys out (CountOf p alias) = output_bound p (aggregated out Count) (length keys + length out.aggs) (name_text alias) kind.Int

-- each column, for the star at p
unfoldable pub star_bound : List Named → ℕ → Result Out Fault
star_bound scope p = through (λ out n. output_bound p out (length out.columns) n.name n.kind) nothing scope

unfoldable pub list_bound : List Named → List ℕ → ListTree → Result Out Fault
list_bound scope keys (StarAt p) = star_bound scope p
list_bound scope keys (ItemsOf items) = through (item_bound scope keys) nothing items

-- ---- selects and queries

abbrev pub grouped_shape : List ℕ → List Agg → Shape → Shape
grouped_shape [] aggs a = a
grouped_shape (k ∷ keys) aggs a = Group (k ∷ keys) aggs a

abbrev pub distinctly : Bool → Shape → Shape
distinctly false a = a
distinctly true a = Distinct a

abbrev pub selected : Bool → From → List ℕ → Out → BoundQuery
selected distinct from keys out =
    record { plan = distinctly distinct (Project out.columns (grouped_shape keys out.aggs from.plan)); schema = out.schema; needs = from.reached }

-- the select at p: group by, items, number of columns
unfoldable pub output_of : ℕ → Bool → ListTree → From → List ColumnTree → Result BoundQuery Fault
output_of p distinct l from group = keys_bound from.scope group >>= λ keys.
    if_some (ungrouped keys l)
    (list_bound from.scope keys l
    >>= λ out. if nat_le (length out.columns) 16 then Ok (selected distinct from keys out) else Err (FaultAt p why.TooManyColumns))
    (λ q. Err (FaultAt q why.NotGrouped))

unfoldable pub select_bound : List CatalogEntry → SelectTree → Result BoundQuery Fault
select_bound catalog (SelectOf p distinct l s joins filter group) =
    from_bound catalog s joins >>= λ all. filter_bound all filter >>= λ from. output_of p distinct l from group

abbrev pub combined_plan : SetOp → Shape → Shape → Shape
combined_plan set.UnionAll a b = Union a b
combined_plan set.Union a b = Distinct (Union a b)
combined_plan set.Except a b = Except a b

abbrev pub combined : SetOp → BoundQuery → BoundQuery → BoundQuery
combined o left right = record { plan = combined_plan o left.plan right.plan; schema = left.schema; needs = left.needs ++ right.needs }

abbrev pub place_of_select : SelectTree → ℕ
place_of_select (SelectOf p distinct l s joins filter group) = p

unfoldable pub query_bound : List CatalogEntry → QueryTree → Result BoundQuery Fault
query_bound catalog (One s) = select_bound catalog s
query_bound catalog (Combined q o s) = query_bound catalog q >>= λ left. select_bound catalog s >>= λ right.
    if kinds_eq (kinds_of left.schema) (kinds_of right.schema) then Ok (combined o left right) else Err (FaultAt (place_of_select s) why.ColumnsDiffer)

-- each number once, at its first place, after those before
abbrev pub once : List ℕ → List ℕ → List ℕ
once before [] = before
once before (n ∷ ns) = once (if stands ◌==◌ n before then before else before ++ n ∷ []) ns

-- at most 256 nodes, and each need once
unfoldable pub finished : BoundQuery → Result BoundQuery Fault
finished a = if nat_le (nodes a.plan) 256 then Ok (record a { needs = once [] a.needs }) else Err (FaultAt 0 why.TooManyNodes)

-- what a query is bound to over a catalog, or its first fault
unfoldable pub bound : List CatalogEntry → QueryTree → Result BoundQuery Fault
bound catalog q = query_bound catalog q >>= finished

-- what a policy's predicate is bound to over the columns of its table
unfoldable pub bound_pred : List rows.Column → PredTree → Result Condition Fault
bound_pred columns p = pred_bound (under [] columns) p

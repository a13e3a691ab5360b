-- Trees without where they lie in memory.
use Rattle.std.specs.Prelude.{ℕ, Bool, List, map, Option, option_map, string_bytes}
use Rattle.iv_rows.specs.Cell.{Cell}
use Rattle.iv_rows.specs.View.{cell_of}
use Rattle.iv_query.specs.declared.tree.Op.{Op}
use Rattle.iv_query.specs.declared.tree.Name.{Name}
use Rattle.iv_query.specs.declared.tree.Column.{Column}
use Rattle.iv_query.specs.declared.tree.Operand.{Operand}
use Rattle.iv_query.specs.declared.tree.Operand.TheVariants as operand
use Rattle.iv_query.specs.declared.tree.Pred.{Pred}
use Rattle.iv_query.specs.declared.tree.Pred.TheVariants as node
use Rattle.iv_query.specs.declared.tree.Source.{Source}
use Rattle.iv_query.specs.declared.tree.Pair.{Pair}
use Rattle.iv_query.specs.declared.tree.Join.{Join}
use Rattle.iv_query.specs.declared.tree.Item.{Item}
use Rattle.iv_query.specs.declared.tree.Item.TheVariants as item
use Rattle.iv_query.specs.declared.tree.Columns.{Columns}
use Rattle.iv_query.specs.declared.tree.Columns.TheVariants as columns
use Rattle.iv_query.specs.declared.tree.Select.{Select}
use Rattle.iv_query.specs.declared.tree.SetOp.{SetOp}
use Rattle.iv_query.specs.declared.tree.Query.{Query}
use Rattle.iv_query.specs.declared.tree.Query.TheVariants as query

-- a name and its place
pub data NameTree : Type 0 where
  Called : List ℕ → ℕ → NameTree

-- the source before the dot, if there is one, the column's name, and the place
pub data ColumnTree : Type 0 where
  ColumnAt : Option (List ℕ) → List ℕ → ℕ → ColumnTree

pub data OperandTree : Type 0 where
  OfColumn : ColumnTree → OperandTree
  Literal : Cell → ℕ → OperandTree
  CurrentUser : ℕ → OperandTree

pub data PredTree : Type 0 where
  Either : PredTree → PredTree → PredTree
  Both : PredTree → PredTree → PredTree
  Negation : PredTree → PredTree
  Constant : Bool → PredTree
  Comparison : OperandTree → Op → OperandTree → PredTree

-- a relation's name, and its alias, if there is one
pub data SourceTree : Type 0 where
  SourceOf : NameTree → Option NameTree → SourceTree

-- two columns of a join
pub data PairTree : Type 0 where
  PairOf : ColumnTree → ColumnTree → PairTree

pub data JoinTree : Type 0 where
  JoinOf : SourceTree → List PairTree → JoinTree

pub data ItemTree : Type 0 where
  ItemOf : ColumnTree → Option NameTree → ItemTree
  SumOf : ℕ → ColumnTree → NameTree → ItemTree
  CountOf : ℕ → NameTree → ItemTree

pub data ListTree : Type 0 where
  StarAt : ℕ → ListTree
  ItemsOf : List ItemTree → ListTree

-- place, distinct, list, source, joins, filter, columns of the group
pub data SelectTree : Type 0 where
  SelectOf : ℕ → Bool → ListTree → SourceTree → List JoinTree → Option PredTree → List ColumnTree → SelectTree

pub data QueryTree : Type 0 where
  One : SelectTree → QueryTree
  Combined : QueryTree → SetOp → SelectTree → QueryTree

abbrev pub name_tree : Name → NameTree
name_tree n = Called (string_bytes n.text) n.place

abbrev pub column_tree : Column → ColumnTree
column_tree c = ColumnAt (option_map (λ s. string_bytes s) c.source) (string_bytes c.name) c.place

abbrev pub operand_tree : Operand → OperandTree
operand_tree (operand.Column c) = OfColumn (column_tree c)
operand_tree (operand.Literal p v) = Literal (cell_of v) p
operand_tree (operand.CurrentUser p) = CurrentUser p

abbrev pub pred_tree : Pred → PredTree
pred_tree (node.Or' p a q b) = Either (pred_tree a) (pred_tree b)
pred_tree (node.And' p a q b) = Both (pred_tree a) (pred_tree b)
pred_tree (node.Not' p a) = Negation (pred_tree a)
pred_tree (node.Constant b) = Constant b
pred_tree (node.Compare x o y) = Comparison (operand_tree x) o (operand_tree y)

abbrev pub source_tree : Source → SourceTree
source_tree s = SourceOf (name_tree s.name) (option_map name_tree s.alias)

abbrev pub pair_tree : Pair → PairTree
pair_tree p = PairOf (column_tree p.left) (column_tree p.right)

abbrev pub join_tree : Join → JoinTree
join_tree j = JoinOf (source_tree j.source) (map pair_tree j.on.items)

abbrev pub item_tree : Item → ItemTree
item_tree (item.Column c a) = ItemOf (column_tree c) (option_map name_tree a)
item_tree (item.Sum p c a) = SumOf p (column_tree c) (name_tree a)
item_tree (item.Count p a) = CountOf p (name_tree a)

abbrev pub list_tree : Columns → ListTree
list_tree (columns.All p) = StarAt p
list_tree (columns.Items is) = ItemsOf (map item_tree is.items)

abbrev pub select_tree : Select → SelectTree
select_tree s = SelectOf s.place s.distinct (list_tree s.columns) (source_tree s.source) (map join_tree s.joins.items)
    (option_map pred_tree s.filter) (map column_tree s.group.items)

abbrev pub query_tree : Query → QueryTree
query_tree (query.Select s) = One (select_tree s)
query_tree (query.Combined' p q o s) = Combined (query_tree q) o (select_tree s)

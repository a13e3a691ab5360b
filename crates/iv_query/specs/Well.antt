-- What holds of each tree that is read, and a binder may take for granted: names are names, what a rule asks for is
-- there, and operands are those of the text's kind.
use Rattle.std.specs.Prelude.{◌<◌, IsTrue, length, Some, None, IfSome, All}
use Rattle.iv_rows.specs.Names.{is_name}
use Rattle.iv_rows.specs.Texts.{is_well_cell}
use Rattle.iv_query.specs.declared.tree.Dialect.{Dialect}
use Rattle.iv_query.specs.declared.tree.Dialect.TheVariants.{Query, Policy}
use Rattle.iv_query.specs.Trees.{NameTree, Called, ColumnTree, ColumnAt, OperandTree, OfColumn, Literal, CurrentUser, PredTree, Either, Both, Negation, Constant, Comparison, SourceTree, SourceOf, PairTree, PairOf, JoinTree, JoinOf, ItemTree, ItemOf, SumOf, CountOf, ListTree, StarAt, ItemsOf, SelectTree, SelectOf, QueryTree, One, Combined}

abbrev pub IsWellName : NameTree → Type 0
IsWellName (Called n p) = IsTrue (is_name n)

abbrev pub IsWellColumn : ColumnTree → Type 0
IsWellColumn (ColumnAt None n p) = IsTrue (is_name n)
IsWellColumn (ColumnAt (Some s) n p) = IsTrue (is_name s) × IsTrue (is_name n)

-- a policy's column has no dot, and a query has no current_user
abbrev pub IsWellOperand : Dialect → OperandTree → Type 0
IsWellOperand Query (OfColumn c) = IsWellColumn c
IsWellOperand Policy (OfColumn (ColumnAt None n p)) = IsTrue (is_name n)
IsWellOperand Policy (OfColumn (ColumnAt (Some s) n p)) = ⊥
IsWellOperand d (Literal v p) = IsTrue (is_well_cell v)
IsWellOperand Query (CurrentUser p) = ⊥
IsWellOperand Policy (CurrentUser p) = Unit {0}

abbrev pub IsWellPred : Dialect → PredTree → Type 0
IsWellPred d (Either a b) = IsWellPred d a × IsWellPred d b
IsWellPred d (Both a b) = IsWellPred d a × IsWellPred d b
IsWellPred d (Negation a) = IsWellPred d a
IsWellPred d (Constant b) = Unit {0}
IsWellPred d (Comparison x o y) = IsWellOperand d x × IsWellOperand d y

abbrev pub IsWellSource : SourceTree → Type 0
IsWellSource (SourceOf n a) = IsWellName n × IfSome a IsWellName

abbrev pub IsWellPair : PairTree → Type 0
IsWellPair (PairOf a b) = IsWellColumn a × IsWellColumn b

abbrev pub IsWellJoin : JoinTree → Type 0
IsWellJoin (JoinOf s ps) = IsWellSource s × (0 < length ps) × All IsWellPair ps

abbrev pub IsWellItem : ItemTree → Type 0
IsWellItem (ItemOf c a) = IsWellColumn c × IfSome a IsWellName
IsWellItem (SumOf p c a) = IsWellColumn c × IsWellName a
IsWellItem (CountOf p a) = IsWellName a

abbrev pub IsWellList : ListTree → Type 0
IsWellList (StarAt p) = Unit {0}
IsWellList (ItemsOf is) = (0 < length is) × All IsWellItem is

abbrev pub IsWellSelect : SelectTree → Type 0
IsWellSelect (SelectOf p d l s js w g) = IsWellList l × IsWellSource s × All IsWellJoin js × IfSome w (IsWellPred Query) × All IsWellColumn g

abbrev pub IsWellQuery : QueryTree → Type 0
IsWellQuery (One s) = IsWellSelect s
IsWellQuery (Combined q o s) = IsWellQuery q × IsWellSelect s

-- What the grammar of queries shares with what reads them: where a part begins, trees of parts, and how they are put together.
use Rattle.std.specs.Prelude.{ℕ, ◌+◌, Bool, ◌||◌, if◌then◌else◌, List, [], ◌∷◌, ◌++◌, length, Option, Some, None, is_some}
use Rattle.iv_query.specs.declared.fault.Fault.{Fault}
use Rattle.iv_query.specs.declared.fault.Why.TheVariants as why
use Rattle.iv_query.specs.declared.token.Symbol.TheVariants.{As, Except, Inner, Join, Union}
use Rattle.iv_query.specs.declared.tree.SetOp.{SetOp}
use Rattle.iv_query.specs.Tokens.{Tok, after_symbol, starts_name}
use Rattle.iv_query.specs.Trees.{SourceTree, JoinTree, ListTree, SelectTree, SelectOf, QueryTree, One, Combined}

-- one more at the end
abbrev pub push : {B : Type 0} → List B → B → List B
push bs b = bs ++ b ∷ []

-- the tokens begin with an alias
abbrev pub starts_alias : List Tok → Bool
starts_alias ts = is_some (after_symbol As ts) || starts_name ts

-- too long at a place
abbrev pub long : ℕ → Fault
long p = record { place = p; why = why.TooLong }

abbrev pub starts_join : List Tok → Bool
starts_join ts = is_some (after_symbol Inner ts) || is_some (after_symbol Join ts)

-- the tokens, where a join begins
abbrev pub at_join : List Tok → Option (List Tok)
at_join ts = if starts_join ts then Some ts else None

-- "select" [ "distinct" ] list
pub data HeadTree : Type 0 where
  HeadOf : ℕ → Bool → ListTree → HeadTree

-- "from" source { join }
pub data FromTree : Type 0 where
  FromOf : SourceTree → List JoinTree → FromTree

abbrev pub starts_set_op : List Tok → Bool
starts_set_op ts = is_some (after_symbol Union ts) || is_some (after_symbol Except ts)

-- the tokens, where a set operation begins
abbrev pub at_set_op : List Tok → Option (List Tok)
at_set_op ts = if starts_set_op ts then Some ts else None

-- ( "union" [ "all" ] | "except" ) select
pub data NextTree : Type 0 where
  NextOf : SetOp → SelectTree → NextTree

abbrev pub combine : QueryTree → NextTree → QueryTree
combine q (NextOf o s) = Combined q o s

-- how many sources are named
abbrev pub sources_in : SelectTree → ℕ
sources_in (SelectOf p d l s js w g) = 1 + length js

abbrev pub sources_of : QueryTree → ℕ
sources_of (One s) = sources_in s
sources_of (Combined q o s) = sources_of q + sources_in s

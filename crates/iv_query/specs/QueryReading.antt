-- Reading queries from left to right, with the first fault that is met.
use Rattle.std.specs.Prelude.{ℕ, zero, suc, ◌-◌, if◌then◌else◌, List, [], length, Option, Some, None, is_some, Ok, Err}
use Rattle.iv_query.specs.Limits.{nesting, sources}
use Rattle.iv_query.specs.declared.fault.Fault.{Fault}
use Rattle.iv_query.specs.declared.token.Symbol.{Symbol}
use Rattle.iv_query.specs.declared.token.Symbol.TheVariants.{All, And, As, By, Close, Comma, Count, Distinct, Equal, Except, From, Group, Inner, Join, On, Open, Select, Star, Sum, Union, Where}
use Rattle.iv_query.specs.declared.tree.Dialect.TheVariants as dialect
use Rattle.iv_query.specs.declared.tree.SetOp.{SetOp}
use Rattle.iv_query.specs.declared.tree.SetOp.TheVariants as set
use Rattle.iv_query.specs.Tokens.{Tok, after_symbol, first_place}
use Rattle.iv_rows.specs.Options.{if_some}
use Rattle.iv_query.specs.Trees.{NameTree, ColumnTree, PredTree, SourceTree, SourceOf, PairTree, PairOf, JoinTree, JoinOf, ItemTree, ItemOf, SumOf, CountOf, ListTree, StarAt, ItemsOf, SelectTree, SelectOf, QueryTree, One}
use Rattle.iv_query.specs.Parts.{push, starts_alias, long, at_join, HeadTree, HeadOf, FromTree, FromOf, at_set_op, NextTree, NextOf, combine, sources_of}
use Rattle.iv_query.specs.Reading.{◌>>=◌, Read, need, name_at, column_at, many_at, list_of, pred_at, term_at}

-- what follows the symbol if it comes first, else all
abbrev pub skip : Symbol → List Tok → List Tok
skip s ts = if_some (after_symbol s ts) ts (λ us. us)

unfoldable pub alias_at : Fault → List Tok → Read NameTree
alias_at stop ts = name_at stop (skip As ts)

unfoldable pub may_alias_at : Fault → List Tok → Read (Option NameTree)
may_alias_at stop ts = if starts_alias ts then (alias_at stop ts >>= λ x. Ok (Some x.0, x.1)) else Ok (None, ts)

unfoldable pub source_at : Fault → ℕ → List Tok → Read SourceTree
source_at stop zero ts = name_at stop ts >>= λ x. Err (long (first_place stop ts))
source_at stop (suc left) ts = name_at stop ts >>= λ x. may_alias_at stop x.1 >>= λ y. Ok (SourceOf x.0 y.0, y.1)

unfoldable pub pair_at : Fault → List Tok → Read PairTree
pair_at stop ts = column_at stop ts >>= λ x. need Equal stop x.1 >>= λ us. column_at stop us >>= λ y. Ok (PairOf x.0 y.0, y.1)

unfoldable pub plain_join_at : Fault → ℕ → List Tok → Read JoinTree
plain_join_at stop left ts = need Join stop ts >>= λ us. source_at stop left us
    >>= λ x. need On stop x.1 >>= λ vs. list_of And (pair_at stop) vs
    >>= λ y. Ok (JoinOf x.0 y.0, y.1)

unfoldable pub join_at : Fault → ℕ → List Tok → Read JoinTree
join_at stop left ts = plain_join_at stop left (skip Inner ts)

unfoldable pub joins_at : Fault → ℕ → List Tok → Read (List JoinTree)
joins_at stop left ts = many_at at_join (λ js. join_at stop (left - length js)) push (length ts) [] ts

unfoldable pub column_item_at : Fault → List Tok → Read ItemTree
column_item_at stop ts = column_at stop ts >>= λ x. may_alias_at stop x.1 >>= λ y. Ok (ItemOf x.0 y.0, y.1)

-- after "sum" and after "count", at a place
unfoldable pub sum_at : Fault → ℕ → List Tok → Read ItemTree
sum_at stop p ts = need Open stop ts >>= λ us. column_at stop us >>= λ x. need Close stop x.1 >>= λ vs. alias_at stop vs >>= λ y. Ok (SumOf p x.0 y.0, y.1)

unfoldable pub count_at : Fault → ℕ → List Tok → Read ItemTree
count_at stop p ts = need Open stop ts >>= λ us. need Star stop us >>= λ vs. need Close stop vs >>= λ ws. alias_at stop ws >>= λ y. Ok (CountOf p y.0, y.1)

unfoldable pub item_at : Fault → List Tok → Read ItemTree
item_at stop ts = if_some (after_symbol Sum ts)
    (if_some (after_symbol Count ts) (column_item_at stop ts) (λ us. count_at stop (first_place stop ts) us))
    (λ us. sum_at stop (first_place stop ts) us)

unfoldable pub list_at : Fault → List Tok → Read ListTree
list_at stop ts = if_some (after_symbol Star ts) (list_of Comma (item_at stop) ts >>= λ x. Ok (ItemsOf x.0, x.1)) (λ us. Ok (StarAt (first_place stop ts), us))

unfoldable pub head_at : Fault → List Tok → Read HeadTree
head_at stop ts = need Select stop ts >>= λ us. list_at stop (skip Distinct us)
    >>= λ x. Ok (HeadOf (first_place stop ts) (is_some (after_symbol Distinct us)) x.0, x.1)

unfoldable pub from_at : Fault → ℕ → List Tok → Read FromTree
from_at stop left ts = need From stop ts >>= λ us. source_at stop left us >>= λ x. joins_at stop (left - 1) x.1 >>= λ y. Ok (FromOf x.0 y.0, y.1)

unfoldable pub filter_at : Fault → List Tok → Read (Option PredTree)
filter_at stop ts = if_some (after_symbol Where ts) (Ok (None, ts)) (λ us. pred_at (term_at dialect.Query stop nesting) us >>= λ x. Ok (Some x.0, x.1))

unfoldable pub group_at : Fault → List Tok → Read (List ColumnTree)
group_at stop ts = if_some (after_symbol Group ts) (Ok ([], ts)) (λ us. need By stop us >>= λ vs. list_of Comma (column_at stop) vs)

-- after the sources: the predicate, and the columns of the group
unfoldable pub tail_at : Fault → List Tok → Read (Option PredTree × List ColumnTree)
tail_at stop ts = filter_at stop ts >>= λ w. group_at stop w.1 >>= λ g. Ok ((w.0, g.0), g.1)

abbrev pub select_of : HeadTree → FromTree → Option PredTree → List ColumnTree → SelectTree
select_of (HeadOf p d l) (FromOf s js) w g = SelectOf p d l s js w g

unfoldable pub select_at : Fault → ℕ → List Tok → Read SelectTree
select_at stop left ts = head_at stop ts >>= λ h. from_at stop left h.1
    >>= λ b. filter_at stop b.1 >>= λ w. group_at stop w.1 >>= λ g. Ok (select_of h.0 b.0 w.0 g.0, g.1)

unfoldable pub set_op_at : Fault → List Tok → Read SetOp
set_op_at stop ts = if_some (after_symbol Union ts)
    (need Except stop ts >>= λ us. Ok (set.Except, us))
    (λ us. if_some (after_symbol All us) (Ok (set.Union, us)) (λ vs. Ok (set.UnionAll, vs)))

unfoldable pub next_at : Fault → ℕ → List Tok → Read NextTree
next_at stop left ts = set_op_at stop ts >>= λ o. select_at stop left o.1 >>= λ s. Ok (NextOf o.0 s.0, s.1)

unfoldable pub query_at : Fault → List Tok → Read QueryTree
query_at stop ts = select_at stop sources ts >>= λ x. many_at at_set_op (λ q. next_at stop (sources - sources_of q)) combine (length x.1) (One x.0) x.1

-- Queries: the function that reads and the grammar say the same, from items to whole queries.
use Rattle.std.proofs.Common.{◌≡◌, ℕ, ◌-◌, ◌≤◌, ◌<◌, Bool, true, false, cond, List, [], ◌∷◌, length, Option, Some, None, is_some, Ok, Err, refl, ap, subst, arith}
use Rattle.iv_query.specs.declared.fault.Fault.{Fault}
use Rattle.iv_query.specs.declared.token.Symbol.TheVariants.{All, By, Close, Comma, Count, Distinct, Except, From, Group, Open, Select, Star, Sum, Union, Where}
use Rattle.iv_query.specs.declared.tree.Dialect.TheVariants as dialect
use Rattle.iv_query.specs.declared.tree.SetOp.{SetOp}
use Rattle.iv_query.specs.Tokens.{Tok, after_symbol, first_place}
use Rattle.iv_rows.specs.Options.{if_some}
use Rattle.iv_query.specs.Trees.{ColumnTree, PredTree, ItemTree, ListTree, SelectTree, QueryTree, One}
use Rattle.iv_query.specs.Grammar.{IsColumn, ColumnFault}
use Rattle.iv_query.specs.Rules.{First, first, Many}
use Rattle.iv_query.specs.Parts.{push, HeadTree, HeadOf, FromTree, FromOf, starts_set_op, at_set_op, NextTree, combine, sources_of}
use Rattle.iv_query.specs.Query.{IsItem, column_item, sum_item, count_item, ItemFault, no_item, in_item_alias, no_sum_open, no_sum_column, no_sum_close, no_sum_alias, no_count_open, no_count_star, no_count_close, no_count_alias, IsList, star_is, items_is, ListFault, first_item, later_item, IsHead, distinct_is, head_is, HeadFault, no_select, no_distinct_list, no_list, IsFrom, from_is, FromFault, no_from, no_first_source, in_joins, MayFilter, some_filter, no_filter, FilterFault, in_filter, MayGroup, some_group, no_group, GroupFault, no_by, first_key, later_key, IsSelect, select_is, SelectFault, in_head, in_from, in_where, in_group, IsSetOp, union_all_is, union_is, except_is, IsNext, next_is, NextFault, in_next, IsQuery, query_is, IsQueryFault, first_select, later_select}
use Rattle.iv_query.specs.Reading.{list_of, ◌>>=◌, column_at, pred_at, term_at}
use Rattle.iv_query.specs.QueryReading.{alias_at, may_alias_at, column_item_at, sum_at, count_at, item_at, list_at, head_at, source_at, joins_at, from_at, filter_at, group_at, select_of, select_at, set_op_at, next_at, query_at}
use Rattle.iv_query.proofs.Steps.{Outcome, good, Outcome-bind, after_symbol-First, need-First, need-None, first_place-First, lt-First, First-after_symbol, Outcome-need, Outcome-if_some, Outcome-weaken}
use Rattle.iv_query.proofs.ManyLaws.{Itemwise, many_judged, many_agrees, many_fault_agrees, many_consumes}
use Rattle.iv_query.proofs.PartLaws.{Outcome-column_at, column_at-IsColumn, column_at-ColumnFault, le-IsColumn}
use Rattle.iv_query.proofs.PredLaws.{Agreement-pred_at, le-Reads}
use Rattle.iv_query.proofs.QueryLaws.{Outcome-alias_at, alias_at-IsAlias, alias_at-AliasFault, lt-IsAlias, Outcome-may_alias_at, may_alias_at-MayAlias, may_alias_at-MayAliasFault, le-MayAlias, Outcome-source_at, source_at-IsSource, source_at-SourceFault, lt-IsSource, Outcome-joins_at, joins_at-AreJoins, joins_at-JoinsFault, le-AreJoins}
use Rattle.iv_query.proofs.TextLaws.{Agreement}

-- ---- items

sum_judged : (stop : Fault) (ts us : List Tok) → First Sum (first_place stop ts) ts us → Outcome (IsItem ts) (ItemFault stop ts) (sum_at stop (first_place stop ts) us)
unfolding sum_at
sum_judged stop ts us e = Outcome-need Open stop us _ (λ o. no_sum_open e o) (λ vs o. Outcome-bind (column_at stop vs) _ (Outcome-column_at stop vs)
    (λ x h. Outcome-need Close stop x.1 _ (λ c. no_sum_close e o h c) (λ ws c. Outcome-bind (alias_at stop ws) _ (Outcome-alias_at stop ws) (λ y k. good (sum_item e o h c k)) (λ f k. no_sum_alias e o h c k)))
    (λ f h. no_sum_column e o h))

count_judged : (stop : Fault) (ts us : List Tok) → First Count (first_place stop ts) ts us → Outcome (IsItem ts) (ItemFault stop ts) (count_at stop (first_place stop ts) us)
unfolding count_at
count_judged stop ts us e = Outcome-need Open stop us _ (λ o. no_count_open e o) (λ vs o. Outcome-need Star stop vs _ (λ s. no_count_star e o s) (λ ws s. Outcome-need Close stop ws _ (λ c. no_count_close e o s c)
    (λ xs c. Outcome-bind (alias_at stop xs) _ (Outcome-alias_at stop xs) (λ y k. good (count_item e o s c k)) (λ f k. no_count_alias e o s c k))))

item_judged : (stop : Fault) (ts : List Tok) → Outcome (IsItem ts) (ItemFault stop ts) (item_at stop ts)
unfolding item_at column_item_at
item_judged stop ts = Outcome-if_some Sum stop ts _ _
    (λ s. Outcome-if_some Count stop ts _ _
    (λ c. Outcome-bind (column_at stop ts) _ (Outcome-column_at stop ts) (λ x h. Outcome-bind (may_alias_at stop x.1) _ (Outcome-may_alias_at stop x.1) (λ y k. good (column_item s c h k)) (λ f k. in_item_alias s c h k)) (λ f h. no_item s c h))
    (λ us e. count_judged stop ts us e))
    (λ us e. sum_judged stop ts us e)

-- a count is no sum
no_sum : {p : ℕ} {ts us : List Tok} → First Count p ts us → after_symbol Sum ts ≡ None
unfolding after_symbol
no_sum first = refl

item_agrees : (stop : Fault) {ts us : List Tok} {i : ItemTree} → IsItem ts i us → item_at stop ts ≡ Ok (i, us)
unfolding item_at column_item_at sum_at count_at
item_agrees stop (column_item s c h k) = rw (s, c, column_at-IsColumn stop h, may_alias_at-MayAlias stop k) refl
item_agrees stop (sum_item e o h c k) = rw (after_symbol-First e, need-First stop o, column_at-IsColumn stop h, need-First stop c, alias_at-IsAlias stop k, first_place-First stop e) refl
item_agrees stop (count_item e o s c k) = rw (no_sum e, after_symbol-First e, need-First stop o, need-First stop s, need-First stop c, alias_at-IsAlias stop k, first_place-First stop e) refl

item_fails : (stop : Fault) {ts : List Tok} {f : Fault} → ItemFault stop ts f → item_at stop ts ≡ Err f
unfolding item_at column_item_at sum_at count_at
item_fails stop (no_item s c h) = rw (s, c, column_at-ColumnFault stop h) refl
item_fails stop (in_item_alias s c h k) = rw (s, c, column_at-IsColumn stop h, may_alias_at-MayAliasFault stop k) refl
item_fails stop (no_sum_open {us = us} e o) = rw (after_symbol-First e, need-None Open us stop o) refl
item_fails stop (no_sum_column e o h) = rw (after_symbol-First e, need-First stop o, column_at-ColumnFault stop h) refl
item_fails stop (no_sum_close {ws = ws} e o h c) = rw (after_symbol-First e, need-First stop o, column_at-IsColumn stop h, need-None Close ws stop c) refl
item_fails stop (no_sum_alias e o h c k) = rw (after_symbol-First e, need-First stop o, column_at-IsColumn stop h, need-First stop c, alias_at-AliasFault stop k) refl
item_fails stop (no_count_open {us = us} e o) = rw (no_sum e, after_symbol-First e, need-None Open us stop o) refl
item_fails stop (no_count_star {vs = vs} e o s) = rw (no_sum e, after_symbol-First e, need-First stop o, need-None Star vs stop s) refl
item_fails stop (no_count_close {ws = ws} e o s c) = rw (no_sum e, after_symbol-First e, need-First stop o, need-First stop s, need-None Close ws stop c) refl
item_fails stop (no_count_alias e o s c k) = rw (no_sum e, after_symbol-First e, need-First stop o, need-First stop s, need-First stop c, alias_at-AliasFault stop k) refl

item_consumes : {ts us : List Tok} {i : ItemTree} → IsItem ts i us → length us ≤ length ts
item_consumes (column_item s c h k) = omega (arith, le-IsColumn h, le-MayAlias k)
item_consumes (sum_item e o h c k) = omega (arith, lt-First e, lt-First o, le-IsColumn h, lt-First c, lt-IsAlias k)
item_consumes (count_item e o s c k) = omega (arith, lt-First e, lt-First o, lt-First s, lt-First c, lt-IsAlias k)

item_items : (stop : Fault) → Itemwise {A = List ItemTree} (after_symbol Comma) (λ _. IsItem) (λ _. ItemFault stop) (λ _. item_at stop)
unfolding after_symbol
item_items stop = record {
  nothing = refl;
  shorter = λ a b ts us vs s h. omega (arith, lt-First (First-after_symbol Comma ts us s), item_consumes h);
  sound = λ a ts us s. item_judged stop us;
  agrees = λ a b ts us h. item_agrees stop h;
  fails = λ a ts f h. item_fails stop h;
}

-- ---- lists

list_judged : (stop : Fault) (ts : List Tok) → Outcome (IsList ts) (ListFault stop ts) (list_at stop ts)
unfolding list_at list_of
list_judged stop ts = Outcome-if_some Star stop ts _ _
    (λ s. Outcome-bind (list_of Comma (item_at stop) ts) _ (Outcome-bind {G' = λ is us. (i : ItemTree) × (vs : List Tok) × IsItem ts i vs × Many (after_symbol Comma) (λ _. IsItem) push (i ∷ []) vs is us} {F' = ListFault stop ts} (item_at stop ts) _ (item_judged stop ts)
    (λ x h. Outcome-weaken _ (many_judged (item_items stop) push (length x.1) (x.0 ∷ []) x.1 (omega arith)) (λ is us k. (x.0, x.1, h, k)) (λ f k. later_item s h k)) (λ f h. first_item s h))
    (λ y k. good (items_is s k.2 k.3)) (λ f k. k))
    (λ us e. good (star_is e))

list_agrees : (stop : Fault) {ts us : List Tok} {l : ListTree} → IsList ts l us → list_at stop ts ≡ Ok (l, us)
unfolding list_at list_of
list_agrees stop (star_is e) = rw (after_symbol-First e, first_place-First stop e) refl
list_agrees stop (items_is {us = us} s h k) = let le : length us ≤ length us = omega arith in rw (s, item_agrees stop h, many_agrees (item_items stop) push k (length us) le) refl

list_fails : (stop : Fault) {ts : List Tok} {f : Fault} → ListFault stop ts f → list_at stop ts ≡ Err f
unfolding list_at list_of
list_fails stop (first_item s h) = rw (s, item_fails stop h) refl
list_fails stop (later_item {us = us} s h k) = let le : length us ≤ length us = omega arith in rw (s, item_agrees stop h, many_fault_agrees (item_items stop) push k (length us) le) refl

list_consumes : (stop : Fault) {ts us : List Tok} {l : ListTree} → IsList ts l us → length us ≤ length ts
list_consumes stop (star_is e) = omega (arith, lt-First e)
list_consumes stop (items_is s h k) = omega (arith, item_consumes h, many_consumes (item_items stop) push k)

-- ---- the head of a select

head_judged : (stop : Fault) (ts : List Tok) → Outcome (IsHead ts) (HeadFault stop ts) (head_at stop ts)
unfolding head_at
head_judged stop ts = Outcome-need Select stop ts _ (λ e. no_select e) (λ us e. go us e (after_symbol Distinct us) refl)
  where
    go : (us : List Tok) → First Select (first_place stop ts) ts us → (r : Option (List Tok)) → after_symbol Distinct us ≡ r → Outcome (IsHead ts) (HeadFault stop ts) (list_at stop (if_some r us (λ vs. vs)) >>= λ x. Ok (HeadOf (first_place stop ts) (is_some r) x.0, x.1))
    go us e None d = Outcome-bind (list_at stop us) _ (list_judged stop us) (λ x h. good (head_is e d h)) (λ f h. no_list e d h)
    go us e (Some vs) d = Outcome-bind (list_at stop vs) _ (list_judged stop vs) (λ x h. good (distinct_is e (First-after_symbol Distinct us vs d) h)) (λ f h. no_distinct_list e (First-after_symbol Distinct us vs d) h)

head_agrees : (stop : Fault) {ts us : List Tok} {h : HeadTree} → IsHead ts h us → head_at stop ts ≡ Ok (h, us)
unfolding head_at
head_agrees stop (distinct_is e d h) = rw (need-First stop e, after_symbol-First d, list_agrees stop h, first_place-First stop e) refl
head_agrees stop (head_is e d h) = rw (need-First stop e, d, list_agrees stop h, first_place-First stop e) refl

head_fails : (stop : Fault) {ts : List Tok} {f : Fault} → HeadFault stop ts f → head_at stop ts ≡ Err f
unfolding head_at
head_fails stop (no_select {ts = ts} e) = rw (need-None Select ts stop e) refl
head_fails stop (no_distinct_list e d h) = rw (need-First stop e, after_symbol-First d, list_fails stop h) refl
head_fails stop (no_list e d h) = rw (need-First stop e, d, list_fails stop h) refl

head_consumes : (stop : Fault) {ts us : List Tok} {h : HeadTree} → IsHead ts h us → length us < length ts
head_consumes stop (distinct_is e d h) = omega (arith, lt-First e, lt-First d, list_consumes stop h)
head_consumes stop (head_is e d h) = omega (arith, lt-First e, list_consumes stop h)

-- ---- the sources of a select

from_judged : (stop : Fault) (left : ℕ) (ts : List Tok) → Outcome (IsFrom left ts) (FromFault stop left ts) (from_at stop left ts)
unfolding from_at
from_judged stop left ts = Outcome-need From stop ts _ (λ e. no_from e) (λ us e. Outcome-bind (source_at stop left us) _ (Outcome-source_at stop left us)
    (λ x h. Outcome-bind (joins_at stop (left - 1) x.1) _ (Outcome-joins_at stop (left - 1) x.1) (λ y k. good (from_is e h k)) (λ f k. in_joins e h k))
    (λ f h. no_first_source e h))

from_agrees : (stop : Fault) {left : ℕ} {ts us : List Tok} {b : FromTree} → IsFrom left ts b us → from_at stop left ts ≡ Ok (b, us)
unfolding from_at
from_agrees stop {left = left} (from_is e h k) = rw (need-First stop e, source_at-IsSource stop h, joins_at-AreJoins stop (left - 1) k) refl

from_fails : (stop : Fault) {left : ℕ} {ts : List Tok} {f : Fault} → FromFault stop left ts f → from_at stop left ts ≡ Err f
unfolding from_at
from_fails stop (no_from {ts = ts} e) = rw (need-None From ts stop e) refl
from_fails stop (no_first_source e h) = rw (need-First stop e, source_at-SourceFault stop h) refl
from_fails stop {left = left} (in_joins e h k) = rw (need-First stop e, source_at-IsSource stop h, joins_at-JoinsFault stop (left - 1) k) refl

from_consumes : (stop : Fault) {left : ℕ} {ts us : List Tok} {b : FromTree} → IsFrom left ts b us → length us ≤ length ts
from_consumes stop {left = left} (from_is e h k) = omega (arith, lt-First e, lt-IsSource h, le-AreJoins stop (left - 1) k)

-- ---- where

filter_judged : (stop : Fault) (ts : List Tok) → Outcome (MayFilter ts) (FilterFault stop ts) (filter_at stop ts)
unfolding filter_at
filter_judged stop ts = Outcome-if_some Where stop ts _ _ (λ e. good (no_filter e)) (λ us e. Outcome-bind (pred_at (term_at dialect.Query stop 32) us) _ ((Agreement-pred_at dialect.Query).judged stop us) (λ x h. good (some_filter e h)) (λ f h. in_filter e h))

filter_agrees : (stop : Fault) {ts us : List Tok} {w : Option PredTree} → MayFilter ts w us → filter_at stop ts ≡ Ok (w, us)
unfolding filter_at
filter_agrees stop (some_filter e h) = rw (after_symbol-First e, (Agreement-pred_at dialect.Query).reads stop h) refl
filter_agrees stop (no_filter e) = rw e refl

filter_fails : (stop : Fault) {ts : List Tok} {f : Fault} → FilterFault stop ts f → filter_at stop ts ≡ Err f
unfolding filter_at
filter_fails stop (in_filter e h) = rw (after_symbol-First e, (Agreement-pred_at dialect.Query).faults stop h) refl

filter_consumes : {ts us : List Tok} {w : Option PredTree} → MayFilter ts w us → length us ≤ length ts
filter_consumes (some_filter e h) = omega (arith, lt-First e, le-Reads h)
filter_consumes (no_filter e) = omega arith

-- ---- group by

key_items : (stop : Fault) → Itemwise {A = List ColumnTree} (after_symbol Comma) (λ _. IsColumn) (λ _. ColumnFault stop) (λ _. column_at stop)
unfolding after_symbol
key_items stop = record {
  nothing = refl;
  shorter = λ a b ts us vs s h. omega (arith, lt-First (First-after_symbol Comma ts us s), le-IsColumn h);
  sound = λ a ts us s. Outcome-column_at stop us;
  agrees = λ a b ts us h. column_at-IsColumn stop h;
  fails = λ a ts f h. column_at-ColumnFault stop h;
}

group_judged : (stop : Fault) (ts : List Tok) → Outcome (MayGroup ts) (GroupFault stop ts) (group_at stop ts)
unfolding group_at list_of
group_judged stop ts = Outcome-if_some Group stop ts _ _ (λ e. good (no_group e)) (λ us e. Outcome-need By stop us _ (λ b. no_by e b) (λ vs b. Outcome-bind (column_at stop vs) _ (Outcome-column_at stop vs)
    (λ x h. Outcome-weaken _ (many_judged (key_items stop) push (length x.1) (x.0 ∷ []) x.1 (omega arith)) (λ cs ws k. some_group e b h k) (λ f k. later_key e b h k))
    (λ f h. first_key e b h)))

group_agrees : (stop : Fault) {ts us : List Tok} {g : List ColumnTree} → MayGroup ts g us → group_at stop ts ≡ Ok (g, us)
unfolding group_at list_of
group_agrees stop (some_group e b h k) = rw (after_symbol-First e, need-First stop b, column_at-IsColumn stop h) (many_agrees (key_items stop) push k _ (omega arith))
group_agrees stop (no_group e) = rw e refl

group_fails : (stop : Fault) {ts : List Tok} {f : Fault} → GroupFault stop ts f → group_at stop ts ≡ Err f
unfolding group_at list_of
group_fails stop (no_by {us = us} e b) = rw (after_symbol-First e, need-None By us stop b) refl
group_fails stop (first_key e b h) = rw (after_symbol-First e, need-First stop b, column_at-ColumnFault stop h) refl
group_fails stop (later_key e b h k) = rw (after_symbol-First e, need-First stop b, column_at-IsColumn stop h) (many_fault_agrees (key_items stop) push k _ (omega arith))

group_consumes : (stop : Fault) {ts us : List Tok} {g : List ColumnTree} → MayGroup ts g us → length us ≤ length ts
group_consumes stop (some_group e b h k) = omega (arith, lt-First e, lt-First b, le-IsColumn h, many_consumes (key_items stop) push k)
group_consumes stop (no_group e) = omega arith

-- ---- selects

joined : (left : ℕ) (h : HeadTree) (b : FromTree) (w : Option PredTree) (g : List ColumnTree) (ts us vs ws xs : List Tok) → IsHead ts h us → IsFrom left us b vs → MayFilter vs w ws → MayGroup ws g xs → IsSelect left ts (select_of h b w g) xs
joined left (HeadOf p d l) (FromOf s js) w g ts us vs ws xs h b f k = select_is h b f k

select_judged : (stop : Fault) (left : ℕ) (ts : List Tok) → Outcome (IsSelect left ts) (SelectFault stop left ts) (select_at stop left ts)
unfolding select_at
select_judged stop left ts = Outcome-bind (head_at stop ts) _ (head_judged stop ts)
    (λ x h. Outcome-bind (from_at stop left x.1) _ (from_judged stop left x.1)
    (λ y b. Outcome-bind (filter_at stop y.1) _ (filter_judged stop y.1)
    (λ z w. Outcome-bind (group_at stop z.1) _ (group_judged stop z.1) (λ g k. good (joined left x.0 y.0 z.0 g.0 ts x.1 y.1 z.1 g.1 h b w k)) (λ f k. in_group h b w k))
    (λ f w. in_where h b w))
    (λ f b. in_from h b))
    (λ f h. in_head h)

select_agrees : (stop : Fault) {left : ℕ} {ts us : List Tok} {s : SelectTree} → IsSelect left ts s us → select_at stop left ts ≡ Ok (s, us)
unfolding select_at
select_agrees stop (select_is h b w g) = rw (head_agrees stop h, from_agrees stop b, filter_agrees stop w, group_agrees stop g) refl

select_fails : (stop : Fault) {left : ℕ} {ts : List Tok} {f : Fault} → SelectFault stop left ts f → select_at stop left ts ≡ Err f
unfolding select_at
select_fails stop (in_head h) = rw (head_fails stop h) refl
select_fails stop (in_from h b) = rw (head_agrees stop h, from_fails stop b) refl
select_fails stop (in_where h b w) = rw (head_agrees stop h, from_agrees stop b, filter_fails stop w) refl
select_fails stop (in_group h b w g) = rw (head_agrees stop h, from_agrees stop b, filter_agrees stop w, group_fails stop g) refl

select_consumes : (stop : Fault) {left : ℕ} {ts us : List Tok} {s : SelectTree} → IsSelect left ts s us → length us < length ts
select_consumes stop (select_is h b w g) = omega (arith, head_consumes stop h, from_consumes stop b, filter_consumes w, group_consumes stop g)

-- ---- set operations

-- except is no union
no_union : {p : ℕ} {ts us : List Tok} → First Except p ts us → after_symbol Union ts ≡ None
unfolding after_symbol
no_union first = refl

op_judged : (stop : Fault) (ts : List Tok) → starts_set_op ts ≡ true → Outcome (IsSetOp ts) (λ f. ⊥) (set_op_at stop ts)
unfolding set_op_at
op_judged stop ts begins = Outcome-if_some Union stop ts _ _ (λ u. Outcome-need Except stop ts _ (λ x. let no : starts_set_op ts ≡ false = rw (u, x) refl in absurd cc) (λ us x. good (except_is x)))
    (λ us u. Outcome-if_some All stop us _ _ (λ a. good (union_is u a)) (λ vs a. good (union_all_is u a)))

op_agrees : (stop : Fault) {ts us : List Tok} {o : SetOp} → IsSetOp ts o us → set_op_at stop ts ≡ Ok (o, us)
unfolding set_op_at
op_agrees stop (union_all_is u a) = rw (after_symbol-First u, after_symbol-First a) refl
op_agrees stop (union_is u a) = rw (after_symbol-First u, a) refl
op_agrees stop (except_is x) = rw (no_union x, need-First stop x) refl

op_consumes : {ts us : List Tok} {o : SetOp} → IsSetOp ts o us → length us < length ts
op_consumes (union_all_is u a) = omega (arith, lt-First u, lt-First a)
op_consumes (union_is u a) = lt-First u
op_consumes (except_is x) = lt-First x

next_judged : (stop : Fault) (left : ℕ) (ts : List Tok) → starts_set_op ts ≡ true → Outcome (IsNext left ts) (NextFault stop left ts) (next_at stop left ts)
unfolding next_at
next_judged stop left ts begins = Outcome-bind (set_op_at stop ts) _ (op_judged stop ts begins) (λ o h. Outcome-bind (select_at stop left o.1) _ (select_judged stop left o.1) (λ s k. good (next_is h k)) (λ f k. in_next h k)) (λ f h. absurd h)

next_agrees : (stop : Fault) {left : ℕ} {ts us : List Tok} {n : NextTree} → IsNext left ts n us → next_at stop left ts ≡ Ok (n, us)
unfolding next_at
next_agrees stop (next_is h k) = rw (op_agrees stop h, select_agrees stop k) refl

next_fails : (stop : Fault) {left : ℕ} {ts : List Tok} {f : Fault} → NextFault stop left ts f → next_at stop left ts ≡ Err f
unfolding next_at
next_fails stop (in_next h k) = rw (op_agrees stop h, select_fails stop k) refl

next_consumes : (stop : Fault) {left : ℕ} {ts us : List Tok} {n : NextTree} → IsNext left ts n us → length us < length ts
next_consumes stop (next_is h k) = omega (arith, op_consumes h, select_consumes stop k)

begins_there : (b : Bool) (ts us : List Tok) → cond b (Some ts) None ≡ Some us → (b ≡ true) × (ts ≡ us)
begins_there true ts us e = (refl, cc)
begins_there false ts us e = absurd cc

next_items : (stop : Fault) → Itemwise {A = QueryTree} at_set_op (λ q. IsNext (8 - sources_of q)) (λ q. NextFault stop (8 - sources_of q)) (λ q. next_at stop (8 - sources_of q))
unfolding after_symbol
next_items stop = record {
  nothing = refl;
  shorter = λ a b ts us vs s h. omega (arith, ap length (begins_there (starts_set_op ts) ts us s).1, next_consumes stop h);
  sound = λ a ts us s. let k = begins_there (starts_set_op ts) ts us s in next_judged stop (8 - sources_of a) us (subst (λ (x : List Tok). starts_set_op x ≡ true) k.1 k.0);
  agrees = λ a b ts us h. next_agrees stop h;
  fails = λ a ts f h. next_fails stop h;
}

-- ---- queries

query_judged : (stop : Fault) (ts : List Tok) → Outcome (IsQuery ts) (IsQueryFault stop ts) (query_at stop ts)
unfolding query_at
query_judged stop ts = Outcome-bind (select_at stop 8 ts) _ (select_judged stop 8 ts) (λ x h. Outcome-weaken _ (many_judged (next_items stop) combine (length x.1) (One x.0) x.1 (omega arith)) (λ q us k. query_is h k) (λ f k. later_select h k)) (λ f h. first_select h)

query_agrees : (stop : Fault) {ts us : List Tok} {q : QueryTree} → IsQuery ts q us → query_at stop ts ≡ Ok (q, us)
unfolding query_at
query_agrees stop (query_is h k) = rw (select_agrees stop h) (many_agrees (next_items stop) combine k _ (omega arith))

query_fails : (stop : Fault) {ts : List Tok} {f : Fault} → IsQueryFault stop ts f → query_at stop ts ≡ Err f
unfolding query_at
query_fails stop (first_select h) = rw (select_fails stop h) refl
query_fails stop (later_select h k) = rw (select_agrees stop h) (many_fault_agrees (next_items stop) combine k _ (omega arith))

pub Agreement-query_at : Agreement IsQuery IsQueryFault query_at
Agreement-query_at = record {
  judged = query_judged;
  reads = λ stop h. query_agrees stop h;
  faults = λ stop h. query_fails stop h;
}

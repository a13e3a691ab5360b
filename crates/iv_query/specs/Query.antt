-- The grammar of queries: which trees a list of tokens has, and which fault a list without one has.
use Rattle.std.specs.Prelude.{◌≡◌, ℕ, suc, ◌-◌, Bool, true, false, List, [], ◌∷◌, length, Option, Some, None}
use Rattle.iv_query.specs.Limits.{nesting, sources}
use Rattle.iv_query.specs.declared.fault.Fault.{Fault}
use Rattle.iv_query.specs.declared.token.Symbol.TheVariants.{All, And, As, By, Close, Comma, Count, Distinct, Equal, Except, From, Group, Inner, Join, On, Open, Select, Star, Sum, Union, Where}
use Rattle.iv_query.specs.declared.tree.Dialect.TheVariants as dialect
use Rattle.iv_query.specs.declared.tree.SetOp.{SetOp}
use Rattle.iv_query.specs.declared.tree.SetOp.TheVariants as set
use Rattle.iv_query.specs.Tokens.{Tok, after_symbol, unexpected}
use Rattle.iv_query.specs.Trees.{NameTree, Called, ColumnTree, PredTree, SourceTree, SourceOf, PairTree, PairOf, JoinTree, JoinOf, ItemTree, ItemOf, SumOf, CountOf, ListTree, StarAt, ItemsOf, SelectTree, SelectOf, QueryTree, One}
use Rattle.iv_query.specs.Grammar.{IsColumn, ColumnFault, pred, Reads, Faults}
use Rattle.iv_query.specs.Rules.{First, IsName, NameFault, Many, ManyFault}
use Rattle.iv_query.specs.Parts.{push, starts_alias, long, at_join, HeadTree, HeadOf, FromTree, FromOf, at_set_op, NextTree, NextOf, combine, sources_of}

-- alias = [ "as" ] name
pub data IsAlias : List Tok → NameTree → List Tok → Type 0 where
  as_alias : {p : ℕ} {ts us vs : List Tok} {n : NameTree} → First As p ts us → IsName us n vs → IsAlias ts n vs
  bare_alias : {ts us : List Tok} {n : NameTree} → after_symbol As ts ≡ None → IsName ts n us → IsAlias ts n us

pub data AliasFault (stop : Fault) : List Tok → Fault → Type 0 where
  no_as_alias : {p : ℕ} {ts us : List Tok} {f : Fault} → First As p ts us → NameFault stop us f → AliasFault stop ts f
  no_bare_alias : {ts : List Tok} {f : Fault} → after_symbol As ts ≡ None → NameFault stop ts f → AliasFault stop ts f

-- [ alias ]
pub data MayAlias : List Tok → Option NameTree → List Tok → Type 0 where
  some_alias : {ts us : List Tok} {n : NameTree} → starts_alias ts ≡ true → IsAlias ts n us → MayAlias ts (Some n) us
  no_alias : {ts : List Tok} → starts_alias ts ≡ false → MayAlias ts None ts

pub data MayAliasFault (stop : Fault) : List Tok → Fault → Type 0 where
  in_alias : {ts : List Tok} {f : Fault} → starts_alias ts ≡ true → AliasFault stop ts f → MayAliasFault stop ts f

-- source = name [ alias ], if left sources may still be named
pub data IsSource : ℕ → List Tok → SourceTree → List Tok → Type 0 where
  source_is : {left : ℕ} {ts us vs : List Tok} {n : NameTree} {a : Option NameTree}
      → IsName ts n us → MayAlias us a vs → IsSource (suc left) ts (SourceOf n a) vs

pub data SourceFault (stop : Fault) : ℕ → List Tok → Fault → Type 0 where
  no_source : {left : ℕ} {ts : List Tok} {f : Fault} → NameFault stop ts f → SourceFault stop left ts f
  one_too_many : {n : List ℕ} {p : ℕ} {ts us : List Tok} → IsName ts (Called n p) us → SourceFault stop 0 ts (long p)
  in_source_alias : {left : ℕ} {ts us : List Tok} {n : NameTree} {f : Fault} → IsName ts n us → MayAliasFault stop us f → SourceFault stop (suc left) ts f

-- pair = column "=" column
pub data IsPair : List Tok → PairTree → List Tok → Type 0 where
  pair_is : {p : ℕ} {ts us vs ws : List Tok} {a b : ColumnTree} → IsColumn ts a us → First Equal p us vs → IsColumn vs b ws → IsPair ts (PairOf a b) ws

pub data PairFault (stop : Fault) : List Tok → Fault → Type 0 where
  no_left : {ts : List Tok} {f : Fault} → ColumnFault stop ts f → PairFault stop ts f
  no_equal : {ts us : List Tok} {a : ColumnTree} → IsColumn ts a us → after_symbol Equal us ≡ None → PairFault stop ts (unexpected stop us)
  no_right : {p : ℕ} {ts us vs : List Tok} {a : ColumnTree} {f : Fault} → IsColumn ts a us → First Equal p us vs → ColumnFault stop vs f → PairFault stop ts f

-- pair { "and" pair }
pub data IsPairs : List Tok → List PairTree → List Tok → Type 0 where
  pairs_is : {ts us vs : List Tok} {a : PairTree} {bs : List PairTree}
      → IsPair ts a us → Many (after_symbol And) (λ _. IsPair) push (a ∷ []) us bs vs → IsPairs ts bs vs

pub data PairsFault (stop : Fault) : List Tok → Fault → Type 0 where
  first_pair : {ts : List Tok} {f : Fault} → PairFault stop ts f → PairsFault stop ts f
  later_pair : {ts us : List Tok} {a : PairTree} {f : Fault}
      → IsPair ts a us → ManyFault (after_symbol And) (λ _. IsPair) (λ _. PairFault stop) push (a ∷ []) us f
      → PairsFault stop ts f

-- "join" source "on" pair { "and" pair }
pub data IsPlainJoin : ℕ → List Tok → JoinTree → List Tok → Type 0 where
  plain_join_is : {left p q : ℕ} {ts us vs ws xs : List Tok} {s : SourceTree} {bs : List PairTree}
      → First Join p ts us → IsSource left us s vs → First On q vs ws → IsPairs ws bs xs
      → IsPlainJoin left ts (JoinOf s bs) xs

pub data PlainJoinFault (stop : Fault) : ℕ → List Tok → Fault → Type 0 where
  no_join : {left : ℕ} {ts : List Tok} → after_symbol Join ts ≡ None → PlainJoinFault stop left ts (unexpected stop ts)
  no_join_source : {left p : ℕ} {ts us : List Tok} {f : Fault} → First Join p ts us → SourceFault stop left us f → PlainJoinFault stop left ts f
  no_on : {left p : ℕ} {ts us vs : List Tok} {s : SourceTree}
      → First Join p ts us → IsSource left us s vs → after_symbol On vs ≡ None
      → PlainJoinFault stop left ts (unexpected stop vs)
  no_pairs : {left p q : ℕ} {ts us vs ws : List Tok} {s : SourceTree} {f : Fault}
      → First Join p ts us → IsSource left us s vs → First On q vs ws → PairsFault stop ws f
      → PlainJoinFault stop left ts f

-- join = [ "inner" ] "join" source "on" pair { "and" pair }
pub data IsJoin : ℕ → List Tok → JoinTree → List Tok → Type 0 where
  inner_join : {left p : ℕ} {ts us vs : List Tok} {j : JoinTree} → First Inner p ts us → IsPlainJoin left us j vs → IsJoin left ts j vs
  bare_join : {left : ℕ} {ts us : List Tok} {j : JoinTree} → after_symbol Inner ts ≡ None → IsPlainJoin left ts j us → IsJoin left ts j us

pub data JoinFault (stop : Fault) : ℕ → List Tok → Fault → Type 0 where
  in_inner_join : {left p : ℕ} {ts us : List Tok} {f : Fault} → First Inner p ts us → PlainJoinFault stop left us f → JoinFault stop left ts f
  in_bare_join : {left : ℕ} {ts : List Tok} {f : Fault} → after_symbol Inner ts ≡ None → PlainJoinFault stop left ts f → JoinFault stop left ts f

-- { join }
abbrev pub AreJoins : ℕ → List Tok → List JoinTree → List Tok → Type 0
AreJoins left = Many at_join (λ js. IsJoin (left - length js)) push []

abbrev pub JoinsFault : Fault → ℕ → List Tok → Fault → Type 0
JoinsFault stop left = ManyFault at_join (λ js. IsJoin (left - length js)) (λ js. JoinFault stop (left - length js)) push []

-- item = column [ alias ] | "sum" "(" column ")" alias | "count" "(" "*" ")" alias
pub data IsItem : List Tok → ItemTree → List Tok → Type 0 where
  column_item : {ts us vs : List Tok} {c : ColumnTree} {a : Option NameTree}
      → after_symbol Sum ts ≡ None → after_symbol Count ts ≡ None → IsColumn ts c us → MayAlias us a vs → IsItem ts (ItemOf c a) vs
  sum_item : {p q r : ℕ} {ts us vs ws xs ys : List Tok} {c : ColumnTree} {n : NameTree}
      → First Sum p ts us → First Open q us vs → IsColumn vs c ws → First Close r ws xs → IsAlias xs n ys
      → IsItem ts (SumOf p c n) ys
  count_item : {p q r s : ℕ} {ts us vs ws xs ys : List Tok} {n : NameTree}
      → First Count p ts us → First Open q us vs → First Star r vs ws → First Close s ws xs → IsAlias xs n ys
      → IsItem ts (CountOf p n) ys

pub data ItemFault (stop : Fault) : List Tok → Fault → Type 0 where
  no_item : {ts : List Tok} {f : Fault} → after_symbol Sum ts ≡ None → after_symbol Count ts ≡ None → ColumnFault stop ts f → ItemFault stop ts f
  in_item_alias : {ts us : List Tok} {c : ColumnTree} {f : Fault}
      → after_symbol Sum ts ≡ None → after_symbol Count ts ≡ None → IsColumn ts c us → MayAliasFault stop us f → ItemFault stop ts f
  no_sum_open : {p : ℕ} {ts us : List Tok} → First Sum p ts us → after_symbol Open us ≡ None → ItemFault stop ts (unexpected stop us)
  no_sum_column : {p q : ℕ} {ts us vs : List Tok} {f : Fault} → First Sum p ts us → First Open q us vs → ColumnFault stop vs f → ItemFault stop ts f
  no_sum_close : {p q : ℕ} {ts us vs ws : List Tok} {c : ColumnTree}
      → First Sum p ts us → First Open q us vs → IsColumn vs c ws → after_symbol Close ws ≡ None
      → ItemFault stop ts (unexpected stop ws)
  no_sum_alias : {p q r : ℕ} {ts us vs ws xs : List Tok} {c : ColumnTree} {f : Fault}
      → First Sum p ts us → First Open q us vs → IsColumn vs c ws → First Close r ws xs → AliasFault stop xs f
      → ItemFault stop ts f
  no_count_open : {p : ℕ} {ts us : List Tok} → First Count p ts us → after_symbol Open us ≡ None → ItemFault stop ts (unexpected stop us)
  no_count_star : {p q : ℕ} {ts us vs : List Tok}
      → First Count p ts us → First Open q us vs → after_symbol Star vs ≡ None
      → ItemFault stop ts (unexpected stop vs)
  no_count_close : {p q r : ℕ} {ts us vs ws : List Tok}
      → First Count p ts us → First Open q us vs → First Star r vs ws → after_symbol Close ws ≡ None
      → ItemFault stop ts (unexpected stop ws)
  no_count_alias : {p q r s : ℕ} {ts us vs ws xs : List Tok} {f : Fault}
      → First Count p ts us → First Open q us vs → First Star r vs ws → First Close s ws xs → AliasFault stop xs f
      → ItemFault stop ts f

-- list = "*" | item { "," item }
pub data IsList : List Tok → ListTree → List Tok → Type 0 where
  star_is : {p : ℕ} {ts us : List Tok} → First Star p ts us → IsList ts (StarAt p) us
  items_is : {ts us vs : List Tok} {i : ItemTree} {is : List ItemTree}
      → after_symbol Star ts ≡ None → IsItem ts i us → Many (after_symbol Comma) (λ _. IsItem) push (i ∷ []) us is vs
      → IsList ts (ItemsOf is) vs

pub data ListFault (stop : Fault) : List Tok → Fault → Type 0 where
  first_item : {ts : List Tok} {f : Fault} → after_symbol Star ts ≡ None → ItemFault stop ts f → ListFault stop ts f
  later_item : {ts us : List Tok} {i : ItemTree} {f : Fault}
      → after_symbol Star ts ≡ None → IsItem ts i us
      → ManyFault (after_symbol Comma) (λ _. IsItem) (λ _. ItemFault stop) push (i ∷ []) us f → ListFault stop ts f

-- "select" [ "distinct" ] list
pub data IsHead : List Tok → HeadTree → List Tok → Type 0 where
  distinct_is : {p q : ℕ} {ts us vs ws : List Tok} {l : ListTree}
      → First Select p ts us → First Distinct q us vs → IsList vs l ws → IsHead ts (HeadOf p true l) ws
  head_is : {p : ℕ} {ts us vs : List Tok} {l : ListTree}
      → First Select p ts us → after_symbol Distinct us ≡ None → IsList us l vs → IsHead ts (HeadOf p false l) vs

pub data HeadFault (stop : Fault) : List Tok → Fault → Type 0 where
  no_select : {ts : List Tok} → after_symbol Select ts ≡ None → HeadFault stop ts (unexpected stop ts)
  no_distinct_list : {p q : ℕ} {ts us vs : List Tok} {f : Fault} → First Select p ts us → First Distinct q us vs → ListFault stop vs f → HeadFault stop ts f
  no_list : {p : ℕ} {ts us : List Tok} {f : Fault} → First Select p ts us → after_symbol Distinct us ≡ None → ListFault stop us f → HeadFault stop ts f

-- "from" source { join }
pub data IsFrom : ℕ → List Tok → FromTree → List Tok → Type 0 where
  from_is : {left p : ℕ} {ts us vs ws : List Tok} {s : SourceTree} {js : List JoinTree}
      → First From p ts us → IsSource left us s vs → AreJoins (left - 1) vs js ws → IsFrom left ts (FromOf s js) ws

pub data FromFault (stop : Fault) : ℕ → List Tok → Fault → Type 0 where
  no_from : {left : ℕ} {ts : List Tok} → after_symbol From ts ≡ None → FromFault stop left ts (unexpected stop ts)
  no_first_source : {left p : ℕ} {ts us : List Tok} {f : Fault} → First From p ts us → SourceFault stop left us f → FromFault stop left ts f
  in_joins : {left p : ℕ} {ts us vs : List Tok} {s : SourceTree} {f : Fault}
      → First From p ts us → IsSource left us s vs → JoinsFault stop (left - 1) vs f → FromFault stop left ts f

-- [ "where" pred ]
pub data MayFilter : List Tok → Option PredTree → List Tok → Type 0 where
  some_filter : {p : ℕ} {ts us vs : List Tok} {t : PredTree} → First Where p ts us → Reads dialect.Query pred nesting us t vs → MayFilter ts (Some t) vs
  no_filter : {ts : List Tok} → after_symbol Where ts ≡ None → MayFilter ts None ts

pub data FilterFault (stop : Fault) : List Tok → Fault → Type 0 where
  in_filter : {p : ℕ} {ts us : List Tok} {f : Fault} → First Where p ts us → Faults stop dialect.Query pred nesting us f → FilterFault stop ts f

-- [ "group" "by" column { "," column } ]
pub data MayGroup : List Tok → List ColumnTree → List Tok → Type 0 where
  some_group : {p q : ℕ} {ts us vs ws xs : List Tok} {c : ColumnTree} {cs : List ColumnTree}
      → First Group p ts us → First By q us vs → IsColumn vs c ws
      → Many (after_symbol Comma) (λ _. IsColumn) push (c ∷ []) ws cs xs → MayGroup ts cs xs
  no_group : {ts : List Tok} → after_symbol Group ts ≡ None → MayGroup ts [] ts

pub data GroupFault (stop : Fault) : List Tok → Fault → Type 0 where
  no_by : {p : ℕ} {ts us : List Tok} → First Group p ts us → after_symbol By us ≡ None → GroupFault stop ts (unexpected stop us)
  first_key : {p q : ℕ} {ts us vs : List Tok} {f : Fault} → First Group p ts us → First By q us vs → ColumnFault stop vs f → GroupFault stop ts f
  later_key : {p q : ℕ} {ts us vs ws : List Tok} {c : ColumnTree} {f : Fault}
      → First Group p ts us → First By q us vs → IsColumn vs c ws
      → ManyFault (after_symbol Comma) (λ _. IsColumn) (λ _. ColumnFault stop) push (c ∷ []) ws f → GroupFault stop ts f

-- select = "select" [ "distinct" ] list "from" source { join } [ "where" pred ] [ "group" "by" column { "," column } ]
pub data IsSelect : ℕ → List Tok → SelectTree → List Tok → Type 0 where
  select_is : {left p : ℕ} {d : Bool} {l : ListTree} {s : SourceTree} {js : List JoinTree} {w : Option PredTree}
      {g : List ColumnTree} {ts us vs ws xs : List Tok}
      → IsHead ts (HeadOf p d l) us → IsFrom left us (FromOf s js) vs → MayFilter vs w ws → MayGroup ws g xs
      → IsSelect left ts (SelectOf p d l s js w g) xs

pub data SelectFault (stop : Fault) : ℕ → List Tok → Fault → Type 0 where
  in_head : {left : ℕ} {ts : List Tok} {f : Fault} → HeadFault stop ts f → SelectFault stop left ts f
  in_from : {left : ℕ} {h : HeadTree} {ts us : List Tok} {f : Fault} → IsHead ts h us → FromFault stop left us f → SelectFault stop left ts f
  in_where : {left : ℕ} {h : HeadTree} {b : FromTree} {ts us vs : List Tok} {f : Fault}
      → IsHead ts h us → IsFrom left us b vs → FilterFault stop vs f → SelectFault stop left ts f
  in_group : {left : ℕ} {h : HeadTree} {b : FromTree} {w : Option PredTree} {ts us vs ws : List Tok} {f : Fault}
      → IsHead ts h us → IsFrom left us b vs → MayFilter vs w ws → GroupFault stop ws f → SelectFault stop left ts f

-- ( "union" [ "all" ] | "except" )
pub data IsSetOp : List Tok → SetOp → List Tok → Type 0 where
  union_all_is : {p q : ℕ} {ts us vs : List Tok} → First Union p ts us → First All q us vs → IsSetOp ts set.UnionAll vs
  union_is : {p : ℕ} {ts us : List Tok} → First Union p ts us → after_symbol All us ≡ None → IsSetOp ts set.Union us
  except_is : {p : ℕ} {ts us : List Tok} → First Except p ts us → IsSetOp ts set.Except us

-- ( "union" [ "all" ] | "except" ) select
pub data IsNext : ℕ → List Tok → NextTree → List Tok → Type 0 where
  next_is : {left : ℕ} {ts us vs : List Tok} {o : SetOp} {s : SelectTree} → IsSetOp ts o us → IsSelect left us s vs → IsNext left ts (NextOf o s) vs

pub data NextFault (stop : Fault) : ℕ → List Tok → Fault → Type 0 where
  in_next : {left : ℕ} {ts us : List Tok} {o : SetOp} {f : Fault} → IsSetOp ts o us → SelectFault stop left us f → NextFault stop left ts f

-- query = select { ( "union" [ "all" ] | "except" ) select }, grouped from the left, with at most eight sources
pub data IsQuery : List Tok → QueryTree → List Tok → Type 0 where
  query_is : {ts us vs : List Tok} {s : SelectTree} {t : QueryTree}
      → IsSelect sources ts s us → Many at_set_op (λ q. IsNext (sources - sources_of q)) combine (One s) us t vs
      → IsQuery ts t vs

pub data IsQueryFault (stop : Fault) : List Tok → Fault → Type 0 where
  first_select : {ts : List Tok} {f : Fault} → SelectFault stop sources ts f → IsQueryFault stop ts f
  later_select : {ts us : List Tok} {s : SelectTree} {f : Fault}
      → IsSelect sources ts s us
      → ManyFault at_set_op (λ q. IsNext (sources - sources_of q)) (λ q. NextFault stop (sources - sources_of q))
      combine (One s) us f
      → IsQueryFault stop ts f

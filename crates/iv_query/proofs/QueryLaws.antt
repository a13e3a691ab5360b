-- Queries: the function that reads and the grammar say the same, up to joins.
use Rattle.std.proofs.Common.{◌≡◌, ℕ, zero, suc, ◌-◌, ◌≤◌, ◌<◌, Bool, true, false, cond, List, [], ◌∷◌, length, Option, Some, None, Ok, Err, refl, ap, arith}
use Rattle.iv_query.specs.declared.fault.Fault.{Fault}
use Rattle.iv_query.specs.declared.token.Symbol.TheVariants.{And, As, Equal, Inner, Join, On}
use Rattle.iv_query.specs.Tokens.{Tok, Fixed, Name, Number, Quoted, after_symbol, first_place}
use Rattle.iv_query.specs.Trees.{NameTree, Called, SourceTree, PairTree, JoinTree}
use Rattle.iv_query.specs.Rules.{IsName, name_is, NameFault, no_name}
use Rattle.iv_query.specs.Parts.{push, starts_alias, long, starts_join, at_join}
use Rattle.iv_query.specs.Query.{IsAlias, as_alias, bare_alias, AliasFault, no_as_alias, no_bare_alias, MayAlias, some_alias, no_alias, MayAliasFault, in_alias, IsSource, source_is, SourceFault, no_source, one_too_many, in_source_alias, IsPair, pair_is, PairFault, no_left, no_equal, no_right, IsPairs, pairs_is, PairsFault, first_pair, later_pair, IsPlainJoin, plain_join_is, PlainJoinFault, no_join, no_join_source, no_on, no_pairs, IsJoin, inner_join, bare_join, JoinFault, in_inner_join, in_bare_join, AreJoins, JoinsFault}
use Rattle.iv_query.specs.Reading.{list_of, name_at, column_at}
use Rattle.iv_query.specs.QueryReading.{alias_at, may_alias_at, source_at, pair_at, plain_join_at, join_at, joins_at}
use Rattle.iv_query.proofs.Steps.{Outcome, good, bad, Outcome-bind, after_symbol-First, need-First, need-None, lt-First, First-after_symbol, Outcome-need, Outcome-skip, Outcome-cond, Outcome-weaken}
use Rattle.iv_query.proofs.ManyLaws.{Itemwise, many_judged, many_agrees, many_fault_agrees, many_consumes}
use Rattle.iv_query.proofs.PartLaws.{name_at-no_name, Outcome-column_at, column_at-IsColumn, column_at-ColumnFault, le-IsColumn}

-- ---- names

pub name_judged : (stop : Fault) (ts : List Tok) → Outcome (IsName ts) (NameFault stop ts) (name_at stop ts)
name_judged stop [] = bad (no_name refl)
name_judged stop (Fixed s p ∷ ts) = bad (no_name refl)
name_judged stop (Name n p ∷ ts) = good name_is
name_judged stop (Number n p ∷ ts) = bad (no_name refl)
name_judged stop (Quoted v p ∷ ts) = bad (no_name refl)

pub name_agrees : (stop : Fault) {ts us : List Tok} {n : NameTree} → IsName ts n us → name_at stop ts ≡ Ok (n, us)
name_agrees stop name_is = refl

pub name_fails : (stop : Fault) {ts : List Tok} {f : Fault} → NameFault stop ts f → name_at stop ts ≡ Err f
name_fails stop (no_name {ts = ts} e) = name_at-no_name stop ts e

pub name_consumes : {ts us : List Tok} {n : NameTree} → IsName ts n us → length us < length ts
name_consumes name_is = omega arith

-- ---- aliases

pub Outcome-alias_at : (stop : Fault) (ts : List Tok) → Outcome (IsAlias ts) (AliasFault stop ts) (alias_at stop ts)
unfolding alias_at
Outcome-alias_at stop ts = Outcome-skip As stop ts (name_at stop) (λ e. Outcome-weaken (name_at stop ts) (name_judged stop ts) (λ n us h. bare_alias e h) (λ f h. no_bare_alias e h)) (λ us e. Outcome-weaken (name_at stop us) (name_judged stop us) (λ n vs h. as_alias e h) (λ f h. no_as_alias e h))

pub alias_at-IsAlias : (stop : Fault) {ts us : List Tok} {n : NameTree} → IsAlias ts n us → alias_at stop ts ≡ Ok (n, us)
unfolding alias_at
alias_at-IsAlias stop (as_alias e h) = rw (after_symbol-First e) (name_agrees stop h)
alias_at-IsAlias stop (bare_alias e h) = rw e (name_agrees stop h)

pub alias_at-AliasFault : (stop : Fault) {ts : List Tok} {f : Fault} → AliasFault stop ts f → alias_at stop ts ≡ Err f
unfolding alias_at
alias_at-AliasFault stop (no_as_alias e h) = rw (after_symbol-First e) (name_fails stop h)
alias_at-AliasFault stop (no_bare_alias e h) = rw e (name_fails stop h)

pub lt-IsAlias : {ts us : List Tok} {n : NameTree} → IsAlias ts n us → length us < length ts
lt-IsAlias (as_alias e h) = omega (arith, lt-First e, name_consumes h)
lt-IsAlias (bare_alias e h) = name_consumes h

pub Outcome-may_alias_at : (stop : Fault) (ts : List Tok) → Outcome (MayAlias ts) (MayAliasFault stop ts) (may_alias_at stop ts)
unfolding may_alias_at
Outcome-may_alias_at stop ts = Outcome-cond (starts_alias ts) _ _ (λ e. Outcome-bind (alias_at stop ts) _ (Outcome-alias_at stop ts) (λ x h. good (some_alias e h)) (λ f h. in_alias e h)) (λ e. good (no_alias e))

pub may_alias_at-MayAlias : (stop : Fault) {ts us : List Tok} {n : Option NameTree} → MayAlias ts n us → may_alias_at stop ts ≡ Ok (n, us)
unfolding may_alias_at
may_alias_at-MayAlias stop (some_alias e h) = rw (e, alias_at-IsAlias stop h) refl
may_alias_at-MayAlias stop (no_alias e) = rw e refl

pub may_alias_at-MayAliasFault : (stop : Fault) {ts : List Tok} {f : Fault} → MayAliasFault stop ts f → may_alias_at stop ts ≡ Err f
unfolding may_alias_at
may_alias_at-MayAliasFault stop (in_alias e h) = rw (e, alias_at-AliasFault stop h) refl

pub le-MayAlias : {ts us : List Tok} {n : Option NameTree} → MayAlias ts n us → length us ≤ length ts
le-MayAlias (some_alias e h) = omega (arith, lt-IsAlias h)
le-MayAlias (no_alias e) = omega arith

-- ---- sources

too_many : (stop : Fault) {ts us : List Tok} {n : NameTree} → IsName ts n us → SourceFault stop 0 ts (long (first_place stop ts))
too_many stop name_is = one_too_many name_is

pub Outcome-source_at : (stop : Fault) (left : ℕ) (ts : List Tok) → Outcome (IsSource left ts) (SourceFault stop left ts) (source_at stop left ts)
unfolding source_at
Outcome-source_at stop zero ts = Outcome-bind (name_at stop ts) _ (name_judged stop ts) (λ x h. bad (too_many stop h)) (λ f h. no_source h)
Outcome-source_at stop (suc left) ts = Outcome-bind (name_at stop ts) _ (name_judged stop ts) (λ x h. Outcome-bind (may_alias_at stop x.1) _ (Outcome-may_alias_at stop x.1) (λ y k. good (source_is h k)) (λ f k. in_source_alias h k)) (λ f h. no_source h)

pub source_at-IsSource : (stop : Fault) {left : ℕ} {ts us : List Tok} {s : SourceTree} → IsSource left ts s us → source_at stop left ts ≡ Ok (s, us)
unfolding source_at
source_at-IsSource stop (source_is h k) = rw (name_agrees stop h, may_alias_at-MayAlias stop k) refl

place_is : (stop : Fault) {ts us : List Tok} {n : List ℕ} {p : ℕ} → IsName ts (Called n p) us → first_place stop ts ≡ p
place_is stop name_is = refl

pub source_at-SourceFault : (stop : Fault) {left : ℕ} {ts : List Tok} {f : Fault} → SourceFault stop left ts f → source_at stop left ts ≡ Err f
unfolding source_at
source_at-SourceFault stop {left = zero} (no_source h) = rw (name_fails stop h) refl
source_at-SourceFault stop {left = suc left} (no_source h) = rw (name_fails stop h) refl
source_at-SourceFault stop (one_too_many h) = rw (name_agrees stop h, place_is stop h) refl
source_at-SourceFault stop (in_source_alias h k) = rw (name_agrees stop h, may_alias_at-MayAliasFault stop k) refl

pub lt-IsSource : {left : ℕ} {ts us : List Tok} {s : SourceTree} → IsSource left ts s us → length us < length ts
lt-IsSource (source_is h k) = omega (arith, name_consumes h, le-MayAlias k)

-- ---- pairs

pub pair_judged : (stop : Fault) (ts : List Tok) → Outcome (IsPair ts) (PairFault stop ts) (pair_at stop ts)
unfolding pair_at
pair_judged stop ts = Outcome-bind (column_at stop ts) _ (Outcome-column_at stop ts) (λ x h. Outcome-need Equal stop x.1 _ (λ e. no_equal h e) (λ us e. Outcome-bind (column_at stop us) _ (Outcome-column_at stop us) (λ y k. good (pair_is h e k)) (λ f k. no_right h e k))) (λ f h. no_left h)

pub pair_agrees : (stop : Fault) {ts us : List Tok} {a : PairTree} → IsPair ts a us → pair_at stop ts ≡ Ok (a, us)
unfolding pair_at
pair_agrees stop (pair_is h e k) = rw (column_at-IsColumn stop h, need-First stop e, column_at-IsColumn stop k) refl

pub pair_fails : (stop : Fault) {ts : List Tok} {f : Fault} → PairFault stop ts f → pair_at stop ts ≡ Err f
unfolding pair_at
pair_fails stop (no_left h) = rw (column_at-ColumnFault stop h) refl
pair_fails stop (no_equal {us = us} h e) = rw (column_at-IsColumn stop h, need-None Equal us stop e) refl
pair_fails stop (no_right h e k) = rw (column_at-IsColumn stop h, need-First stop e, column_at-ColumnFault stop k) refl

pub pair_consumes : {ts us : List Tok} {a : PairTree} → IsPair ts a us → length us ≤ length ts
pair_consumes (pair_is h e k) = omega (arith, le-IsColumn h, lt-First e, le-IsColumn k)

pub pair_items : (stop : Fault) → Itemwise {A = List PairTree} (after_symbol And) (λ _. IsPair) (λ _. PairFault stop) (λ _. pair_at stop)
unfolding after_symbol
pair_items stop = record {
  nothing = refl;
  shorter = λ a b ts us vs s h. omega (arith, lt-First (First-after_symbol And ts us s), pair_consumes h);
  sound = λ a ts us s. pair_judged stop us;
  agrees = λ a b ts us h. pair_agrees stop h;
  fails = λ a ts f h. pair_fails stop h;
}

pub pairs_judged : (stop : Fault) (ts : List Tok) → Outcome (IsPairs ts) (PairsFault stop ts) (list_of And (pair_at stop) ts)
unfolding list_of
pairs_judged stop ts = Outcome-bind (pair_at stop ts) _ (pair_judged stop ts) (λ x h. Outcome-weaken _ (many_judged (pair_items stop) push (length x.1) (x.0 ∷ []) x.1 (omega arith)) (λ bs us k. pairs_is h k) (λ f k. later_pair h k)) (λ f h. first_pair h)

pub pairs_agrees : (stop : Fault) {ts us : List Tok} {bs : List PairTree} → IsPairs ts bs us → list_of And (pair_at stop) ts ≡ Ok (bs, us)
unfolding list_of
pairs_agrees stop (pairs_is h k) = rw (pair_agrees stop h) (many_agrees (pair_items stop) push k _ (omega arith))

pub pairs_fails : (stop : Fault) {ts : List Tok} {f : Fault} → PairsFault stop ts f → list_of And (pair_at stop) ts ≡ Err f
unfolding list_of
pairs_fails stop (first_pair h) = rw (pair_fails stop h) refl
pairs_fails stop (later_pair h k) = rw (pair_agrees stop h) (many_fault_agrees (pair_items stop) push k _ (omega arith))

pub pairs_consumes : {ts us : List Tok} {bs : List PairTree} (stop : Fault) → IsPairs ts bs us → length us ≤ length ts
pairs_consumes stop (pairs_is h k) = omega (arith, pair_consumes h, many_consumes (pair_items stop) push k)

-- ---- joins

pub plain_join_judged : (stop : Fault) (left : ℕ) (ts : List Tok) → Outcome (IsPlainJoin left ts) (PlainJoinFault stop left ts) (plain_join_at stop left ts)
unfolding plain_join_at
plain_join_judged stop left ts = Outcome-need Join stop ts _ (λ e. no_join e) (λ us e. Outcome-bind (source_at stop left us) _ (Outcome-source_at stop left us)
    (λ x h. Outcome-need On stop x.1 _ (λ o. no_on e h o) (λ vs o. Outcome-bind (list_of And (pair_at stop) vs) _ (pairs_judged stop vs) (λ y k. good (plain_join_is e h o k)) (λ f k. no_pairs e h o k)))
    (λ f h. no_join_source e h))

pub plain_join_agrees : (stop : Fault) {left : ℕ} {ts us : List Tok} {j : JoinTree} → IsPlainJoin left ts j us → plain_join_at stop left ts ≡ Ok (j, us)
unfolding plain_join_at
plain_join_agrees stop (plain_join_is e h o k) = rw (need-First stop e, source_at-IsSource stop h, need-First stop o, pairs_agrees stop k) refl

pub plain_join_fails : (stop : Fault) {left : ℕ} {ts : List Tok} {f : Fault} → PlainJoinFault stop left ts f → plain_join_at stop left ts ≡ Err f
unfolding plain_join_at
plain_join_fails stop (no_join {ts = ts} e) = rw (need-None Join ts stop e) refl
plain_join_fails stop (no_join_source e h) = rw (need-First stop e, source_at-SourceFault stop h) refl
plain_join_fails stop (no_on {vs = vs} e h o) = rw (need-First stop e, source_at-IsSource stop h, need-None On vs stop o) refl
plain_join_fails stop (no_pairs e h o k) = rw (need-First stop e, source_at-IsSource stop h, need-First stop o, pairs_fails stop k) refl

pub plain_join_consumes : {left : ℕ} {ts us : List Tok} {j : JoinTree} (stop : Fault) → IsPlainJoin left ts j us → length us < length ts
plain_join_consumes stop (plain_join_is e h o k) = omega (arith, lt-First e, lt-IsSource h, lt-First o, pairs_consumes stop k)

pub join_judged : (stop : Fault) (left : ℕ) (ts : List Tok) → Outcome (IsJoin left ts) (JoinFault stop left ts) (join_at stop left ts)
unfolding join_at
join_judged stop left ts = Outcome-skip Inner stop ts (plain_join_at stop left) (λ e. Outcome-weaken _ (plain_join_judged stop left ts) (λ j us h. bare_join e h) (λ f h. in_bare_join e h)) (λ us e. Outcome-weaken _ (plain_join_judged stop left us) (λ j vs h. inner_join e h) (λ f h. in_inner_join e h))

pub join_agrees : (stop : Fault) {left : ℕ} {ts us : List Tok} {j : JoinTree} → IsJoin left ts j us → join_at stop left ts ≡ Ok (j, us)
unfolding join_at
join_agrees stop (inner_join e h) = rw (after_symbol-First e) (plain_join_agrees stop h)
join_agrees stop (bare_join e h) = rw e (plain_join_agrees stop h)

pub join_fails : (stop : Fault) {left : ℕ} {ts : List Tok} {f : Fault} → JoinFault stop left ts f → join_at stop left ts ≡ Err f
unfolding join_at
join_fails stop (in_inner_join e h) = rw (after_symbol-First e) (plain_join_fails stop h)
join_fails stop (in_bare_join e h) = rw e (plain_join_fails stop h)

pub join_consumes : {left : ℕ} {ts us : List Tok} {j : JoinTree} (stop : Fault) → IsJoin left ts j us → length us < length ts
join_consumes stop (inner_join e h) = omega (arith, lt-First e, plain_join_consumes stop h)
join_consumes stop (bare_join e h) = plain_join_consumes stop h

same_tokens : (b : Bool) (ts us : List Tok) → cond b (Some ts) None ≡ Some us → ts ≡ us
same_tokens true ts us e = cc
same_tokens false ts us e = absurd cc

pub join_items : (stop : Fault) (left : ℕ) → Itemwise {A = List JoinTree} at_join (λ js. IsJoin (left - length js)) (λ js. JoinFault stop (left - length js)) (λ js. join_at stop (left - length js))
unfolding after_symbol
join_items stop left = record {
  nothing = refl;
  shorter = λ a b ts us vs s h. omega (arith, ap length (same_tokens (starts_join ts) ts us s), join_consumes stop h);
  sound = λ a ts us s. join_judged stop (left - length a) us;
  agrees = λ a b ts us h. join_agrees stop h;
  fails = λ a ts f h. join_fails stop h;
}

pub Outcome-joins_at : (stop : Fault) (left : ℕ) (ts : List Tok) → Outcome (AreJoins left ts) (JoinsFault stop left ts) (joins_at stop left ts)
unfolding joins_at
Outcome-joins_at stop left ts = many_judged (join_items stop left) push (length ts) [] ts (omega arith)

pub joins_at-AreJoins : (stop : Fault) (left : ℕ) {ts us : List Tok} {js : List JoinTree} → AreJoins left ts js us → joins_at stop left ts ≡ Ok (js, us)
unfolding joins_at
joins_at-AreJoins stop left h = many_agrees (join_items stop left) push h _ (omega arith)

pub joins_at-JoinsFault : (stop : Fault) (left : ℕ) {ts : List Tok} {f : Fault} → JoinsFault stop left ts f → joins_at stop left ts ≡ Err f
unfolding joins_at
joins_at-JoinsFault stop left h = many_fault_agrees (join_items stop left) push h _ (omega arith)

pub le-AreJoins : (stop : Fault) (left : ℕ) {ts us : List Tok} {js : List JoinTree} → AreJoins left ts js us → length us ≤ length ts
le-AreJoins stop left h = many_consumes (join_items stop left) push h

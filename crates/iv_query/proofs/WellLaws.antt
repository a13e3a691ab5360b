-- Each tree that is read keeps the rules.
use Rattle.std.proofs.Common.{◌≡◌, ℕ, ◌-◌, ◌≤◌, ◌<◌, Bool, true, false, cond, List, [], ◌∷◌, length, Option, Some, None, refl, subst, arith}
use Rattle.std.specs.Prelude.{IsTrue, IfSome, All}
use Rattle.std.proofs.lemmas.List.{length_push}
use Rattle.std.proofs.lemmas.List.Elements.{All-nil, All-push}
use Rattle.iv_rows.specs.Names.{is_name}
use Rattle.iv_rows.specs.Texts.{is_well_text}
use Rattle.iv_query.specs.declared.token.Symbol.{Symbol}
use Rattle.iv_query.specs.declared.token.Symbol.TheVariants as symbol
use Rattle.iv_query.specs.declared.tree.SetOp.{SetOp}
use Rattle.iv_query.specs.declared.tree.Dialect.{Dialect}
use Rattle.iv_query.specs.declared.tree.Dialect.TheVariants.{Query, Policy}
use Rattle.iv_query.specs.Tokens.{Tok, Fixed, Name, Number, Quoted, after_symbol}
use Rattle.iv_query.specs.Trees.{NameTree, ColumnTree, OperandTree, PredTree, SourceTree, PairTree, JoinTree, ItemTree, ListTree, SelectTree, QueryTree}
use Rattle.iv_query.specs.Grammar.{IsColumn, plain, dotted, IsOperand, column_is, name_is as name_operand, number_is, text_is as text_operand, true_is, false_is, user_is, Part, pred, conj, term, ors, ands, Reads, pred_is, ors_end, ors_more, conj_is, ands_end, ands_more, not_is, group_is, holds_is, fails_is, comparison_is}
use Rattle.iv_query.specs.Rules.{First, first, IsName, name_is, Many, many_end, many_more}
use Rattle.iv_query.specs.Parts.{push, starts_join, HeadTree, HeadOf, FromTree, FromOf, starts_set_op, NextTree, combine, sources_in, sources_of}
use Rattle.iv_query.specs.Query.{IsAlias, as_alias, bare_alias, MayAlias, some_alias, no_alias, IsSource, source_is, IsPair, pair_is, IsPairs, pairs_is, IsPlainJoin, plain_join_is, IsJoin, inner_join, bare_join, AreJoins, IsItem, column_item, sum_item, count_item, IsList, star_is, items_is, IsHead, distinct_is, head_is, IsFrom, from_is, MayFilter, some_filter, no_filter, MayGroup, some_group, no_group, IsSelect, select_is, IsSetOp, union_all_is, union_is, except_is, IsNext, next_is, IsQuery, query_is}
use Rattle.iv_query.specs.Well.{IsWellName, IsWellColumn, IsWellOperand, IsWellPred, IsWellSource, IsWellPair, IsWellJoin, IsWellItem, IsWellList, IsWellSelect, IsWellQuery}
use Rattle.iv_query.proofs.Steps.{First-after_symbol}

-- ---- tokens

abbrev pub WellTok : Tok → Type 0
WellTok (Fixed s p) = Unit {0}
WellTok (Name n p) = IsTrue (is_name n)
WellTok (Number n p) = Unit {0}
WellTok (Quoted v p) = IsTrue (is_well_text v)

abbrev pub WellToks : List Tok → Type 0
WellToks [] = Unit {0}
WellToks (t ∷ ts) = WellTok t × WellToks ts

behind : {s : Symbol} {p : ℕ} {ts us : List Tok} → First s p ts us → WellToks ts → WellToks us
behind first w = w.1

name_well : {ts us : List Tok} {n : NameTree} → IsName ts n us → WellToks ts → IsWellName n × WellToks us
name_well name_is w = w

column_well : {ts us : List Tok} {c : ColumnTree} → IsColumn ts c us → WellToks ts → IsWellColumn c × WellToks us
column_well (plain e) w = w
column_well dotted w = ((w.0, w.1.1.0), w.1.1.1)

operand_well : {d : Dialect} {ts us : List Tok} {x : OperandTree} → IsOperand d ts x us → WellToks ts → IsWellOperand d x × WellToks us
operand_well (column_is h) w = column_well h w
operand_well name_operand w = w
operand_well {d = Query} number_is w = (refl, w.1)
operand_well {d = Policy} number_is w = (refl, w.1)
operand_well {d = Query} text_operand w = w
operand_well {d = Policy} text_operand w = w
operand_well {d = Query} true_is w = (refl, w.1)
operand_well {d = Policy} true_is w = (refl, w.1)
operand_well {d = Query} false_is w = (refl, w.1)
operand_well {d = Policy} false_is w = (refl, w.1)
operand_well user_is w = w

-- ---- predicates

abbrev SoFar : Dialect → Part → Type 0
SoFar d pred = Unit {0}
SoFar d conj = Unit {0}
SoFar d term = Unit {0}
SoFar d (ors a) = IsWellPred d a
SoFar d (ands a) = IsWellPred d a

reads_well : {d : Dialect} {s : Part} {room : ℕ} {ts us : List Tok} {t : PredTree} → Reads d s room ts t us → SoFar d s → WellToks ts → IsWellPred d t × WellToks us
reads_well (pred_is h k) a w = let x = reads_well h tt w in reads_well k x.0 x.1
reads_well (ors_end e) a w = (a, w)
reads_well (ors_more h k) a w = let x = reads_well h tt w.1 in reads_well k (a, x.0) x.1
reads_well (conj_is h k) a w = let x = reads_well h tt w in reads_well k x.0 x.1
reads_well (ands_end e) a w = (a, w)
reads_well (ands_more h k) a w = let x = reads_well h tt w.1 in reads_well k (a, x.0) x.1
reads_well (not_is h) a w = reads_well h tt w.1
reads_well (group_is h) a w = let x = reads_well h tt w.1 in (x.0, x.1.1)
reads_well (holds_is e) a w = (tt, w.1)
reads_well (fails_is e) a w = (tt, w.1)
reads_well (comparison_is h e k) a w = let x = operand_well h w in let y = operand_well k x.1.1 in ((x.0, y.0), y.1)

pub IsWellPred-Reads : {d : Dialect} {ts us : List Tok} {t : PredTree} → Reads d pred 32 ts t us → WellToks ts → IsWellPred d t
IsWellPred-Reads h w = (reads_well h tt w).0

-- ---- queries

many_well : {A B : Type 0} {sign : List Tok → Option (List Tok)} {Item : A → List Tok → B → List Tok → Type 0} {join : A → B → A} (P : A → Type 0) → ((ts us : List Tok) → sign ts ≡ Some us → WellToks ts → WellToks us)
    → ((a : A) (b : B) (ts us : List Tok) → P a → Item a ts b us → WellToks ts → P (join a b) × WellToks us) → {a t : A} {ts us : List Tok} → Many sign Item join a ts t us → P a → WellToks ts → P t × WellToks us
many_well P keeps item (many_end e) a w = (a, w)
many_well P keeps item (many_more e h k) a w = let x = item _ _ _ _ a h (keeps _ _ e w) in many_well P keeps item k x.0 x.1

-- items that are one more at the end
list_well : {B : Type 0} (IsWell : B → Type 0) {sign : List Tok → Option (List Tok)} {Item : List B → List Tok → B → List Tok → Type 0} → ((ts us : List Tok) → sign ts ≡ Some us → WellToks ts → WellToks us)
    → ((a : List B) (b : B) (ts us : List Tok) → Item a ts b us → WellToks ts → IsWell b × WellToks us) → {a t : List B} {ts us : List Tok} → Many sign Item push a ts t us → All IsWell a → WellToks ts → All IsWell t × WellToks us
list_well IsWell keeps item h a w = many_well (All IsWell) keeps (λ a b ts us p h v. let x = item a b ts us h v in (All-push IsWell a b p x.0, x.1)) h a w

grows : {B : Type 0} {sign : List Tok → Option (List Tok)} {Item : List B → List Tok → B → List Tok → Type 0} {a t : List B} {ts us : List Tok} → Many sign Item push a ts t us → length a ≤ length t
grows (many_end e) = omega arith
grows (many_more {a = a} {b = b} e h k) = omega (arith, length_push a b, grows k)

past : (s : Symbol) (ts us : List Tok) → after_symbol s ts ≡ Some us → WellToks ts → WellToks us
past s ts us e w = behind (First-after_symbol s ts us e) w

same : (b : Bool) (ts us : List Tok) → cond b (Some ts) None ≡ Some us → WellToks ts → WellToks us
same true ts us e w = let k : ts ≡ us = cc in subst WellToks k w
same false ts us e w = absurd cc

alias_well : {ts us : List Tok} {n : NameTree} → IsAlias ts n us → WellToks ts → IsWellName n × WellToks us
alias_well (as_alias e h) w = name_well h (behind e w)
alias_well (bare_alias e h) w = name_well h w

may_alias_well : {ts us : List Tok} {n : Option NameTree} → MayAlias ts n us → WellToks ts → IfSome n IsWellName × WellToks us
may_alias_well (some_alias e h) w = alias_well h w
may_alias_well (no_alias e) w = (tt, w)

source_well : {left : ℕ} {ts us : List Tok} {s : SourceTree} → IsSource left ts s us → WellToks ts → IsWellSource s × WellToks us
source_well (source_is h k) w = let x = name_well h w in let y = may_alias_well k x.1 in ((x.0, y.0), y.1)

pair_well : {ts us : List Tok} {a : PairTree} → IsPair ts a us → WellToks ts → IsWellPair a × WellToks us
pair_well (pair_is h e k) w = let x = column_well h w in let y = column_well k (behind e x.1) in ((x.0, y.0), y.1)

one : {B : Type 0} (IsWell : B → Type 0) (b : B) → IsWell b → All IsWell (b ∷ [])
one IsWell b h = All-push IsWell [] b (All-nil IsWell) h

pairs_well : {ts us : List Tok} {bs : List PairTree} → IsPairs ts bs us → WellToks ts → ((0 < length bs) × All IsWellPair bs) × WellToks us
pairs_well (pairs_is h k) w =
    let x = pair_well h w in
    let y = list_well IsWellPair (past symbol.And) (λ a b ts us. pair_well) k (one IsWellPair _ x.0) x.1 in
    let n = grows k in
    ((omega arith, y.0), y.1)

plain_join_well : {left : ℕ} {ts us : List Tok} {j : JoinTree} → IsPlainJoin left ts j us → WellToks ts → IsWellJoin j × WellToks us
plain_join_well (plain_join_is e h o k) w = let x = source_well h (behind e w) in let y = pairs_well k (behind o x.1) in ((x.0, y.0.0, y.0.1), y.1)

join_well : {left : ℕ} {ts us : List Tok} {j : JoinTree} → IsJoin left ts j us → WellToks ts → IsWellJoin j × WellToks us
join_well (inner_join e h) w = plain_join_well h (behind e w)
join_well (bare_join e h) w = plain_join_well h w

item_well : {ts us : List Tok} {i : ItemTree} → IsItem ts i us → WellToks ts → IsWellItem i × WellToks us
item_well (column_item s c h k) w = let x = column_well h w in let y = may_alias_well k x.1 in ((x.0, y.0), y.1)
item_well (sum_item e o h c k) w = let x = column_well h (behind o (behind e w)) in let y = alias_well k (behind c x.1) in ((x.0, y.0), y.1)
item_well (count_item e o s c k) w = alias_well k (behind c (behind s (behind o (behind e w))))

columns_well : {ts us : List Tok} {l : ListTree} → IsList ts l us → WellToks ts → IsWellList l × WellToks us
columns_well (star_is e) w = (tt, behind e w)
columns_well (items_is s h k) w =
    let x = item_well h w in
    let y = list_well IsWellItem (past symbol.Comma) (λ a b ts us. item_well) k (one IsWellItem _ x.0) x.1 in
    let n = grows k in
    ((omega arith, y.0), y.1)

abbrev WellHead : HeadTree → Type 0
WellHead (HeadOf p d l) = IsWellList l

head_well : {ts us : List Tok} {h : HeadTree} → IsHead ts h us → WellToks ts → WellHead h × WellToks us
head_well (distinct_is e d h) w = columns_well h (behind d (behind e w))
head_well (head_is e d h) w = columns_well h (behind e w)

abbrev WellFrom : FromTree → Type 0
WellFrom (FromOf s js) = IsWellSource s × All IsWellJoin js

from_well : {left : ℕ} {ts us : List Tok} {b : FromTree} → IsFrom left ts b us → WellToks ts → WellFrom b × WellToks us
from_well (from_is e h k) w =
    let x = source_well h (behind e w) in
    let y = list_well IsWellJoin (λ ts us. same (starts_join ts) ts us) (λ a b ts us. join_well) k (All-nil IsWellJoin) x.1 in
    ((x.0, y.0), y.1)

filter_well : {ts us : List Tok} {f : Option PredTree} → MayFilter ts f us → WellToks ts → IfSome f (IsWellPred Query) × WellToks us
filter_well (some_filter e h) w = reads_well h tt (behind e w)
filter_well (no_filter e) w = (tt, w)

group_well : {ts us : List Tok} {g : List ColumnTree} → MayGroup ts g us → WellToks ts → All IsWellColumn g × WellToks us
group_well (some_group e b h k) w =
    let x = column_well h (behind b (behind e w)) in
    list_well IsWellColumn (past symbol.Comma) (λ a b ts us. column_well) k (one IsWellColumn _ x.0) x.1
group_well (no_group e) w = (All-nil IsWellColumn, w)

select_well : {left : ℕ} {ts us : List Tok} {s : SelectTree} → IsSelect left ts s us → WellToks ts → IsWellSelect s × WellToks us
select_well (select_is h b f g) w =
    let x = head_well h w in let y = from_well b x.1 in let z = filter_well f y.1 in let k = group_well g z.1 in
    ((x.0, y.0.0, y.0.1, z.0, k.0), k.1)

op_well : {ts us : List Tok} {o : SetOp} → IsSetOp ts o us → WellToks ts → WellToks us
op_well (union_all_is u a) w = behind a (behind u w)
op_well (union_is u a) w = behind u w
op_well (except_is x) w = behind x w

next_well : {left : ℕ} {ts us : List Tok} (q : QueryTree) (n : NextTree) → IsNext left ts n us → IsWellQuery q → WellToks ts → IsWellQuery (combine q n) × WellToks us
next_well q _ (next_is h k) p w = let x = select_well k (op_well h w) in ((p, x.0), x.1)

pub IsWellQuery-IsQuery : {ts us : List Tok} {q : QueryTree} → IsQuery ts q us → WellToks ts → IsWellQuery q
IsWellQuery-IsQuery (query_is h k) w =
    let x = select_well h w in
    (many_well IsWellQuery (λ ts us. same (starts_set_op ts) ts us) (λ a b ts us p n v. next_well a b n p v) k x.0 x.1).0

-- ---- at most eight sources

many_keeps : {A B : Type 0} {sign : List Tok → Option (List Tok)} {Item : A → List Tok → B → List Tok → Type 0} {join : A → B → A} (P : A → Type 0)
    → ((a : A) (b : B) (ts us : List Tok) → P a → Item a ts b us → P (join a b)) → {a t : A} {ts us : List Tok} → Many sign Item join a ts t us → P a → P t
many_keeps P item (many_end e) a = a
many_keeps P item (many_more e h k) a = many_keeps P item k (item _ _ _ _ a h)

some_left : {left : ℕ} {ts us : List Tok} {s : SourceTree} → IsSource left ts s us → 1 ≤ left
some_left (source_is h k) = omega arith

plain_left : {left : ℕ} {ts us : List Tok} {j : JoinTree} → IsPlainJoin left ts j us → 1 ≤ left
plain_left (plain_join_is e h o k) = some_left h

join_left : {left : ℕ} {ts us : List Tok} {j : JoinTree} → IsJoin left ts j us → 1 ≤ left
join_left (inner_join e h) = plain_left h
join_left (bare_join e h) = plain_left h

joins_left : (left : ℕ) {ts us : List Tok} {js : List JoinTree} → AreJoins left ts js us → length js ≤ left
joins_left left h = many_keeps (λ js. length js ≤ left) (λ a b ts us p k. let n = join_left k in omega (arith, length_push a b)) h (omega arith)

select_sources : {left : ℕ} {ts us : List Tok} {s : SelectTree} → IsSelect left ts s us → sources_in s ≤ left
select_sources {left = left} (select_is h (from_is e k j) f g) = let n = some_left k in let m = joins_left (left - 1) j in omega arith

next_sources : {left : ℕ} {ts us : List Tok} (q : QueryTree) (n : NextTree) → IsNext left ts n us → left ≡ 8 - sources_of q → sources_of q ≤ 8 → sources_of (combine q n) ≤ 8
next_sources q _ (next_is h k) e le = let n = select_sources k in omega arith

pub le-sources_of : {ts us : List Tok} {q : QueryTree} → IsQuery ts q us → sources_of q ≤ 8
le-sources_of (query_is h k) = many_keeps (λ q. sources_of q ≤ 8) (λ a b ts us p n. next_sources a b n refl p) k (select_sources h)

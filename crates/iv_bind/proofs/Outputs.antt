-- What the output of a select keeps: each column has its kind, and the names are those of a schema.
use Rattle.std.proofs.Common.{◌≡◌, ℕ, suc, ◌+◌, ◌-◌, ◌≤◌, Bool, true, false, cond, List, [], ◌∷◌, ◌++◌, map, length, Option, Some, None, Ok, Err, refl, sym, ap, subst, ◌∙◌, arith, append_assoc, length-append, inl, inr}
use Rattle.std.specs.Prelude.{◌==◌, ◌||◌, ◌⊎◌, not, slice_get, nat_lt, bytes_eq, if◌then◌else◌}
use Rattle.std.specs.List.{All, list_all, list_any, position_from}
use Rattle.std.proofs.lemmas.List.{map-append}
use Rattle.std.proofs.lemmas.List.Folds.{list_any-append}
use Rattle.std.proofs.lemmas.Option.{slice_get_within}
use Rattle.std.proofs.lemmas.Slice.Eq.{bytes_eq-Decides}
use borrow.Author.Tests.{lt-ltb, eqb-true}
use Rattle.iv_rows.specs.Names.{is_name}
use Rattle.iv_rows.specs.Columns.{Column, kinds_of, has_distinct_names}
use Rattle.iv_rows.specs.declared.value.Kind.{Kind}
use Rattle.iv_rows.specs.declared.value.Kind.TheVariants as kind
use Rattle.iv_zset.specs.Bags.{stands}
use Rattle.iv_query.specs.Trees.{NameTree, Called, ColumnTree, ColumnAt, ItemTree, ItemOf, SumOf, CountOf}
use Rattle.iv_algebra.specs.declared.plan.Agg.{Agg}
use Rattle.iv_algebra.specs.declared.plan.Agg.TheVariants.{Sum, Count}
use Rattle.iv_algebra.specs.Predicates.{kind_eq, same_kind}
use Rattle.iv_algebra.specs.Fits.{or_flag, kind_at, are_there, agg_fits, group_kinds}
use Rattle.iv_bind.specs.declared.fault.BindWhy.TheVariants as why
use Rattle.iv_bind.specs.Faults.{FaultAt, ◌>>=◌, through}
use Rattle.iv_rows.specs.Options.{if_some}
use Rattle.iv_bind.specs.Binding.{Named, Out, column_place, column_bound, keys_bound, first_aggregate, nothing, output_bound, within_group, output_name, name_text, aggregated, item_bound, star_bound}
use Rattle.iv_query.specs.Well.{IsWellName, IsWellItem}
use Rattle.iv_bind.proofs.Inversion.{Ok-bind, Ok-then, Ok-else, Ok-if_some, through-keeps, all_head, all_tail}
use Rattle.iv_bind.proofs.Columns.{kinds_in, slice_get-column_bound}
use Rattle.iv_bind.proofs.Predicates.{and_parts, and_whole}
use Rattle.iv_bind.proofs.Joins.{slice_get-append_front, slice_get-append_back, list_all-push}

-- ---- kinds at places

-- each column of the output has the kind that stands at its place below
abbrev pub AreAt : List Kind → List ℕ → List Column → Type 0
AreAt kinds [] [] = Unit {0}
AreAt kinds [] (c ∷ cs) = ⊥
AreAt kinds (k ∷ ks) [] = ⊥
AreAt kinds (k ∷ ks) (c ∷ cs) = (slice_get kinds k ≡ Some c.kind) × AreAt kinds ks cs

at_push : (kinds : List Kind) (ks : List ℕ) (cs : List Column) (k : ℕ) (c : Column) → AreAt kinds ks cs → slice_get kinds k ≡ Some c.kind → AreAt kinds (ks ++ k ∷ []) (cs ++ c ∷ [])
at_push kinds [] [] k c a h = (h, tt)
at_push kinds [] (d ∷ ds) k c a h = absurd a
at_push kinds (j ∷ js) [] k c a h = absurd a
at_push kinds (j ∷ js) (d ∷ ds) k c a h = (a.0, at_push kinds js ds k c a.1 h)

at_more : (kinds more : List Kind) (ks : List ℕ) (cs : List Column) → AreAt kinds ks cs → AreAt (kinds ++ more) ks cs
at_more kinds more [] [] a = tt
at_more kinds more [] (d ∷ ds) a = absurd a
at_more kinds more (j ∷ js) [] a = absurd a
at_more kinds more (j ∷ js) (d ∷ ds) a = (slice_get-append_front kinds more j (slice_get_within kinds j d.kind a.0) ∙ a.0, at_more kinds more js ds a.1)

pub are_there-AreAt : (kinds : List Kind) (ks : List ℕ) (cs : List Column) → AreAt kinds ks cs → are_there kinds ks ≡ true
are_there-AreAt kinds [] [] a = refl
are_there-AreAt kinds [] (d ∷ ds) a = absurd a
are_there-AreAt kinds (j ∷ js) [] a = absurd a
are_there-AreAt kinds (j ∷ js) (d ∷ ds) a = and_whole (nat_lt j (length kinds)) (are_there kinds js) (lt-ltb j (length kinds) (slice_get_within kinds j d.kind a.0)) (are_there-AreAt kinds js ds a.1)

pub map-AreAt : (kinds : List Kind) (ks : List ℕ) (cs : List Column) → AreAt kinds ks cs → map (kind_at kinds) ks ≡ kinds_of cs
map-AreAt kinds [] [] a = refl
map-AreAt kinds [] (d ∷ ds) a = absurd a
map-AreAt kinds (j ∷ js) [] a = absurd a
map-AreAt kinds (j ∷ js) (d ∷ ds) a = λ i. or_flag (a.0 i) ∷ map-AreAt kinds js ds a.1 i

pub length-AreAt : (kinds : List Kind) (ks : List ℕ) (cs : List Column) → AreAt kinds ks cs → length ks ≡ length cs
length-AreAt kinds [] [] a = refl
length-AreAt kinds [] (d ∷ ds) a = absurd a
length-AreAt kinds (j ∷ js) [] a = absurd a
length-AreAt kinds (j ∷ js) (d ∷ ds) a = ap suc (length-AreAt kinds js ds a.1)

-- ---- names

bytes_false : (a b : List ℕ) (t : Bool) → bytes_eq b a ≡ t → bytes_eq a b ≡ false → t ≡ false
bytes_false a b false e h = refl
bytes_false a b true e h =
    let same : b ≡ a = (bytes_eq-Decides b a).0 e in
    let one : bytes_eq a b ≡ true = (bytes_eq-Decides a b).1 (sym same) in
    cc

or_parts : (a b : Bool) → (a || b) ≡ false → (a ≡ false) × (b ≡ false)
or_parts true b h = cc
or_parts false b h = (refl, h)

not_or : (a b : Bool) → not a ≡ true → b ≡ false → not (a || b) ≡ true
not_or true b h g = cc
not_or false b h g = ap not g

distinct_push : (cs : List Column) (c : Column) → has_distinct_names cs ≡ true → list_any (λ d. bytes_eq c.name d.name) cs ≡ false → has_distinct_names (cs ++ c ∷ []) ≡ true
distinct_push [] c h g = refl
distinct_push (d ∷ ds) c h g =
    let p = and_parts (not (list_any (λ x. bytes_eq d.name x.name) ds)) (has_distinct_names ds) h in
    let q = or_parts (bytes_eq c.name d.name) (list_any (λ x. bytes_eq c.name x.name) ds) g in
    let one : (bytes_eq d.name c.name || false) ≡ false = ap (λ b. b || false) (bytes_false c.name d.name (bytes_eq d.name c.name) refl q.0) in
    let some : not (list_any (λ x. bytes_eq d.name x.name) (ds ++ c ∷ [])) ≡ true = ap not (list_any-append (λ x. bytes_eq d.name x.name) ds (c ∷ [])) ∙ not_or (list_any (λ x. bytes_eq d.name x.name) ds) (bytes_eq d.name c.name || false) p.0 one in
    and_whole (not (list_any (λ x. bytes_eq d.name x.name) (ds ++ c ∷ []))) (has_distinct_names (ds ++ c ∷ [])) some (distinct_push ds c p.1 q.1)

-- ---- outputs

-- the kinds of the rows below the output
abbrev pub below : List Kind → List ℕ → List Agg → List Kind
below kinds [] aggs = kinds
below kinds (k ∷ keys) aggs = group_kinds kinds (k ∷ keys) aggs

pub record IsOut (kinds : List Kind) (keys : List ℕ) (out : Out) : Type 0 where
  pub columns : AreAt (below kinds keys out.aggs) out.columns out.schema
  pub aggs : list_all (agg_fits kinds) out.aggs ≡ true
  pub names : list_all (λ c. is_name c.name) out.schema ≡ true
  pub distinct : has_distinct_names out.schema ≡ true

pub nothing_is : (kinds : List Kind) (keys : List ℕ) → IsOut kinds keys nothing
nothing_is kinds keys = record { columns = tt; aggs = refl; names = refl; distinct = refl }

abbrev with_column : Out → ℕ → List ℕ → Kind → Out
with_column out k name kind = record out { columns = out.columns ++ k ∷ []; schema = out.schema ++ (record { name = name; kind = kind }) ∷ [] }

pub output_keeps : (kinds : List Kind) (keys : List ℕ) (p : ℕ) (out : Out) (k : ℕ) (name : List ℕ) (kd : Kind) (o : Out) → IsOut kinds keys out → slice_get (below kinds keys out.aggs) k ≡ Some kd → is_name name ≡ true → output_bound p out k name kd ≡ Ok o → IsOut kinds keys o × (1 ≤ length o.schema) × (length o.columns ≡ length out.columns + 1)
unfolding output_bound
output_keeps kinds keys p out k name kd o is at n h =
    let s = Ok-else (list_any (λ c. bytes_eq name c.name) out.schema) (FaultAt p why.DuplicateName) (Ok (with_column out k name kd)) o h in
    let e : with_column out k name kd ≡ o = cc in
    let c : Column = record { name = name; kind = kd } in
    let P : Out → Type 0 = λ x. IsOut kinds keys x × (1 ≤ length x.schema) × (length x.columns ≡ length out.columns + 1) in
    subst P e (
      record {
        columns = at_push (below kinds keys out.aggs) out.columns out.schema k c is.columns at;
        aggs = is.aggs;
        names = list_all-push (λ d. is_name d.name) out.schema c is.names n;
        distinct = distinct_push out.schema c is.distinct s.0;
      },
      omega (arith, length-append out.schema (c ∷ [])),
      length-append out.columns (k ∷ []),
    )

-- ---- items

at_once : (a : Kind) (ks : List Kind) (i : ℕ) → slice_get (a ∷ ks) (i - i) ≡ Some a
at_once a ks i = let e : i - i ≡ 0 = omega arith in rw e refl

abbrev IsAtKey : List Kind → List ℕ → ℕ → ℕ → ℕ → Type 0
IsAtKey kinds keys x i k = (i ≤ k) × (slice_get (map (kind_at kinds) keys) (k - i) ≡ Some (kind_at kinds x))

key_case : (kinds : List Kind) (key : ℕ) (keys : List ℕ) (x i k : ℕ) (rest : Option ℕ) (b : Bool) → (x == key) ≡ b → (rest ≡ Some k → IsAtKey kinds keys x (i + 1) k) → cond b (Some i) rest ≡ Some k → IsAtKey kinds (key ∷ keys) x i k
key_case kinds key keys x i k rest true t later h =
    let e : i ≡ k = cc in
    let same : x ≡ key = eqb-true x key t in
    let P : ℕ → Type 0 = λ j. IsAtKey kinds (key ∷ keys) x i j in
    subst P e (omega arith, at_once (kind_at kinds key) (map (kind_at kinds) keys) i ∙ ap (λ j. Some (kind_at kinds j)) (sym same))
key_case kinds key keys x i k rest false t later h =
    let l = later h in
    let e : k - i ≡ suc (k - (i + 1)) = omega (arith, l.0) in
    (omega (arith, l.0), ap (slice_get (kind_at kinds key ∷ map (kind_at kinds) keys)) e ∙ l.1)

key_kind : (kinds : List Kind) (keys : List ℕ) (x i k : ℕ) → position_from (λ j. x == j) i keys ≡ Some k → IsAtKey kinds keys x i k
key_kind kinds [] x i k h = cc
key_kind kinds (key ∷ keys) x i k h = key_case kinds key keys x i k (position_from (λ j. x == j) (i + 1) keys) (x == key) refl (key_kind kinds keys x (i + 1) k) h

-- the place of a column below the output has its kind
within_kind : (kinds : List Kind) (keys : List ℕ) (aggs : List Agg) (x k : ℕ) (kd : Kind) → slice_get kinds x ≡ Some kd → within_group keys x ≡ Some k → slice_get (below kinds keys aggs) k ≡ Some kd
within_kind kinds [] aggs x k kd f h = let e : x ≡ k = cc in ap (slice_get kinds) (sym e) ∙ f
within_kind kinds (key ∷ keys) aggs x k kd f h =
    let a = key_kind kinds (key ∷ keys) x 0 k h in
    let z : k - 0 ≡ k = omega arith in
    let here : slice_get (map (kind_at kinds) (key ∷ keys)) k ≡ Some kd = ap (slice_get (map (kind_at kinds) (key ∷ keys))) (sym z) ∙ a.1 ∙ ap (λ o. Some (or_flag o)) f in
    slice_get-append_front (map (kind_at kinds) (key ∷ keys)) (map (λ g. kind.Int) aggs) k (slice_get_within (map (kind_at kinds) (key ∷ keys)) k kd here) ∙ here

map_length : {A B : Type 0} (f : A → B) (xs : List A) → length (map f xs) ≡ length xs
map_length f [] = refl
map_length f (x ∷ xs) = ap suc (map_length f xs)

-- one aggregate more: a number behind what stood there
below_push : (kinds : List Kind) (key : ℕ) (keys : List ℕ) (aggs : List Agg) (a : Agg) → below kinds (key ∷ keys) (aggs ++ a ∷ []) ≡ below kinds (key ∷ keys) aggs ++ kind.Int ∷ []
below_push kinds key keys aggs a =
    ap (λ ks. map (kind_at kinds) (key ∷ keys) ++ ks) (map-append (λ g. kind.Int) aggs (a ∷ []))
    ∙ sym (append_assoc (map (kind_at kinds) (key ∷ keys)) (map (λ g. kind.Int) aggs) (kind.Int ∷ []))

below_length : (kinds : List Kind) (key : ℕ) (keys : List ℕ) (aggs : List Agg) → length (below kinds (key ∷ keys) aggs) ≡ length (key ∷ keys) + length aggs
below_length kinds key keys aggs = length-append (map (kind_at kinds) (key ∷ keys)) (map (λ g. kind.Int) aggs) ∙ (λ i. map_length (kind_at kinds) (key ∷ keys) i + map_length (λ (g : Agg). kind.Int) aggs i)

last_kind : (ks : List Kind) (n : ℕ) (k : Kind) → length ks ≡ n → slice_get (ks ++ k ∷ []) n ≡ Some k
last_kind ks n k e = slice_get-append_back ks (k ∷ []) n (omega (arith, e)) ∙ ap (λ m. slice_get (k ∷ []) (n - m)) e ∙ at_once k [] n

agg_kind : (kinds : List Kind) (key : ℕ) (keys : List ℕ) (aggs : List Agg) (a : Agg) → slice_get (below kinds (key ∷ keys) (aggs ++ a ∷ [])) (length (key ∷ keys) + length aggs) ≡ Some kind.Int
agg_kind kinds key keys aggs a =
    ap (λ ks. slice_get ks (length (key ∷ keys) + length aggs)) (below_push kinds key keys aggs a)
    ∙ last_kind (below kinds (key ∷ keys) aggs) (length (key ∷ keys) + length aggs) kind.Int (below_length kinds key keys aggs)

aggregated_keeps : (kinds : List Kind) (key : ℕ) (keys : List ℕ) (out : Out) (a : Agg) → IsOut kinds (key ∷ keys) out → agg_fits kinds a ≡ true → IsOut kinds (key ∷ keys) (aggregated out a)
aggregated_keeps kinds key keys out a is f = record {
  columns = let P : List Kind → Type 0 = λ ks. AreAt ks out.columns out.schema in
      subst P (sym (below_push kinds key keys out.aggs a)) (at_more (below kinds (key ∷ keys) out.aggs) (kind.Int ∷ []) out.columns out.schema is.columns);
  aggs = list_all-push (agg_fits kinds) out.aggs a is.aggs f;
  names = is.names;
  distinct = is.distinct;
}

-- an aggregate goes with keys alone
abbrev pub Goes : List ℕ → ItemTree → Type 0
Goes [] (ItemOf c alias) = Unit {0}
Goes [] (SumOf p c alias) = ⊥
Goes [] (CountOf p alias) = ⊥
Goes (k ∷ keys) i = Unit {0}

name_well : (c : ColumnTree) (alias : Option NameTree) → IsWellItem (ItemOf c alias) → is_name (output_name c alias) ≡ true
name_well (ColumnAt None name p) None h = h.0
name_well (ColumnAt (Some source) name p) None h = h.0.1
name_well (ColumnAt source name p) (Some (Called s q)) h = h.1

called_well : (n : NameTree) → IsWellName n → is_name (name_text n) ≡ true
called_well (Called s p) h = h

abbrev Keeps : List Kind → List ℕ → Out → Type 0
Keeps kinds keys o = IsOut kinds keys o × (1 ≤ length o.schema)

column_item : (scope : List Named) (keys : List ℕ) (out : Out) (c : ColumnTree) (alias : Option NameTree) (o : Out) → IsOut (kinds_in scope) keys out → IsWellItem (ItemOf c alias) → item_bound scope keys out (ItemOf c alias) ≡ Ok o → Keeps (kinds_in scope) keys o
unfolding item_bound
column_item scope keys out c alias o is w h =
    let s = Ok-bind (column_bound scope c) (λ x. if_some (within_group keys x.0) (Err (FaultAt (column_place c) why.NotGrouped)) (λ k. output_bound (column_place c) out k (output_name c alias) x.1)) o h in
    let x = s.0 in
    let t = Ok-if_some (within_group keys x.0) (FaultAt (column_place c) why.NotGrouped) (λ k. output_bound (column_place c) out k (output_name c alias) x.1) o s.2 in
    let r = output_keeps (kinds_in scope) keys (column_place c) out t.0 (output_name c alias) x.1 o is (within_kind (kinds_in scope) keys out.aggs x.0 t.0 x.1 (slice_get-column_bound scope c x s.1) t.1) (name_well c alias w) t.2 in
    (r.0, r.1)

behind_keys : (kinds : List Kind) (key : ℕ) (keys : List ℕ) (p : ℕ) (out : Out) (a : Agg) (n : NameTree) (o : Out) → IsOut kinds (key ∷ keys) out → agg_fits kinds a ≡ true → IsWellName n
    → output_bound p (aggregated out a) (length (key ∷ keys) + length out.aggs) (name_text n) kind.Int ≡ Ok o → Keeps kinds (key ∷ keys) o
behind_keys kinds key keys p out a n o is f w h =
    let r = output_keeps kinds (key ∷ keys) p (aggregated out a) (length (key ∷ keys) + length out.aggs) (name_text n) kind.Int o (aggregated_keeps kinds key keys out a is f) (agg_kind kinds key keys out.aggs a) (called_well n w) h in
    (r.0, r.1)

item_keeps : (scope : List Named) (keys : List ℕ) (out : Out) (i : ItemTree) (o : Out) → IsOut (kinds_in scope) keys out → Goes keys i → IsWellItem i → item_bound scope keys out i ≡ Ok o → Keeps (kinds_in scope) keys o
unfolding item_bound
item_keeps scope [] out (ItemOf c alias) o is g w h = column_item scope [] out c alias o is w h
item_keeps scope [] out (SumOf p c alias) o is g w h = absurd g
item_keeps scope [] out (CountOf p alias) o is g w h = absurd g
item_keeps scope (key ∷ keys) out (ItemOf c alias) o is g w h = column_item scope (key ∷ keys) out c alias o is w h
item_keeps scope (key ∷ keys) out (SumOf p c alias) o is g w h =
    let s = Ok-bind (column_bound scope c) (λ x. if kind_eq x.1 kind.Int then output_bound p (aggregated out (Sum x.0)) (length (key ∷ keys) + length out.aggs) (name_text alias) kind.Int else Err (FaultAt (column_place c) why.KindMismatch)) o h in
    let x = s.0 in
    let t = Ok-then (kind_eq x.1 kind.Int) (output_bound p (aggregated out (Sum x.0)) (length (key ∷ keys) + length out.aggs) (name_text alias) kind.Int) (FaultAt (column_place c) why.KindMismatch) o s.2 in
    behind_keys (kinds_in scope) key keys p out (Sum x.0) alias o is (ap (λ k. same_kind k (Some kind.Int)) (slice_get-column_bound scope c x s.1) ∙ t.0) w.1 t.1
item_keeps scope (key ∷ keys) out (CountOf p alias) o is g w h = behind_keys (kinds_in scope) key keys p out Count alias o is refl w h

-- no item is an aggregate, or there is a key
abbrev AllGo : List ℕ → List ItemTree → Type 0
AllGo keys [] = Unit {0}
AllGo keys (i ∷ items) = Goes keys i × AllGo keys items

none_left : (items : List ItemTree) → first_aggregate items ≡ None → AllGo [] items
none_left [] h = tt
none_left (ItemOf c alias ∷ items) h = (tt, none_left items h)
none_left (SumOf p c alias ∷ items) h = cc
none_left (CountOf p alias ∷ items) h = cc

all_go : (k : ℕ) (keys : List ℕ) (items : List ItemTree) → AllGo (k ∷ keys) items
all_go k keys [] = tt
all_go k keys (i ∷ items) = (tt, all_go k keys items)

items_keep : (scope : List Named) (keys : List ℕ) (out : Out) (items : List ItemTree) (o : Out) → Keeps (kinds_in scope) keys out → AllGo keys items → All IsWellItem items → through (item_bound scope keys) out items ≡ Ok o → Keeps (kinds_in scope) keys o
items_keep scope keys out [] o is g w h = let e : out ≡ o = cc in let P : Out → Type 0 = λ x. Keeps (kinds_in scope) keys x in subst P e is
items_keep scope keys out (i ∷ items) o is g w h =
    let s = Ok-bind (item_bound scope keys out i) (λ d. through (item_bound scope keys) d items) o h in
    items_keep scope keys s.0 items o (item_keeps scope keys out i s.0 is.0 g.0 (all_head IsWellItem i items w) s.1) g.1 (all_tail IsWellItem i items w) s.2

listed : (scope : List Named) (keys : List ℕ) (i : ItemTree) (items : List ItemTree) (o : Out) → AllGo keys (i ∷ items) → All IsWellItem (i ∷ items) → through (item_bound scope keys) nothing (i ∷ items) ≡ Ok o → Keeps (kinds_in scope) keys o
listed scope keys i items o g w h =
    let s = Ok-bind (item_bound scope keys nothing i) (λ d. through (item_bound scope keys) d items) o h in
    items_keep scope keys s.0 items o (item_keeps scope keys nothing i s.0 (nothing_is (kinds_in scope) keys) g.0 (all_head IsWellItem i items w) s.1) g.1 (all_tail IsWellItem i items w) s.2

pub Keeps-listed : (scope : List Named) (keys : List ℕ) (i : ItemTree) (items : List ItemTree) (o : Out) → (keys ≡ [] → first_aggregate (i ∷ items) ≡ None) → All IsWellItem (i ∷ items) → through (item_bound scope keys) nothing (i ∷ items) ≡ Ok o → Keeps (kinds_in scope) keys o
Keeps-listed scope [] i items o a w h = listed scope [] i items o (none_left (i ∷ items) (a refl)) w h
Keeps-listed scope (k ∷ keys) i items o a w h = listed scope (k ∷ keys) i items o (all_go k keys (i ∷ items)) w h

-- ---- the star

star_keeps : (done rest : List Named) (p : ℕ) (out o : Out) → length out.columns ≡ length done → list_all (λ n. is_name n.name) rest ≡ true → IsOut (kinds_in (done ++ rest)) [] out → (1 ≤ length rest) ⊎ (1 ≤ length out.schema)
    → through (λ out n. output_bound p out (length out.columns) n.name n.kind) out rest ≡ Ok o → Keeps (kinds_in (done ++ rest)) [] o
star_keeps done [] p out o e names is (inl s) h = absurd (omega arith)
star_keeps done [] p out o e names is (inr s) h =
    let q : out ≡ o = cc in
    let P : Out → Type 0 = λ x. Keeps (kinds_in (done ++ [])) [] x in
    subst P q (is, s)
star_keeps done (n ∷ rest) p out o e names is some h =
    let s = Ok-bind (output_bound p out (length out.columns) n.name n.kind) (λ d. through (λ out n. output_bound p out (length out.columns) n.name n.kind) d rest) o h in
    let w = and_parts (is_name n.name) (list_all (λ m. is_name m.name) rest) names in
    let split : kinds_in (done ++ n ∷ rest) ≡ kinds_in done ++ n.kind ∷ kinds_in rest = map-append (λ m. m.kind) done (n ∷ rest) in
    let many : length (kinds_in done) ≡ length out.columns = map_length (λ (m : Named). m.kind) done ∙ sym e in
    let here : slice_get (kinds_in (done ++ n ∷ rest)) (length out.columns) ≡ Some n.kind =
    ap (λ ks. slice_get ks (length out.columns)) split
    ∙ slice_get-append_back (kinds_in done) (n.kind ∷ kinds_in rest) (length out.columns) (omega (arith, many))
    ∙ ap (λ m. slice_get (n.kind ∷ kinds_in rest) (length out.columns - m)) many
    ∙ at_once n.kind (kinds_in rest) (length out.columns) in
    let r = output_keeps (kinds_in (done ++ n ∷ rest)) [] p out (length out.columns) n.name n.kind s.0 is here w.0 s.1 in
    let again : (done ++ n ∷ []) ++ rest ≡ done ++ n ∷ rest = append_assoc done (n ∷ []) rest in
    let Q : List Named → Type 0 = λ ns. IsOut (kinds_in ns) [] s.0 in
    let P : List Named → Type 0 = λ ns. Keeps (kinds_in ns) [] o in
    subst P again (star_keeps (done ++ n ∷ []) rest p s.0 o (r.2 ∙ ap (λ m. m + 1) e ∙ sym (length-append done (n ∷ []))) w.1 (subst Q (sym again) r.0) (inr r.1) s.2)

pub Keeps-starred : (scope : List Named) (p : ℕ) (o : Out) → list_all (λ n. is_name n.name) scope ≡ true → 1 ≤ length scope → star_bound scope p ≡ Ok o → Keeps (kinds_in scope) [] o
unfolding star_bound
Keeps-starred scope p o names some h = star_keeps [] scope p nothing o refl names (nothing_is (kinds_in scope) []) (inl some) h

-- ---- keys

abbrev with_key : List ℕ → ℕ → List ℕ
with_key keys k = if stands ◌==◌ k keys then keys else keys ++ k ∷ []

key_there : (kinds : List Kind) (keys : List ℕ) (k : ℕ) (b : Bool) → are_there kinds keys ≡ true → nat_lt k (length kinds) ≡ true → are_there kinds (if b then keys else keys ++ k ∷ []) ≡ true
key_there kinds keys k true h g = h
key_there kinds keys k false h g = list_all-push (λ j. nat_lt j (length kinds)) keys k h g

pub are_there-keys_bound : (scope : List Named) (group : List ColumnTree) (keys : List ℕ) → keys_bound scope group ≡ Ok keys → are_there (kinds_in scope) keys ≡ true
unfolding keys_bound
are_there-keys_bound scope group keys h =
    through-keeps (λ ks. are_there (kinds_in scope) ks ≡ true) (λ ks c. column_bound scope c >>= λ x. Ok (with_key ks x.0))
    (λ ks c js g step.
    let s = Ok-bind (column_bound scope c) (λ x. Ok (with_key ks x.0)) js step in
    let e : with_key ks s.0.0 ≡ js = cc in
    let P : List ℕ → Type 0 = λ rs. are_there (kinds_in scope) rs ≡ true in
    subst P e (key_there (kinds_in scope) ks s.0.0 (stands ◌==◌ s.0.0 ks) g (lt-ltb s.0.0 (length (kinds_in scope)) (slice_get_within (kinds_in scope) s.0.0 s.0.1 (slice_get-column_bound scope c s.0 s.1)))))
    [] group keys refl h

-- What a bound query keeps: its columns are those of a schema, and its plan fits.
use Rattle.std.proofs.Common.{◌≡◌, ℕ, suc, ◌≤◌, ◌<◌, ◌^◌, Bool, true, false, List, [], ◌∷◌, ◌++◌, map, length, Some, None, option_and_then, Result, Ok, Err, refl, ap, subst, ◌∙◌, arith}
use Rattle.std.specs.Prelude.{◌&&◌, nat_le, nat_lt, if◌then◌else◌, Contains, IfOk}
use Rattle.std.specs.List.{list_all}
use borrow.Author.Tests.{leb-true, le-leb, lt-ltb}
use Rattle.iv_rows.specs.Names.{is_name}
use Rattle.iv_rows.specs.Columns.{Column, kinds_of, is_wide, has_columns, has_distinct_names}
use Rattle.iv_rows.specs.declared.value.Kind.{Kind}
use Rattle.iv_query.specs.declared.tree.SetOp.{SetOp}
use Rattle.iv_query.specs.declared.tree.SetOp.TheVariants as set
use Rattle.iv_query.specs.Trees.{ColumnTree, ItemTree, ListTree, StarAt, ItemsOf, SelectTree, SelectOf, QueryTree, One, Combined}
use Rattle.iv_algebra.specs.declared.plan.Agg.{Agg}
use Rattle.iv_algebra.specs.Fits.{Heads, kind_at, kinds_eq, are_there, agg_fits, if_fits, group_kinds, type_of}
use Rattle.iv_bind.specs.declared.fault.BindWhy.TheVariants as why
use Rattle.iv_bind.specs.Faults.{Fault, FaultAt, Gives, ◌>>=◌}
use Rattle.iv_rows.specs.Options.{if_some}
use Rattle.iv_algebra.specs.Shapes.{Shape, Project, nodes, scans, shape_of}
use Rattle.iv_bind.specs.Catalogs.{BoundQuery, CatalogEntry, AreAmong, bound_of, numbers}
use Rattle.iv_bind.specs.Binding.{From, Out, keys_bound, first_aggregate, ungrouped, list_bound, grouped_shape, distinctly, selected, output_of, from_bound, filter_bound, select_bound, combined_plan, combined, place_of_select, query_bound, once, finished, bound}
use Rattle.iv_query.specs.declared.fault.Fault as reading
use Rattle.iv_query.specs.TextReading.{read_query}
use Rattle.iv_bind.specs.BoundTexts.{of_binding, then_bound, bound_query}
use Rattle.iv_query.specs.Well.{IsWellList, IsWellSelect, IsWellQuery}
use Rattle.iv_bind.specs.Sound.{is_schema, IsTyped, IsSoundView, IsSoundCatalog, ReadsWell}
use Rattle.iv_bind.specs.declared.bound.Bound.{Bound}
use Rattle.iv_bind.specs.declared.fault.BindFault.{BindFault}
use Rattle.iv_bind.proofs.Needs.{AreAmong-append, AreAmong-once}
use Rattle.iv_bind.proofs.Inversion.{Ok-bind, Ok-then, Ok-if_none}
use Rattle.iv_bind.proofs.Columns.{kinds_in}
use Rattle.iv_bind.proofs.Predicates.{and_parts, and_whole}
use Rattle.iv_bind.proofs.Joins.{IsFrom, IsFrom-from_bound, IsFrom-filter_bound}
use Rattle.iv_bind.proofs.Outputs.{are_there-AreAt, map-AreAt, length-AreAt, below, IsOut, Keeps-listed, Keeps-starred, are_there-keys_bound}

-- the rows below the output
grouped_type : (heads : Heads) (plan : Shape) (kinds : List Kind) (keys : List ℕ) (aggs : List Agg) → type_of heads plan ≡ Some kinds → are_there kinds keys ≡ true → list_all (agg_fits kinds) aggs ≡ true → type_of heads (grouped_shape keys aggs plan) ≡ Some (below kinds keys aggs)
grouped_type heads plan kinds [] aggs t k a = t
grouped_type heads plan kinds (key ∷ keys) aggs t k a =
    (λ i. option_and_then (λ ks. if_fits (are_there ks (key ∷ keys) && list_all (agg_fits ks) aggs) (group_kinds ks (key ∷ keys) aggs)) (t i))
    ∙ (λ i. if_fits (k i && a i) (group_kinds kinds (key ∷ keys) aggs))

distinct_type : (heads : Heads) (d : Bool) (plan : Shape) → type_of heads (distinctly d plan) ≡ type_of heads plan
distinct_type heads true plan = refl
distinct_type heads false plan = refl

grouped_scans : (plan : Shape) (keys : List ℕ) (aggs : List Agg) → scans (grouped_shape keys aggs plan) ≡ scans plan
grouped_scans plan [] aggs = refl
grouped_scans plan (key ∷ keys) aggs = refl

output_scans : (d : Bool) (plan : Shape) (keys : List ℕ) (out : Out) → AreAmong (scans (distinctly d (Project out.columns (grouped_shape keys out.aggs plan)))) (scans plan)
output_scans true plan keys out n c = subst (λ (ts : List ℕ). Contains ts n) (grouped_scans plan keys out.aggs) c
output_scans false plan keys out n c = subst (λ (ts : List ℕ). Contains ts n) (grouped_scans plan keys out.aggs) c

wide_schema : (cs : List Column) → 1 ≤ length cs → length cs ≤ 16 → list_all (λ c. is_name c.name) cs ≡ true → has_distinct_names cs ≡ true → is_schema cs ≡ true
wide_schema cs l h n d =
    and_whole (has_columns cs) (has_distinct_names cs)
    (and_whole (is_wide cs) (list_all (λ c. is_name c.name) cs) (and_whole (nat_le 1 (length cs)) (nat_le (length cs) 16) (le-leb 1 (length cs) l) (le-leb (length cs) 16 h)) n) d

selected_keeps : (catalog : List CatalogEntry) (d : Bool) (from : From) (keys : List ℕ) (out : Out) → IsFrom catalog from → are_there (kinds_in from.scope) keys ≡ true → IsOut (kinds_in from.scope) keys out → 1 ≤ length out.schema → nat_le (length out.columns) 16 ≡ true → IsSoundView catalog (selected d from keys out)
selected_keeps catalog d from keys out f k is some few = record {
  schema = wide_schema out.schema some (omega (arith, leb-true (length out.columns) 16 few, length-AreAt (below (kinds_in from.scope) keys out.aggs) out.columns out.schema is.columns)) is.names is.distinct;
  typed = λ heads a.
      let kinds = below (kinds_in from.scope) keys out.aggs in
      distinct_type heads d (Project out.columns (grouped_shape keys out.aggs from.plan))
      ∙ (λ i. option_and_then (λ ks. if_fits (are_there ks out.columns) (map (kind_at ks) out.columns)) (grouped_type heads from.plan (kinds_in from.scope) keys out.aggs (f.typed heads a) k is.aggs i))
      ∙ (λ i. if_fits (are_there-AreAt kinds out.columns out.schema is.columns i) (map-AreAt kinds out.columns out.schema is.columns i));
  scanned = λ n c. f.scanned n (output_scans d from.plan keys out n c);
}

abbrev Keeps : List Kind → List ℕ → Out → Type 0
Keeps kinds keys o = IsOut kinds keys o × (1 ≤ length o.schema)

no_aggregate : (keys : List ℕ) (items : List ItemTree) → ungrouped keys (ItemsOf items) ≡ None → keys ≡ [] → first_aggregate items ≡ None
no_aggregate [] items h e = h
no_aggregate (k ∷ keys) items h e = cc

list_keeps : (catalog : List CatalogEntry) (from : From) (keys : List ℕ) (l : ListTree) (o : Out) → IsFrom catalog from → IsWellList l → ungrouped keys l ≡ None → list_bound from.scope keys l ≡ Ok o → Keeps (kinds_in from.scope) keys o
unfolding list_bound
list_keeps catalog from [] (StarAt p) o f w u h = Keeps-starred from.scope p o f.names f.some h
list_keeps catalog from (k ∷ keys) (StarAt p) o f w u h = cc
list_keeps catalog from keys (ItemsOf []) o f w u h = absurd (omega (arith, w.0))
list_keeps catalog from keys (ItemsOf (i ∷ items)) o f w u h = Keeps-listed from.scope keys i items o (no_aggregate keys (i ∷ items) u) w.1 h

output_keeps : (catalog : List CatalogEntry) (p : ℕ) (d : Bool) (l : ListTree) (from : From) (group : List ColumnTree) (a : BoundQuery) → IsFrom catalog from → IsWellList l → output_of p d l from group ≡ Ok a → IsSoundView catalog a
unfolding output_of
output_keeps catalog p d l from group a f w h =
    let s = Ok-bind (keys_bound from.scope group) (λ keys. if_some (ungrouped keys l) (list_bound from.scope keys l >>= λ out. if nat_le (length out.columns) 16 then Ok (selected d from keys out) else Err (FaultAt p why.TooManyColumns)) (λ q. Err (FaultAt q why.NotGrouped))) a h in
    let keys = s.0 in
    let t = Ok-if_none (ungrouped keys l) (list_bound from.scope keys l >>= λ out. if nat_le (length out.columns) 16 then Ok (selected d from keys out) else Err (FaultAt p why.TooManyColumns)) (λ q. FaultAt q why.NotGrouped) a s.2 in
    let u = Ok-bind (list_bound from.scope keys l) (λ out. if nat_le (length out.columns) 16 then Ok (selected d from keys out) else Err (FaultAt p why.TooManyColumns)) a t.1 in
    let out = u.0 in
    let v = Ok-then (nat_le (length out.columns) 16) (Ok (selected d from keys out)) (FaultAt p why.TooManyColumns) a u.2 in
    let e : selected d from keys out ≡ a = cc in
    let o = list_keeps catalog from keys l out f w t.0 u.1 in
    let P : BoundQuery → Type 0 = λ b. IsSoundView catalog b in
    subst P {x = selected d from keys out} e (selected_keeps catalog d from keys out f (are_there-keys_bound from.scope group keys s.1) o.0 o.1 v.0)

select_keeps : (catalog : List CatalogEntry) (s : SelectTree) (a : BoundQuery) → IsSoundCatalog catalog → IsWellSelect s → select_bound catalog s ≡ Ok a → IsSoundView catalog a
unfolding select_bound
select_keeps catalog (SelectOf p d l s joins filter group) a sound w h =
    let x = Ok-bind (from_bound catalog s joins) (λ all. filter_bound all filter >>= λ from. output_of p d l from group) a h in
    let y = Ok-bind (filter_bound x.0 filter) (λ from. output_of p d l from group) a x.2 in
    output_keeps catalog p d l y.0 group a (IsFrom-filter_bound catalog x.0 filter y.0 (IsFrom-from_bound catalog s joins x.0 sound x.1) w.3 y.1) w.0 y.2

combined_type : (heads : Heads) (o : SetOp) (a b : Shape) (ks ls : List Kind) → type_of heads a ≡ Some ks → type_of heads b ≡ Some ls → kinds_eq ks ls ≡ true → type_of heads (combined_plan o a b) ≡ Some ks
combined_type heads set.UnionAll a b ks ls t u e = (λ i. option_and_then (λ ms. option_and_then (λ ns. if_fits (kinds_eq ms ns) ms) (u i)) (t i)) ∙ (λ i. if_fits (e i) ks)
combined_type heads set.Union a b ks ls t u e = (λ i. option_and_then (λ ms. option_and_then (λ ns. if_fits (kinds_eq ms ns) ms) (u i)) (t i)) ∙ (λ i. if_fits (e i) ks)
combined_type heads set.Except a b ks ls t u e = (λ i. option_and_then (λ ms. option_and_then (λ ns. if_fits (kinds_eq ms ns) ms) (u i)) (t i)) ∙ (λ i. if_fits (e i) ks)

combined_scans : (o : SetOp) (a b : Shape) → scans (combined_plan o a b) ≡ scans a ++ scans b
combined_scans set.UnionAll a b = refl
combined_scans set.Union a b = refl
combined_scans set.Except a b = refl

query_keeps : (catalog : List CatalogEntry) (q : QueryTree) (a : BoundQuery) → IsSoundCatalog catalog → IsWellQuery q → query_bound catalog q ≡ Ok a → IsSoundView catalog a
unfolding query_bound
query_keeps catalog (One s) a sound w h = select_keeps catalog s a sound w h
query_keeps catalog (Combined q o s) a sound w h =
    let x = Ok-bind (query_bound catalog q) (λ left. select_bound catalog s >>= λ right. if kinds_eq (kinds_of left.schema) (kinds_of right.schema) then Ok (combined o left right) else Err (FaultAt (place_of_select s) why.ColumnsDiffer)) a h in
    let left = x.0 in
    let y = Ok-bind (select_bound catalog s) (λ right. if kinds_eq (kinds_of left.schema) (kinds_of right.schema) then Ok (combined o left right) else Err (FaultAt (place_of_select s) why.ColumnsDiffer)) a x.2 in
    let right = y.0 in
    let z = Ok-then (kinds_eq (kinds_of left.schema) (kinds_of right.schema)) (Ok (combined o left right)) (FaultAt (place_of_select s) why.ColumnsDiffer) a y.2 in
    let e : combined o left right ≡ a = cc in
    let l = query_keeps catalog q left sound w.0 x.1 in
    let r = select_keeps catalog s right sound w.1 y.1 in
    let P : BoundQuery → Type 0 = λ b. IsSoundView catalog b in
    subst P {x = combined o left right} e (record {
      schema = l.schema;
      typed = λ heads g. combined_type heads o left.plan right.plan (kinds_of left.schema) (kinds_of right.schema) (l.typed heads g) (r.typed heads g) z.0;
      scanned = λ n c. AreAmong-append (scans left.plan) (scans right.plan) left.needs right.needs l.scanned r.scanned n (subst (λ (ts : List ℕ). Contains ts n) (combined_scans o left.plan right.plan) c);
    })

-- what a query is bound to is sound
pub IsSoundView-query_bound : (catalog : List CatalogEntry) (q : QueryTree) (a : BoundQuery) → IsSoundCatalog catalog → IsWellQuery q → query_bound catalog q ≡ Ok a → IsSoundView catalog a
IsSoundView-query_bound catalog q a sound w h = query_keeps catalog q a sound w h

finished_keeps : (catalog : List CatalogEntry) (a b : BoundQuery) → IsSoundView catalog a → finished a ≡ Ok b → IsSoundView catalog b
unfolding finished
finished_keeps catalog a b s h = part (nat_le (nodes a.plan) 256) h
  where
    part : (small : Bool) → (if small then Ok (record a { needs = once [] a.needs }) else Err (FaultAt 0 why.TooManyNodes)) ≡ Ok b → IsSoundView catalog b
    part true g =
        let e : record a { needs = once [] a.needs } ≡ b = cc in
        let P : BoundQuery → Type 0 = λ x. IsSoundView catalog x in
        subst P {x = record a { needs = once [] a.needs }} e (record { schema = s.schema; typed = s.typed; scanned = AreAmong-once (scans a.plan) a.needs s.scanned })
    part false g = cc

-- what the program holds is sound, where it is what a part that was found becomes
pub IsSoundView-finished : (catalog : List CatalogEntry) (a : BoundQuery) (r : Result Bound BindFault) → IsSoundView catalog a → Gives bound_of r (finished a) → IfOk r (λ b. IsSoundView catalog (bound_of b))
IsSoundView-finished catalog a (Ok b) s g = finished_keeps catalog a (bound_of b) s g
IsSoundView-finished catalog a (Err e) s g = tt

pub IsTyped-IsSoundView : (catalog : List CatalogEntry) (r : Result Bound BindFault) → IfOk r (λ b. IsSoundView catalog (bound_of b)) → IfOk r (λ b. IsTyped catalog (bound_of b))
IsTyped-IsSoundView catalog (Ok b) s = s.typed
IsTyped-IsSoundView catalog (Err e) s = tt

pub AreAmong-IsSoundView : (catalog : List CatalogEntry) (r : Result Bound BindFault) → IfOk r (λ b. IsSoundView catalog (bound_of b)) → IfOk r (λ b. AreAmong (scans (shape_of b.plan)) (numbers b.needs.items))
AreAmong-IsSoundView catalog (Ok b) s = s.scanned
AreAmong-IsSoundView catalog (Err e) s = tt

-- ---- trees and texts

pub IsSoundView-bound : (catalog : List CatalogEntry) (q : QueryTree) (a : BoundQuery) → IsSoundCatalog catalog → IsWellQuery q → bound catalog q ≡ Ok a → IsSoundView catalog a
unfolding bound
IsSoundView-bound catalog q a sound w h =
    let s = Ok-bind (query_bound catalog q) finished a h in
    finished_keeps catalog s.0 a (IsSoundView-query_bound catalog q s.0 sound w s.1) s.2

pub IsSoundView-bound_query : (catalog : List CatalogEntry) (text : List ℕ) (a : BoundQuery) → IsSoundCatalog catalog → ReadsWell text → bound_query catalog text ≡ Ok a → IsSoundView catalog a
IsSoundView-bound_query catalog text a sound w h = part (read_query text) w h
  where
    of_tree : (q : QueryTree) (r : Result BoundQuery Fault) → ((b : BoundQuery) → r ≡ Ok b → IsSoundView catalog b) → of_binding r ≡ Ok a → IsSoundView catalog a
    of_tree q (Ok b) k e =
        let f : b ≡ a = cc in
        let P : BoundQuery → Type 0 = λ x. IsSoundView catalog x in
        subst P f (k b refl)
    of_tree q (Err (FaultAt place reason)) k e = cc

    part : (r : Result QueryTree reading.Fault) → ((q : QueryTree) → r ≡ Ok q → IsWellQuery q) → then_bound (bound catalog) r ≡ Ok a → IsSoundView catalog a
    part (Ok q) k e = of_tree q (bound catalog q) (λ b g. IsSoundView-bound catalog q b sound (k q refl) g) e
    part (Err fault) k e = cc

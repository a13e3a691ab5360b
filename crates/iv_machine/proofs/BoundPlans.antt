-- What holds of each plan, with the relations that it reaches, that a text is bound to.
use Rattle.std.proofs.Common.{◌≡◌, ℕ, Bool, List, [], ◌++◌, length, Option, Some, None, Result, Ok, Err, refl, subst}
use Rattle.std.specs.Prelude.{nat_le, if◌then◌else◌}
use Rattle.iv_algebra.specs.Shapes.{Condition, Filter, Join, Project, Shape, nodes}
use Rattle.iv_query.specs.Trees.{ColumnTree, JoinTree, JoinOf, ListTree, PairTree, PredTree, SelectTree, SelectOf, SourceTree, QueryTree, One, Combined}
use Rattle.iv_query.specs.TextReading.{read_query}
use Rattle.iv_query.specs.declared.fault.Fault as reading
use Rattle.iv_query.specs.declared.tree.SetOp.{SetOp}
use Rattle.iv_algebra.specs.Fits.{kinds_eq}
use Rattle.iv_algebra.specs.declared.plan.Agg.{Agg}
use Rattle.iv_rows.specs.Columns.{kinds_of}
use Rattle.iv_bind.specs.declared.fault.BindWhy.TheVariants as why
use Rattle.iv_bind.specs.Binding.{From, Named, bound, called, combined, combined_plan, distinctly, filter_bound, finished, from_bound, grouped_shape, is_used, join_bound, joined_sources, joined_bound, keys_bound, list_bound, once, output_of, pairs_bound, place_of_name, place_of_select, pred_bound, query_bound, source_relation, select_bound, selected, source_bound, source_of, name_text, ungrouped}
use Rattle.iv_bind.specs.BoundTexts.{bound_query, of_binding, then_bound}
use Rattle.iv_bind.specs.Catalogs.{BoundQuery, CatalogEntry, named, plan_of, reached_by}
use Rattle.iv_bind.specs.Faults.{Fault, FaultAt, ◌>>=◌, through}
use Rattle.iv_rows.specs.Options.{if_some}
use Rattle.iv_bind.proofs.Inversion.{Ok-bind, Ok-else, through-keeps, Ok-if_none, Ok-if_some, Ok-then}

-- it holds of each relation, and of what is made of plans of which it holds
pub record HoldsOfBound (catalog : List CatalogEntry) (P : Shape → List ℕ → Type 0) : Type 0 where
  pub entry : (name : List ℕ) (e : CatalogEntry) → named catalog name ≡ Some e → P (plan_of e.rel e.held) (reached_by e.rel e.held)
  pub join : (a b : Shape) (pairs : List (ℕ × ℕ)) (ns ms : List ℕ) → P a ns → P b ms → P (Join a b pairs) (ns ++ ms)
  pub filter : (c : Condition) (a : Shape) (ns : List ℕ) → P a ns → P (Filter c a) ns
  pub output : (d : Bool) (columns keys : List ℕ) (aggs : List Agg) (a : Shape) (ns : List ℕ) → P a ns → P (distinctly d (Project columns (grouped_shape keys aggs a))) ns
  pub combine : (o : SetOp) (a b : Shape) (ns ms : List ℕ) → P a ns → P b ms → P (combined_plan o a b) (ns ++ ms)
  pub once : (a : Shape) (ns : List ℕ) → P a ns → P a (once [] ns)

module _ (catalog : List CatalogEntry) (P : Shape → List ℕ → Type 0) (keeps : HoldsOfBound catalog P) where
  abbrev OfFrom : From → Type 0
  OfFrom f = P f.plan f.reached

  abbrev OfQuery : BoundQuery → Type 0
  OfQuery a = P a.plan a.needs

  source_keeps : (scope : List Named) (s : SourceTree) (f : From) → source_bound catalog scope s ≡ Ok f → OfFrom f
  unfolding source_bound
  source_keeps scope s f h =
      let e = Ok-if_some (named catalog (name_text (source_relation s))) (FaultAt (place_of_name (source_relation s)) why.UnknownRelation)
      (λ e. if is_used scope (name_text (called s)) then Err (FaultAt (place_of_name (called s)) why.DuplicateName) else Ok (source_of e (name_text (called s)))) f h in
      let u = Ok-else (is_used scope (name_text (called s))) (FaultAt (place_of_name (called s)) why.DuplicateName) (Ok (source_of e.0 (name_text (called s)))) f e.2 in
      let q : source_of e.0 (name_text (called s)) ≡ f = cc in
      subst OfFrom q (keeps.entry (name_text (source_relation s)) e.0 e.1)

  joined_keeps : (left right : From) (on : List PairTree) (f : From) → OfFrom left → OfFrom right → joined_bound left right on ≡ Ok f → OfFrom f
  unfolding joined_bound
  joined_keeps left right on f l r h =
      let s = Ok-bind (pairs_bound (length left.scope) (left.scope ++ right.scope) on) (λ pairs. Ok (joined_sources left right pairs)) f h in
      let q : joined_sources left right s.0 ≡ f = cc in
      subst OfFrom q (keeps.join left.plan right.plan s.0 left.reached right.reached l r)

  join_keeps : (left : From) (j : JoinTree) (f : From) → OfFrom left → join_bound catalog left j ≡ Ok f → OfFrom f
  unfolding join_bound
  join_keeps left (JoinOf s on) f l h =
      let t = Ok-bind (source_bound catalog left.scope s) (λ right. joined_bound left right on) f h in
      joined_keeps left t.0 on f l (source_keeps left.scope s t.0 t.1) t.2

  from_keeps : (s : SourceTree) (joins : List JoinTree) (f : From) → from_bound catalog s joins ≡ Ok f → OfFrom f
  unfolding from_bound
  from_keeps s joins f h =
      let t = Ok-bind (source_bound catalog [] s) (λ first. through (join_bound catalog) first joins) f h in
      through-keeps OfFrom (join_bound catalog) (λ a j c p step. join_keeps a j c p step) t.0 joins f (source_keeps [] s t.0 t.1) t.2

  filter_keeps : (from : From) (filter : Option PredTree) (f : From) → OfFrom from → filter_bound from filter ≡ Ok f → OfFrom f
  unfolding filter_bound
  filter_keeps from None f k h = let q : from ≡ f = cc in subst OfFrom q k
  filter_keeps from (Some p) f k h =
      let s = Ok-bind (pred_bound from.scope p) (λ c. Ok (record from { plan = Filter c from.plan })) f h in
      let q : record from { plan = Filter s.0 from.plan } ≡ f = cc in
      subst OfFrom q (keeps.filter s.0 from.plan from.reached k)

  output_keeps : (p : ℕ) (d : Bool) (l : ListTree) (from : From) (group : List ColumnTree) (a : BoundQuery) → OfFrom from → output_of p d l from group ≡ Ok a → OfQuery a
  unfolding output_of
  output_keeps p d l from group a k h =
      let s = Ok-bind (keys_bound from.scope group) (λ keys. if_some (ungrouped keys l) (list_bound from.scope keys l >>= λ out. if nat_le (length out.columns) 16 then Ok (selected d from keys out) else Err (FaultAt p why.TooManyColumns)) (λ q. Err (FaultAt q why.NotGrouped))) a h in
      let keys = s.0 in
      let t = Ok-if_none (ungrouped keys l) (list_bound from.scope keys l >>= λ out. if nat_le (length out.columns) 16 then Ok (selected d from keys out) else Err (FaultAt p why.TooManyColumns)) (λ q. FaultAt q why.NotGrouped) a s.2 in
      let u = Ok-bind (list_bound from.scope keys l) (λ out. if nat_le (length out.columns) 16 then Ok (selected d from keys out) else Err (FaultAt p why.TooManyColumns)) a t.1 in
      let v = Ok-then (nat_le (length u.0.columns) 16) (Ok (selected d from keys u.0)) (FaultAt p why.TooManyColumns) a u.2 in
      let q : selected d from keys u.0 ≡ a = cc in
      subst OfQuery q (keeps.output d u.0.columns keys u.0.aggs from.plan from.reached k)

  select_keeps : (s : SelectTree) (a : BoundQuery) → select_bound catalog s ≡ Ok a → OfQuery a
  unfolding select_bound
  select_keeps (SelectOf p d l s joins filter group) a h =
      let x = Ok-bind (from_bound catalog s joins) (λ all. filter_bound all filter >>= λ from. output_of p d l from group) a h in
      let y = Ok-bind (filter_bound x.0 filter) (λ from. output_of p d l from group) a x.2 in
      output_keeps p d l y.0 group a (filter_keeps x.0 filter y.0 (from_keeps s joins x.0 x.1) y.1) y.2

  query_keeps : (q : QueryTree) (a : BoundQuery) → query_bound catalog q ≡ Ok a → OfQuery a
  unfolding query_bound
  query_keeps (One s) a h = select_keeps s a h
  query_keeps (Combined q o s) a h =
      let x = Ok-bind (query_bound catalog q) (λ left. select_bound catalog s >>= λ right. if kinds_eq (kinds_of left.schema) (kinds_of right.schema) then Ok (combined o left right) else Err (FaultAt (place_of_select s) why.ColumnsDiffer)) a h in
      let y = Ok-bind (select_bound catalog s) (λ right. if kinds_eq (kinds_of x.0.schema) (kinds_of right.schema) then Ok (combined o x.0 right) else Err (FaultAt (place_of_select s) why.ColumnsDiffer)) a x.2 in
      let z = Ok-then (kinds_eq (kinds_of x.0.schema) (kinds_of y.0.schema)) (Ok (combined o x.0 y.0)) (FaultAt (place_of_select s) why.ColumnsDiffer) a y.2 in
      let e : combined o x.0 y.0 ≡ a = cc in
      subst OfQuery e (keeps.combine o x.0.plan y.0.plan x.0.needs y.0.needs (query_keeps q x.0 x.1) (select_keeps s y.0 y.1))

  finished_keeps : (a b : BoundQuery) → OfQuery a → finished a ≡ Ok b → OfQuery b
  unfolding finished
  finished_keeps a b k h =
      let v = Ok-then (nat_le (nodes a.plan) 256) (Ok (record a { needs = once [] a.needs })) (FaultAt 0 why.TooManyNodes) b h in
      let q : record a { needs = once [] a.needs } ≡ b = cc in
      subst OfQuery q (keeps.once a.plan a.needs k)

  tree_keeps : (q : QueryTree) (a : BoundQuery) → bound catalog q ≡ Ok a → OfQuery a
  unfolding bound
  tree_keeps q a h = let s = Ok-bind (query_bound catalog q) finished a h in finished_keeps s.0 a (query_keeps q s.0 s.1) s.2

  pub text_keeps : (text : List ℕ) (a : BoundQuery) → bound_query catalog text ≡ Ok a → OfQuery a
  text_keeps text a h = part (read_query text) h
    where
      of_tree : (r : Result BoundQuery Fault) → ((b : BoundQuery) → r ≡ Ok b → OfQuery b) → of_binding r ≡ Ok a → OfQuery a
      of_tree (Ok b) k e = let same : b ≡ a = cc in subst OfQuery same (k b refl)
      of_tree (Err (FaultAt place reason)) k e = cc

      part : (r : Result QueryTree reading.Fault) → then_bound (bound catalog) r ≡ Ok a → OfQuery a
      part (Ok q) e = of_tree (bound catalog q) (tree_keeps q) e
      part (Err fault) e = cc

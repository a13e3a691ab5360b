-- What the sources of a select keep: the plan fits, and the columns have its rows' kinds.
use Rattle.std.proofs.Common.{◌≡◌, ℕ, zero, suc, ◌-◌, ◌<◌, ◌≤◌, Bool, true, false, cond, List, [], ◌∷◌, ◌++◌, length, Option, Some, None, option_and_then, Ok, Err, refl, sym, ap, subst, ◌∙◌, arith, inl, inr}
use Rattle.std.specs.Prelude.{◌&&◌, ◌⊎◌, slice_get, nat_lt, nat_le, bytes_eq, find, IfSome, if◌then◌else◌}
use Rattle.std.specs.List.{list_all}
use Rattle.std.proofs.lemmas.List.{map-append}
use Rattle.std.proofs.lemmas.List.Folds.{list_all-append}
use borrow.Author.Tests.{ltb-true, leb-true}
use Rattle.std.proofs.Common.{length-append}
use Rattle.iv_rows.specs.Names.{is_name}
use Rattle.iv_rows.specs.Columns.{Column, kinds_of, is_wide, has_columns, has_distinct_names}
use Rattle.iv_rows.specs.declared.value.Kind.{Kind}
use Rattle.iv_rows.specs.declared.value.Kind.TheVariants as kind
use Rattle.iv_query.specs.Trees.{PairTree, PairOf, SourceTree, JoinTree, JoinOf, PredTree}
use Rattle.iv_algebra.specs.Predicates.{kind_eq, same_kind}
use Rattle.iv_algebra.specs.Fits.{Heads, pair_fits, if_fits, condition_fits, type_of}
use Rattle.iv_bind.specs.declared.fault.BindWhy.TheVariants as why
use Rattle.iv_bind.specs.Faults.{FaultAt, ◌>>=◌, through}
use Rattle.iv_rows.specs.Options.{if_some}
use Rattle.iv_algebra.specs.Shapes.{Shape, Scan, Filter, scans}
use Rattle.iv_bind.specs.Catalogs.{Held, Table, View, CatalogEntry, AreAmong, named, columns_of, plan_of, reached_by}
use Rattle.iv_bind.specs.Binding.{Named, From, column_place, place_of_name, name_text, source_relation, called, under, is_used, source_of, column_bound, sides, pair_bound, pairs_bound, joined_sources, joined_bound, source_bound, join_bound, from_bound, filter_bound, pred_bound}
use Rattle.iv_query.specs.declared.tree.Dialect.TheVariants.{Query}
use Rattle.iv_query.specs.Well.{IsWellPred}
use Rattle.iv_bind.specs.Sound.{held_agrees, Agrees, is_schema, HeldIsSound, AreSound, IsSoundCatalog}
use Rattle.iv_bind.proofs.Inversion.{Ok-bind, Ok-then, Ok-else, Ok-if_some, through-keeps}
use Rattle.iv_bind.proofs.Columns.{kinds_in, slice_get-column_bound}
use Rattle.iv_bind.proofs.Needs.{AreAmong-cons, AreAmong-append}
use Rattle.iv_bind.proofs.Predicates.{and_parts, and_whole, condition_fits-pred_bound}

-- over all tables of the catalog's kinds the plan fits and its rows have the columns' kinds; the names are names, there is a column,
-- and the tables that the plan scans are reached
pub record IsFrom (catalog : List CatalogEntry) (f : From) : Type 0 where
  pub typed : (heads : Heads) → Agrees catalog heads → type_of heads f.plan ≡ Some (kinds_in f.scope)
  pub names : list_all (λ n. is_name n.name) f.scope ≡ true
  pub some : 1 ≤ length f.scope
  pub scanned : AreAmong (scans f.plan) f.reached

-- ---- a source

abbrev pub EntryKeeps : List CatalogEntry → List CatalogEntry → CatalogEntry → Type 0
EntryKeeps catalog es e = HeldIsSound catalog e.held × ((heads : Heads) → Agrees es heads → held_agrees heads e.rel e.held)

entry_case : (catalog : List CatalogEntry) (x : CatalogEntry) (es : List CatalogEntry) (e : CatalogEntry) (rest : Option CatalogEntry) (b : Bool) → AreSound catalog (x ∷ es) → (rest ≡ Some e → EntryKeeps catalog es e) → cond b (Some x) rest ≡ Some e → EntryKeeps catalog (x ∷ es) e
entry_case catalog x es e rest true s later h =
    let q : x ≡ e = cc in
    let P : CatalogEntry → Type 0 = λ y. EntryKeeps catalog (x ∷ es) y in
    subst P q (s.0, λ heads a. a.0)
entry_case catalog x es e rest false s later h = let l = later h in (l.0, λ heads a. l.1 heads a.1)

pub EntryKeeps-find : (catalog : List CatalogEntry) (test : CatalogEntry → Bool) (es : List CatalogEntry) (e : CatalogEntry) → AreSound catalog es → find test es ≡ Some e → EntryKeeps catalog es e
EntryKeeps-find catalog test [] e s h = cc
EntryKeeps-find catalog test (x ∷ es) e s h = entry_case catalog x es e (find test es) (test x) s (EntryKeeps-find catalog test es e s.1) h

pub kinds_in-under : (name : List ℕ) (cs : List Column) → kinds_in (under name cs) ≡ kinds_of cs
kinds_in-under name [] = refl
kinds_in-under name (c ∷ cs) = ap (λ ks. c.kind ∷ ks) (kinds_in-under name cs)

same_names : (name : List ℕ) (cs : List Column) → list_all (λ n. is_name n.name) (under name cs) ≡ list_all (λ c. is_name c.name) cs
same_names name [] = refl
same_names name (c ∷ cs) = ap (λ b. is_name c.name && b) (same_names name cs)

same_length : (name : List ℕ) (cs : List Column) → length (under name cs) ≡ length cs
same_length name [] = refl
same_length name (c ∷ cs) = ap suc (same_length name cs)

from_schema : (catalog : List CatalogEntry) (plan : Shape) (reached : List ℕ) (name : List ℕ) (cs : List Column) → is_schema cs ≡ true
    → ((heads : Heads) → Agrees catalog heads → type_of heads plan ≡ Some (kinds_of cs)) → AreAmong (scans plan) reached → IsFrom catalog (record { plan = plan; scope = under name cs; reached = reached })
from_schema catalog plan reached name cs s t r =
    let a = and_parts (has_columns cs) (has_distinct_names cs) s in
    let b = and_parts (is_wide cs) (list_all (λ c. is_name c.name) cs) a.0 in
    let w = and_parts (nat_le 1 (length cs)) (nat_le (length cs) 16) b.0 in
    let l : 1 ≤ length cs = leb-true 1 (length cs) w.0 in
    record {
      typed = λ heads g. t heads g ∙ ap Some (sym (kinds_in-under name cs));
      names = same_names name cs ∙ b.1;
      some = omega (arith, l, same_length name cs);
      scanned = r;
    }

held_from : (catalog : List CatalogEntry) (rel : ℕ) (held : Held) (name : List ℕ) → HeldIsSound catalog held → ((heads : Heads) → Agrees catalog heads → held_agrees heads rel held)
    → IsFrom catalog (record { plan = plan_of rel held; scope = under name (columns_of held); reached = reached_by rel held })
held_from catalog rel (Table cs) name s a = from_schema catalog (Scan rel) (rel ∷ []) name cs s a (λ n c. c)
held_from catalog rel (View v) name s a = from_schema catalog v.plan (rel ∷ v.needs) name v.schema s.schema s.typed (AreAmong-cons rel (scans v.plan) v.needs s.scanned)

pub source_keeps : (catalog : List CatalogEntry) (scope : List Named) (s : SourceTree) (f : From) → IsSoundCatalog catalog → source_bound catalog scope s ≡ Ok f → IsFrom catalog f
unfolding source_bound
source_keeps catalog scope s f sound h =
    let e = Ok-if_some (named catalog (name_text (source_relation s))) (FaultAt (place_of_name (source_relation s)) why.UnknownRelation)
    (λ e. if is_used scope (name_text (called s)) then Err (FaultAt (place_of_name (called s)) why.DuplicateName) else Ok (source_of e (name_text (called s)))) f h in
    let u = Ok-else (is_used scope (name_text (called s))) (FaultAt (place_of_name (called s)) why.DuplicateName) (Ok (source_of e.0 (name_text (called s)))) f e.2 in
    let q : source_of e.0 (name_text (called s)) ≡ f = cc in
    let k = EntryKeeps-find catalog (λ x. bytes_eq (name_text (source_relation s)) x.name) catalog e.0 sound e.1 in
    let P : From → Type 0 = λ g. IsFrom catalog g in
    subst P q (held_from catalog e.0.rel e.0.held (name_text (called s)) k.0 k.1)

-- ---- pairs

pub slice_get-append_front : {A : Type 0} (xs ys : List A) (i : ℕ) → i < length xs → slice_get (xs ++ ys) i ≡ slice_get xs i
slice_get-append_front [] ys i h = absurd (omega arith)
slice_get-append_front (x ∷ xs) ys zero h = refl
slice_get-append_front (x ∷ xs) ys (suc i) h = slice_get-append_front xs ys i (omega arith)

pub slice_get-append_back : {A : Type 0} (xs ys : List A) (i : ℕ) → length xs ≤ i → slice_get (xs ++ ys) i ≡ slice_get ys (i - length xs)
slice_get-append_back [] ys i h = let e : i ≡ i - 0 = omega arith in ap (slice_get ys) e
slice_get-append_back (x ∷ xs) ys zero h = absurd (omega arith)
slice_get-append_back (x ∷ xs) ys (suc i) h = let e : i - length xs ≡ suc i - suc (length xs) = omega arith in slice_get-append_back xs ys i (omega arith) ∙ ap (slice_get ys) e

as_many : (scope : List Named) → length (kinds_in scope) ≡ length scope
as_many [] = refl
as_many (n ∷ ns) = ap suc (as_many ns)

kind_eq_sym : (a b : Kind) → kind_eq a b ≡ kind_eq b a
kind_eq_sym kind.Int kind.Int = refl
kind_eq_sym kind.Int kind.Text = refl
kind_eq_sym kind.Int kind.Flag = refl
kind_eq_sym kind.Text kind.Int = refl
kind_eq_sym kind.Text kind.Text = refl
kind_eq_sym kind.Text kind.Flag = refl
kind_eq_sym kind.Flag kind.Int = refl
kind_eq_sym kind.Flag kind.Text = refl
kind_eq_sym kind.Flag kind.Flag = refl

-- one column on each side, of one kind
side_fits : (left right : List Named) (i j : ℕ) (a b : Kind) → (nat_lt i (length left) && nat_le (length left) j) ≡ true → slice_get (kinds_in (left ++ right)) i ≡ Some a → slice_get (kinds_in (left ++ right)) j ≡ Some b → kind_eq a b ≡ true
    → pair_fits (kinds_in left) (kinds_in right) (i, j - length left) ≡ true
side_fits left right i j a b t x y k =
    let p = and_parts (nat_lt i (length left)) (nat_le (length left) j) t in
    let lt : i < length (kinds_in left) = omega (arith, ltb-true i (length left) p.0, as_many left) in
    let le : length (kinds_in left) ≤ j = omega (arith, leb-true (length left) j p.1, as_many left) in
    let split : kinds_in (left ++ right) ≡ kinds_in left ++ kinds_in right = map-append (λ n. n.kind) left right in
    let l : slice_get (kinds_in left) i ≡ Some a = sym (slice_get-append_front (kinds_in left) (kinds_in right) i lt) ∙ ap (λ ks. slice_get ks i) (sym split) ∙ x in
    let r : slice_get (kinds_in right) (j - length left) ≡ Some b = ap (λ n. slice_get (kinds_in right) (j - n)) (sym (as_many left)) ∙ sym (slice_get-append_back (kinds_in left) (kinds_in right) j le) ∙ ap (λ ks. slice_get ks j) (sym split) ∙ y in
    (λ m. same_kind (l m) (r m)) ∙ k

sides_case : (b c : Bool) (p q pr : ℕ × ℕ) → (if b then Some p else (if c then Some q else None)) ≡ Some pr → ((b ≡ true) × (p ≡ pr)) ⊎ ((c ≡ true) × (q ≡ pr))
sides_case true c p q pr h = let e : p ≡ pr = cc in inl (refl, e)
sides_case false true p q pr h = let e : q ≡ pr = cc in inr (refl, e)
sides_case false false p q pr h = cc

sides_fit : (left right : List Named) (x y : ℕ × Kind) (pr : ℕ × ℕ) → slice_get (kinds_in (left ++ right)) x.0 ≡ Some x.1 → slice_get (kinds_in (left ++ right)) y.0 ≡ Some y.1 → kind_eq x.1 y.1 ≡ true
    → ((((nat_lt x.0 (length left) && nat_le (length left) y.0) ≡ true) × ((x.0, y.0 - length left) ≡ pr)) ⊎ (((nat_lt y.0 (length left) && nat_le (length left) x.0) ≡ true) × ((y.0, x.0 - length left) ≡ pr)))
    → pair_fits (kinds_in left) (kinds_in right) pr ≡ true
sides_fit left right x y pr fx fy k (inl h) = let P : ℕ × ℕ → Type 0 = λ p. pair_fits (kinds_in left) (kinds_in right) p ≡ true in subst P h.1 (side_fits left right x.0 y.0 x.1 y.1 h.0 fx fy k)
sides_fit left right x y pr fx fy k (inr h) = let P : ℕ × ℕ → Type 0 = λ p. pair_fits (kinds_in left) (kinds_in right) p ≡ true in subst P h.1 (side_fits left right y.0 x.0 y.1 x.1 h.0 fy fx (kind_eq_sym y.1 x.1 ∙ k))

pair_keeps : (left right : List Named) (p : PairTree) (pr : ℕ × ℕ) → pair_bound (length left) (left ++ right) p ≡ Ok pr → pair_fits (kinds_in left) (kinds_in right) pr ≡ true
unfolding pair_bound
pair_keeps left right (PairOf a b) pr h =
    let n = length left in
    let scope = left ++ right in
    let s = Ok-bind (column_bound scope a) (λ x. column_bound scope b >>= λ y. if_some (sides n x.0 y.0) (Err (FaultAt (column_place b) why.UnknownColumn)) (λ pair. if kind_eq x.1 y.1 then Ok pair else Err (FaultAt (column_place b) why.KindMismatch))) pr h in
    let x = s.0 in
    let t = Ok-bind (column_bound scope b) (λ y. if_some (sides n x.0 y.0) (Err (FaultAt (column_place b) why.UnknownColumn)) (λ pair. if kind_eq x.1 y.1 then Ok pair else Err (FaultAt (column_place b) why.KindMismatch))) pr s.2 in
    let y = t.0 in
    let o = Ok-if_some (sides n x.0 y.0) (FaultAt (column_place b) why.UnknownColumn) (λ pair. if kind_eq x.1 y.1 then Ok pair else Err (FaultAt (column_place b) why.KindMismatch)) pr t.2 in
    let u = Ok-then (kind_eq x.1 y.1) (Ok o.0) (FaultAt (column_place b) why.KindMismatch) pr o.2 in
    let q : o.0 ≡ pr = cc in
    let c = sides_case (nat_lt x.0 n && nat_le n y.0) (nat_lt y.0 n && nat_le n x.0) (x.0, y.0 - n) (y.0, x.0 - n) o.0 o.1 in
    let P : ℕ × ℕ → Type 0 = λ p. pair_fits (kinds_in left) (kinds_in right) p ≡ true in
    subst P {x = o.0} q (sides_fit left right x y o.0 (slice_get-column_bound scope a x s.1) (slice_get-column_bound scope b y t.1) u.0 c)

pub list_all-push : {A : Type 0} (t : A → Bool) (xs : List A) (x : A) → list_all t xs ≡ true → t x ≡ true → list_all t (xs ++ x ∷ []) ≡ true
list_all-push t xs x h g = list_all-append t xs (x ∷ []) ∙ and_whole (list_all t xs) (list_all t (x ∷ [])) h (and_whole (t x) true g refl)

pairs_keep : (left right : List Named) (on : List PairTree) (pairs : List (ℕ × ℕ)) → pairs_bound (length left) (left ++ right) on ≡ Ok pairs → list_all (pair_fits (kinds_in left) (kinds_in right)) pairs ≡ true
unfolding pairs_bound
pairs_keep left right on pairs h =
    through-keeps (λ ps. list_all (pair_fits (kinds_in left) (kinds_in right)) ps ≡ true) (λ ps p. pair_bound (length left) (left ++ right) p >>= λ pair. Ok (ps ++ pair ∷ []))
    (λ ps p qs g step.
    let s = Ok-bind (pair_bound (length left) (left ++ right) p) (λ pair. Ok (ps ++ pair ∷ [])) qs step in
    let e : ps ++ s.0 ∷ [] ≡ qs = cc in
    let P : List (ℕ × ℕ) → Type 0 = λ rs. list_all (pair_fits (kinds_in left) (kinds_in right)) rs ≡ true in
    subst P e (list_all-push (pair_fits (kinds_in left) (kinds_in right)) ps s.0 g (pair_keeps left right p s.0 s.1)))
    [] on pairs refl h

-- ---- joins

joined_keeps : (catalog : List CatalogEntry) (left right : From) (on : List PairTree) (f : From) → IsFrom catalog left → IsFrom catalog right → joined_bound left right on ≡ Ok f → IsFrom catalog f
unfolding joined_bound
joined_keeps catalog left right on f l r h =
    let s = Ok-bind (pairs_bound (length left.scope) (left.scope ++ right.scope) on) (λ pairs. Ok (joined_sources left right pairs)) f h in
    let e : joined_sources left right s.0 ≡ f = cc in
    let fit = pairs_keep left.scope right.scope on s.0 s.1 in
    let P : From → Type 0 = λ g. IsFrom catalog g in
    subst P e (record {
      typed = λ heads a.
          (λ i. option_and_then (λ ks. option_and_then (λ ls. if_fits (list_all (pair_fits ks ls) s.0) (ks ++ ls)) (r.typed heads a i)) (l.typed heads a i))
          ∙ (λ i. if_fits (fit i) (kinds_in left.scope ++ kinds_in right.scope))
          ∙ ap Some (sym (map-append (λ n. n.kind) left.scope right.scope));
      names = list_all-append (λ n. is_name n.name) left.scope right.scope ∙ and_whole (list_all (λ n. is_name n.name) left.scope) (list_all (λ n. is_name n.name) right.scope) l.names r.names;
      some = omega (arith, l.some, length-append left.scope right.scope);
      scanned = AreAmong-append (scans left.plan) (scans right.plan) left.reached right.reached l.scanned r.scanned;
    })

join_keeps : (catalog : List CatalogEntry) (left : From) (j : JoinTree) (f : From) → IsSoundCatalog catalog → IsFrom catalog left → join_bound catalog left j ≡ Ok f → IsFrom catalog f
unfolding join_bound
join_keeps catalog left (JoinOf s on) f sound l h =
    let t = Ok-bind (source_bound catalog left.scope s) (λ right. joined_bound left right on) f h in
    joined_keeps catalog left t.0 on f l (source_keeps catalog left.scope s t.0 sound t.1) t.2

pub IsFrom-from_bound : (catalog : List CatalogEntry) (s : SourceTree) (joins : List JoinTree) (f : From) → IsSoundCatalog catalog → from_bound catalog s joins ≡ Ok f → IsFrom catalog f
unfolding from_bound
IsFrom-from_bound catalog s joins f sound h =
    let t = Ok-bind (source_bound catalog [] s) (λ first. through (join_bound catalog) first joins) f h in
    through-keeps (λ g. IsFrom catalog g) (join_bound catalog) (λ a j c p step. join_keeps catalog a j c sound p step) t.0 joins f (source_keeps catalog [] s t.0 sound t.1) t.2

pub IsFrom-filter_bound : (catalog : List CatalogEntry) (from : From) (filter : Option PredTree) (f : From) → IsFrom catalog from → IfSome filter (IsWellPred Query) → filter_bound from filter ≡ Ok f → IsFrom catalog f
unfolding filter_bound
IsFrom-filter_bound catalog from None f k w h = let e : from ≡ f = cc in let P : From → Type 0 = λ g. IsFrom catalog g in subst P e k
IsFrom-filter_bound catalog from (Some p) f k w h =
    let s = Ok-bind (pred_bound from.scope p) (λ c. Ok (record from { plan = Filter c from.plan })) f h in
    let e : record from { plan = Filter s.0 from.plan } ≡ f = cc in
    let fit = condition_fits-pred_bound Query from.scope p s.0 w s.1 in
    let P : From → Type 0 = λ g. IsFrom catalog g in
    subst P e (record {
      typed = λ heads a. (λ i. option_and_then (λ ks. if_fits (condition_fits None ks s.0) ks) (k.typed heads a i)) ∙ (λ i. if_fits (fit i) (kinds_in from.scope));
      names = k.names;
      some = k.some;
      scanned = k.scanned;
    })

-- Relations by their names and numbers.
use Rattle.std.proofs.Common.{◌≡◌, ℕ, suc, ◌+◌, ◌<◌, ◌≤◌, Bool, true, false, cond, List, [], ◌∷◌, ◌++◌, length, map, Option, None, Some, refl, sym, ap, subst, ◌∙◌, arith}
use Rattle.std.proofs.lemmas.Bool.Decides.{nat_tests}
use Rattle.std.specs.Prelude.{◌==◌, bytes_eq, is_some, count_by, option_map}
use Rattle.std.specs.Bool.{beq}
use Rattle.iv_access.specs.Faults.{count_like}
use Rattle.std.specs.List.{position_from}
use Rattle.std.proofs.lemmas.Slice.Eq.{bytes_eq-Decides}
use Rattle.std.proofs.lemmas.List.Sums.{sum_by-cons}
use Rattle.iv_rows.specs.Columns.{kinds_of}
use Rattle.iv_algebra.specs.Shapes.{Scan}
use Rattle.iv_rows.specs.Options.{if_some}
use Rattle.iv_bind.specs.Catalogs.{CatalogEntry, Held, Table, View, named, numbered, plan_of, reached_by, schema_of, table_in}
use Rattle.iv_access.specs.Rights.{Name}
use Rattle.iv_access.specs.Access.{Relation}
use Rattle.iv_machine.specs.Numbered.{AreNumbered}
use Rattle.iv_machine.specs.State.{plan_at, needs_at}
use Rattle.iv_machine.proofs.SubscriptionPlaces.{find_kept}
use Rattle.iv_database.specs.Database.{relation_in}

same_nat : (m n : ℕ) → (m == n) ≡ true → m ≡ n
same_nat m n h = grind (arith, nat_tests)

own : (n : ℕ) → (n == n) ≡ true
own n = grind (arith, nat_tests)

apart : (m n : ℕ) → m < n → (n == m) ≡ false
apart m n h = grind (arith, nat_tests)

differ : (m n : ℕ) → (m == n) ≡ false → n ≤ m → suc n ≤ m
differ m n h l = grind (arith, nat_tests)

next_is : (n : ℕ) → suc n ≡ n + 1
next_is n = omega arith

-- ---- a relation by its number

scan_of : (h : Held) (rel : ℕ) → is_some (table_in h) ≡ true → plan_of rel h ≡ Scan rel
scan_of (Table c) rel t = refl
scan_of (View a) rel t = cc

alone : (h : Held) (rel : ℕ) → is_some (table_in h) ≡ true → reached_by rel h ≡ rel ∷ []
alone (Table c) rel t = refl
alone (View a) rel t = cc

pub rel-numbered : (es : List CatalogEntry) (rel : ℕ) (x : CatalogEntry) → numbered es rel ≡ Some x → rel ≡ x.rel
rel-numbered [] rel x h = cc
rel-numbered (e ∷ es) rel x h = by (rel == e.rel) refl h (rel-numbered es rel x)
  where
    by : (b : Bool) → (rel == e.rel) ≡ b → cond b (Some e) (numbered es rel) ≡ Some x → (numbered es rel ≡ Some x → rel ≡ x.rel) → rel ≡ x.rel
    by true k f go = let same : e ≡ x = cc in same_nat rel e.rel k ∙ ap (λ (y : CatalogEntry). y.rel) same
    by false k f go = go f

-- the relation of the number is a table
abbrev pub IsATable : List CatalogEntry → ℕ → Type 0
IsATable es rel = is_some (schema_of es rel) ≡ true

pub plan_at-IsATable : (es : List CatalogEntry) (rel : ℕ) → IsATable es rel → plan_at es rel ≡ Scan rel
plan_at-IsATable es rel t = by (numbered es rel) refl t
  where
    by : (o : Option CatalogEntry) → numbered es rel ≡ o → is_some (if_some o None (λ e. table_in e.held)) ≡ true → if_some o (Scan rel) (λ e. plan_of e.rel e.held) ≡ Scan rel
    by None h k = refl
    by (Some x) h k = scan_of x.held x.rel k ∙ ap Scan (sym (rel-numbered es rel x h))

pub needs_are : (es : List CatalogEntry) (rel : ℕ) → IsATable es rel → needs_at es rel ≡ rel ∷ []
needs_are es rel t = by (numbered es rel) refl t
  where
    by : (o : Option CatalogEntry) → numbered es rel ≡ o → is_some (if_some o None (λ e. table_in e.held)) ≡ true → if_some o [] (λ e. reached_by e.rel e.held) ≡ rel ∷ []
    by None h k = cc
    by (Some x) h k = alone x.held x.rel k ∙ ap (λ m. m ∷ []) (sym (rel-numbered es rel x h))

-- and stays one
pub schema_of-append : (es more : List CatalogEntry) (rel : ℕ) → IsATable es rel → schema_of (es ++ more) rel ≡ schema_of es rel
schema_of-append es more rel t = ap (λ o. if_some o None (λ (e : CatalogEntry). table_in e.held)) (find_kept (λ (e : CatalogEntry). rel == e.rel) es more (there (numbered es rel) t))
  where
    there : (o : Option CatalogEntry) → is_some (if_some o None (λ e. table_in e.held)) ≡ true → is_some o ≡ true
    there None k = k
    there (Some x) k = refl

-- no relation has a number that comes later
pub numbered-None : (n : ℕ) (es : List CatalogEntry) (k : ℕ) → AreNumbered n es → n + length es ≤ k → numbered es k ≡ None
numbered-None n [] k u l = refl
numbered-None n (e ∷ es) k u l =
    let other : (k == e.rel) ≡ false = subst (λ m. (k == m) ≡ false) (sym u.0) (apart n k (omega arith)) in
    ap (λ b. cond b (Some e) (numbered es k)) other ∙ numbered-None (suc n) es k u.1 (omega arith)

-- ---- a relation by its name

abbrev pub is_of : Name → Relation → Bool
is_of name r = bytes_eq name r.name

pub named-None : (n : ℕ) (es : List CatalogEntry) (name : Name) → position_from (is_of name) n (map relation_in es) ≡ None → named es name ≡ None
named-None n [] name h = refl
named-None n (e ∷ es) name h = by (bytes_eq name e.name) h (named-None (n + 1) es name)
  where
    by : (b : Bool) → cond b (Some n) (position_from (is_of name) (n + 1) (map relation_in es)) ≡ None → (position_from (is_of name) (n + 1) (map relation_in es) ≡ None → named es name ≡ None) → cond b (Some e) (named es name) ≡ None
    by true k go = cc
    by false k go = go k

-- the relation of a name, at its number
pub record IsNamed (catalog : List CatalogEntry) (x : CatalogEntry) (name : Name) (k : ℕ) : Type 0 where
  pub named : named catalog name ≡ Some x
  pub numbered : numbered catalog k ≡ Some x
  pub called : x.name ≡ name
  pub placed : x.rel ≡ k

pub from_least : (p : Relation → Bool) (n : ℕ) (ns : List Relation) (k : ℕ) → position_from p n ns ≡ Some k → n ≤ k
from_least p n [] k h = cc
from_least p n (m ∷ ns) k h = by (p m) h (from_least p (n + 1) ns k)
  where
    by : (b : Bool) → cond b (Some n) (position_from p (n + 1) ns) ≡ Some k → (position_from p (n + 1) ns ≡ Some k → n + 1 ≤ k) → n ≤ k
    by true e go = let f : n ≡ k = cc in omega arith
    by false e go = let l = go e in omega arith

pub IsNamed-position_from : (n : ℕ) (es : List CatalogEntry) (name : Name) (k : ℕ) → AreNumbered n es → position_from (is_of name) n (map relation_in es) ≡ Some k → (x : CatalogEntry) × IsNamed es x name k
IsNamed-position_from n [] name k u h = cc
IsNamed-position_from n (e ∷ es) name k u h = by (bytes_eq name e.name) refl h (λ g. IsNamed-position_from (n + 1) es name k (subst (λ m. AreNumbered m es) (next_is n) u.1) g)
  where
    by : (b : Bool) → bytes_eq name e.name ≡ b → cond b (Some n) (position_from (is_of name) (n + 1) (map relation_in es)) ≡ Some k
        → (position_from (is_of name) (n + 1) (map relation_in es) ≡ Some k → (x : CatalogEntry) × IsNamed es x name k) → (x : CatalogEntry) × IsNamed (e ∷ es) x name k
    by true t f go =
        let at : n ≡ k = cc in
        let is : e.rel ≡ k = u.0 ∙ at in (
          e,
          record {
            named = ap (λ b. cond b (Some e) (Rattle.iv_bind.specs.Catalogs.named es name)) t;
            numbered = ap (λ b. cond b (Some e) (Rattle.iv_bind.specs.Catalogs.numbered es k)) (subst (λ j. (j == e.rel) ≡ true) is (own e.rel));
            called = sym ((bytes_eq-Decides name e.name).0 t);
            placed = is;
          },
        )
    by false t f go =
        let least = from_least (is_of name) (n + 1) (map relation_in es) k f in
        let r = go f in
        let other : (k == e.rel) ≡ false = subst (λ m. (k == m) ≡ false) (sym u.0) (apart n k (omega arith)) in (
          r.0,
          record {
            named = ap (λ b. cond b (Some e) (Rattle.iv_bind.specs.Catalogs.named es name)) t ∙ r.1.named;
            numbered = ap (λ b. cond b (Some e) (Rattle.iv_bind.specs.Catalogs.numbered es k)) other ∙ r.1.numbered;
            called = r.1.called;
            placed = r.1.placed;
          },
        )

-- ---- how many

tells : (h : Held) → ◌≡◌ {A = ℕ} (cond (beq true (is_some (option_map kinds_of (table_in h)))) 1 0) (cond (is_some (table_in h)) 1 0)
tells (Table c) = refl
tells (View a) = refl

-- Access counts the tables of the catalog
pub count_like-tables : (es : List CatalogEntry) → count_like true (map relation_in es) ≡ count_by (λ e. is_some (table_in e.held)) es
count_like-tables [] = refl
count_like-tables (e ∷ es) = sum_by-cons (λ (r : Relation). cond (beq true (is_some r.kinds)) 1 0) (relation_in e) (map relation_in es)
    ∙ (λ i. tells e.held i + count_like-tables es i) ∙ sym (sum_by-cons (λ (x : CatalogEntry). cond (is_some (table_in x.held)) 1 0) e es)

-- one relation more
pub AreNumbered-push : (n : ℕ) (es : List CatalogEntry) (e : CatalogEntry) → AreNumbered n es → e.rel ≡ n + length es → AreNumbered n (es ++ e ∷ [])
AreNumbered-push n [] e u h = (h ∙ none_more n, tt)
  where
    none_more : (n : ℕ) → n + 0 ≡ n
    none_more n = omega arith
AreNumbered-push n (x ∷ es) e u h = (u.0, AreNumbered-push (suc n) es e u.1 (h ∙ later n (length es)))
  where
    later : (n k : ℕ) → n + suc k ≡ suc n + k
    later n k = omega arith

-- ---- for Sound

-- each relation below the length is there
pub numbered-is_some : (n : ℕ) (es : List CatalogEntry) (k : ℕ) → AreNumbered n es → n ≤ k → k < n + length es → is_some (numbered es k) ≡ true
numbered-is_some n [] k u h l = absurd (omega arith)
numbered-is_some n (e ∷ es) k u h l = by (k == e.rel) refl (λ d. let far = differ k n (subst (λ m. (k == m) ≡ false) u.0 d) h in numbered-is_some (suc n) es k u.1 far (omega arith))
  where
    by : (b : Bool) → (k == e.rel) ≡ b → ((k == e.rel) ≡ false → is_some (numbered es k) ≡ true) → is_some (cond b (Some e) (numbered es k)) ≡ true
    by true d go = refl
    by false d go = go d

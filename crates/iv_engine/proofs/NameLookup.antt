-- What is looked up by name in the rights is what the catalog has of that name, and the names that were gone through so far.
use Rattle.std.proofs.Common.{◌≡◌, ℕ, ◌+◌, ◌<◌, ◌≤◌, ◌⊎◌, Bool, false, cond, List, [], ◌∷◌, ◌++◌, get_or, length, map, take, Option, None, Some, refl, sym, ap, ◌∙◌}
use Rattle.std.specs.Prelude.{Result, Ok, Err, IfOk, filter, slice_get}
use Rattle.std.proofs.lemmas.List.{take_all}
use Rattle.std.proofs.lemmas.List.Elements.{filter_agree, filter_more}
use Rattle.std.proofs.lemmas.Option.{get_or_from_slice_get, slice_get-map, slice_get_cases, slice_get_within}
use Rattle.std.proofs.lemmas.Simd.{map-map}
use mathlib.Core.Logic.{inl, inr}
use Rattle.iv_rows.specs.Options.{if_some}
use Rattle.iv_bind.specs.Catalogs.{CatalogEntry, named, numbered}
use Rattle.iv_access.specs.Access.{Relation, relation_name, relation_of}
use Rattle.iv_access.specs.Rights.{Name}
use Rattle.iv_database.specs.Database.{Database, IsDatabase, relation_in}
use Rattle.iv_database.proofs.RightsRefusals.{known, unknown}
use Rattle.iv_engine.specs.Known.{has_any}
use Rattle.iv_engine.specs.Looked.{has_named}

-- ---- one after the other

abbrev pub names : List Relation → List Name
names = map (λ r. r.name)

past : (ns : List Name) (k : ℕ) → slice_get ns k ≡ None → length ns ≤ k
past ns k h = by (slice_get_cases ns k).1
  where
    by : ((x : Name) × (k < length ns) × (slice_get ns k ≡ Some x) × (get_or ns k x ≡ x)) ⊎ ((length ns ≤ k) × (slice_get ns k ≡ None)) → length ns ≤ k
    by (inl x) = let no : None ≡ Some x.0 = sym h ∙ x.2 in cc
    by (inr x) = x.0

-- with one relation more, it is told where it passes
pub filter-relation_name : (p : Name → Bool) (rs : List Relation) (k : ℕ) (name : Name) → Some name ≡ relation_name rs k
    → filter p (take (k + 1) (names rs)) ≡ filter p (take k (names rs)) ++ cond (p name) (name ∷ []) []
filter-relation_name p rs k name at =
    let there : slice_get (names rs) k ≡ Some name = slice_get-map (λ r. r.name) rs k ∙ sym at in
    filter_more p (names rs) k name (slice_get_within (names rs) k name there)
    ∙ ap (λ x. filter p (take k (names rs)) ++ cond (p x) (x ∷ []) []) (get_or_from_slice_get (names rs) k name name there)

-- behind the last one all are told
pub told_all : (p : Name → Bool) (rs : List Relation) (k : ℕ) → None ≡ relation_name rs k → filter p (take k (names rs)) ≡ filter p (names rs)
told_all p rs k at = ap (filter p) (take_all k (names rs) (past (names rs) k (slice_get-map (λ r. r.name) rs k ∙ sym at)))

pub filter-always_false : (ns : List Name) → filter (λ n. false) ns ≡ []
filter-always_false [] = refl
filter-always_false (n ∷ ns) = filter-always_false ns

pub IfOk-map : {X E : Type 0} (o : Result X E) {P Q : X → Type 0} → ((x : X) → P x → Q x) → IfOk o P → IfOk o Q
IfOk-map (Ok x) go p = go x p
IfOk-map (Err e) go p = tt

-- ---- by name

module _ (d : Database) (h : IsDatabase d) where
  -- whatever is asked of the relation, it is the same by its number
  pub by_number : {A : Type 0} (b : A) (f : CatalogEntry → A) (name : Name) (k : ℕ) → Some k ≡ relation_of d.known.relations name
      → if_some (numbered d.catalog k) b f ≡ if_some (named d.catalog name) b f
  by_number b f name k at = let x = known d h name k (sym at) in ap (λ o. if_some o b f) x.1.numbered ∙ sym (ap (λ o. if_some o b f) x.1.named)

  pub by_none : {A : Type 0} (b : A) (f : CatalogEntry → A) (name : Name) → None ≡ relation_of d.known.relations name → b ≡ if_some (named d.catalog name) b f
  by_none b f name at = sym (ap (λ o. if_some o b f) (unknown d h name (sym at)))

  abbrev pub has_in : ℕ → Name → Bool
  has_in role name = if_some (named d.catalog name) false (λ e. has_any d.known.rights role e.rel)

  -- what is asked of the relation that the rights have under a name is asked of the catalog's
  pub asked_by_name : (ask : ℕ → Bool) (name : Name) → if_some (relation_of d.known.relations name) false ask ≡ if_some (named d.catalog name) false (λ e. ask e.rel)
  asked_by_name ask name = by (relation_of d.known.relations name) refl
    where
      by : (o : Option ℕ) → relation_of d.known.relations name ≡ o → if_some o false ask ≡ if_some (named d.catalog name) false (λ e. ask e.rel)
      by None n = by_none false (λ e. ask e.rel) name (sym n)
      by (Some k) n = let x = known d h name k n in ap ask (sym x.1.placed) ∙ sym (ap (λ o. if_some o false (λ e. ask e.rel)) x.1.named)

  pub has_by_name : (role : ℕ) (name : Name) → has_named d.known role name ≡ has_in role name
  has_by_name role = asked_by_name (has_any d.known.rights role)

  same_names : names d.known.relations ≡ map (λ e. e.name) d.catalog
  same_names = ap names h.relations ∙ map-map (λ (r : Relation). r.name) relation_in d.catalog

  pub told_by_name : (role : ℕ) → filter (has_named d.known role) (names d.known.relations) ≡ filter (has_in role) (map (λ e. e.name) d.catalog)
  told_by_name role = filter_agree (has_named d.known role) (has_in role) (has_by_name role) (names d.known.relations) ∙ ap (filter (has_in role)) same_names

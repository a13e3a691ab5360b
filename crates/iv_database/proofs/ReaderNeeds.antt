-- The relations that a reader needs to select from.
use Rattle.std.proofs.Common.{◌≡◌, ℕ, zero, suc, ◌+◌, ◌<◌, true, false, cond, List, [], ◌∷◌, length, map, Option, None, Some, refl, sym, ap, ◌∙◌, arith}
use Rattle.std.proofs.lemmas.Bool.Decides.{nat_tests}
use Rattle.std.specs.Prelude.{◌==◌, IfOk, Result, Ok, Err, is_some, option_map, unwrap_or}
use Rattle.std.specs.Borrow.{Bor}
use Rattle.iv_rows.specs.declared.schema.RelId.{RelId}
use Rattle.iv_bind.specs.Catalogs as catalogs
use Rattle.iv_bind.specs.Catalogs.{BoundQuery, CatalogEntry, Held, numbered, numbers, reached_by, view_in, view_of}
use Rattle.iv_rows.specs.Options.{if_some}
use Rattle.iv_access.specs.declared.privilege.Privilege.{Privilege}
use Rattle.iv_access.specs.declared.privilege.Privilege.TheVariants.{Select}
use Rattle.iv_access.specs.Access.{relation_name}
use Rattle.iv_access.specs.Privileges.{first_missing, has}
use Rattle.iv_access.specs.Rights.{Name}
use Rattle.iv_machine.specs.Numbered.{AreNumbered}
use Rattle.iv_machine.specs.State.{missing_for, name_of, needs_at}
use Rattle.iv_database.specs.Database.{Database, IsDatabase, frame_of, relation_in}
use Rattle.iv_access.specs.Privileges.{select_from}
use Rattle.iv_database.proofs.TablesAndViews.{numbered-there}
use Rattle.iv_database.proofs.Tables.{rel-numbered}

-- ---- a relation, and those that it reaches

held_needs : (h : Held) (m : ℕ) → reached_by m h ≡ m ∷ if_some (view_in h) [] (λ (a : BoundQuery). a.needs)
held_needs (catalogs.Table columns) m = refl
held_needs (catalogs.View a) m = refl

needs_by : (o : Option CatalogEntry) (k : ℕ) → is_some o ≡ true → ((x : CatalogEntry) → o ≡ Some x → k ≡ x.rel)
    → if_some o [] (λ e. reached_by e.rel e.held) ≡ k ∷ if_some (if_some o None (λ e. view_in e.held)) [] (λ (a : BoundQuery). a.needs)
needs_by None k t r = cc
needs_by (Some x) k t r = held_needs x.held x.rel ∙ ap (λ m. m ∷ if_some (view_in x.held) [] (λ (a : BoundQuery). a.needs)) (sym (r x refl))

module _ (e : Database) (h : IsDatabase e) (role k : ℕ) (low : k < length e.catalog) where
  needs_are : needs_at e.catalog k ≡ k ∷ if_some (view_of e.catalog k) [] (λ (a : BoundQuery). a.needs)
  needs_are = needs_by (numbered e.catalog k) k (numbered-there 0 e.catalog k h.numbered (omega arith) (omega (arith, low))) (rel-numbered e.catalog k)

  missing_is : missing_for (frame_of e) role k ≡ cond (has e.known.rights role Select k) (first_missing e.known.rights role (map (λ r. (Select, r)) (if_some (view_of e.catalog k) [] (λ (a : BoundQuery). a.needs)))) (Some (Select, k))
  missing_is = ap (λ ns. first_missing e.known.rights role (map (λ r. (Select, r)) ns)) needs_are

  pub lacks_own : has e.known.rights role Select k ≡ false → Some (Select, k) ≡ missing_for (frame_of e) role k
  lacks_own f = sym (missing_is ∙ ap (λ b. cond b (first_missing e.known.rights role (map (λ r. (Select, r)) (if_some (view_of e.catalog k) [] (λ (a : BoundQuery). a.needs)))) (Some (Select, k))) f)

  rest : has e.known.rights role Select k ≡ true → (o : Option BoundQuery) → view_of e.catalog k ≡ o → missing_for (frame_of e) role k ≡ first_missing e.known.rights role (map (λ r. (Select, r)) (if_some o [] (λ (a : BoundQuery). a.needs)))
  rest t o v = missing_is ∙ (λ i. cond (t i) (first_missing e.known.rights role (map (λ r. (Select, r)) (if_some (v i) [] (λ (a : BoundQuery). a.needs)))) (Some (Select, k)))

  pub lacks_none : has e.known.rights role Select k ≡ true → view_of e.catalog k ≡ None → None ≡ missing_for (frame_of e) role k
  lacks_none t v = sym (rest t None v)

  numbered_needs : (rs : List RelId) → map (λ r. (Select, r)) (numbers rs) ≡ map select_from rs
  numbered_needs [] = refl
  numbered_needs (r ∷ rs) = ap (λ xs. select_from r ∷ xs) (numbered_needs rs)

  pub lacks_reached : (a : BoundQuery) (rs : List RelId) (o : Option (Privilege × ℕ)) → has e.known.rights role Select k ≡ true → view_of e.catalog k ≡ Some a → a.needs ≡ numbers rs
      → o ≡ first_missing e.known.rights role (map select_from rs) → o ≡ missing_for (frame_of e) role k
  lacks_reached a rs o t v needs is = is ∙ sym (rest t (Some a) v ∙ ap (λ ns. first_missing e.known.rights role (map (λ r. (Select, r)) ns)) needs ∙ ap (first_missing e.known.rights role) (numbered_needs rs))

-- ---- the name of a relation

name_from : (n : ℕ) (es : List CatalogEntry) (k : ℕ) → AreNumbered n es → unwrap_or (relation_name (map relation_in es) k) [] ≡ name_of es (n + k)
name_from n [] k u = refl
name_from n (e ∷ es) zero u = ap (λ b. if_some (cond b (Some e) (numbered es (n + 0))) [] (λ (x : CatalogEntry). x.name)) (sym (here u.0))
  where
    here : e.rel ≡ n → (n + 0 == e.rel) ≡ true
    here is = grind (arith, nat_tests)
name_from n (e ∷ es) (suc k) u = name_from (suc n) es k u.1 ∙ ap (name_of es) next ∙ ap (λ b. if_some (cond b (Some e) (numbered es (n + suc k))) [] (λ (x : CatalogEntry). x.name)) (sym (there u.0))
  where
    next : suc n + k ≡ n + suc k
    next = omega arith

    there : e.rel ≡ n → (n + suc k == e.rel) ≡ false
    there is = grind (arith, nat_tests)

pub name_is : (e : Database) (k : ℕ) → IsDatabase e → unwrap_or (relation_name e.known.relations k) [] ≡ name_of e.catalog k
name_is e k h = ap (λ rs. unwrap_or (relation_name rs k) []) h.relations ∙ name_from 0 e.catalog k h.numbered ∙ ap (name_of e.catalog) (from_zero k)
  where
    from_zero : (k : ℕ) → 0 + k ≡ k
    from_zero k = omega arith

pub name_or_none : (o : Option (Bor Name)) (none r : Bor Name) → none.now ≡ [] → r ≡ unwrap_or o none → r.now ≡ unwrap_or (option_map (λ n. n.now) o) []
name_or_none None none r h is = ap (λ (n : Bor Name). n.now) is ∙ h
name_or_none (Some n) none r h is = ap (λ (m : Bor Name). m.now) is

pub ok_as : {X E : Type 0} (f : X → Name) (r : Result X E) (a b : Name) → IfOk r (λ x. f x ≡ a) → a ≡ b → IfOk r (λ x. f x ≡ b)
ok_as f (Ok x) a b h is = h ∙ is
ok_as f (Err x) a b h is = tt

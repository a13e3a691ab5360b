-- A relation that is no view is a table.
use Rattle.std.proofs.Common.{◌≡◌, ℕ, suc, ◌+◌, ◌<◌, ◌≤◌, Bool, true, false, cond, List, [], ◌∷◌, length, Option, None, Some, refl, subst, arith}
use Rattle.std.proofs.lemmas.Bool.Decides.{nat_tests}
use Rattle.std.specs.Prelude.{◌==◌, is_some}
use Rattle.iv_bind.specs.Catalogs as catalogs
use Rattle.iv_bind.specs.Catalogs.{CatalogEntry, Held, table_in, view_in, view_of}
use Rattle.iv_rows.specs.Options.{if_some}
use Rattle.iv_machine.specs.Numbered.{AreNumbered}
use Rattle.iv_database.proofs.Tables.{IsATable}

farther : (m n : ℕ) → (m == n) ≡ false → n ≤ m → suc n ≤ m
farther m n h l = grind (arith, nat_tests)

pub numbered-there : (n : ℕ) (es : List CatalogEntry) (k : ℕ) → AreNumbered n es → n ≤ k → k < n + length es → is_some (catalogs.numbered es k) ≡ true
numbered-there n [] k u l h = absurd (omega arith)
numbered-there n (e ∷ es) k u l h = by (k == e.rel) refl (λ f. numbered-there (suc n) es k u.1 (farther k n (subst (λ m. (k == m) ≡ false) u.0 f) l) (omega arith))
  where
    by : (b : Bool) → (k == e.rel) ≡ b → ((k == e.rel) ≡ false → is_some (catalogs.numbered es k) ≡ true) → is_some (cond b (Some e) (catalogs.numbered es k)) ≡ true
    by true f go = refl
    by false f go = go f

no_view : (o : Option CatalogEntry) → is_some o ≡ true → is_some (if_some o None (λ x. view_in x.held)) ≡ false → is_some (if_some o None (λ x. table_in x.held)) ≡ true
no_view None s h = cc
no_view (Some x) s h = by x.held h
  where
    by : (y : Held) → is_some (view_in y) ≡ false → is_some (table_in y) ≡ true
    by (catalogs.Table columns) k = refl
    by (catalogs.View a) k = cc

pub IsATable-no_view : (catalog : List CatalogEntry) (rel : ℕ) → AreNumbered 0 catalog → rel < length catalog → is_some (view_of catalog rel) ≡ false → IsATable catalog rel
IsATable-no_view catalog rel u l h = no_view (catalogs.numbered catalog rel) (numbered-there 0 catalog rel u (omega arith) (omega arith)) h

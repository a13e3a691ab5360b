-- A catalog with one relation more.
use Rattle.std.proofs.Common.{◌≡◌, ◌==◌, ℕ, Some, List, [], ◌∷◌, ◌++◌, sym, subst, ap, ◌∙◌}
use Rattle.std.proofs.lemmas.List.{map-append}
use Rattle.iv_algebra.specs.Fits.{Heads}
use Rattle.iv_bind.specs.declared.bound.Bound.{Bound}
use Rattle.iv_bind.specs.declared.catalog.Held as variants
use Rattle.iv_bind.specs.declared.catalog.Held.TheVariants as variant
use Rattle.iv_bind.specs.declared.catalog.Relation.{Relation}
use Rattle.iv_bind.specs.Held.{held_of, entry_of, entries}
use Rattle.iv_bind.specs.Catalogs.{Held, Table, View, CatalogEntry, BoundQuery, bound_of, numbered}
use Rattle.iv_bind.specs.Sound.{Agrees, HeldIsSound, AreSound, IsSoundCatalog, IsSoundView, IsTyped}
use Rattle.iv_bind.proofs.Joins.{EntryKeeps-find}

agrees_before : (es : List CatalogEntry) (e : CatalogEntry) (heads : Heads) → Agrees (es ++ e ∷ []) heads → Agrees es heads
agrees_before [] e heads a = tt
agrees_before (x ∷ es) e heads a = (a.0, agrees_before es e heads a.1)

-- a plan that fits goes on fitting
pub typed_still : (es : List CatalogEntry) (e : CatalogEntry) (a : BoundQuery) → IsTyped es a → IsTyped (es ++ e ∷ []) a
typed_still es e a t = λ heads g. t heads (agrees_before es e heads g)

pub HeldIsSound-push : (es : List CatalogEntry) (e : CatalogEntry) (h : Held) → HeldIsSound es h → HeldIsSound (es ++ e ∷ []) h
HeldIsSound-push es e (Table columns) s = s
HeldIsSound-push es e (View answer) s = record { schema = s.schema; typed = typed_still es e answer s.typed; scanned = s.scanned }

all_sound : (catalog : List CatalogEntry) (x : CatalogEntry) (es : List CatalogEntry) → AreSound catalog es → HeldIsSound catalog x.held → AreSound (catalog ++ x ∷ []) (es ++ x ∷ [])
all_sound catalog x [] s h = (HeldIsSound-push catalog x x.held h, tt)
all_sound catalog x (e ∷ es) s h = (HeldIsSound-push catalog x e.held s.0, all_sound catalog x es s.1 h)

pub IsSoundCatalog-push : (es : List CatalogEntry) (e : CatalogEntry) → IsSoundCatalog es → HeldIsSound es e.held → IsSoundCatalog (es ++ e ∷ [])
IsSoundCatalog-push es e s h = all_sound es e es s h

-- the same of the relations that the program holds
pub IsSoundCatalog-push_relation : (rs qs : List Relation) (r : Relation) → qs ≡ rs ++ r ∷ [] → IsSoundCatalog (entries rs) → HeldIsSound (entries rs) (held_of r.held) → IsSoundCatalog (entries qs)
IsSoundCatalog-push_relation rs qs r e s h =
    let P : List CatalogEntry → Type 0 = λ es. IsSoundCatalog es in
    subst P (sym (ap entries e ∙ map-append entry_of rs (r ∷ []))) (IsSoundCatalog-push (entries rs) (entry_of r) s h)

-- the view of a number
pub IsSoundView-numbered : (es : List CatalogEntry) (n : ℕ) (r : Relation) (b : Bound) → IsSoundCatalog es → Some (entry_of r) ≡ numbered es n → r.held ≡ variant.View b → IsSoundView es (bound_of b)
IsSoundView-numbered es n r b s found is =
    let k = EntryKeeps-find es (λ e. n == e.rel) es (entry_of r) s (sym found) in
    let P : variants.Held → Type 0 = λ h. HeldIsSound es (held_of h) in
    subst P is k.0

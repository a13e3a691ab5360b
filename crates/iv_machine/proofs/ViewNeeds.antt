-- Each relation that a view needs is in the catalog.
use Rattle.std.proofs.Common.{◌≡◌, ℕ, zero, suc, ◌==◌, ◌<◌, ◌≤◌, Bool, true, false, List, [], ◌∷◌, ◌++◌, length, Some, Result, Ok, Err, refl, subst, arith, length-append}
use Rattle.std.specs.Prelude.{bytes_eq, slice_get, if◌then◌else◌}
use Rattle.std.specs.List.{All}
use Rattle.std.proofs.lemmas.List.Elements.{All-nil, All-cons, All-append, All-head, All-push, All-tail, All-weaker}
use Rattle.iv_zset.specs.Bags.{stands}
use Rattle.iv_bind.specs.Binding.{once}
use Rattle.iv_bind.specs.BoundTexts.{TextFault, bound_query}
use Rattle.iv_bind.specs.Catalogs.{BoundQuery, CatalogEntry, Held, Table, View, reached_by}
use Rattle.iv_access.specs.Rights.{Name}
use Rattle.iv_machine.specs.Act.{Act, create_table, create_view}
use Rattle.iv_machine.specs.State.{Frame, next_rel}
use Rattle.iv_machine.specs.Changing.{after_catalog, view_held, with_held}
use Rattle.iv_machine.specs.Numbered.{AreNumbered, IsNumbered}
use Rattle.iv_machine.specs.Stored.{HasNeeds}
use Rattle.iv_machine.proofs.BoundPlans.{HoldsOfBound, text_keeps}
use Rattle.iv_machine.proofs.KnownNames.{place_within}
use Rattle.iv_machine.proofs.StoredRights.{IsAt-find}

abbrev AreBelow : ℕ → List ℕ → Type 0
AreBelow m ns = All (λ n. n < m) ns

all_at : {X : Type 0} (P : X → Type 0) (xs : List X) (k : ℕ) (x : X) → All P xs → slice_get xs k ≡ Some x → P x
all_at P [] k x a h = cc
all_at P (y ∷ ys) zero x a h = let same : y ≡ x = cc in subst P same (All-head P y ys a)
all_at P (y ∷ ys) (suc k) x a h = all_at P ys k x (All-tail P y ys a) h

held_needs : (m rel : ℕ) (held : Held) → rel < m → HasNeeds m held → AreBelow m (reached_by rel held)
held_needs m rel (Table columns) l h = All-cons (λ n. n < m) rel [] l (All-nil (λ n. n < m))
held_needs m rel (View answer) l h = All-cons (λ n. n < m) rel answer.needs l h

once_below : (m : ℕ) (before ns : List ℕ) → AreBelow m before → AreBelow m ns → AreBelow m (once before ns)
once_below m before [] h a = h
once_below m before (n ∷ ns) h a = once_below m (if stands ◌==◌ n before then before else before ++ n ∷ []) ns (one (stands ◌==◌ n before)) (All-tail (λ k. k < m) n ns a)
  where
    one : (b : Bool) → AreBelow m (if b then before else before ++ n ∷ [])
    one true = h
    one false = All-push (λ k. k < m) before n h (All-head (λ k. k < m) n ns a)

-- the relations that a text needs
needs_keep : (catalog : List CatalogEntry) → AreNumbered 0 catalog → All (λ e. HasNeeds (length catalog) e.held) catalog → HoldsOfBound catalog (λ plan ns. AreBelow (length catalog) ns)
needs_keep catalog relations known = record {
  entry = λ name e h.
      let at = IsAt-find 0 catalog (λ (z : CatalogEntry). bytes_eq name z.name) e relations h in
      let within = place_within catalog at.place e at.there in
      let place = at.rel in
      held_needs (length catalog) e.rel e.held (omega (arith, within, place)) (all_at (λ (x : CatalogEntry). HasNeeds (length catalog) x.held) catalog at.place e known at.there);
  join = λ a b pairs ns ms h k. All-append (λ n. n < length catalog) ns ms h k;
  filter = λ c a ns h. h;
  output = λ d columns keys aggs a ns h. h;
  combine = λ o a b ns ms h k. All-append (λ n. n < length catalog) ns ms h k;
  once = λ a ns h. once_below (length catalog) [] ns (All-nil (λ n. n < length catalog)) h;
}

-- ---- a command

more_needs : (m n : ℕ) → m ≤ n → (held : Held) → HasNeeds m held → HasNeeds n held
more_needs m n l (Table columns) h = tt
more_needs m n l (View answer) h = All-weaker (λ k. k < m) (λ k. k < n) (λ k x. omega arith) answer.needs h

abbrev HaveNeeds : List CatalogEntry → Type 0
HaveNeeds catalog = All (λ e. HasNeeds (length catalog) e.held) catalog

one_more : (catalog : List CatalogEntry) (e : CatalogEntry) → HaveNeeds catalog → HasNeeds (length catalog) e.held → HaveNeeds (catalog ++ e ∷ [])
one_more catalog e h k =
    let m = length catalog in
    let n = length (catalog ++ e ∷ []) in
    let longer = length-append catalog (e ∷ []) in
    let l : m ≤ n = omega (arith, longer) in
    All-push (λ (x : CatalogEntry). HasNeeds n x.held) catalog e
    (All-weaker (λ (x : CatalogEntry). HasNeeds m x.held) (λ (x : CatalogEntry). HasNeeds n x.held) (λ x. more_needs m n l x.held) catalog h) (more_needs m n l e.held k)

viewed : (f : Frame) (name : Name) (r : Result BoundQuery TextFault) → ((a : BoundQuery) → r ≡ Ok a → HasNeeds (length f.catalog) (View a)) → HaveNeeds f.catalog → HaveNeeds (with_held name (view_held r) f.catalog)
viewed f name (Ok answer) go h = one_more f.catalog (record { name = name; rel = next_rel f.catalog; held = View answer }) h (go answer refl)
viewed f name (Err fault) go h = h

pub HaveNeeds-after_catalog : (f : Frame) (act : Act) → IsNumbered f → HaveNeeds f.catalog → HaveNeeds (after_catalog f act)
HaveNeeds-after_catalog f (create_table name owner columns) m h = one_more f.catalog (record { name = name; rel = next_rel f.catalog; held = Table columns }) h tt
HaveNeeds-after_catalog f (create_view name owner query) m h = viewed f name (bound_query f.catalog query) (text_keeps f.catalog (λ plan ns. AreBelow (length f.catalog) ns) (needs_keep f.catalog m.relations h) query) h
HaveNeeds-after_catalog f _ m h = h

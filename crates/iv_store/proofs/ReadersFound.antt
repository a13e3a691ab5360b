-- The reader of each subscription, and what roles read.
use Rattle.std.proofs.Common.{◌≡◌, ℕ, ◌+◌, ◌<◌, ◌≤◌, Bool, true, false, cond, ◌&&◌, ◌||◌, List, [], ◌∷◌, ◌++◌, length, get_or, take, Option, None, Some, refl, sym, ap, subst, ◌∙◌}
use Rattle.std.proofs.lemmas.List.{take_more}
use Rattle.std.proofs.lemmas.List.Folds.{list_any-append}
use Rattle.std.specs.Prelude.{◌==◌, is_some, option_map, unwrap_or}
use Rattle.std.specs.List.{AllByRecursion, list_any}
use Rattle.iv_rows.specs.Options.{if_some}
use Rattle.iv_machine.specs.State.{Session, Subscription, actor, session_of}
use Rattle.iv_readers.specs.Index.{IsIndexOf}
use Rattle.iv_readers.specs.declared.ids.ReaderId.{ReaderId}
use Rattle.iv_readers.specs.declared.index.ReaderIndex.{ReaderIndex}
use Rattle.iv_readers.proofs.Lists.{AllByRecursion-zip}
use Rattle.iv_store.specs.Found.{IsFoundBy}
use Rattle.iv_store.specs.Store.{IsOpen, Store, frame_of, is_read_through, place_of}

-- an index of all readers finds that of each subscription
pub all_found : (e : Store) (index : ReaderIndex) → IsIndexOf e.circuits index → (ss : List Subscription) → AllByRecursion (IsOpen e) ss → AllByRecursion (λ s. is_some (place_of e s) ≡ true) ss → AllByRecursion (IsFoundBy e index) ss
all_found e index finds ss shows there = AllByRecursion-zip (IsOpen e) (λ s. is_some (place_of e s) ≡ true) (IsFoundBy e index) ss
    (λ s o t. record { session = o.session; found = finds (actor (frame_of e) s.session) s.rel; there = t }) shows there

-- a subscription among those of a store that is seen otherwise
pub own_at : (e v : Store) (items : List Subscription) (i : ℕ) (s : Subscription) → items ≡ v.subscriptions → v ≡ e → i < length items → s ≡ get_or items i s → (i < length e.subscriptions) × (s ≡ get_or e.subscriptions i s)
own_at e v items i s own view low at =
    let same : items ≡ e.subscriptions = own ∙ ap (λ (w : Store). w.subscriptions) view in
    (subst (λ (ss : List Subscription). i < length ss) same low, subst (λ (ss : List Subscription). s ≡ get_or ss i s) same at)

-- and past the last one
pub over_own : (e v : Store) (items : List Subscription) (i : ℕ) → items ≡ v.subscriptions → v ≡ e → length items ≤ i → length e.subscriptions ≤ i
over_own e v items i own view out = subst (λ (ss : List Subscription). length ss ≤ i) (own ∙ ap (λ (w : Store). w.subscriptions) view) out

-- what is found where there is something
pub is_found : (found : Option ReaderId) (place : Option ℕ) → option_map (λ r. r.0) found ≡ place → is_some place ≡ true → is_some found ≡ true
is_found None place is there = let clash : false ≡ true = ap is_some is ∙ there in cc
is_found (Some r) place is there = refl

-- ---- what roles read

-- a pair more
pub reads-more : (t b : Bool) → cond t true b ≡ (b || t)
reads-more true true = refl
reads-more true false = refl
reads-more false true = refl
reads-more false false = refl

-- the role acts in the session
pub acts-Some : (o : Option Session) (role a : ℕ) → Some role ≡ option_map (λ s. s.role) o → if_some o false (λ s. s.role == a) ≡ (role == a)
acts-Some None role a h = let clash : true ≡ false = ap is_some h in cc
acts-Some (Some s) role a h = ap (λ (o : Option ℕ). unwrap_or o 0 == a) (sym h)

-- no role acts in it
pub acts-None : (o : Option Session) (a : ℕ) → None ≡ option_map (λ s. s.role) o → if_some o false (λ s. s.role == a) ≡ false
acts-None None a h = refl
acts-None (Some s) a h = let clash : false ≡ true = ap is_some h in cc

-- the same of what is read through a subscription
pub through-Some : (e : Store) (s : Subscription) (role rel a b : ℕ) → rel ≡ s.rel → Some role ≡ option_map (λ x. x.role) (session_of e.sessions s.session)
    → ((role == a) && (rel == b)) ≡ is_read_through (frame_of e) a b s
through-Some e s role rel a b same acts = swapped (role == a) (rel == b) ∙ (λ j. (same j == b) && sym (acts-Some (session_of e.sessions s.session) role a acts) j)
  where
    swapped : (x y : Bool) → (x && y) ≡ (y && x)
    swapped true true = refl
    swapped true false = refl
    swapped false true = refl
    swapped false false = refl

pub through-None : (e : Store) (s : Subscription) (a b : ℕ) → None ≡ option_map (λ x. x.role) (session_of e.sessions s.session) → is_read_through (frame_of e) a b s ≡ false
through-None e s a b acts = ap (λ t. (s.rel == b) && t) (acts-None (session_of e.sessions s.session) a acts) ∙ none (s.rel == b)
  where
    none : (x : Bool) → (x && false) ≡ false
    none true = refl
    none false = refl

pub or_false : (b : Bool) → (b || false) ≡ b
or_false true = refl
or_false false = refl

-- one subscription more
pub list_any-take_more : (p : Subscription → Bool) (ss : List Subscription) (i : ℕ) (s : Subscription) → i < length ss → s ≡ get_or ss i s → list_any p (take (i + 1) ss) ≡ (list_any p (take i ss) || p s)
list_any-take_more p ss i s low at =
    ap (list_any p) (take_more ss i s low ∙ ap (λ x. take i ss ++ x ∷ []) (sym at)) ∙ list_any-append p (take i ss) (s ∷ []) ∙ ap (λ b. list_any p (take i ss) || b) (or_false (p s))

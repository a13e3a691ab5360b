-- The sessions and relations of open subscriptions are there, and so are the roles of sessions.
use Rattle.std.proofs.Common.{◌≡◌, ℕ, suc, ◌<◌, Bool, true, false, cond, List, [], ◌∷◌, ◌++◌, length, Option, Some, None, ap, ◌∙◌, sym, refl, arith, length-append, eq-eqb}
use Rattle.std.proofs.lemmas.Bool.Decides.{nat_tests}
use Rattle.std.specs.Prelude.{find, filter, is_some, not, nat_lt, ◌==◌, unwrap_or, position, bytes_eq}
use Rattle.std.specs.List.{AllByRecursion, position_or_len}
use Rattle.iv_bind.specs.BoundTexts.{bound_query}
use Rattle.iv_bind.specs.Catalogs.{BoundQuery, Held, Table, View, named, numbered}
use Rattle.iv_bind.specs.Catalogs as catalogs
use Rattle.iv_rows.specs.Options.{if_some}
use Rattle.iv_access.specs.Access.{role_number}
use Rattle.iv_access.specs.Rights.{Name}
use Rattle.iv_machine.specs.Act.{Act, begin, finish, create_role, create_table, create_view, subscribe, unsubscribe, no_session, session_in_use, unknown_role, unknown_relation}
use Rattle.iv_machine.specs.State.{Frame, Session, Subscription, is_open, actor, next_rel, rel_of}
use Rattle.iv_machine.specs.Refusing.{test, known_role, known_relation, first, frame_refusal, tests_by}
use Rattle.iv_machine.specs.Changing.{with_held, view_held, opened_by, insert_subscription, after_frame}
use Rattle.iv_machine.specs.Numbered.{AreNumbered, IsNumbered}
use Rattle.iv_machine.proofs.OpenSubscriptions.{or_else-None, test_not-None}

-- its session is open and its relation is known
abbrev pub IsPlaced : Frame → Subscription → Type 0
IsPlaced f e = (is_open f e.session ≡ true) × (is_some (numbered f.catalog e.rel) ≡ true)

-- ---- what is found

module _ {X : Type 0} (p : X → Bool) where
  pub find_kept : (xs ys : List X) → is_some (find p xs) ≡ true → find p (xs ++ ys) ≡ find p xs
  find_kept [] ys h = cc
  find_kept (x ∷ xs) ys h = by (p x) h (λ k. find_kept xs ys k)
    where
      by : (b : Bool) → is_some (cond b (Some x) (find p xs)) ≡ true → (is_some (find p xs) ≡ true → find p (xs ++ ys) ≡ find p xs) → cond b (Some x) (find p (xs ++ ys)) ≡ cond b (Some x) (find p xs)
      by true k go = refl
      by false k go = go k

  pub find_more : (xs ys : List X) → is_some (find p xs) ≡ true → is_some (find p (xs ++ ys)) ≡ true
  find_more xs ys h = ap is_some (find_kept xs ys h) ∙ h

-- another session is found as before where session n is closed
pub find-other_session : (m n : ℕ) (es : List Session) → (n == m) ≡ false → find (λ e. m == e.number) (filter (λ e. not (n == e.number)) es) ≡ find (λ e. m == e.number) es
find-other_session m n [] d = refl
find-other_session m n (e ∷ es) d = by (n == e.number) refl (find-other_session m n es d)
  where
    apart : (n == e.number) ≡ true → (m == e.number) ≡ false
    apart h = grind (arith, nat_tests)

    by : (b : Bool) → (n == e.number) ≡ b → find (λ x. m == x.number) (filter (λ x. not (n == x.number)) es) ≡ find (λ x. m == x.number) es
        → find (λ x. m == x.number) (cond (not b) (e ∷ filter (λ x. not (n == x.number)) es) (filter (λ x. not (n == x.number)) es)) ≡ find (λ x. m == x.number) (e ∷ es)
    by true h go = go ∙ sym (ap (λ b. cond b (Some e) (find (λ x. m == x.number) es)) (apart h))
    by false h go = ap (λ o. cond (m == e.number) (Some e) o) go

-- ---- names and numbers of relations

-- no relation has a number below the first
none_below : (n t : ℕ) (es : List catalogs.CatalogEntry) → AreNumbered n es → t < n → find (λ e. t == e.rel) es ≡ None
none_below n t [] a l = refl
none_below n t (e ∷ es) a l =
    let r = a.0 in
    let d : (t == e.rel) ≡ false = grind (arith, nat_tests) in
    ap (λ b. cond b (Some e) (find (λ x. t == x.rel) es)) d ∙ none_below (suc n) t es a.1 (omega arith)

-- a relation that is found has its number
pub find-by_number : (n : ℕ) (es : List catalogs.CatalogEntry) (p : catalogs.CatalogEntry → Bool) (x : catalogs.CatalogEntry) → AreNumbered n es → find p es ≡ Some x → find (λ e. x.rel == e.rel) es ≡ Some x
find-by_number n [] p x a h = cc
find-by_number n (e ∷ es) p x a h = by (p e) h (find-by_number (suc n) es p x a.1)
  where
    later : (b : Bool) → (x.rel == e.rel) ≡ b → find (λ y. x.rel == y.rel) es ≡ Some x → cond b (Some e) (find (λ y. x.rel == y.rel) es) ≡ Some x
    later true k f =
        let r = a.0 in
        let l : x.rel < suc n = grind (arith, nat_tests) in
        let none : find (λ y. x.rel == y.rel) es ≡ None = none_below (suc n) x.rel es a.1 l in
        cc
    later false k f = f

    by : (b : Bool) → cond b (Some e) (find p es) ≡ Some x → (find p es ≡ Some x → find (λ y. x.rel == y.rel) es ≡ Some x) → find (λ y. x.rel == y.rel) (e ∷ es) ≡ Some x
    by true k go = let same : e ≡ x = cc in ap (λ b. cond b (Some e) (find (λ y. x.rel == y.rel) es)) (eq-eqb x.rel e.rel (ap (λ (y : catalogs.CatalogEntry). y.rel) (sym same))) ∙ ap Some same
    by false k go = later (x.rel == e.rel) refl (go k)

pub some_of : {X : Type 0} (o : Option X) → is_some o ≡ true → (P : Type 0) → ((x : X) → o ≡ Some x → P) → P
some_of None h P go = cc
some_of (Some x) h P go = go x refl

-- the number of a known relation is found
pub numbered-rel_of : (f : Frame) (name : Name) → IsNumbered f → is_some (named f.catalog name) ≡ true → is_some (numbered f.catalog (rel_of f.catalog name)) ≡ true
numbered-rel_of f name a h = some_of (named f.catalog name) h (is_some (numbered f.catalog (rel_of f.catalog name)) ≡ true)
    (λ x k. ap (λ o. is_some (numbered f.catalog (if_some o (next_rel f.catalog) (λ e. e.rel)))) k ∙ ap is_some (find-by_number 0 f.catalog (λ e. bytes_eq name e.name) x a.relations k))

-- ---- lists of subscriptions

module _ {X : Type 0} (P Q : X → Type 0) (go : (x : X) → P x → Q x) where
  pub all_go : (xs : List X) → AllByRecursion P xs → AllByRecursion Q xs
  all_go [] h = tt
  all_go (x ∷ xs) h = (go x h.0, all_go xs h.1)

module _ (P : Subscription → Type 0) where
  all_placed : (b : Bool) (e f : Subscription) (fs gs : List Subscription) → P e → AllByRecursion P (f ∷ fs) → AllByRecursion P gs → AllByRecursion P (cond b (e ∷ f ∷ fs) (f ∷ gs))
  all_placed true e f fs gs h k l = (h, k)
  all_placed false e f fs gs h k l = (k.0, l)

  pub all_inserted : (e : Subscription) (fs : List Subscription) → P e → AllByRecursion P fs → AllByRecursion P (insert_subscription e fs)
  all_inserted e [] h k = (h, tt)
  all_inserted e (f ∷ fs) h k = all_placed (nat_lt e.session f.session) e f fs (insert_subscription e fs) h k (all_inserted e fs h k.1)

module _ {X : Type 0} (P Q : X → Type 0) (p : X → Bool) (go : (x : X) → p x ≡ true → P x → Q x) where
  all_kept_by : (b : Bool) (x : X) (xs : List X) → p x ≡ b → P x → AllByRecursion Q xs → AllByRecursion Q (cond b (x ∷ xs) xs)
  all_kept_by true x xs e h k = (go x e h, k)
  all_kept_by false x xs e h k = k

  pub all_kept : (xs : List X) → AllByRecursion P xs → AllByRecursion Q (filter p xs)
  all_kept [] h = tt
  all_kept (x ∷ xs) h = all_kept_by (p x) x (filter p xs) refl h.0 (all_kept xs h.1)

-- ---- what a command keeps

placed_begun : (f : Frame) (n : ℕ) (role : Name) (e : Subscription) → IsPlaced f e → IsPlaced (after_frame f n (begin role)) e
placed_begun f n role e h = (find_more (λ (x : Session). e.session == x.number) f.sessions (record { number = n; role = role_number f.rights role } ∷ []) h.0, h.1)

placed_finished : (f : Frame) (n : ℕ) (e : Subscription) → not (n == e.session) ≡ true → IsPlaced f e → IsPlaced (after_frame f n finish) e
placed_finished f n e d h = (ap is_some (find-other_session e.session n f.sessions (is_false (n == e.session) d)) ∙ h.0, h.1)
  where
    is_false : (b : Bool) → not b ≡ true → b ≡ false
    is_false true k = sym k
    is_false false k = refl

more_known : (f : Frame) (name : Name) (o : Option Held) (k : ℕ) → is_some (numbered f.catalog k) ≡ true → is_some (numbered (with_held name o f.catalog) k) ≡ true
more_known f name None k h = h
more_known f name (Some held) k h = find_more (λ (x : catalogs.CatalogEntry). k == x.rel) f.catalog (record { name = name; rel = next_rel f.catalog; held = held } ∷ []) h

placed_opened : (f : Frame) (n : ℕ) (rel : Name) → IsNumbered f → frame_refusal f n (subscribe rel) ≡ None → IsPlaced (after_frame f n (subscribe rel)) (opened_by f n rel)
placed_opened f n rel a h =
    let s = or_else-None (test (not (is_open f n)) no_session) (first (tests_by f n (actor f n) (subscribe rel))) h in
    let r = or_else-None (known_relation f rel) _ s.1 in
    (test_not-None (is_open f n) no_session s.0, numbered-rel_of f rel a (test_not-None (is_some (named f.catalog rel)) unknown_relation r.0))

pub IsPlaced-after_frame : (f : Frame) (n : ℕ) (act : Act) → IsNumbered f → frame_refusal f n act ≡ None → AllByRecursion (IsPlaced f) f.subscriptions → AllByRecursion (IsPlaced (after_frame f n act)) (after_frame f n act).subscriptions
IsPlaced-after_frame f n (begin role) a r h = all_go (IsPlaced f) (IsPlaced (after_frame f n (begin role))) (placed_begun f n role) f.subscriptions h
IsPlaced-after_frame f n finish a r h = all_kept (IsPlaced f) (IsPlaced (after_frame f n finish)) (λ e. not (n == e.session)) (placed_finished f n) f.subscriptions h
IsPlaced-after_frame f n (create_table name owner columns) a r h = all_go (IsPlaced f) (IsPlaced (after_frame f n (create_table name owner columns))) (λ e k. (k.0, more_known f name (Some (Table columns)) e.rel k.1)) f.subscriptions h
IsPlaced-after_frame f n (create_view name owner query) a r h = all_go (IsPlaced f) (IsPlaced (after_frame f n (create_view name owner query))) (λ e k. (k.0, more_known f name (view_held (bound_query f.catalog query)) e.rel k.1)) f.subscriptions h
IsPlaced-after_frame f n (subscribe rel) a r h = all_inserted (IsPlaced (after_frame f n (subscribe rel))) (opened_by f n rel) f.subscriptions (placed_opened f n rel a r) h
IsPlaced-after_frame f n (unsubscribe k) a r h = all_kept (IsPlaced f) (IsPlaced f) (λ e. not (k == e.number)) (λ e b p. p) f.subscriptions h
IsPlaced-after_frame f n _ a r h = h

-- ---- the roles of sessions

-- the session's role is there
abbrev pub HasRole : Frame → Session → Type 0
HasRole f e = e.role < length f.rights.roles

place_below : (b : Bool) (k m : ℕ) → nat_lt k m ≡ b → is_some (cond b (Some k) None) ≡ true → unwrap_or (cond b (Some k) None) m < m
place_below true k m e h = grind (arith, nat_tests)
place_below false k m e h = cc

-- the number of a known role is below their number
pub lt-role_number : (f : Frame) (name : Name) → known_role f name ≡ None → role_number f.rights name < length f.rights.roles
lt-role_number f name h = let roles = f.rights.roles in
    place_below (nat_lt (position_or_len (bytes_eq name) roles) (length roles)) (position_or_len (bytes_eq name) roles) (length roles) refl (test_not-None (is_some (position (bytes_eq name) roles)) unknown_role h)

pub HasRole-after_frame : (f : Frame) (n : ℕ) (act : Act) → frame_refusal f n act ≡ None → AllByRecursion (HasRole f) f.sessions → AllByRecursion (HasRole (after_frame f n act)) (after_frame f n act).sessions
HasRole-after_frame f n (begin role) r h =
    let a = or_else-None (test (is_open f n) session_in_use) _ r in
    let b = or_else-None (known_role f role) _ a.1 in
    all_pushed f.sessions h (lt-role_number f role b.0)
  where
    all_pushed : (es : List Session) → AllByRecursion (HasRole f) es → role_number f.rights role < length f.rights.roles → AllByRecursion (HasRole f) (es ++ record { number = n; role = role_number f.rights role } ∷ [])
    all_pushed [] h k = (k, tt)
    all_pushed (e ∷ es) h k = (h.0, all_pushed es h.1 k)
HasRole-after_frame f n finish r h = all_kept (HasRole f) (HasRole f) (λ e. not (n == e.number)) (λ e b p. p) f.sessions h
HasRole-after_frame f n (create_role name) r h = all_go (HasRole f) (HasRole (after_frame f n (create_role name))) (λ e k. let more = length-append f.rights.roles (name ∷ []) in omega (arith, more, k)) f.sessions h
HasRole-after_frame f n _ r h = h

-- No role, relation or session is named twice.
use Rattle.std.proofs.Common.{◌≡◌, ℕ, suc, ◌+◌, Bool, true, false, cond, ◌||◌, List, [], ◌∷◌, ◌++◌, map, length, Option, Some, None, Result, Ok, Err, ap, ◌∙◌, sym, refl, subst, arith, eq-eqb}
use Rattle.std.specs.Prelude.{find, is_some, bytes_eq, ◌==◌, Decides, not, filter, position, nat_lt}
use Rattle.std.specs.List.{IsDistinct, AllByRecursion, list_any, position_or_len}
use Rattle.std.specs.Cmp.{IsEquivalence}
use Rattle.std.proofs.lemmas.Bool.Decides.{nat_tests}
use Rattle.std.proofs.lemmas.Slice.Eq.{bytes_eq-Decides}
use Rattle.std.proofs.lemmas.Map.Keys.{IsDistinct-push}
use Rattle.iv_bind.specs.BoundTexts.{TextFault, bound_query}
use Rattle.iv_bind.specs.Catalogs.{BoundQuery, Held, Table, View}
use Rattle.iv_bind.specs.Catalogs as catalogs
use Rattle.iv_access.specs.Access.{role_number}
use Rattle.iv_access.specs.Rights.{Name}
use Rattle.iv_machine.specs.Act.{Act, begin, finish, create_role, create_table, create_view, session_in_use, no_session, name_taken, Refusal}
use Rattle.iv_machine.specs.State.{Frame, Session, is_open, actor, next_rel, start_frame}
use Rattle.iv_machine.specs.Refusing.{test, administrator, known_role, free_role, free_relation, or_else, first, frame_refusal, tests_by}
use Rattle.iv_machine.specs.Changing.{with_held, view_held, after_frame}
use Rattle.iv_machine.specs.Sound.{AreNamesDistinct}
use Rattle.iv_machine.proofs.OpenSubscriptions.{or_else-None}

pub test-None : (b : Bool) (r : Refusal) → test b r ≡ None → b ≡ false
test-None true r h = cc
test-None false r h = refl

-- ---- a test that decides equality is an equivalence

same_answer : (b c : Bool) → (b ≡ true → c ≡ true) → (c ≡ true → b ≡ true) → b ≡ c
same_answer true c h k = sym (h refl)
same_answer false true h k = k refl
same_answer false false h k = refl

equivalence : {K : Type 0} (same : K → K → Bool) → ((x y : K) → Decides (same x y) (x ≡ y)) → IsEquivalence same
equivalence same d = record {
  refl = λ x. (d x x).1 refl;
  symm = λ x y. same_answer (same x y) (same y x) (λ h. (d y x).1 (sym ((d x y).0 h))) (λ h. (d x y).1 (sym ((d y x).0 h)));
  congr = λ x y z h. ap (λ w. same w z) ((d x y).0 h);
}

bytes_equiv : IsEquivalence bytes_eq
bytes_equiv = equivalence bytes_eq bytes_eq-Decides

pub numbers_decide : (m n : ℕ) → Decides (m == n) (m ≡ n)
numbers_decide m n = ((λ h. grind (arith, nat_tests)), eq-eqb m n)

number_equiv : IsEquivalence (λ (m n : ℕ). m == n)
number_equiv = equivalence (λ (m n : ℕ). m == n) numbers_decide

-- ---- one more, and some fewer

module _ {X K : Type 0} (same : K → K → Bool) (equiv : IsEquivalence same) (key : X → K) where
  map_push : (xs : List X) (x : X) → map key (xs ++ x ∷ []) ≡ map key xs ++ key x ∷ []
  map_push [] x = refl
  map_push (y ∷ xs) x = ap (λ ks. key y ∷ ks) (map_push xs x)

  found_or : (b : Bool) (x : X) (o : Option X) (c : Bool) → is_some o ≡ c → is_some (cond b (Some x) o) ≡ (b || c)
  found_or true x o c h = refl
  found_or false x o c h = h

  found_is : (k : K) (xs : List X) → is_some (find (λ x. same k (key x)) xs) ≡ list_any (same k) (map key xs)
  found_is k [] = refl
  found_is k (x ∷ xs) = found_or (same k (key x)) x (find (λ y. same k (key y)) xs) (list_any (same k) (map key xs)) (found_is k xs)

  distinct_push : (xs : List X) (x : X) → IsDistinct same (map key xs) → is_some (find (λ y. same (key x) (key y)) xs) ≡ false → IsDistinct same (map key (xs ++ x ∷ []))
  distinct_push xs x d h = subst (IsDistinct same) (sym (map_push xs x)) (IsDistinct-push equiv (map key xs) (key x) d (sym (found_is (key x) xs) ∙ h))

module _ {X K : Type 0} (same : K → K → Bool) (key : X → K) (p : X → Bool) where
  apart_by : (b : Bool) (k : K) (x : X) (ks : List X) → same k (key x) ≡ false → AllByRecursion (λ y. same k y ≡ false) (map key ks) → AllByRecursion (λ y. same k y ≡ false) (map key (cond b (x ∷ ks) ks))
  apart_by true k x ks h a = (h, a)
  apart_by false k x ks h a = a

  apart_kept : (k : K) (xs : List X) → AllByRecursion (λ y. same k y ≡ false) (map key xs) → AllByRecursion (λ y. same k y ≡ false) (map key (filter p xs))
  apart_kept k [] a = tt
  apart_kept k (x ∷ xs) a = apart_by (p x) k x (filter p xs) a.0 (apart_kept k xs a.1)

  distinct_by : (b : Bool) (x : X) (ks : List X) → AllByRecursion (λ y. same (key x) y ≡ false) (map key ks) → IsDistinct same (map key ks) → IsDistinct same (map key (cond b (x ∷ ks) ks))
  unfolding IsDistinct
  distinct_by true x ks a d = (a, d)
  distinct_by false x ks a d = d

  distinct_kept : (xs : List X) → IsDistinct same (map key xs) → IsDistinct same (map key (filter p xs))
  unfolding IsDistinct
  distinct_kept [] d = tt
  distinct_kept (x ∷ xs) d = distinct_by (p x) x (filter p xs) (apart_kept (key x) xs d.0) (distinct_kept xs d.1)

-- ---- places

some_is : (b : Bool) (n : ℕ) → is_some (cond b (Some n) None) ≡ b
some_is true n = refl
some_is false n = refl

module _ {X : Type 0} (p : X → Bool) where
  before_end : (xs : List X) → nat_lt (position_or_len p xs) (length xs) ≡ list_any p xs
  before_end [] = refl
  before_end (x ∷ xs) = by (p x) (before_end xs)
    where
      by : (b : Bool) → nat_lt (position_or_len p xs) (length xs) ≡ list_any p xs → nat_lt (cond (not b) (1 + position_or_len p xs) 0) (length (x ∷ xs)) ≡ (b || list_any p xs)
      by true h = grind (arith, nat_tests)
      by false h = same_answer (nat_lt (1 + position_or_len p xs) (length (x ∷ xs))) (list_any p xs) (λ k. sym h ∙ one_less k) (λ k. one_more (h ∙ k))
        where
          one_less : nat_lt (1 + position_or_len p xs) (suc (length xs)) ≡ true → nat_lt (position_or_len p xs) (length xs) ≡ true
          one_less k = grind (arith, nat_tests)

          one_more : nat_lt (position_or_len p xs) (length xs) ≡ true → nat_lt (1 + position_or_len p xs) (suc (length xs)) ≡ true
          one_more k = grind (arith, nat_tests)

  -- an element that passes has a place
  pub placed_is : (xs : List X) → is_some (position p xs) ≡ list_any p xs
  placed_is xs = some_is (nat_lt (position_or_len p xs) (length xs)) (position_or_len p xs) ∙ before_end xs

-- ---- names

new_relation : (f : Frame) (name : Name) (held : Held) → free_relation f name ≡ None → IsDistinct bytes_eq (map (λ e. e.name) f.catalog) → IsDistinct bytes_eq (map (λ e. e.name) (with_held name (Some held) f.catalog))
new_relation f name held h d = distinct_push bytes_eq bytes_equiv (λ (x : catalogs.CatalogEntry). x.name) f.catalog (record { name = name; rel = next_rel f.catalog; held = held }) d
    (test-None (is_some (find (λ x. bytes_eq name x.name) f.catalog)) name_taken h)

new_view : (f : Frame) (name : Name) (r : Result BoundQuery TextFault) → free_relation f name ≡ None → IsDistinct bytes_eq (map (λ e. e.name) f.catalog) → IsDistinct bytes_eq (map (λ e. e.name) (with_held name (view_held r) f.catalog))
new_view f name (Ok answer) h d = new_relation f name (View answer) h d
new_view f name (Err fault) h d = d

-- the name of a new relation is free
free_name : (f : Frame) (role : ℕ) (owner name : Name) (later : Option Refusal) → or_else (administrator role) (or_else (known_role f owner) (or_else (free_relation f name) later)) ≡ None → free_relation f name ≡ None
free_name f role owner name later h = (or_else-None (free_relation f name) later (or_else-None (known_role f owner) _ (or_else-None (administrator role) _ h).1).1).0

pub AreNamesDistinct-after_frame : (f : Frame) (n : ℕ) (act : Act) → frame_refusal f n act ≡ None → AreNamesDistinct f → AreNamesDistinct (after_frame f n act)
AreNamesDistinct-after_frame f n (begin role) h d = record {
  roles = d.roles;
  relations = d.relations;
  sessions = distinct_push (λ (m k : ℕ). m == k) number_equiv (λ (e : Session). e.number) f.sessions (record { number = n; role = role_number f.rights role }) d.sessions
      (test-None (is_open f n) session_in_use (or_else-None (test (is_open f n) session_in_use) _ h).0);
}
AreNamesDistinct-after_frame f n finish h d = record {
  roles = d.roles;
  relations = d.relations;
  sessions = distinct_kept (λ (m k : ℕ). m == k) (λ (e : Session). e.number) (λ (e : Session). not (n == e.number)) f.sessions d.sessions;
}
AreNamesDistinct-after_frame f n (create_role name) h d =
    let a = or_else-None (test (not (is_open f n)) no_session) (first (tests_by f n (actor f n) (create_role name))) h in
    let b = or_else-None (administrator (actor f n)) _ a.1 in
    let free = (or_else-None (free_role f name) _ b.1).0 in
    record {
      roles = IsDistinct-push bytes_equiv f.rights.roles name d.roles (sym (placed_is (bytes_eq name) f.rights.roles) ∙ test-None (is_some (position (bytes_eq name) f.rights.roles)) name_taken free);
      relations = d.relations;
      sessions = d.sessions;
    }
AreNamesDistinct-after_frame f n (create_table name owner columns) h d =
    let a = or_else-None (test (not (is_open f n)) no_session) (first (tests_by f n (actor f n) (create_table name owner columns))) h in
    record { roles = d.roles; relations = new_relation f name (Table columns) (free_name f (actor f n) owner name _ a.1) d.relations; sessions = d.sessions }
AreNamesDistinct-after_frame f n (create_view name owner query) h d =
    let a = or_else-None (test (not (is_open f n)) no_session) (first (tests_by f n (actor f n) (create_view name owner query))) h in
    record { roles = d.roles; relations = new_view f name (bound_query f.catalog query) (free_name f (actor f n) owner name _ a.1) d.relations; sessions = d.sessions }
AreNamesDistinct-after_frame f n _ h d = record { roles = d.roles; relations = d.relations; sessions = d.sessions }

pub AreNamesDistinct-start : (cap : ℕ) → AreNamesDistinct (start_frame cap)
unfolding IsDistinct
AreNamesDistinct-start cap = record { roles = (tt, tt); relations = tt; sessions = tt }

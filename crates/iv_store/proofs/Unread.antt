-- Circuits that open subscriptions read.
use Rattle.std.proofs.Common.{◌≡◌, ℕ, ◌+◌, Bool, true, false, cond, ◌&&◌, ◌||◌, List, [], ◌∷◌, ◌++◌, length, Option, None, Some, refl, sym, ap, subst, ◌∙◌, arith}
use Rattle.std.proofs.lemmas.Bool.Decides.{nat_tests}
use Rattle.std.specs.Prelude.{◌==◌, filter, is_some, option_map, position, unwrap_or}
use Rattle.std.specs.List.{AllByRecursion, list_any}
use Rattle.iv_rows.specs.Options.{if_some}
use Rattle.iv_machine.specs.State.{Frame, Session, Subscription, actor, is_open, session_of}
use Rattle.iv_readers.specs.Readers.{RoleCircuit, is_for}
use Rattle.iv_readers.proofs.Positions.{is_some-position}
use Rattle.iv_store.specs.Store.{is_read}
use Rattle.iv_database.specs.Database.{session_acts_as}

-- ---- sessions

same_nat : (m n : ℕ) → (m == n) ≡ true → m ≡ n
same_nat m n h = grind (arith, nat_tests)

is_self : (n : ℕ) → (n == n) ≡ true
is_self n = grind (arith, nat_tests)

role_is : (o : Option Session) (role d : ℕ) → if_some o false (λ s. s.role == role) ≡ true → unwrap_or (option_map (λ s. s.role) o) d ≡ role
role_is None role d h = cc
role_is (Some s) role d h = same_nat s.role role h

-- a session that acts for the role has it as its actor, and the other way round where it is open
pub acts_is : (f : Frame) (n role : ℕ) → session_acts_as f n role ≡ true → actor f n ≡ role
acts_is f n role h = role_is (session_of f.sessions n) role (length f.rights.roles) h

pub is_acting : (f : Frame) (n : ℕ) → is_open f n ≡ true → session_acts_as f n (actor f n) ≡ true
is_acting f n h = by (session_of f.sessions n) (length f.rights.roles) h
  where
    by : (o : Option Session) (d : ℕ) → is_some o ≡ true → if_some o false (λ s. s.role == unwrap_or (option_map (λ x. x.role) o) d) ≡ true
    by None d k = cc
    by (Some s) d k = is_self s.role

-- ---- circuits

pair : (a b : Bool) → (a && b) ≡ true → (a ≡ true) × (b ≡ true)
pair true b h = (refl, h)
pair false b h = cc

-- what holds of the role and the relation of each subscription holds of those of a circuit that one reads
module _ (f : Frame) (k : RoleCircuit) (P : (role rel : ℕ) → Type 0) where
  one_read : (s : Subscription) → ((s.rel == k.rel) && session_acts_as f s.session k.role) ≡ true → P (actor f s.session) s.rel → P k.role k.rel
  one_read s t h =
      let b = pair (s.rel == k.rel) (session_acts_as f s.session k.role) t in
      subst (λ rel. P k.role rel) (same_nat s.rel k.rel b.0) (subst (λ role. P role s.rel) (acts_is f s.session k.role b.1) h)

  read_among : (ss : List Subscription) → list_any (λ s. (s.rel == k.rel) && session_acts_as f s.session k.role) ss ≡ true → AllByRecursion (λ s. P (actor f s.session) s.rel) ss → P k.role k.rel
  read_among [] t a = cc
  read_among (s ∷ ss) t a = by ((s.rel == k.rel) && session_acts_as f s.session k.role) refl t (λ u. read_among ss u a.1)
    where
      by : (b : Bool) → ((s.rel == k.rel) && session_acts_as f s.session k.role) ≡ b → (b || list_any (λ x. (x.rel == k.rel) && session_acts_as f x.session k.role) ss) ≡ true
          → (list_any (λ x. (x.rel == k.rel) && session_acts_as f x.session k.role) ss ≡ true → P k.role k.rel) → P k.role k.rel
      by true e u later = one_read s e a.0
      by false e u later = later u

  pub read_has : is_read f k ≡ true → AllByRecursion (λ s. P (actor f s.session) s.rel) f.subscriptions → P k.role k.rel
  read_has t a = read_among f.subscriptions t a

-- with other sessions, where those of the subscriptions stay
pub list_any-session_of : (f : Frame) (others : List Session) (k : RoleCircuit) (ss : List Subscription) → AllByRecursion (λ s. session_of others s.session ≡ session_of f.sessions s.session) ss
    → list_any (λ s. (s.rel == k.rel) && session_acts_as (record f { sessions = others }) s.session k.role) ss ≡ list_any (λ s. (s.rel == k.rel) && session_acts_as f s.session k.role) ss
list_any-session_of f others k [] a = refl
list_any-session_of f others k (s ∷ ss) a = λ i. ((s.rel == k.rel) && if_some (a.0 i) false (λ x. x.role == k.role)) || list_any-session_of f others k ss a.1 i

-- ---- circuits that are dropped

-- among those that pass each finds what passes too
module _ (p t : RoleCircuit → Bool) (goes : (k : RoleCircuit) → t k ≡ true → p k ≡ true) where
  none_missing : (ks : List RoleCircuit) → list_any t ks ≡ true → list_any t (filter p ks) ≡ true
  none_missing [] h = h
  none_missing (k ∷ ks) h = by (p k) (t k) refl refl h (none_missing ks)
    where
      by : (b c : Bool) → p k ≡ b → t k ≡ c → (c || list_any t ks) ≡ true → (list_any t ks ≡ true → list_any t (filter p ks) ≡ true) → list_any t (cond b (k ∷ filter p ks) (filter p ks)) ≡ true
      by true true e d u later = ap (λ x. x || list_any t (filter p ks)) d
      by true false e d u later = ap (λ x. x || list_any t (filter p ks)) d ∙ later u
      by false true e d u later = let no : false ≡ true = sym e ∙ goes k d in cc
      by false false e d u later = later u

-- a place is found where one passes, and nowhere else
pub place_found : (t : RoleCircuit → Bool) (ks : List RoleCircuit) → is_some (position t ks) ≡ true → list_any t ks ≡ true
place_found t ks h = sym (is_some-position t ks) ∙ h

found_place : (t : RoleCircuit → Bool) (ks : List RoleCircuit) → list_any t ks ≡ true → is_some (position t ks) ≡ true
found_place t ks h = is_some-position t ks ∙ h

-- so an open subscription finds its circuit after the drop
pub is_some-position_filter : (f : Frame) (role rel : ℕ) (ks : List RoleCircuit) → ((k : RoleCircuit) → is_for role rel k ≡ true → is_read f k ≡ true)
    → is_some (position (is_for role rel) ks) ≡ true → is_some (position (is_for role rel) (filter (is_read f) ks)) ≡ true
is_some-position_filter f role rel ks goes h = found_place (is_for role rel) (filter (is_read f) ks) (none_missing (is_read f) (is_for role rel) goes ks (place_found (is_for role rel) ks h))

-- and with more behind them
pub is_some-position_append : (t : RoleCircuit → Bool) (ks more : List RoleCircuit) → is_some (position t ks) ≡ true → is_some (position t (ks ++ more)) ≡ true
is_some-position_append t ks more h = found_place t (ks ++ more) (any_more ks (place_found t ks h))
  where
    by : (b c d : Bool) → (b || c) ≡ true → (c ≡ true → d ≡ true) → (b || d) ≡ true
    by true c d u later = refl
    by false c d u later = later u

    any_more : (xs : List RoleCircuit) → list_any t xs ≡ true → list_any t (xs ++ more) ≡ true
    any_more [] k = cc
    any_more (x ∷ xs) k = by (t x) (list_any t xs) (list_any t (xs ++ more)) k (any_more xs)

-- a subscription reads what is for its role and relation
pub and-session_acts_as : (f : Frame) (s : Subscription) (k : RoleCircuit) → is_open f s.session ≡ true → k.role ≡ actor f s.session → k.rel ≡ s.rel → ((s.rel == k.rel) && session_acts_as f s.session k.role) ≡ true
and-session_acts_as f s k o r l =
    (λ i. (s.rel == l i) && session_acts_as f s.session (r i)) ∙ ap (λ b. b && session_acts_as f s.session (actor f s.session)) (is_self s.rel) ∙ is_acting f s.session o

-- what it reads is read
one_reads : (b : Bool) (ss : List Subscription) (k : RoleCircuit) (f : Frame) → b ≡ true → (b || list_any (λ s. (s.rel == k.rel) && session_acts_as f s.session k.role) ss) ≡ true
one_reads b ss k f h = ap (λ x. x || list_any (λ s. (s.rel == k.rel) && session_acts_as f s.session k.role) ss) h

pub list_any-session_acts_as : (f : Frame) (ss : List Subscription) → AllByRecursion (λ s. is_open f s.session ≡ true) ss
    → AllByRecursion (λ s. (k : RoleCircuit) → k.role ≡ actor f s.session → k.rel ≡ s.rel → list_any (λ x. (x.rel == k.rel) && session_acts_as f x.session k.role) ss ≡ true) ss
list_any-session_acts_as f [] a = tt
list_any-session_acts_as f (s ∷ ss) a = (
  λ k r l. one_reads ((s.rel == k.rel) && session_acts_as f s.session k.role) ss k f (and-session_acts_as f s k a.0 r l),
  later (list_any-session_acts_as f ss a.1),
)
  where
    or_true : (b c : Bool) → c ≡ true → (b || c) ≡ true
    or_true true c h = refl
    or_true false c h = h

    later_among : (xs : List Subscription) → AllByRecursion (λ x. (k : RoleCircuit) → k.role ≡ actor f x.session → k.rel ≡ x.rel → list_any (λ y. (y.rel == k.rel) && session_acts_as f y.session k.role) ss ≡ true) xs
        → AllByRecursion (λ x. (k : RoleCircuit) → k.role ≡ actor f x.session → k.rel ≡ x.rel → (((s.rel == k.rel) && session_acts_as f s.session k.role) || list_any (λ y. (y.rel == k.rel) && session_acts_as f y.session k.role) ss) ≡ true) xs
    later_among [] h = tt
    later_among (x ∷ xs) h = (λ k r l. or_true ((s.rel == k.rel) && session_acts_as f s.session k.role) (list_any (λ y. (y.rel == k.rel) && session_acts_as f y.session k.role) ss) (h.0 k r l), later_among xs h.1)

    later : AllByRecursion (λ x. (k : RoleCircuit) → k.role ≡ actor f x.session → k.rel ≡ x.rel → list_any (λ y. (y.rel == k.rel) && session_acts_as f y.session k.role) ss ≡ true) ss
        → AllByRecursion (λ x. (k : RoleCircuit) → k.role ≡ actor f x.session → k.rel ≡ x.rel → (((s.rel == k.rel) && session_acts_as f s.session k.role) || list_any (λ y. (y.rel == k.rel) && session_acts_as f y.session k.role) ss) ≡ true) ss
    later h = later_among ss h

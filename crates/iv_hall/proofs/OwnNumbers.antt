-- A client's own numbers rise, so each of them follows one feed.
use Rattle.std.proofs.Common.{◌≡◌, ◌∙◌, ◌⊎◌, inl, inr, ℕ, ◌+◌, ◌<◌, ◌≤◌, Bool, true, false, ◌||◌, cond, not, List, [], ◌∷◌, ◌++◌, map, filter, find}
use Rattle.std.proofs.Common.{Option, Some, None}
use Rattle.std.proofs.Common.{option_map, refl, ap, sym, subst, arith}
use Rattle.std.specs.Prelude.{◌==◌, option_and_then}
use Rattle.std.specs.List.{AllByRecursion, list_any}
use Rattle.std.proofs.lemmas.Bool.{cases_Bool, cases_eq, eqb-true, false≢true, ne_eqb, or_left}
use Rattle.iv_rows.specs.Options.{if_some}
use Rattle.iv_clients.specs.Clients.{Sub, at_all, at_client, client_at, followed_by, moved_sub}
use Rattle.iv_clients.specs.Kept.{Kept, Places, is_following, keeping_closed}
use Rattle.iv_clients.proofs.Slots.{client_at-at_all, client_at-at_client, IsFrom-option_map}
use Rattle.iv_hall.specs.Hall.{AreAllNumbered, AreNumbered}
use Rattle.iv_hall.proofs.FeedReaders.{AllByRecursion-filter}
use Rattle.iv_hall.proofs.ClientLists.{client_at-at_client_apart}

-- ---- the numbers of one client

pub AreNumbered-filter : (q : Sub → Bool) (given : ℕ) (subs : List Sub) → AreNumbered given subs → AreNumbered given (filter q subs)
AreNumbered-filter q given [] a = a
AreNumbered-filter q given (s ∷ ss) a = by (q s) (AreNumbered-filter q given ss a.1.1)
  where
    by : (b : Bool) → AreNumbered given (filter q ss) → AreNumbered given (cond b (s ∷ filter q ss) (filter q ss))
    by true rest = (a.0, (AllByRecursion-filter (λ (t : Sub). s.own < t.own) q ss a.1.0, rest))
    by false rest = rest

all_new : (x given : ℕ) (feed : ℕ) (subs : List Sub) → x ≤ given → AllByRecursion (λ (t : Sub). x < t.own) subs
    → AllByRecursion (λ (t : Sub). x < t.own) (subs ++ record { own = given + 1; feed = feed } ∷ [])
all_new x given feed [] l a = (omega (arith, l), tt)
all_new x given feed (s ∷ ss) l a = (a.0, all_new x given feed ss l a.1)

pub AreNumbered-push_own : (given feed : ℕ) (subs : List Sub) → AreNumbered given subs
    → AreNumbered (given + 1) (subs ++ record { own = given + 1; feed = feed } ∷ [])
AreNumbered-push_own given feed [] a = (omega arith, (tt, tt))
AreNumbered-push_own given feed (s ∷ ss) a = (omega (arith, a.0), (all_new s.own given feed ss a.0 a.1.0, AreNumbered-push_own given feed ss a.1.1))

moved_own : (from to : ℕ) (s : Sub) → (moved_sub from to s).own ≡ s.own
moved_own from to s = by (from == s.feed)
  where
    by : (b : Bool) → (cond b (record s { feed = to }) s).own ≡ s.own
    by true = refl
    by false = refl

all_moved : (x from to : ℕ) (subs : List Sub) → AllByRecursion (λ (t : Sub). x < t.own) subs
    → AllByRecursion (λ (t : Sub). x < t.own) (map (moved_sub from to) subs)
all_moved x from to [] a = a
all_moved x from to (s ∷ ss) a = (subst (λ z. x < z) (sym (moved_own from to s)) a.0, all_moved x from to ss a.1)

pub AreNumbered-moved_sub : (from to given : ℕ) (subs : List Sub) → AreNumbered given subs → AreNumbered given (map (moved_sub from to) subs)
AreNumbered-moved_sub from to given [] a = a
AreNumbered-moved_sub from to given (s ∷ ss) a =
    let own = sym (moved_own from to s) in (
      subst (λ z. z ≤ given) own a.0,
      (
        subst (λ z. AllByRecursion (λ (t : Sub). z < t.own) (map (moved_sub from to) ss)) own (all_moved s.own from to ss a.1.0),
        AreNumbered-moved_sub from to given ss a.1.1,
      ),
    )

-- ---- of all clients

pub AreAllNumbered-at_client : (n : ℕ) (f : Kept → Kept) (xs : Places) → ((k : Kept) → AreNumbered k.given k.subs → AreNumbered (f k).given (f k).subs)
    → AreAllNumbered xs → AreAllNumbered (at_client n f xs)
AreAllNumbered-at_client n f xs keeps a = λ m k there. by m k there (cases_eq m n)
  where
    by : (m : ℕ) (k : Kept) → client_at (at_client n f xs) m ≡ Some k → (m ≡ n) ⊎ (m ≡ n → ⊥) → AreNumbered k.given k.subs
    by m k there (inl e) =
        let w = IsFrom-option_map f (client_at xs n) k (sym (client_at-at_client n f xs) ∙ (ap (client_at (at_client n f xs)) (sym e) ∙ there)) in
        subst (λ (z : Kept). AreNumbered z.given z.subs) w.same (keeps w.old (a n w.old w.there))
    by m k there (inr ne) = a m k (sym (client_at-at_client_apart n f xs m ne) ∙ there)

pub AreAllNumbered-at_all : (f : Kept → Kept) (xs : Places) → ((k : Kept) → AreNumbered k.given k.subs → AreNumbered (f k).given (f k).subs)
    → AreAllNumbered xs → AreAllNumbered (at_all f xs)
AreAllNumbered-at_all f xs keeps a = λ m k there.
    let w = IsFrom-option_map f (client_at xs m) k (sym (client_at-at_all f xs m) ∙ there) in
    subst (λ (z : Kept). AreNumbered z.given z.subs) w.same (keeps w.old (a m w.old w.there))

-- ---- what a number followed

abbrev follows : ℕ → List Sub → Bool
follows feed subs = list_any (λ (s : Sub). feed == s.feed) subs

-- without a number
abbrev all_but : ℕ → List Sub → List Sub
all_but own subs = filter (λ (s : Sub). not (own == s.own)) subs

-- numbers above are others
apart : (own x : ℕ) (ts : List Sub) → own ≡ x → AllByRecursion (λ (t : Sub). x < t.own) ts → all_but own ts ≡ ts
apart own x [] e all = refl
apart own x (t ∷ ts) e all =
    ap (λ b. cond (not b) (t ∷ all_but own ts) (all_but own ts))
    (ne_eqb own t.own (λ z. let none : ⊥ = omega (arith, z, e, all.0) in none))
    ∙ ap (λ z. t ∷ z) (apart own x ts e all.1)

-- who does not follow a feed any more once a number is closed followed it by that number
closed_by : (feed own given : ℕ) (subs : List Sub) → AreNumbered given subs → follows feed subs ≡ true
    → follows feed (all_but own subs) ≡ false → followed_by subs own ≡ Some feed
closed_by feed own given [] a h out = absurd (false≢true h)
closed_by feed own given (s ∷ ss) a h out = by (cases_Bool (own == s.own)) (cases_Bool (feed == s.feed))
    (λ more less. closed_by feed own given ss a.1.1 more less)
  where
    later : (feed == s.feed) ≡ false → follows feed ss ≡ true
    later e = ap (λ b. b || follows feed ss) (sym e) ∙ h

    left : (own == s.own) ≡ false → ((feed == s.feed) || follows feed (all_but own ss)) ≡ false
    left e = ap (λ b. follows feed (cond (not b) (s ∷ all_but own ss) (all_but own ss))) (sym e) ∙ out

    gone : (own == s.own) ≡ true → follows feed (all_but own ss) ≡ false
    gone e = ap (λ b. follows feed (cond (not b) (s ∷ all_but own ss) (all_but own ss))) (sym e) ∙ out

    by : ((own == s.own) ≡ true) ⊎ ((own == s.own) ≡ false) → ((feed == s.feed) ≡ true) ⊎ ((feed == s.feed) ≡ false)
        → (follows feed ss ≡ true → follows feed (all_but own ss) ≡ false → followed_by ss own ≡ Some feed)
        → followed_by (s ∷ ss) own ≡ Some feed
    by (inl e) (inl x) further = ap (λ b. option_map (λ (t : Sub). t.feed) (cond b (Some s) (find (λ (t : Sub). own == t.own) ss))) e
        ∙ ap Some (sym (eqb-true feed s.feed x))
    by (inl e) (inr x) further = absurd (false≢true (sym (gone e)
        ∙ (ap (follows feed) (apart own s.own ss (eqb-true own s.own e) a.1.0) ∙ later x)))
    by (inr e) (inl x) further = absurd (false≢true (sym (left e) ∙ or_left (feed == s.feed) (follows feed (all_but own ss)) x))
    by (inr e) (inr x) further =
        ap (λ b. option_map (λ (t : Sub). t.feed) (cond b (Some s) (find (λ (t : Sub). own == t.own) ss))) e
        ∙ further (later x) (ap (λ b. b || follows feed (all_but own ss)) (sym x) ∙ left e)

pub followed_by-keeping_closed : (feed own : ℕ) (o : Option Kept) → ((k : Kept) → o ≡ Some k → AreNumbered k.given k.subs)
    → if_some o false (is_following feed) ≡ true
    → if_some (option_map (keeping_closed own) o) false (is_following feed) ≡ false → option_and_then (λ (k : Kept). followed_by k.subs own) o ≡ Some feed
followed_by-keeping_closed feed own None a h out = absurd (false≢true h)
followed_by-keeping_closed feed own (Some k) a h out = closed_by feed own k.given k.subs (a k refl) h out

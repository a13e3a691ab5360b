-- A session has no more feeds than it may, and a role reads a relation by one.
use Rattle.std.proofs.Common.{◌≡◌, ℕ, suc, ◌<◌, ◌≤◌, ◌+◌, Bool, true, false, not, cond, ◌||◌, List, [], ◌∷◌, length, Option, Some, None, is_some, refl, ap, ◌∙◌, sym, subst, arith}
use Rattle.std.specs.Prelude.{◌==◌, ◌&&◌, bytes_eq, filter, find, nat_lt}
use Rattle.std.specs.List.{AllByRecursion, list_any}
use Rattle.std.proofs.lemmas.Bool.{false≢true, eqb-true, ltb-true}
use Rattle.std.proofs.lemmas.Bool.Decides.{nat_tests}
use Rattle.std.proofs.lemmas.List.Sums.{length-filter}
use Rattle.std.proofs.lemmas.Slice.Eq.{bytes_eq-Decides}
use Rattle.serde_json.specs.Data.{Data}
use Rattle.iv_access.specs.Rights.{Name}
use Rattle.iv_machine.specs.Act.{begin, subscribe, unsubscribe, Command, Line, Refusal, subscribed, session_in_use}
use Rattle.iv_machine.specs.Machine.{step}
use Rattle.iv_machine.specs.Refusing.{refusal}
use Rattle.iv_machine.specs.State.{State, is_open}
use Rattle.iv_clients.specs.Bounds.{most_feeds}
use Rattle.iv_clients.specs.Clients.{at_client, moved}
use Rattle.iv_clients.specs.Feeds.{Feed, Seat, ends_in, feed_for, feed_of, feeds_left, has_room, is_of_role, is_reading, load, room_for, without_feed}
use Rattle.iv_clients.proofs.Slots.{same-Some, not_None-Some}
use Rattle.iv_gate.specs.Gate.{Gate, begun_for, feed_begun, in_session, joined, joined_by, joins, ran, seated, shut, subscribes}
use Rattle.iv_gate.specs.Replies.{AreFull}
use Rattle.iv_gate.proofs.SoundRequests.{refusal-begun_for}
use Rattle.iv_gate.proofs.SameFeeds.{and-both_true, same-bytes_eq}
use Rattle.iv_gate.proofs.MachineLists.{None-or_else_first, le-subscription_of, test-None}
use Rattle.iv_gate.proofs.NewSubscriptions.{eq-le_next, reply_in-None, reply_in-Some}
use Rattle.iv_gate.proofs.SoundCommands.{IsFeed, IsSoundGate, feed_of-filter}
use Rattle.iv_gate.proofs.NumberSums.{eq-false_turned, or-both_false, eq-itself}

abbrev pub AreApart : List Feed → Type 0
AreApart [] = Unit {0}
AreApart (f ∷ fs) = (list_any (λ (x : Feed). f.number == x.number) fs ≡ false) × AreApart fs

-- the feeds of a session
abbrev pub feeds_in : ℕ → List Feed → List Feed
feeds_in n fs = filter (λ (f : Feed). n == f.session) fs

pub record AreFew (fs : List Feed) : Type 0 where
  pub few : (n : ℕ) → length (feeds_in n fs) ≤ most_feeds
  pub apart : AreApart fs
  pub once : (role rel : Name) → length (filter (is_reading role rel) fs) ≤ 1

-- ---- some fewer

pub le-length_filter_filter : (p q : Feed → Bool) (fs : List Feed) → length (filter p (filter q fs)) ≤ length (filter p fs)
le-length_filter_filter p q [] = omega arith
le-length_filter_filter p q (f ∷ fs) = by (q f) (p f) refl (le-length_filter_filter p q fs)
  where
    by : (a b : Bool) → p f ≡ b → length (filter p (filter q fs)) ≤ length (filter p fs) → length (filter p (cond a (f ∷ filter q fs) (filter q fs))) ≤ length (cond b (f ∷ filter p fs) (filter p fs))
    by true true e h = subst (λ t. length (cond t (f ∷ filter p (filter q fs)) (filter p (filter q fs))) ≤ suc (length (filter p fs))) (sym e) (omega (arith, h))
    by true false e h = subst (λ t. length (cond t (f ∷ filter p (filter q fs)) (filter p (filter q fs))) ≤ length (filter p fs)) (sym e) h
    by false true e h = omega (arith, h)
    by false false e h = h

pub le-feeds_in_filter : (n : ℕ) (q : Feed → Bool) (fs : List Feed) → length (feeds_in n (filter q fs)) ≤ length (feeds_in n fs)
le-feeds_in_filter n q fs = le-length_filter_filter (λ (f : Feed). n == f.session) q fs

none_less : (k : ℕ) (q : Feed → Bool) (fs : List Feed) → list_any (λ (x : Feed). k == x.number) fs ≡ false → list_any (λ (x : Feed). k == x.number) (filter q fs) ≡ false
none_less k q [] h = refl
none_less k q (f ∷ fs) h = let e = or-both_false (k == f.number) (list_any (λ (x : Feed). k == x.number) fs) h in by (q f) e.0 (none_less k q fs e.1)
  where
    by : (b : Bool) → (k == f.number) ≡ false → list_any (λ (x : Feed). k == x.number) (filter q fs) ≡ false → list_any (λ (x : Feed). k == x.number) (cond b (f ∷ filter q fs) (filter q fs)) ≡ false
    by true a more = (λ i. a i || more i)
    by false a more = more

apart_less : (q : Feed → Bool) (fs : List Feed) → AreApart fs → AreApart (filter q fs)
apart_less q [] a = tt
apart_less q (f ∷ fs) a = by (q f) (apart_less q fs a.1)
  where
    by : (b : Bool) → AreApart (filter q fs) → AreApart (cond b (f ∷ filter q fs) (filter q fs))
    by true more = (none_less f.number q fs a.0, more)
    by false more = more

pub AreFew-filter : (q : Feed → Bool) (fs : List Feed) → AreFew fs → AreFew (filter q fs)
AreFew-filter q fs a = record {
  few = λ n. let s = le-feeds_in_filter n q fs in let f = a.few n in omega (arith, s, f);
  apart = apart_less q fs a.apart;
  once = λ role rel. let s = le-length_filter_filter (is_reading role rel) q fs in let f = a.once role rel in omega (arith, s, f);
}

-- ---- one more

few_more : (new : Feed) (fs : List Feed) → AreFew fs → list_any (λ (x : Feed). new.number == x.number) fs ≡ false → length (feeds_in new.session fs) < most_feeds
    → length (filter (is_reading new.role new.rel) fs) ≡ 0 → AreFew (new ∷ fs)
few_more new fs a n l z = record { few = λ j. by j (j == new.session) refl; apart = (n, a.apart); once = λ role rel. reads role rel (is_reading role rel new) refl }
  where
    reads : (role rel : Name) (b : Bool) → is_reading role rel new ≡ b → length (cond b (new ∷ filter (is_reading role rel) fs) (filter (is_reading role rel) fs)) ≤ 1
    reads role rel true e =
        let both = and-both_true (bytes_eq new.role role) (bytes_eq new.rel rel) e in
        let none : length (filter (is_reading role rel) fs) ≡ 0 = subst (λ r. length (filter (is_reading r rel) fs) ≡ 0) (same-bytes_eq new.role role both.0)
        (subst (λ r. length (filter (is_reading new.role r) fs) ≡ 0) (same-bytes_eq new.rel rel both.1) z) in
        omega (arith, none)
    reads role rel false e = a.once role rel

    by : (j : ℕ) (b : Bool) → (j == new.session) ≡ b → length (cond b (new ∷ feeds_in j fs) (feeds_in j fs)) ≤ most_feeds
    by j true e = let k = subst (λ i. length (feeds_in i fs) < most_feeds) (sym (eqb-true j new.session e)) l in omega (arith, k)
    by j false e = a.few j

-- ---- found

feed_past : (f : Feed) (all fs : List Feed) → list_any (λ (x : Feed). f.number == x.number) fs ≡ false → AllByRecursion (λ (x : Feed). feed_of all x.number ≡ Some x) fs
    → AllByRecursion (λ (x : Feed). feed_of (f ∷ all) x.number ≡ Some x) fs
feed_past f all [] h a = tt
feed_past f all (x ∷ fs) h a =
    let e = or-both_false (f.number == x.number) (list_any (λ (y : Feed). f.number == y.number) fs) h in
    (ap (λ b. cond b (Some f) (feed_of all x.number)) (eq-false_turned f.number x.number e.0) ∙ a.0, feed_past f all fs e.1 a.1)

all_there : (fs : List Feed) → AreApart fs → AllByRecursion (λ (x : Feed). feed_of fs x.number ≡ Some x) fs
all_there [] a = tt
all_there (f ∷ fs) a = (ap (λ b. cond b (Some f) (feed_of fs f.number)) (eq-itself f.number), feed_past f fs fs a.0 (all_there fs a.1))

find_has : (P : Feed → Type 0) (q : Feed → Bool) (fs : List Feed) (f : Feed) → AllByRecursion P fs → find q fs ≡ Some f → P f
find_has P q [] f a h = absurd (not_None-Some f (sym h))
find_has P q (x ∷ xs) f a h = by (q x) h (find_has P q xs f a.1)
  where
    by : (b : Bool) → cond b (Some x) (find q xs) ≡ Some f → (find q xs ≡ Some f → P f) → P f
    by true k more = subst P (same-Some x f k) a.0
    by false k more = more k

pub feed_of-feed_for : (fs : List Feed) (role rel : Name) (f : Feed) → AreApart fs → feed_for fs role rel ≡ Some f → feed_of fs f.number ≡ Some f
feed_of-feed_for fs role rel f a h = find_has (λ (x : Feed). feed_of fs x.number ≡ Some x) (is_reading role rel) fs f (all_there fs a) h

-- a role that reads no relation by any has none
pub length-no_feed_for : (role rel : Name) (fs : List Feed) → feed_for fs role rel ≡ None → length (filter (is_reading role rel) fs) ≡ 0
length-no_feed_for role rel [] h = refl
length-no_feed_for role rel (x ∷ xs) h = by (is_reading role rel x) h (length-no_feed_for role rel xs)
  where
    by : (b : Bool) → cond b (Some x) (feed_for xs role rel) ≡ None → (feed_for xs role rel ≡ None → length (filter (is_reading role rel) xs) ≡ 0)
        → length (cond b (x ∷ filter (is_reading role rel) xs) (filter (is_reading role rel) xs)) ≡ 0
    by true k more = absurd (not_None-Some x k)
    by false k more = more k

-- one that goes makes room
less_by : (p q : Feed → Bool) (fs : List Feed) (k : ℕ) (f : Feed) → feed_of fs k ≡ Some f → q f ≡ false → p f ≡ true → length (filter p (filter q fs)) < length (filter p fs)
less_by p q [] k f h g e = absurd (not_None-Some f (sym h))
less_by p q (x ∷ xs) k f h g e = by (k == x.number) h (less_by p q xs k f)
  where
    here : x ≡ f → (a b : Bool) → q x ≡ a → p x ≡ b → length (filter p (cond a (x ∷ filter q xs) (filter q xs))) < length (cond b (x ∷ filter p xs) (filter p xs))
    here i true b u v = absurd (false≢true (sym g ∙ (ap q (sym i) ∙ u)))
    here i false true u v = let s = le-length_filter_filter p q xs in omega (arith, s)
    here i false false u v = absurd (false≢true (sym v ∙ (ap p i ∙ e)))

    later : length (filter p (filter q xs)) < length (filter p xs) → (a b : Bool) → p x ≡ b → length (filter p (cond a (x ∷ filter q xs) (filter q xs))) < length (cond b (x ∷ filter p xs) (filter p xs))
    later s true true v = subst (λ t. length (cond t (x ∷ filter p (filter q xs)) (filter p (filter q xs))) < suc (length (filter p xs))) (sym v) (omega (arith, s))
    later s true false v = subst (λ t. length (cond t (x ∷ filter p (filter q xs)) (filter p (filter q xs))) < length (filter p xs)) (sym v) s
    later s false true v = omega (arith, s)
    later s false false v = s

    by : (b : Bool) → cond b (Some x) (feed_of xs k) ≡ Some f → (feed_of xs k ≡ Some f → q f ≡ false → p f ≡ true → length (filter p (filter q xs)) < length (filter p xs))
        → length (filter p (filter q (x ∷ xs))) < length (filter p (x ∷ xs))
    by true i more = here (same-Some x f i) (q x) (p x) refl refl
    by false i more = later (more i g e) (q x) (p x) refl

pub lt-feeds_in_filter : (n : ℕ) (q : Feed → Bool) (fs : List Feed) (k : ℕ) (f : Feed) → feed_of fs k ≡ Some f → q f ≡ false → (n == f.session) ≡ true → length (feeds_in n (filter q fs)) < length (feeds_in n fs)
lt-feeds_in_filter n q fs k f h g e = less_by (λ (x : Feed). n == x.session) q fs k f h g e

none_left : (ends : ℕ → Bool) (k : ℕ) (fs : List Feed) → ends k ≡ true → feed_of (filter (λ (x : Feed). not (ends x.number)) fs) k ≡ None
none_left ends k [] h = refl
none_left ends k (x ∷ xs) h = by (ends x.number) refl (k == x.number) refl (none_left ends k xs h)
  where
    by : (a : Bool) → ends x.number ≡ a → (b : Bool) → (k == x.number) ≡ b → feed_of (filter (λ (y : Feed). not (ends y.number)) xs) k ≡ None
        → feed_of (cond (not a) (x ∷ filter (λ (y : Feed). not (ends y.number)) xs) (filter (λ (y : Feed). not (ends y.number)) xs)) k ≡ None
    by true e b f more = more
    by false e true f more = absurd (false≢true (sym e ∙ (ap ends (sym (eqb-true k x.number f)) ∙ h)))
    by false e false f more = ap (λ z. cond z (Some x) (feed_of (filter (λ (y : Feed). not (ends y.number)) xs) k)) f ∙ more

-- ---- a subscription is opened

none_next : (s : State) (fs : List Feed) → Rattle.iv_machine.specs.Reached.AreNumbersUnique s.frame → AllByRecursion (IsFeed s) fs → list_any (λ (x : Feed). (s.frame.last + 1) == x.number) fs ≡ false
none_next s [] u a = refl
none_next s (f ∷ fs) u a =
    (λ i. eq-false_turned f.number (s.frame.last + 1) (eq-le_next f.number s.frame.last (le-subscription_of s.frame.last f.number _ s.frame.subscriptions u.given a.0.found)) i || none_next s fs u a.1 i)

pub AreFew-subscribes : (g : Gate) (m : ℕ) (id : Option Data) (n : ℕ) (role rel : Name) → IsSoundGate g → AreFew g.feeds
    → length (feeds_in n g.feeds) < most_feeds
    → length (filter (is_reading role rel) g.feeds) ≡ 0 → AreFew (subscribes g m id n role rel).feeds
AreFew-subscribes g m id n role rel b a l z = by (refusal g.machine n (subscribe rel)) refl
  where
    k : Command
    k = in_session n (subscribe rel)

    by : (o : Option Refusal) → refusal g.machine n (subscribe rel) ≡ o → AreFew (subscribes g m id n role rel).feeds
    by None h =
        subst (λ r. AreFew (ran (feed_begun g m id n role rel r) (in_session n (subscribe rel))).feeds) (sym (reply_in-None g.machine n rel (refusal g.machine n (subscribe rel)) h))
        (AreFew-filter (λ (f : Feed). not (ends_in (step g.machine k).lines f.number)) _
        (few_more (record { number = g.machine.frame.last + 1; session = n; role = role; rel = rel }) g.feeds a (none_next g.machine g.feeds b.state.numbers b.feeds) l z))
    by (Some r) h =
        subst (λ x. AreFew (ran (feed_begun g m id n role rel x) (in_session n (subscribe rel))).feeds) (sym (reply_in-Some g.machine n rel (refusal g.machine n (subscribe rel)) r h))
        (AreFew-filter (λ (f : Feed). not (ends_in (step g.machine k).lines f.number)) g.feeds a)

-- ---- of two the newer is closed

few_joined : (g : Gate) (m : ℕ) (o p : Option Feed) → AreFew g.feeds → AreFew (joined g m o p).feeds
few_joined g m (Some t) (Some k) a = by (is_reading t.role t.rel k && not (t.number == k.number))
  where
    by : (b : Bool) → AreFew (cond b (shut (record g { clients = at_client m (moved t.number k.number) g.clients }) t) g).feeds
    by true = AreFew-filter _ (without_feed t.number g.feeds) (AreFew-filter _ g.feeds a)
    by false = a
few_joined g m (Some t) None a = a
few_joined g m None p a = a

pub AreFew-joins : (g : Gate) (m : ℕ) (id : Option Data) (f : Feed) → IsSoundGate g → AreFew g.feeds → feed_of g.feeds f.number ≡ Some f → AreFew (joins g m id f).feeds
AreFew-joins g m id f b a there = by (refusal g.machine f.session (subscribe f.rel)) refl
  where
    n : ℕ
    n = f.session

    k : Command
    k = in_session f.session (subscribe f.rel)

    ls : List Line
    ls = (step g.machine (in_session f.session (subscribe f.rel))).lines

    t : ℕ
    t = g.machine.frame.last + 1

    new : Feed
    new = record { number = g.machine.frame.last + 1; session = f.session; role = f.role; rel = f.rel }

    left : List Feed
    left = feeds_left (step g.machine (in_session f.session (subscribe f.rel))).lines g.feeds

    h : Gate
    h = ran (feed_begun g m id f.session f.role f.rel (subscribed (g.machine.frame.last + 1))) (in_session f.session (subscribe f.rel))

    few_left : AreFew left
    few_left = AreFew-filter (λ (x : Feed). not (ends_in ls x.number)) g.feeds a

    fresh : list_any (λ (x : Feed). (g.machine.frame.last + 1) == x.number) left ≡ false
    fresh = none_less t (λ (x : Feed). not (ends_in ls x.number)) g.feeds (none_next g.machine g.feeds b.state.numbers b.feeds)

    older : (f.number == (g.machine.frame.last + 1)) ≡ false
    older = eq-le_next f.number g.machine.frame.last (le-subscription_of g.machine.frame.last f.number _ g.machine.frame.subscriptions b.state.numbers.given (find_has (IsFeed g.machine) (λ (x : Feed). f.number == x.number) g.feeds f b.feeds there).found)

    self : is_reading f.role f.rel f ≡ true
    self = λ i. (bytes_eq-Decides f.role f.role).1 refl i && (bytes_eq-Decides f.rel f.rel).1 refl i

    reads : (is_reading f.role f.rel f && not ((g.machine.frame.last + 1) == f.number)) ≡ true
    reads = (λ i. self i && not (eq-false_turned f.number t older i))

    drops_new : without_feed (g.machine.frame.last + 1) (new ∷ left) ≡ without_feed (g.machine.frame.last + 1) left
    drops_new = ap (λ z. cond (not z) (new ∷ without_feed (g.machine.frame.last + 1) left) (without_feed (g.machine.frame.last + 1) left)) (eq-itself t)

    -- the new one stands, and the other does, or does not
    stands : h.feeds ≡ new ∷ left → (e : Bool) → ends_in ls f.number ≡ e → AreFew (joined h m (feed_of h.feeds (g.machine.frame.last + 1)) (feed_of h.feeds f.number)).feeds
    stands q false e =
        let this : feed_of h.feeds (g.machine.frame.last + 1) ≡ Some new = ap (λ fs. feed_of fs (g.machine.frame.last + 1)) q ∙ ap (λ z. cond z (Some new) (feed_of left (g.machine.frame.last + 1))) (eq-itself t) in
        let other : feed_of h.feeds f.number ≡ Some f = ap (λ fs. feed_of fs f.number) q ∙ (ap (λ z. cond z (Some new) (feed_of left f.number)) older ∙ feed_of-filter (ends_in ls) f.number f g.feeds there e) in
        subst (λ o. AreFew (joined h m o (feed_of h.feeds f.number)).feeds) (sym this) (subst (λ p. AreFew (joined h m (Some new) p).feeds) (sym other)
        (subst (λ z. AreFew (cond z (shut (record h { clients = at_client m (moved new.number f.number) h.clients }) new) h).feeds) (sym reads)
        (AreFew-filter (λ (x : Feed). not (ends_in (step h.machine (in_session f.session (unsubscribe (g.machine.frame.last + 1)))).lines x.number)) (without_feed (g.machine.frame.last + 1) h.feeds)
        (subst AreFew (sym (ap (without_feed (g.machine.frame.last + 1)) q ∙ drops_new)) (AreFew-filter (λ (x : Feed). not ((g.machine.frame.last + 1) == x.number)) left few_left)))))
    stands q true e =
        let gone : feed_of h.feeds f.number ≡ None = ap (λ fs. feed_of fs f.number) q ∙ (ap (λ z. cond z (Some new) (feed_of left f.number)) older ∙ none_left (ends_in ls) f.number g.feeds e) in
        let less = lt-feeds_in_filter n (λ (x : Feed). not (ends_in ls x.number)) g.feeds f.number f there (ap not e) (eq-itself n) in let most = a.few n in
        let none = less_by (is_reading f.role f.rel) (λ (x : Feed). not (ends_in ls x.number)) g.feeds f.number f there (ap not e) self in let once = a.once f.role f.rel in
        subst (λ p. AreFew (joined h m (feed_of h.feeds (g.machine.frame.last + 1)) p).feeds) (sym gone) (few_joined h m (feed_of h.feeds (g.machine.frame.last + 1)) None
        (subst AreFew (sym q) (few_more new left few_left fresh (omega (arith, less, most)) (omega (arith, none, once)))))

    whole : (e : Bool) → ends_in ls (g.machine.frame.last + 1) ≡ e → AreFew (joined h m (feed_of h.feeds (g.machine.frame.last + 1)) (feed_of h.feeds f.number)).feeds
    whole true e = few_joined h m (feed_of h.feeds (g.machine.frame.last + 1)) (feed_of h.feeds f.number) (subst AreFew (sym (ap (λ z. cond (not z) (new ∷ left) left) e)) few_left)
    whole false e = stands (ap (λ z. cond (not z) (new ∷ left) left) e) (ends_in ls f.number) refl

    by : (o : Option Refusal) → refusal g.machine f.session (subscribe f.rel) ≡ o → AreFew (joins g m id f).feeds
    by None i =
        subst (λ r. AreFew (joined_by (ran (feed_begun g m id f.session f.role f.rel r) (in_session f.session (subscribe f.rel))) m f.number r).feeds)
        (sym (reply_in-None g.machine f.session f.rel (refusal g.machine f.session (subscribe f.rel)) i)) (whole (ends_in ls (g.machine.frame.last + 1)) refl)
    by (Some r) i =
        subst (λ x. AreFew (joined_by (ran (feed_begun g m id f.session f.role f.rel x) (in_session f.session (subscribe f.rel))) m f.number x).feeds)
        (sym (reply_in-Some g.machine f.session f.rel (refusal g.machine f.session (subscribe f.rel)) r i)) few_left

-- ---- room

pub lt-room_for : (seats : List Seat) (feeds : List Feed) (role : Name) (n : ℕ) → room_for seats feeds role ≡ Some n → length (feeds_in n feeds) < most_feeds
lt-room_for [] feeds role n h = absurd (not_None-Some n (sym h))
lt-room_for (s ∷ ss) feeds role n h = by (has_room feeds role s) refl h (lt-room_for ss feeds role n)
  where
    by : (b : Bool) → has_room feeds role s ≡ b → Rattle.std.proofs.Common.option_map (λ (x : Seat). x.session) (cond b (Some s) (find (has_room feeds role) ss)) ≡ Some n
        → (room_for ss feeds role ≡ Some n → length (feeds_in n feeds) < most_feeds) → length (feeds_in n feeds) < most_feeds
    by true e i more =
        let t = (and-both_true (is_of_role role s) (nat_lt (load feeds s.session) most_feeds) e).1 in
        subst (λ j. length (feeds_in j feeds) < most_feeds) (same-Some s.session n i)
        (subst (λ z. z < most_feeds) (sym (length-filter (λ (f : Feed). s.session == f.session) feeds)) (ltb-true (load feeds s.session) most_feeds t))
    by false e i more = more i

-- a session that is not open has no feed
none_in : (s : State) (n : ℕ) (fs : List Feed) → is_open s.frame n ≡ false → AllByRecursion (IsFeed s) fs → length (feeds_in n fs) ≡ 0
none_in s n [] h a = refl
none_in s n (f ∷ fs) h a = by (n == f.session) refl (none_in s n fs h a.1)
  where
    by : (b : Bool) → (n == f.session) ≡ b → length (feeds_in n fs) ≡ 0 → length (cond b (f ∷ feeds_in n fs) (feeds_in n fs)) ≡ 0
    by true e more = absurd (false≢true (sym h ∙ (ap (is_open s.frame) (eqb-true n f.session e) ∙ ap is_some a.0.acts.session)))
    by false e more = more

pub not_open_yet : (g : Gate) (role : Name) (n : ℕ) → begun_for g role ≡ Some n → is_open g.machine.frame n ≡ false
not_open_yet g role n h = test-None (is_open g.machine.frame n) session_in_use (None-or_else_first _ _ (None-or_else_first _ _ (refusal-begun_for g role n h)))

pub lt-begun_for : (g : Gate) (role : Name) (n : ℕ) → begun_for g role ≡ Some n → IsSoundGate g → length (feeds_in n (seated g n role).feeds) < most_feeds
lt-begun_for g role n h b =
    let k = in_session n (begin role) in
    let none = none_in g.machine n g.feeds (not_open_yet g role n h) b.feeds in
    let less = le-feeds_in_filter n (λ (f : Feed). not (ends_in (step g.machine k).lines f.number)) g.feeds in
    below (length (feeds_in n (seated g n role).feeds)) (length (feeds_in n g.feeds)) less none
  where
    below : (x y : ℕ) → x ≤ y → y ≡ 0 → x < 15
    below x y i j = omega (arith, i, j)

-- a role that has no session with a place has full ones
pub AreFull-no_room : (seats : List Seat) (feeds : List Feed) (role : Name) → room_for seats feeds role ≡ None → AreFull seats feeds role
AreFull-no_room [] feeds role h = tt
AreFull-no_room (s ∷ ss) feeds role h = by (is_of_role role s) refl (nat_lt (load feeds s.session) most_feeds) refl h (AreFull-no_room ss feeds role)
  where
    at_least : (m n : ℕ) → nat_lt n m ≡ false → m ≤ n
    at_least m n e = grind (arith, nat_tests)

    by : (a : Bool) → is_of_role role s ≡ a → (b : Bool) → nat_lt (load feeds s.session) most_feeds ≡ b
        → Rattle.std.proofs.Common.option_map (λ (x : Seat). x.session) (cond (a && b) (Some s) (find (has_room feeds role) ss)) ≡ None
        → (room_for ss feeds role ≡ None → AreFull ss feeds role) → AreFull (s ∷ ss) feeds role
    by true e true l k more = absurd (not_None-Some s.session k)
    by true e false l k more = (λ i. at_least most_feeds (load feeds s.session) l, more k)
    by false e b l k more = (λ i. absurd (false≢true (sym e ∙ i)), more k)

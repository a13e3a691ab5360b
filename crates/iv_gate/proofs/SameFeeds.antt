-- Of two feeds that show the same a client follows the older one.
use Rattle.std.proofs.Common.{◌≡◌, ℕ, ◌+◌, ◌≤◌, Bool, true, false, not, cond, ◌||◌, List, [], ◌∷◌, length, Option, Some, None, option_map, map, refl, ap, ◌∙◌, sym, subst, pos}
use Rattle.std.specs.Prelude.{◌==◌, ◌&&◌, bytes_eq, unwrap_or}
use Rattle.std.specs.List.{AllByRecursion, list_any}
use Rattle.std.proofs.lemmas.Bool.{eqb-true}
use Rattle.std.proofs.lemmas.Slice.Eq.{bytes_eq-Decides}
use Rattle.serde_json.specs.Data.{Data}
use Rattle.iv_rows.specs.Options.{if_some}
use Rattle.iv_zset.specs.Limits.{copies}
use Rattle.iv_access.specs.Access.{role_number}
use Rattle.iv_access.specs.Rights.{Name}
use Rattle.iv_machine.specs.Act.{subscribe, subscribed, Command, Refusal}
use Rattle.iv_machine.specs.Machine.{step}
use Rattle.iv_machine.specs.Refusing.{refusal}
use Rattle.iv_machine.specs.State.{State, Session, rel_of, shown, view_for, view_shown}
use Rattle.iv_message.specs.Told.{Told, opened}
use Rattle.iv_clients.specs.Clients.{Client, Sub, at_client, client_at, following, moved, moved_sub, staying, telling, told, told_one}
use Rattle.iv_clients.specs.Feeds.{Feed, ends_in, feed_of, is_reading}
use Rattle.iv_clients.proofs.Slots.{client_at-at_all, client_at-at_other_client, IsFrom-option_map, same-Some}
use Rattle.iv_gate.specs.Gate.{Gate, columns_in, feed_begun, in_session, joined, joined_by, joins, next_own, ran, shut, subscribes, tells, told_of}
use Rattle.iv_gate.specs.Replies.{ActsAs}
use Rattle.iv_gate.proofs.MachineLists.{true-find}
use Rattle.iv_gate.proofs.NewSubscriptions.{IsAsker, eq-le_next, le-feed_of, reply_in-None, reply_in-Some, IsSoundGate-subscribes}
use Rattle.iv_gate.proofs.SoundSteps.{FollowsNot, AllByRecursion-map, client_at-one_changed, AllByRecursion-filter, AllByRecursion-feed_of, IsSoundGate-shut}
use Rattle.iv_gate.proofs.SoundCommands.{Adds, IsAskedIn, IsFeed, IsFollowing, IsSoundClient, IsSoundGate, Sounds, seer, seer-telling, dropped-telling}
use Rattle.iv_gate.proofs.NumberSums.{AreOwn, eq-false_turned}

-- what a feed shows: its relation, over what its role may see
pub shown-IsFeed : (s : State) (f : Feed) → IsFeed s f → shown s f.number ≡ view_for s (role_number s.frame.rights f.role) (rel_of s.frame.catalog f.rel)
shown-IsFeed s f b =
    ap (λ o. if_some o [] (view_shown s)) b.found
    ∙ ((λ i. view_for s (unwrap_or (option_map (λ (e : Session). e.role) (b.acts.session i)) (length s.frame.rights.roles)) (b.there i))
    ∙ sym (ap (λ o. view_for s (unwrap_or o (length s.frame.rights.roles)) (rel_of s.frame.catalog f.rel)) b.acts.known))

-- ---- a client that moves on

own_kept : (t k : ℕ) (x : Sub) → (moved_sub t k x).own ≡ x.own
own_kept t k x = by (t == x.feed)
  where
    by : (b : Bool) → (cond b (record x { feed = k }) x).own ≡ x.own
    by true = refl
    by false = refl

pub list_any-moved_sub : (t k own : ℕ) (xs : List Sub) → list_any (λ (y : Sub). own == y.own) (map (moved_sub t k) xs) ≡ list_any (λ (y : Sub). own == y.own) xs
list_any-moved_sub t k own [] = refl
list_any-moved_sub t k own (x ∷ xs) = (λ i. (own == own_kept t k x i) || list_any-moved_sub t k own xs i)

pub AreOwn-moved_sub : (t k given : ℕ) (xs : List Sub) → AreOwn given xs → AreOwn given (map (moved_sub t k) xs)
AreOwn-moved_sub t k given [] h = tt
AreOwn-moved_sub t k given (x ∷ xs) h = (
  subst (λ z. z ≤ given) (sym (own_kept t k x)) h.0,
  ap (λ z. list_any (λ (y : Sub). z == y.own) (map (moved_sub t k) xs)) (own_kept t k x) ∙ (list_any-moved_sub t k x.own xs ∙ h.1),
  AreOwn-moved_sub t k given xs h.2,
)

all_mapped : {X : Type 0} (P Q : X → Type 0) (f : X → X) → ((x : X) → P x → Q (f x)) → (xs : List X) → AllByRecursion P xs → AllByRecursion Q (map f xs)
all_mapped P Q f g [] a = tt
all_mapped P Q f g (x ∷ xs) a = (g x a.0, all_mapped P Q f g xs a.1)

pub moved_sound : (s : State) (feeds : List Feed) (a b : Feed) (c : Client) → feed_of feeds a.number ≡ Some a → feed_of feeds b.number ≡ Some b → b.role ≡ a.role → b.rel ≡ a.rel
    → shown s a.number ≡ shown s b.number → IsSoundClient s feeds (seer c) → IsSoundClient s feeds (seer (moved a.number b.number c))
moved_sound s feeds a b c ta tb role rel same v = record {
  own = AreOwn-moved_sub a.number b.number c.given c.subs v.own;
  follows = all_mapped (IsFollowing s feeds (seer c)) (IsFollowing s feeds (seer (moved a.number b.number c))) (moved_sub a.number b.number) (λ x y. by x y (a.number == x.feed) refl) c.subs v.follows;
  later = v.later;
  unended = v.unended;
  spent = λ own h. v.spent own (sym (list_any-moved_sub a.number b.number own c.subs) ∙ h);
}
  where
    by : (x : Sub) → IsFollowing s feeds (seer c) x → (d : Bool) → (a.number == x.feed) ≡ d → IsFollowing s feeds (seer (moved a.number b.number c)) (cond d (record x { feed = b.number }) x)
    by x y false e = record { feed = y.feed; found = y.found; role = y.role; asked = y.asked; goes_on = y.goes_on; sum = y.sum }
    by x y true e =
        let this : a.number ≡ x.feed = eqb-true a.number x.feed e in
        let one : y.feed ≡ a = same-Some y.feed a (sym y.found ∙ (ap (feed_of feeds) (sym this) ∙ ta)) in
        record {
          feed = b;
          found = tb;
          role = role ∙ (ap (λ (f : Feed). f.role) (sym one) ∙ y.role);
          asked = subst (IsAskedIn c.messages (told c) x.own) (ap (λ (f : Feed). f.rel) one ∙ sym rel) y.asked;
          goes_on = y.goes_on;
          sum = λ q. y.sum q ∙ ap (λ rows. pos (copies q rows)) (ap (shown s) (sym this) ∙ same);
        }

moved_away : (t k : ℕ) (xs : List Sub) → (t == k) ≡ false → AllByRecursion (λ (x : Sub). (t == x.feed) ≡ false) (map (moved_sub t k) xs)
moved_away t k [] h = tt
moved_away t k (x ∷ xs) h = (by (t == x.feed) refl, moved_away t k xs h)
  where
    by : (d : Bool) → (t == x.feed) ≡ d → (t == (cond d (record x { feed = k }) x).feed) ≡ false
    by true e = h
    by false e = e

pub and-both_true : (b c : Bool) → (b && c) ≡ true → (b ≡ true) × (c ≡ true)
and-both_true true c h = (refl, h)
and-both_true false c h = cc

not_true : (b : Bool) → not b ≡ true → b ≡ false
not_true true h = cc
not_true false h = refl

pub bytes_eq-itself : (x : Name) → bytes_eq x x ≡ true
bytes_eq-itself x = (bytes_eq-Decides x x).1 refl

pub same-bytes_eq : (x y : Name) → bytes_eq x y ≡ true → x ≡ y
same-bytes_eq x y h = (bytes_eq-Decides x y).0 h

found_number : (fs : List Feed) (k : ℕ) (f : Feed) → feed_of fs k ≡ Some f → feed_of fs f.number ≡ Some f
found_number fs k f h = ap (feed_of fs) (sym (eqb-true k f.number (true-find (λ (x : Feed). k == x.number) fs f h))) ∙ h

pub joined_sound : Adds → Sounds → (g : Gate) (m t k : ℕ) → ((j : ℕ) (c : Client) → (m ≡ j → ⊥) → client_at g.clients j ≡ Some c → c.dropped ≡ false → FollowsNot t c) → IsSoundGate g
    → IsSoundGate (joined g m (feed_of g.feeds t) (feed_of g.feeds k))
joined_sound adds sounds g m t k alone b = by (feed_of g.feeds t) (feed_of g.feeds k) refl refl
  where
    goes : (x y : Feed) → feed_of g.feeds t ≡ Some x → feed_of g.feeds k ≡ Some y → (d : Bool) → (is_reading x.role x.rel y && not (x.number == y.number)) ≡ d
        → IsSoundGate (cond d (shut (record g { clients = at_client m (moved x.number y.number) g.clients }) x) g)
    goes x y tx ky false e = b
    goes x y tx ky true e =
        let tests = and-both_true (is_reading x.role x.rel y) (not (x.number == y.number)) e in
        let names = and-both_true (bytes_eq y.role x.role) (bytes_eq y.rel x.rel) tests.0 in
        let role : y.role ≡ x.role = same-bytes_eq y.role x.role names.0 in
        let rel : y.rel ≡ x.rel = same-bytes_eq y.rel x.rel names.1 in
        let differ : (x.number == y.number) ≡ false = not_true (x.number == y.number) tests.1 in
        let fx = AllByRecursion-feed_of (IsFeed g.machine) g.feeds t x b.feeds tx in
        let fy = AllByRecursion-feed_of (IsFeed g.machine) g.feeds k y b.feeds ky in
        let tn : t ≡ x.number = eqb-true t x.number (true-find (λ (f : Feed). t == f.number) g.feeds x tx) in
        let views : shown g.machine x.number ≡ shown g.machine y.number =
        shown-IsFeed g.machine x fx
        ∙ ((λ i. view_for g.machine (role_number g.machine.frame.rights (sym role i)) (rel_of g.machine.frame.catalog (sym rel i)))
        ∙ sym (shown-IsFeed g.machine y fy)) in
        IsSoundGate-shut adds sounds (record g { clients = at_client m (moved x.number y.number) g.clients }) x
        (λ j c e live. client_at-one_changed (λ i z. z.dropped ≡ false → FollowsNot x.number z) m (moved x.number y.number) g.clients (λ z h l. moved_away x.number y.number z.subs differ)
        (λ i z ne h l. subst (λ n. FollowsNot n z) tn (alone i z ne h l)) j c e live)
        (record {
          state = b.state;
          seats = b.seats;
          feeds = b.feeds;
          clients =
              λ j c e live. client_at-one_changed (λ i z. z.dropped ≡ false → IsSoundClient g.machine g.feeds (seer z)) m (moved x.number y.number) g.clients
              (λ z h l. moved_sound g.machine g.feeds x y z (found_number g.feeds t x tx) (found_number g.feeds k y ky) role rel views (b.clients m z h l)) (λ i z ne h l. b.clients i z h l) j c e live;
        })

    by : (o p : Option Feed) → feed_of g.feeds t ≡ o → feed_of g.feeds k ≡ p → IsSoundGate (joined g m o p)
    by None p h i = b
    by (Some x) None h i = b
    by (Some x) (Some y) h i = goes x y h i (is_reading x.role x.rel y && not (x.number == y.number)) refl

-- ---- asked once more

-- nobody else follows a new subscription
new_alone : (g : Gate) (m : ℕ) (id : Option Data) (n : ℕ) (role rel : Name) → IsSoundGate g → (j : ℕ) (c : Client) → (m ≡ j → ⊥)
    → client_at (ran (feed_begun g m id n role rel (subscribed (g.machine.frame.last + 1))) (in_session n (subscribe rel))).clients j ≡ Some c → c.dropped ≡ false → FollowsNot (g.machine.frame.last + 1) c
new_alone g m id n role rel b j c ne e live =
    let o = IsFrom-option_map hears (client_at h.clients j) c (sym (client_at-at_all hears h.clients j) ∙ e) in
    let x = o.old in
    let before : client_at g.clients j ≡ Some x =
    sym (client_at-at_other_client m j (following (g.machine.frame.last + 1)) (tells g m told).clients ne ∙ client_at-at_other_client m j
    (told_one g.entries told) g.clients ne) ∙ o.there in
    let stays : x.dropped ≡ false = sym (dropped-telling h.entries (told_of h (subscribe rel) (step h.machine k) x) x) ∙ (ap (λ (y : Client). y.dropped) o.same ∙ live) in
    let a = b.clients j x before stays in
    let nots : AllByRecursion (λ (s : Sub). (t == s.feed) ≡ false) x.subs =
    AllByRecursion-map {P = IsFollowing g.machine g.feeds (seer x)} {Q = λ (s : Sub). (t == s.feed) ≡ false} (λ s y. eq-false_turned s.feed t (eq-le_next s.feed g.machine.frame.last (le-feed_of g b s.feed y.feed y.found))) x.subs a.follows in
    subst (FollowsNot t) o.same
    (AllByRecursion-filter (λ (s : Sub). (t == s.feed) ≡ false) (λ s. not (ends_in (step h.machine k).lines s.feed)) (telling h.entries (told_of h (subscribe rel) (step h.machine k) x) x).subs
    (subst (λ ss. AllByRecursion (λ (s : Sub). (t == s.feed) ≡ false) ss) (sym (ap (λ v. v.subs) (seer-telling h.entries (told_of h (subscribe rel) (step h.machine k) x) x))) nots))
  where
    t : ℕ
    t = g.machine.frame.last + 1

    told : Told
    told = opened id (next_own g m) (columns_in g.machine rel)

    k : Command
    k = in_session n (subscribe rel)

    h : Gate
    h = feed_begun g m id n role rel (subscribed (g.machine.frame.last + 1))

    hears : Client → Client
    hears x = staying (step h.machine k).lines (telling h.entries (told_of h (subscribe rel) (step h.machine k) x) x)

pub IsSoundGate-joins : Adds → Sounds → (g : Gate) (m : ℕ) (id : Option Data) (f : Feed) → ActsAs g.machine f.session f.role → ((c : Client) → client_at g.clients m ≡ Some c → IsAsker c id f.role f.rel)
    → IsSoundGate g → IsSoundGate (joins g m id f)
IsSoundGate-joins adds sounds g m id f acts same b = by (refusal g.machine f.session (subscribe f.rel)) refl
  where
    k : Command
    k = in_session f.session (subscribe f.rel)

    first : IsSoundGate (subscribes g m id f.session f.role f.rel)
    first = IsSoundGate-subscribes adds sounds g m id f.session f.role f.rel acts same b

    by : (o : Option Refusal) → refusal g.machine f.session (subscribe f.rel) ≡ o → IsSoundGate (joins g m id f)
    by None h =
        let r = reply_in-None g.machine f.session f.rel (refusal g.machine f.session (subscribe f.rel)) h in
        subst (λ x. IsSoundGate (joined_by (ran (feed_begun g m id f.session f.role f.rel x) (in_session f.session (subscribe f.rel))) m f.number x)) (sym r)
        (joined_sound adds sounds (ran (feed_begun g m id f.session f.role f.rel (subscribed (g.machine.frame.last + 1))) (in_session f.session (subscribe f.rel))) m (g.machine.frame.last + 1) f.number
        (λ j c ne e live. new_alone g m id f.session f.role f.rel b j c ne e live)
        (subst (λ x. IsSoundGate (ran (feed_begun g m id f.session f.role f.rel x) (in_session f.session (subscribe f.rel)))) r first))
    by (Some r) h =
        subst (λ x. IsSoundGate (joined_by (subscribes g m id f.session f.role f.rel) m f.number x)) (sym (reply_in-Some g.machine f.session f.rel (refusal g.machine f.session (subscribe f.rel)) r h)) first

-- Whatever happens, feeds are followed, by clients of their roles.
use Rattle.std.proofs.Common.{◌≡◌, ℕ, ◌+◌, Bool, true, false, not, cond, ◌||◌, List, [], ◌∷◌, ◌++◌, length, map, set, Option, Some, None, option_map, refl, ap, ◌∙◌, sym, subst, arith, ◌≤◌, ◌⊎◌, inl, inr}
use Rattle.std.specs.Prelude.{◌==◌, ◌&&◌, bytes_eq, filter, find, nat_lt, codes, is_some}
use Rattle.std.specs.List.{AllByRecursion, list_any}
use Rattle.std.proofs.lemmas.Bool.{false≢true, eqb-true, or_left, or_right}
use Rattle.serde_json.specs.Data.{Data}
use Rattle.iv_rows.specs.Options.{if_some}
use Rattle.iv_access.specs.Rights.{Name}
use Rattle.iv_machine.specs.Act.{Act, begin, finish, subscribe, unsubscribe, Command, Refusal, Reply, done, subscribed, refused, too_many, unknown_subscription}
use Rattle.iv_machine.specs.Machine.{step, Outcome}
use Rattle.iv_machine.specs.Refusing.{refusal}
use Rattle.iv_machine.specs.State.{State, Subscription, subscription_of}
use Rattle.iv_message.specs.Message.{Message, no_json, too_long, no_object, no_request, request, unknown}
use Rattle.iv_message.specs.Told.{Told, replied, opened, fault, unasked, settled}
use Rattle.iv_clients.specs.Bounds.{most_subs}
use Rattle.iv_clients.specs.Clients.{Client, Shown, Slots, Sub, answered, at_all, at_client, beating, checked, client_at, closing, dropping, followed_by, following, fresh, handing, is_followed, is_slow, may_say, moved, moved_sub, opens, released, saying, settling, staying, telling, told_one}
use Rattle.iv_clients.specs.Feeds.{Feed, Seat, feed_for, feed_of, is_of_role, is_reading, room_for, seat_of, without_seat}
use Rattle.iv_records.specs.Journal.{Entry, said_by, shape_for, Request, claim_said}
use Rattle.iv_clients.specs.Tokens.{Token}
use Rattle.iv_clients.proofs.Slots.{client_at-at_all, client_at-at_client, client_at-is_free, IsFrom-option_map, not_client_at-replicate, same-Some, not_None-Some}
use Rattle.iv_gate.specs.Events.{Event, presented, message, gone, known, ticked, synced, handed, failed, happens, next, forgave, arrived, led}
use Rattle.iv_gate.specs.Gate.{Gate, acts, all_rested, all_swept, begun_for, closes, columns_in, done_for, entered, feed_begun, hears, in_session, is_needed, joined, joined_by, joins, next_own, ran, reads, reads_first, reply_to, done_in, rested, token_for, said, seated, settles, shut, subscribes, swept, tells, told_of, went, with_session, informs, entries_of, shares, may_have, reply_told, at_text, replies_to, Head, went_on, next_position}
use Rattle.iv_gate.specs.Implied.{ReadsForClients}
use Rattle.iv_gate.specs.Restoring.{Restores, gate_at_start}
use Rattle.iv_gate.specs.Runs.{Runs, begins, goes_on, begins_again}
use Rattle.iv_gate.specs.Replies.{ActsAs}
use Rattle.iv_gate.proofs.SoundRequests.{IsHeard, IsAsker-IsHeard, ActsAs-feed_for, IsSoundGate-seated}
use Rattle.iv_gate.proofs.SameFeeds.{and-both_true, same-bytes_eq}
use Rattle.iv_gate.proofs.SessionRoom.{role-checked, role-handing, role-released, role-settling}
use Rattle.iv_gate.proofs.SoundRuns.{Starts, AreEven-Runs, IsKept-Runs, IsSoundGate-Runs}
use Rattle.iv_gate.proofs.MachineLists.{true-find, le-subscription_of}
use Rattle.iv_gate.proofs.NewSubscriptions.{IsAsker, eq-le_next, reply_in-None, reply_in-Some, IsSoundGate-subscribes}
use Rattle.iv_gate.proofs.SoundSteps.{AllByRecursion-map, client_at-one_changed, IsSoundClient-said, AllByRecursion-feed_of, IsSoundGate-at_client}
use Rattle.iv_gate.proofs.SoundEvents.{AreEven, IsEven, client_at-set_each, dropped-may_say}
use Rattle.iv_gate.proofs.SeatsAndFeeds.{IsFed, same-ActsAs}
use Rattle.iv_gate.proofs.SoundCommands.{Adds, IsFeed, IsSoundGate, Sounds, any_more, AllByRecursion-filter_not, seer, seer-telling, Seer}
use Rattle.iv_gate.proofs.NumberSums.{AreOwn, AllByRecursion-zip, eq-false_turned, eq-turned, or-both_false, eq-itself}
use Rattle.iv_gate.proofs.EventMarks.{came_as, Opens-token_for, cond-same}
use Rattle.iv_gate.proofs.FeedFollowers.{IsUsing-ran, AreFit, AreFollowed, Fits, IsUsing, AreFit-at_all, AreFit-at_client, is_followed-at_all, is_followed-at_one, is_followed-set_None, is_followed-at_client, is_followed-set, follows, follows-filter, none_but, IsUsing-subscribe, Shrinks-same_subs, IsUsing-shut, IsUsing-went_on}
use Rattle.iv_gate.proofs.ShapeTexts.{cond-either}
use Rattle.iv_records.specs.Names.{Claim}
use Rattle.iv_once.specs.Names.{Ask}
use Rattle.iv_gate.proofs.RequestFates.{shares_so}
use Rattle.iv_gate.proofs.StepRelations.{request_of}
use Rattle.iv_journal.specs.Journal.{Line}
use Rattle.iv_steps.specs.Steps.{Fact, stepped}
use Rattle.iv_gate.specs.Arriving.{Step, entry_of, fact_of, fault_of, was_taken, landed, takes}
use Rattle.iv_gate.proofs.ClientFacts.{step_told}

-- ---- clients that follow what they did

using_one : (but : ℕ → Bool) (g : Gate) (m : ℕ) (f : Client → Client) → ((c : Client) → (f c).subs ≡ c.subs) → ((c : Client) → (f c).role ≡ c.role) → IsUsing but g
    → IsUsing but (record g { clients = at_client m f g.clients })
using_one but g m f k r a = record {
  followed = AllByRecursion-map {P = λ (x : Feed). but x.number ≡ false → is_followed x.number g.clients ≡ true} {Q = λ (x : Feed). but x.number ≡ false → is_followed x.number (at_client m f g.clients) ≡ true}
      (λ x h n. is_followed-at_client x.number m f g.clients (λ c e t. ap (follows x.number) (k c) ∙ t) (h n)) g.feeds a.followed;
  fit = AreFit-at_client g.machine.frame.last g.feeds m f g.clients (Shrinks-same_subs f r k) a.fit;
}

using_all : (but : ℕ → Bool) (g : Gate) (f : Client → Client) → ((c : Client) → (f c).subs ≡ c.subs) → ((c : Client) → (f c).role ≡ c.role) → IsUsing but g
    → IsUsing but (record g { clients = at_all f g.clients })
using_all but g f k r a = record {
  followed = AllByRecursion-map {P = λ (x : Feed). but x.number ≡ false → is_followed x.number g.clients ≡ true} {Q = λ (x : Feed). but x.number ≡ false → is_followed x.number (at_all f g.clients) ≡ true}
      (λ x h n. is_followed-at_all x.number f g.clients (λ c t. ap (follows x.number) (k c) ∙ t) (h n)) g.feeds a.followed;
  fit = AreFit-at_all g.machine.frame.last g.machine.frame.last g.feeds g.feeds f g.clients (omega arith) (λ P b. b) (Shrinks-same_subs f r k) a.fit;
}

settling_subs : (es : List Entry) (c : Client) → (settling es c).subs ≡ c.subs
settling_subs es c = cond-same (λ (x : Client). x.subs) (c.owed) (record (told_one es settled c) { owed = false }) c c.subs refl refl

released_subs : (c : Client) → (released c).subs ≡ c.subs
released_subs c = cond-same (λ (x : Client). x.subs) (c.dropped || is_slow c) (dropping c) (record c { unsynced = []; sendable = c.sendable ++ c.unsynced }) c.subs refl refl

checked_subs : (tokens : List Token) (c : Client) → (checked tokens c).subs ≡ c.subs
checked_subs tokens c = cond-same (λ (x : Client). x.subs) (opens tokens c) c (dropping c) c.subs refl refl

handing_subs : (c : Client) → (handing c).subs ≡ c.subs
handing_subs c = cond-same (λ (x : Client). x.subs) (length c.sendable == 0) c (record c { sendable = []; asked = 0; handed = c.handed ++ c.sendable ∷ [] }) c.subs refl refl

using_tells : (but : ℕ → Bool) (g : Gate) (m : ℕ) (t : Told) → IsUsing but g → IsUsing but (tells g m t)
using_tells but g m t a = using_one but g m (told_one g.entries t) (λ c. refl) (λ c. refl) a

using_settles : (g : Gate) → IsUsing none_but g → IsUsing none_but (settles g)
using_settles g a = using_all none_but g (settling g.entries) (settling_subs g.entries) (role-settling g.entries) a

using_informs : (g : Gate) (es : List Entry) → IsUsing none_but g → IsUsing none_but (informs g es)
using_informs g es a = using_all none_but g (λ c. telling g.entries (shape_for c.role es) c) (λ c. ap (λ (v : Seer). v.subs) (seer-telling g.entries (shape_for c.role es) c))
    (λ c. ap (λ (v : Seer). v.role) (seer-telling g.entries (shape_for c.role es) c)) a

-- ---- requests of the machine

using_replies : (g : Gate) (m : ℕ) (id : Option Data) (q : Request) (name : Option Ask) (r : Reply) → IsUsing none_but g → IsUsing none_but (replies_to g m id q name r)
using_replies g m id q name r a = let h = entered g (entries_of (next_position g) q name r) in using_tells none_but h m (reply_told h id name r) (record { followed = a.followed; fit = a.fit })

using_requests : (g : Gate) (m : ℕ) (id : Option Data) (q : Request) (name : Option Ask) (n : ℕ) → IsUsing none_but g → IsUsing none_but (done_in g m id q name n)
using_requests g m id q name n a =
    let k = in_session n q.act in let r = reply_to g k in let i = replies_to g m id q name r in
    using_informs (ran i k) (entries_of (next_position g) q name r) (IsUsing-ran none_but i k (using_replies g m id q name r a))

using_shares : (g : Gate) (m : ℕ) (c : Client) (id : Option Data) (q : Request) (claim : Option Claim) → IsUsing none_but g → IsUsing none_but (shares g m c id q claim)
using_shares g m c id q claim a = shares_so (IsUsing none_but) g m id q
    (record { tells = λ t x. using_tells none_but g m t a; does = λ name n e. using_requests g m id q name n a; refuses = λ name r. using_replies g m id q name (refused r) a }) c claim

-- ---- subscribing

module _ (g : Gate) (m : ℕ) (id : Option Data) (n : ℕ) (role rel : Name) where
  abbrev next_number : ℕ
  next_number = g.machine.frame.last + 1

  abbrev next_feed : Feed
  next_feed = record { number = g.machine.frame.last + 1; session = n; role = role; rel = rel }

  abbrev next_told : Told
  next_told = opened id (next_own g m) (columns_in g.machine rel)

  abbrev begun_gate : Gate
  begun_gate = feed_begun g m id n role rel (subscribed (g.machine.frame.last + 1))

  new_follows : (d : Client) → follows next_number (following next_number d).subs ≡ true
  new_follows d = any_more (λ (s : Sub). next_number == s.feed) d.subs (record { own = d.given + 1; feed = next_number } ∷ []) ∙ or_right (follows next_number d.subs) ((next_number == next_number) || false) (or_left (next_number == next_number) false (eq-itself next_number))

  old_follows : (k : ℕ) (d : Client) → follows k d.subs ≡ true → follows k (following next_number d).subs ≡ true
  old_follows k d w = any_more (λ (s : Sub). k == s.feed) d.subs (record { own = d.given + 1; feed = next_number } ∷ []) ∙ or_left (follows k d.subs) ((k == next_number) || false) w

  abbrev told_slots : Slots
  told_slots = at_client m (told_one g.entries next_told) g.clients

  begun_followed : (c : Client) → client_at g.clients m ≡ Some c → IsUsing none_but g → AreFollowed none_but begun_gate.feeds begun_gate.clients
  begun_followed c e a = (
    λ w. is_followed-at_one next_number m (following next_number) told_slots (told_one g.entries next_told c)
        (client_at-at_client m (told_one g.entries next_told) g.clients ∙ ap (option_map (told_one g.entries next_told)) e)
        (new_follows (told_one g.entries next_told c)),
    AllByRecursion-map {P = λ (x : Feed). none_but x.number ≡ false → is_followed x.number g.clients ≡ true}
        {Q = λ (x : Feed). none_but x.number ≡ false → is_followed x.number (at_client m (following next_number) told_slots) ≡ true}
        (λ x f w. is_followed-at_client x.number m (following next_number) told_slots (λ d i v. old_follows x.number d v)
        (is_followed-at_client x.number m (told_one g.entries next_told) g.clients (λ d i v. v) (f w))) g.feeds a.followed,
  )

  -- what it follows already is no new feed, and the new one is of its role
  older_fits : (d : Client) → Fits g.machine.frame.last g.feeds d → Fits next_number (next_feed ∷ g.feeds) d
  older_fits d a k h =
      let x = a k h in let given = x.0 in
      (omega (arith, given), ((λ w. absurd (false≢true (sym (eq-le_next k g.machine.frame.last given) ∙ w))), x.1))

  none_above : (k f : ℕ) → k ≡ next_number → k ≡ f → f ≤ g.machine.frame.last → ⊥
  none_above k f e h l = omega (arith, e, h, l)

  newest_fits : (d : Client) → d.role ≡ role → IsSoundGate g → (k : ℕ) → k ≡ next_number → (k ≤ next_number) × AllByRecursion (λ (f : Feed). (k == f.number) ≡ true → f.role ≡ d.role) (next_feed ∷ g.feeds)
  newest_fits d same b k e = (
    omega (arith, e),
    (
      (λ w. sym same),
      AllByRecursion-map {P = IsFeed g.machine} {Q = λ (f : Feed). (k == f.number) ≡ true → f.role ≡ d.role}
          (λ f y w. absurd (none_above k f.number e (eqb-true k f.number w) (le-subscription_of g.machine.frame.last f.number _ g.machine.frame.subscriptions b.state.numbers.given y.found))) g.feeds b.feeds,
    ),
  )

  asker_fits : (d : Client) → d.role ≡ role → IsSoundGate g → Fits g.machine.frame.last g.feeds d → Fits next_number (next_feed ∷ g.feeds) (following next_number d)
  asker_fits d same b a k h = by (follows k d.subs) refl (k == next_number) refl (sym (any_more (λ (s : Sub). k == s.feed) d.subs (record { own = d.given + 1; feed = next_number } ∷ [])) ∙ h)
    where
      by : (t : Bool) → follows k d.subs ≡ t → (u : Bool) → (k == next_number) ≡ u → (follows k d.subs || ((k == next_number) || false)) ≡ true
          → (k ≤ next_number) × AllByRecursion (λ (f : Feed). (k == f.number) ≡ true → f.role ≡ d.role) (next_feed ∷ g.feeds)
      by true p u q i = older_fits d a k p
      by false p true q i = newest_fits d same b k (eqb-true k next_number q)
      by false p false q i = absurd (false≢true (sym (λ j. p j || (q j || false)) ∙ i))

  begun_fit : (c : Client) → client_at g.clients m ≡ Some c → c.role ≡ role → IsSoundGate g → AreFit g.machine.frame.last g.feeds g.clients → AreFit next_number begun_gate.feeds begun_gate.clients
  begun_fit c e same b a =
      let told = AreFit-at_client g.machine.frame.last g.feeds m (told_one g.entries next_told) g.clients (Shrinks-same_subs (told_one g.entries next_told) (λ d. refl) (λ d. refl)) a in
      client_at-one_changed (λ i d. Fits next_number (next_feed ∷ g.feeds) d) m (following next_number) told_slots
      (λ d h.
      let o =
      IsFrom-option_map (told_one g.entries next_told) (client_at g.clients m) d (sym (client_at-at_client m (told_one g.entries next_told) g.clients) ∙ h) in
      asker_fits d (ap (λ (x : Client). x.role) (sym o.same) ∙ (ap (λ (x : Client). x.role) (same-Some o.old c (sym o.there ∙ e)) ∙ same)) b (told m d h))
      (λ i d ne h. older_fits d (told i d h))

  pub using_subscribes : (c : Client) → client_at g.clients m ≡ Some c → c.role ≡ role → IsSoundGate g → IsUsing none_but g → IsUsing none_but (subscribes g m id n role rel)
  using_subscribes c e same b a = by (refusal g.machine n (subscribe rel)) refl
    where
      by : (o : Option Refusal) → refusal g.machine n (subscribe rel) ≡ o → IsUsing none_but (subscribes g m id n role rel)
      by None w =
          subst (λ r. IsUsing none_but (ran (feed_begun g m id n role rel r) (in_session n (subscribe rel)))) (sym (reply_in-None g.machine n rel (refusal g.machine n (subscribe rel)) w))
          (IsUsing-subscribe begun_gate n rel w (begun_followed c e a) (begun_fit c e same b a.fit))
      by (Some r) w =
          subst (λ x. IsUsing none_but (ran (feed_begun g m id n role rel x) (in_session n (subscribe rel)))) (sym (reply_in-Some g.machine n rel (refusal g.machine n (subscribe rel)) r w))
          (IsUsing-ran none_but (tells g m (replied id (refused r))) (in_session n (subscribe rel)) (using_tells none_but g m (replied id (refused r)) a))

-- ---- a feed that a client leaves for an older one

still_follows : (t k j : ℕ) (xs : List Sub) → (t == j) ≡ false → follows j xs ≡ true → follows j (map (moved_sub t k) xs) ≡ true
still_follows t k j [] w v = v
still_follows t k j (x ∷ xs) w v = by (t == x.feed) refl (j == x.feed) refl v (still_follows t k j xs w)
  where
    by : (d : Bool) → (t == x.feed) ≡ d → (b : Bool) → (j == x.feed) ≡ b → (b || follows j xs) ≡ true → (follows j xs ≡ true → follows j (map (moved_sub t k) xs) ≡ true)
        → ((j == (cond d (record x { feed = k }) x).feed) || follows j (map (moved_sub t k) xs)) ≡ true
    by true q true u s more =
        let same : t ≡ j = eqb-true t x.feed q ∙ sym (eqb-true j x.feed u) in absurd (false≢true (sym w ∙ (ap (λ i. t == i) (sym same) ∙ eq-itself t)))
    by true q false u s more = or_right (j == k) (follows j (map (moved_sub t k) xs)) (more s)
    by false q true u s more = or_left (j == x.feed) (follows j (map (moved_sub t k) xs)) u
    by false q false u s more = or_right (j == x.feed) (follows j (map (moved_sub t k) xs)) (more s)

-- a number that is followed then was followed before, or is the one that was moved to
moved_from : (t k j : ℕ) (xs : List Sub) → follows j (map (moved_sub t k) xs) ≡ true → (follows j xs ≡ true) ⊎ ((j ≡ k) × (follows t xs ≡ true))
moved_from t k j [] h = inl h
moved_from t k j (x ∷ xs) h = by (moved_from t k j xs) (t == x.feed) refl h
  where
    more : (follows j xs ≡ true) ⊎ ((j ≡ k) × (follows t xs ≡ true)) → (((j == x.feed) || follows j xs) ≡ true) ⊎ ((j ≡ k) × (((t == x.feed) || follows t xs) ≡ true))
    more (inl f) = inl (or_right (j == x.feed) (follows j xs) f)
    more (inr p) = inr (p.0, or_right (t == x.feed) (follows t xs) p.1)

    Rest : Type 0
    Rest = follows j (map (moved_sub t k) xs) ≡ true → (follows j xs ≡ true) ⊎ ((j ≡ k) × (follows t xs ≡ true))

    here : Rest → (t == x.feed) ≡ true → (b : Bool) → (j == k) ≡ b → (b || follows j (map (moved_sub t k) xs)) ≡ true
        → (((j == x.feed) || follows j xs) ≡ true) ⊎ ((j ≡ k) × (((t == x.feed) || follows t xs) ≡ true))
    here rest q true e i = inr (eqb-true j k e, or_left (t == x.feed) (follows t xs) q)
    here rest q false e i = more (rest i)

    there : Rest → (b : Bool) → (j == x.feed) ≡ b → (b || follows j (map (moved_sub t k) xs)) ≡ true → (((j == x.feed) || follows j xs) ≡ true) ⊎ ((j ≡ k) × (((t == x.feed) || follows t xs) ≡ true))
    there rest true e i = inl (or_left (j == x.feed) (follows j xs) e)
    there rest false e i = more (rest i)

    by : Rest → (d : Bool) → (t == x.feed) ≡ d → ((j == (cond d (record x { feed = k }) x).feed) || follows j (map (moved_sub t k) xs)) ≡ true
        → (((j == x.feed) || follows j xs) ≡ true) ⊎ ((j ≡ k) × (((t == x.feed) || follows t xs) ≡ true))
    by rest true q i = here rest q (j == k) refl i
    by rest false q i = there rest (j == x.feed) refl i

-- feeds of one number are of one role
same_feed : (s : State) (f k : Feed) → IsFeed s f → IsFeed s k → f.number ≡ k.number → f.role ≡ k.role
same_feed s f k x y e =
    let session : f.session ≡ k.session = ap (λ (z : Subscription). z.session)
    (same-Some (record { session = f.session; number = f.number; rel = x.rel }) (record { session = k.session; number = k.number; rel = y.rel })
    (sym x.found ∙ (ap (subscription_of s.frame.subscriptions) e ∙ y.found))) in
    same-ActsAs s k.session f.role k.role (subst (λ n. ActsAs s n f.role) session x.acts) y.acts

moved_fit : (g : Gate) (m t k : ℕ) (x y : Feed) → IsSoundGate g → feed_of g.feeds t ≡ Some x → feed_of g.feeds k ≡ Some y → y.role ≡ x.role
    → AreFit g.machine.frame.last g.feeds g.clients → AreFit g.machine.frame.last g.feeds (at_client m (moved x.number y.number) g.clients)
moved_fit g m t k x y b w v same a = client_at-one_changed (λ i c. Fits g.machine.frame.last g.feeds c) m (moved x.number y.number) g.clients (λ c e j h. by c e j (moved_from x.number y.number j c.subs h)) (λ i c ne e. a i c e)
  where
    fy : IsFeed g.machine y
    fy = AllByRecursion-feed_of (IsFeed g.machine) g.feeds k y b.feeds v

    by : (c : Client) → client_at g.clients m ≡ Some c → (j : ℕ) → (follows j c.subs ≡ true) ⊎ ((j ≡ y.number) × (follows x.number c.subs ≡ true))
        → (j ≤ g.machine.frame.last) × AllByRecursion (λ (f : Feed). (j == f.number) ≡ true → f.role ≡ c.role) g.feeds
    by c e j (inl h) = a m c e j h
    by c e j (inr p) =
        let given : y.number ≤ g.machine.frame.last = le-subscription_of g.machine.frame.last y.number _ g.machine.frame.subscriptions b.state.numbers.given fy.found in
        let number = p.0 in
        let role : y.role ≡ c.role = same ∙ AllByRecursion-feed_of (λ (f : Feed). (x.number == f.number) ≡ true → f.role ≡ c.role) g.feeds t x (a m c e x.number p.1).1 w (eq-itself x.number) in (
          omega (arith, number, given),
          AllByRecursion-map {P = IsFeed g.machine} {Q = λ (f : Feed). (j == f.number) ≡ true → f.role ≡ c.role} (λ f z i. same_feed g.machine f y z fy (sym (eqb-true j f.number i) ∙ number) ∙ role) g.feeds b.feeds,
        )

using_joined : (g : Gate) (m t k : ℕ) → IsSoundGate g → IsUsing none_but g → IsUsing none_but (joined g m (feed_of g.feeds t) (feed_of g.feeds k))
using_joined g m t k b a = by (feed_of g.feeds t) (feed_of g.feeds k) refl refl
  where
    goes : (x y : Feed) → feed_of g.feeds t ≡ Some x → feed_of g.feeds k ≡ Some y → (d : Bool) → (is_reading x.role x.rel y && not (x.number == y.number)) ≡ d
        → IsUsing none_but (cond d (shut (record g { clients = at_client m (moved x.number y.number) g.clients }) x) g)
    goes x y w v false i = a
    goes x y w v true i = IsUsing-shut none_but (record g { clients = at_client m (moved x.number y.number) g.clients }) x
        (AllByRecursion-filter_not (λ (f : Feed). none_but f.number ≡ false → is_followed f.number (at_client m (moved x.number y.number) g.clients) ≡ true) (λ (f : Feed). x.number == f.number) g.feeds
        (AllByRecursion-map {P = λ (f : Feed). none_but f.number ≡ false → is_followed f.number g.clients ≡ true}
        {Q = λ (f : Feed). (x.number == f.number) ≡ false → none_but f.number ≡ false → is_followed f.number (at_client m (moved x.number y.number) g.clients) ≡ true}
        (λ f u q n. is_followed-at_client f.number m (moved x.number y.number) g.clients (λ c e h. still_follows x.number y.number f.number c.subs q h) (u n)) g.feeds a.followed))
        (moved_fit g m t k x y b w v (same-bytes_eq y.role x.role (and-both_true (bytes_eq y.role x.role) (bytes_eq y.rel x.rel) (and-both_true (is_reading x.role x.rel y) (not (x.number == y.number)) i).0).0) a.fit)

    by : (o p : Option Feed) → feed_of g.feeds t ≡ o → feed_of g.feeds k ≡ p → IsUsing none_but (joined g m o p)
    by None p w v = a
    by (Some x) None w v = a
    by (Some x) (Some y) w v = goes x y w v (is_reading x.role x.rel y && not (x.number == y.number)) refl

using_joins : Adds → Sounds → (g : Gate) (m : ℕ) (id : Option Data) (f : Feed) (c : Client) → client_at g.clients m ≡ Some c → ActsAs g.machine f.session f.role → IsAsker c id f.role f.rel → IsSoundGate g → IsUsing none_but g
    → IsUsing none_but (joins g m id f)
using_joins adds sounds g m id f c e acts same b a = by (reply_to g (in_session f.session (subscribe f.rel)))
  where
    after : IsUsing none_but (subscribes g m id f.session f.role f.rel)
    after = using_subscribes g m id f.session f.role f.rel c e same.same b a

    by : (r : Reply) → IsUsing none_but (joined_by (subscribes g m id f.session f.role f.rel) m f.number r)
    by (subscribed t) = using_joined (subscribes g m id f.session f.role f.rel) m t f.number
        (IsSoundGate-subscribes adds sounds g m id f.session f.role f.rel acts (λ d w. subst (λ z. IsAsker z id f.role f.rel) (sym (same-Some d c (sym w ∙ e))) same) b) after
    by done = after
    by (refused r) = after

-- ---- sessions

still_there : (g : Gate) (k : Command) (m : ℕ) (c : Client) → client_at g.clients m ≡ Some c → (d : Client) × (client_at (ran g k).clients m ≡ Some d) × (d.role ≡ c.role)
still_there g k m c e = (hears c, client_at-at_all hears g.clients m ∙ ap (option_map hears) e, ap (λ (v : Seer). v.role) (seer-telling g.entries (told_of g k.act (step g.machine k) c) c))
  where
    hears : Client → Client
    hears x = staying (step g.machine k).lines (telling g.entries (told_of g k.act (step g.machine k) x) x)

using_seated : (g : Gate) (n : ℕ) (role : Name) → IsUsing none_but g → IsUsing none_but (seated g n role)
using_seated g n role a = IsUsing-ran none_but (record g { seats = g.seats ++ record { session = n; role = role } ∷ [] }) (in_session n (begin role)) (record { followed = a.followed; fit = a.fit })

using_rested : (g : Gate) (s : Seat) → IsUsing none_but g → IsUsing none_but (rested g s)
using_rested g s a = by (is_needed g s)
  where
    by : (d : Bool) → IsUsing none_but (cond d g (ran (record g { seats = without_seat s.session g.seats }) (in_session s.session finish)))
    by true = a
    by false = IsUsing-ran none_but (record g { seats = without_seat s.session g.seats }) (in_session s.session finish) (record { followed = a.followed; fit = a.fit })

-- ---- a client reads

using_first : Adds → Sounds → (g : Gate) (m : ℕ) (id : Option Data) (role rel : Name) (c : Client) → client_at g.clients m ≡ Some c → c.role ≡ role → IsSoundGate g → IsUsing none_but g
    → IsUsing none_but (reads_first g m id role rel)
using_first adds sounds g m id role rel c e same b a = by (room_for g.seats g.feeds role)
  where
    further : (o : Option ℕ) → begun_for g role ≡ o → IsUsing none_but (if_some o (tells g m (replied id (refused too_many))) (λ n. subscribes (seated g n role) m id n role rel))
    further None w = using_tells none_but g m (replied id (refused too_many)) a
    further (Some n) w =
        let d = still_there (record g { seats = g.seats ++ record { session = n; role = role } ∷ [] }) (in_session n (begin role)) m c e in
        using_subscribes (seated g n role) m id n role rel d.0 d.1 (d.2 ∙ same) (IsSoundGate-seated adds sounds g role n w b) (using_seated g n role a)

    by : (o : Option ℕ) → IsUsing none_but (if_some o (if_some (begun_for g role) (tells g m (replied id (refused too_many))) (λ n. subscribes (seated g n role) m id n role rel)) (λ n. subscribes g m id n role rel))
    by None = further (begun_for g role) refl
    by (Some n) = using_subscribes g m id n role rel c e same b a

using_reads : Adds → Sounds → (g : Gate) (m : ℕ) (c : Client) (id : Option Data) (rel : Name) (d : Client) → client_at g.clients m ≡ Some d → IsAsker d id c.role rel → IsSoundGate g → IsUsing none_but g
    → IsUsing none_but (reads g m c id rel)
using_reads adds sounds g m c id rel d e same b a = test (nat_lt (length c.subs) most_subs)
  where
    by : (o : Option Feed) → feed_for g.feeds c.role rel ≡ o → IsUsing none_but (if_some o (reads_first g m id c.role rel) (joins g m id))
    by None w = using_first adds sounds g m id c.role rel d e same.same b a
    by (Some f) w = let p = ActsAs-feed_for g.machine c.role rel g.feeds f b.feeds w in using_joins adds sounds g m id f d e p.0 (subst (λ r. IsAsker d id r f.rel) (sym p.1) (subst (λ r. IsAsker d id c.role r) (sym p.2) same)) b a

    test : (t : Bool) → IsUsing none_but (cond t (if_some (feed_for g.feeds c.role rel) (reads_first g m id c.role rel) (joins g m id)) (tells g m (replied id (refused too_many))))
    test true = by (feed_for g.feeds c.role rel) refl
    test false = using_tells none_but g m (replied id (refused too_many)) a

-- ---- what not_client_at-replicate follows any more

abbrev pub but_of : List ℕ → ℕ → Bool
but_of ks j = list_any (λ i. i == j) ks

none_found : (k : ℕ) (fs : List Feed) → feed_of fs k ≡ None → AllByRecursion (λ (f : Feed). (k == f.number) ≡ false) fs
none_found k [] h = tt
none_found k (f ∷ fs) h = by (k == f.number) refl h (none_found k fs)
  where
    by : (b : Bool) → (k == f.number) ≡ b → cond b (Some f) (feed_of fs k) ≡ None → (feed_of fs k ≡ None → AllByRecursion (λ (x : Feed). (k == x.number) ≡ false) fs)
        → ((k == f.number) ≡ false) × AllByRecursion (λ (x : Feed). (k == x.number) ≡ false) fs
    by true q w more = absurd (not_None-Some f w)
    by false q w more = (q, more w)

using_swept : (ks : List ℕ) (g : Gate) (k : ℕ) → IsUsing (but_of (k ∷ ks)) g → IsUsing (but_of ks) (swept g k)
using_swept ks g k a = by (is_followed k g.clients) refl (feed_of g.feeds k) refl
  where
    test : is_followed k g.clients ≡ true → (f : Feed) → (but_of (k ∷ ks) f.number ≡ false → is_followed f.number g.clients ≡ true) → but_of ks f.number ≡ false
        → (c : Bool) → (k == f.number) ≡ c → is_followed f.number g.clients ≡ true
    test h f v w true q = ap (λ i. is_followed i g.clients) (sym (eqb-true k f.number q)) ∙ h
    test h f v w false q = v (λ i. q i || w i)

    by : (d : Bool) → is_followed k g.clients ≡ d → (o : Option Feed) → feed_of g.feeds k ≡ o → IsUsing (but_of ks) (cond d g (if_some o g (shut g)))
    by true h o e = record {
      followed = AllByRecursion-map {P = λ (f : Feed). but_of (k ∷ ks) f.number ≡ false → is_followed f.number g.clients ≡ true} {Q = λ (f : Feed). but_of ks f.number ≡ false → is_followed f.number g.clients ≡ true}
          (λ f v w. test h f v w (k == f.number) refl) g.feeds a.followed;
      fit = a.fit;
    }
    by false h None e = record {
      followed = AllByRecursion-zip {P = λ (f : Feed). but_of (k ∷ ks) f.number ≡ false → is_followed f.number g.clients ≡ true} {Q = λ (f : Feed).
          (k == f.number) ≡ false}
          {R = λ (f : Feed). but_of ks f.number ≡ false → is_followed f.number g.clients ≡ true} (λ f v q w. v (λ i. q i || w i)) g.feeds a.followed (none_found k g.feeds e);
      fit = a.fit;
    }
    by false h (Some x) e =
        let same : k ≡ x.number = eqb-true k x.number (true-find (λ (f : Feed). k == f.number) g.feeds x e) in
        IsUsing-shut (but_of ks) g x
        (AllByRecursion-filter_not (λ (f : Feed). but_of ks f.number ≡ false → is_followed f.number g.clients ≡ true)
        (λ (f : Feed). x.number == f.number) g.feeds
        (AllByRecursion-map {P = λ (f : Feed). but_of (k ∷ ks) f.number ≡ false → is_followed f.number g.clients ≡ true} {Q = λ (f : Feed). (x.number == f.number) ≡ false → but_of ks f.number ≡ false → is_followed f.number g.clients ≡ true}
        (λ f v q w. v (λ i. (ap (λ j. j == f.number) same ∙ q) i || w i)) g.feeds a.followed)) a.fit

using_all_swept : (g : Gate) (ks : List ℕ) → IsUsing (but_of ks) g → IsUsing none_but (all_swept g ks)
using_all_swept g [] a = record { followed = a.followed; fit = a.fit }
using_all_swept g (k ∷ ks) a = using_all_swept (swept g k) ks (using_swept ks g k a)

using_all_rested : (g : Gate) (ss : List Seat) → IsUsing none_but g → IsUsing none_but (all_rested g ss)
using_all_rested g [] a = a
using_all_rested g (s ∷ ss) a = using_all_rested (rested g s) ss (using_rested g s a)

-- ---- a client closes

kept_whole : (own j : ℕ) (xs : List Sub) → list_any (λ (y : Sub). own == y.own) xs ≡ false → follows j xs ≡ true → follows j (filter (λ (s : Sub). not (own == s.own)) xs) ≡ true
kept_whole own j [] n v = v
kept_whole own j (x ∷ xs) n v = let p = or-both_false (own == x.own) (list_any (λ (y : Sub). own == y.own) xs) n in by (own == x.own) p.0 (j == x.feed) v (kept_whole own j xs p.1) refl
  where
    by : (b : Bool) → b ≡ false → (d : Bool) → (d || follows j xs) ≡ true → (follows j xs ≡ true → follows j (filter (λ (s : Sub). not (own == s.own)) xs) ≡ true)
        → (j == x.feed) ≡ d → follows j (cond (not b) (x ∷ filter (λ (s : Sub). not (own == s.own)) xs) (filter (λ (s : Sub). not (own == s.own)) xs)) ≡ true
    by true e d w more q = absurd (false≢true (sym e))
    by false e true w more q = or_left (j == x.feed) (follows j (filter (λ (s : Sub). not (own == s.own)) xs)) q
    by false e false w more q = or_right (j == x.feed) (follows j (filter (λ (s : Sub). not (own == s.own)) xs)) (more w)

other_stays : (own k j given : ℕ) (xs : List Sub) → AreOwn given xs → followed_by xs own ≡ Some k → (k == j) ≡ false → follows j xs ≡ true → follows j (filter (λ (s : Sub). not (own == s.own)) xs) ≡ true
other_stays own k j given [] o f w v = v
other_stays own k j given (x ∷ xs) o f w v = by (own == x.own) refl f (j == x.feed) refl v (λ u t. other_stays own k j given xs o.2 u w t)
  where
    left : List Sub
    left = filter (λ (s : Sub). not (own == s.own)) xs

    by : (b : Bool) → (own == x.own) ≡ b → option_map (λ (s : Sub). s.feed) (cond b (Some x) (find (λ (s : Sub). own == s.own) xs)) ≡ Some k → (d : Bool) → (j == x.feed) ≡ d → (d || follows j xs) ≡ true
        → (followed_by xs own ≡ Some k → follows j xs ≡ true → follows j left ≡ true)
        → follows j (cond (not b) (x ∷ filter (λ (s : Sub). not (own == s.own)) xs) (filter (λ (s : Sub). not (own == s.own)) xs)) ≡ true
    by true q e true u t more = absurd (false≢true (sym w ∙ (ap (λ i. i == j) (sym (same-Some x.feed k e)) ∙ eq-turned j x.feed u)))
    by true q e false u t more = kept_whole own j xs (ap (λ i. list_any (λ (y : Sub). i == y.own) xs) (eqb-true own x.own q) ∙ o.1) t
    by false q e true u t more = or_left (j == x.feed) (follows j left) u
    by false q e false u t more = or_right (j == x.feed) (follows j left) (more e t)

using_closes : (g : Gate) (m : ℕ) (c : Client) (id : Option Data) (own given : ℕ) → ((d : Client) → client_at g.clients m ≡ Some d → d.subs ≡ c.subs) → AreOwn given c.subs → IsUsing none_but g
    → IsUsing none_but (closes g m c id own)
using_closes g m c id own given same o a = by (followed_by c.subs own) refl
  where
    h : Gate
    h = record g { clients = at_client m (closing own) g.clients }

    by : (p : Option ℕ) → followed_by c.subs own ≡ p → IsUsing none_but (if_some p (tells g m (replied id (refused unknown_subscription))) (λ k. swept (tells (record g { clients = at_client m (closing own) g.clients }) m (replied id done)) k))
    by None e = using_tells none_but g m (replied id (refused unknown_subscription)) a
    by (Some k) e =
        let i = using_swept [] (tells h m (replied id done)) k (using_tells (but_of (k ∷ [])) h m (replied id done) (record {
          followed = AllByRecursion-map {P = λ (f : Feed). none_but f.number ≡ false → is_followed f.number g.clients ≡ true} {Q = λ (f : Feed). but_of (k ∷ []) f.number ≡ false → is_followed f.number (at_client m (closing own) g.clients) ≡ true}
              (λ f v w. is_followed-at_client f.number m (closing own) g.clients
              (λ d t u. ap (λ ss. follows f.number (filter (λ (s : Sub). not (own == s.own)) ss)) (same d t)
              ∙ other_stays own k f.number given c.subs o e (or-both_false (k == f.number) false w).0 (sym (ap (follows f.number) (same d t)) ∙ u)) (v refl)) g.feeds a.followed;
          fit = AreFit-at_client g.machine.frame.last g.feeds m (closing own) g.clients (record { role = λ d. refl; fewer = λ d j t. follows-filter j (λ (s : Sub). not (own == s.own)) d.subs t }) a.fit;
        })) in
        record { followed = i.followed; fit = i.fit }

-- ---- a message

using_acts : Adds → Sounds → (g : Gate) (m : ℕ) (c : Client) (id : Option Data) (text : List ℕ) (act : Act) (d : Client) (given : ℕ) → client_at g.clients m ≡ Some d → said_by text ≡ request id act → IsHeard g m c text d → d.subs ≡ c.subs → AreOwn given c.subs
    → IsSoundGate g → IsUsing none_but g → IsUsing none_but (acts g m c id text act)
using_acts adds sounds g m c id text (begin role) d given t w r s o b a = using_tells none_but g m (fault 2) a
using_acts adds sounds g m c id text finish d given t w r s o b a = using_tells none_but g m (fault 2) a
using_acts adds sounds g m c id text (subscribe rel) d given t w r s o b a =
    using_reads adds sounds g m c id rel d t (IsAsker-IsHeard g m c id text rel d w r) b a
using_acts adds sounds g m c id text (unsubscribe own) d given t w r s o b a = using_closes g m c id own given (λ x e. ap (λ (y : Client). y.subs) (same-Some x d (sym e ∙ t)) ∙ s) o a
using_acts adds sounds g m c id text act d given t w r s o b a = using_shares g m c id (request_of c text act) (claim_said text) a

using_done : Adds → Sounds → (g : Gate) (m : ℕ) (c : Client) (text : List ℕ) (x : Message) (d : Client) (given : ℕ) → client_at g.clients m ≡ Some d → said_by text ≡ x → IsHeard g m c text d → d.subs ≡ c.subs → AreOwn given c.subs
    → IsSoundGate g → IsUsing none_but g → IsUsing none_but (done_for g m c text x)
using_done adds sounds g m c text no_json d given t w r s o b a = using_tells none_but g m (fault 1) a
using_done adds sounds g m c text too_long d given t w r s o b a = using_tells none_but g m (fault 22) a
using_done adds sounds g m c text no_object d given t w r s o b a = using_tells none_but g m (fault 2) a
using_done adds sounds g m c text (no_request id why) d given t w r s o b a = using_tells none_but g m (unasked id why) a
using_done adds sounds g m c text (request id act) d given t w r s o b a =
    cond-either (IsUsing none_but) (may_have (claim_said text) act) (acts g m c id text act) (tells g m (unasked id (unknown (codes "once")))) (using_acts adds sounds g m c id text act d given t w r s o b a) (using_tells none_but g m (unasked id (unknown (codes "once"))) a)

not_dropped : (d : Bool) (e : Bool) → (not d && e) ≡ true → d ≡ false
not_dropped true e h = absurd (false≢true h)
not_dropped false e h = refl

using_hears : Adds → Sounds → (g : Gate) (m : ℕ) (c : Client) (text : List ℕ) → client_at g.clients m ≡ Some c → may_say c ≡ true → IsEven c → IsSoundGate g → IsUsing none_but g → IsUsing none_but (hears g m c text)
using_hears adds sounds g m c text t says even b a =
    let asked = record g { clients = at_client m (saying text) g.clients } in
    let live : c.dropped ≡ false = not_dropped c.dropped _ says in
    using_one none_but (settles (done_for asked m c text (said_by text))) m (answered c) (λ d. refl) (λ d. refl)
    (using_settles (done_for asked m c text (said_by text))
    (using_done adds sounds asked m c text (said_by text) (saying text c) c.given
    (client_at-at_client m (saying text) g.clients ∙ ap (option_map (saying text)) t) refl
    (record { role = refl; before = c.messages; messages = refl; pending = even }) refl (b.clients m c t live).own
    (IsSoundGate-at_client g m (saying text) (λ d e l. IsSoundClient-said g.machine g.feeds (seer d) text (b.clients m d e l)) b) (using_one none_but g m (saying text) (λ d. refl) (λ d. refl) a)))

some_using : {X : Type 0} (o : Option X) (h : Gate) (f : X → Gate) → IsUsing none_but h → ((x : X) → o ≡ Some x → IsUsing none_but (f x)) → IsUsing none_but (if_some o h f)
some_using None h f a b = a
some_using (Some x) h f a b = b x refl

using_said : Adds → Sounds → (g : Gate) (m : ℕ) (text : List ℕ) → AreEven g → IsSoundGate g → IsUsing none_but g → IsUsing none_but (said g m text)
using_said adds sounds g m text even b a = some_using (client_at g.clients m) g (λ c. cond (may_say c) (hears g m c text) g) a (λ c e. test c e (may_say c) refl)
  where
    test : (c : Client) → client_at g.clients m ≡ Some c → (t : Bool) → may_say c ≡ t → IsUsing none_but (cond t (hears g m c text) g)
    test c e true s = using_hears adds sounds g m c text e s (even m c (record { there = e; stays = dropped-may_say c s })) b a
    test c e false s = a

-- ---- a client comes, and goes

using_with : (g : Gate) (role : Name) (m : ℕ) → client_at g.clients m ≡ None → IsUsing none_but g
    → IsUsing none_but (with_session g role) × (client_at (with_session g role).clients m ≡ None)
using_with g role m e a = by (seat_of g.seats role)
  where
    further : (o : Option ℕ) → IsUsing none_but (if_some o g (λ n. seated g n role)) × (client_at (if_some o g (λ n. seated g n role)).clients m ≡ None)
    further None = (a, e)
    further (Some n) =
        let h = record g { seats = g.seats ++ record { session = n; role = role } ∷ [] } in let k = in_session n (begin role) in (
          using_seated g n role a,
          client_at-at_all (λ (x : Client). staying (step h.machine k).lines (telling h.entries (told_of h k.act (step h.machine k) x) x)) g.clients m
              ∙ ap (option_map (λ (x : Client). staying (step h.machine k).lines (telling h.entries (told_of h k.act (step h.machine k) x) x))) e,
        )

    by : (o : Option ℕ) → IsUsing none_but (if_some o (if_some (begun_for g role) g (λ n. seated g n role)) (λ n. g)) × (client_at (if_some o (if_some (begun_for g role) g (λ n. seated g n role)) (λ n. g)).clients m ≡ None)
    by None = further (begun_for g role)
    by (Some n) = (a, e)

using_came : (g : Gate) (m : ℕ) (token : List ℕ) (t : Token) → token_for g m token ≡ Some t → IsUsing none_but g → IsUsing none_but (came_as g m t)
using_came g m token t e a =
    let h = with_session g t.role in let p = using_with g t.role m (client_at-is_free m g.clients (Opens-token_for g m token t e).free) a in
    let who = Some (fresh h.entries t (at_text h t)) in
    record {
      followed = AllByRecursion-map {P = λ (f : Feed). none_but f.number ≡ false → is_followed f.number h.clients ≡ true} {Q = λ (f : Feed). none_but f.number ≡ false → is_followed f.number (set h.clients m who) ≡ true}
          (λ f v w. is_followed-set f.number m who h.clients p.1 (v w)) h.feeds p.0.followed;
      fit = client_at-set_each (Fits h.machine.frame.last h.feeds) m who h.clients (λ c i k z. absurd (false≢true (ap (λ (x : Client). follows k x.subs) (same-Some (fresh h.entries t (at_text h t)) c i) ∙ z))) p.0.fit;
    }

not_among : (j : ℕ) (xs : List Sub) → but_of (map (λ (s : Sub). s.feed) xs) j ≡ false → follows j xs ≡ false
not_among j [] h = refl
not_among j (x ∷ xs) h =
    let p = or-both_false (x.feed == j) (but_of (map (λ (s : Sub). s.feed) xs) j) h in (λ i. eq-false_turned x.feed j p.0 i || not_among j xs p.1 i)

using_went : (g : Gate) (m : ℕ) → IsUsing none_but g → IsUsing none_but (went g m)
using_went g m a = by (client_at g.clients m) refl
  where
    by : (o : Option Client) → client_at g.clients m ≡ o
        → IsUsing none_but (if_some o g (λ c. let h = all_swept (record g { clients = set g.clients m None }) (map (λ s. s.feed) c.subs) in settles (all_rested h (filter (is_of_role c.role) h.seats))))
    by None e = a
    by (Some c) e =
        let left = record g { clients = set g.clients m None } in let ks = map (λ (s : Sub). s.feed) c.subs in
        let h = all_swept left ks in let ss = filter (is_of_role c.role) h.seats in
        using_settles (all_rested h ss) (using_all_rested h ss (using_all_swept left ks (record {
          followed = AllByRecursion-map {P = λ (f : Feed). none_but f.number ≡ false → is_followed f.number g.clients ≡ true} {Q = λ (f : Feed). but_of ks f.number ≡ false → is_followed f.number (set g.clients m None) ≡ true}
              (λ f v w. is_followed-set_None f.number m g.clients c e (not_among f.number c.subs w) (v refl)) g.feeds a.followed;
          fit = client_at-set_each (Fits g.machine.frame.last g.feeds) m None g.clients (λ d i. absurd (not_None-Some d (sym i))) a.fit;
        })))

-- ---- a step

using_landed : Sounds → (g : Gate) (e : Entry) (fs : List Fact) (o : Outcome) → stepped fs g.machine ≡ Some o → IsSoundGate g → IsUsing none_but g → IsUsing none_but (landed g e o)
using_landed sounds g e fs o h b a =
    let now = entered g (e ∷ []) in let behind = went_on now o (step_told g o) in let same = (sounds.told fs g.machine o b.state h).last in
    using_settles (informs behind (e ∷ [])) (using_informs behind (e ∷ []) (IsUsing-went_on none_but now o (step_told g o) (omega (arith, same)) (record { followed = a.followed; fit = a.fit })))

using_takes : Sounds → (g : Gate) (x : Step) → IsSoundGate g → IsUsing none_but g → IsUsing none_but (takes g x)
using_takes sounds g x b a = by (is_some (fault_of g x)) (was_taken g x) (stepped (map fact_of x.requests) g.machine) refl
  where
    by : (d p : Bool) (o : Option Outcome) → stepped (map fact_of x.requests) g.machine ≡ o → IsUsing none_but (cond d (record g { dead = true }) (cond p g (if_some o g (landed g (entry_of x)))))
    by true p o e = record { followed = a.followed; fit = a.fit }
    by false true o e = a
    by false false None e = a
    by false false (Some o) e = using_landed sounds g (entry_of x) (map fact_of x.requests) o e b a

-- ---- each event, and whatever happens

happens_using : Adds → Sounds → (g : Gate) (e : Event) → AreEven g → IsSoundGate g → IsUsing none_but g → IsUsing none_but (happens g e)
happens_using adds sounds g (presented m token) even b a = some_using (token_for g m token) g (came_as g m) a (λ t e. using_came g m token t e a)
happens_using adds sounds g (message m text) even b a = using_said adds sounds g m text even b a
happens_using adds sounds g (gone m) even b a = using_went g m a
happens_using adds sounds g (known tokens) even b a = let x = using_all none_but g (checked tokens) (checked_subs tokens) (role-checked tokens) a in record { followed = x.followed; fit = x.fit }
happens_using adds sounds g ticked even b a = using_all none_but g (beating g.entries) (λ c. refl) (λ c. refl) a
happens_using adds sounds g synced even b a = let x = using_all none_but g released released_subs role-released a in record { followed = x.followed; fit = x.fit }
happens_using adds sounds g (handed m) even b a = let x = using_one none_but g m handing handing_subs role-handing a in record { followed = x.followed; fit = x.fit }
happens_using adds sounds g (arrived x) even b a = using_takes sounds g x b a
happens_using adds sounds g led even b a = record { followed = a.followed; fit = a.fit }
happens_using adds sounds g forgave even b a = record { followed = a.followed; fit = a.fit }
happens_using adds sounds g failed even b a = record { followed = a.followed; fit = a.fit }

next_using : Adds → Sounds → (g : Gate) (e : Event) → AreEven g → IsSoundGate g → IsUsing none_but g → IsUsing none_but (next g e)
next_using adds sounds g e even b a = by g.dead
  where
    by : (t : Bool) → IsUsing none_but (cond t g (happens g e))
    by true = a
    by false = happens_using adds sounds g e even b a

restored_using : (cap : ℕ) (tokens : List Token) (most : ℕ) (head : Head) (sent : List Shown) (journal : List Line) (g : Gate) → Restores (gate_at_start cap tokens most head sent) journal g → IsUsing none_but g
restored_using cap tokens most head sent journal g r = subst (IsUsing none_but) (sym r.leads.gate) (record {
  followed = tt;
  fit = λ m c h. absurd (not_client_at-replicate most m c h);
})

pub IsUsing-Runs : Adds → Starts → Sounds → (cap : ℕ) (g : Gate) → Runs cap g → IsUsing none_but g
IsUsing-Runs adds starts sounds cap _ (begins tokens most head journal g r) = restored_using cap tokens most head [] journal g r
IsUsing-Runs adds starts sounds cap _ (goes_on h e w r) = next_using adds sounds h e (AreEven-Runs cap h r) (IsSoundGate-Runs adds starts sounds cap h r) (IsUsing-Runs adds starts sounds cap h r)
IsUsing-Runs adds starts sounds cap _ (begins_again h disk tokens most i r l x) = restored_using cap tokens most h.head h.sent disk i x

-- each subscription of the machine is a feed that some client follows
pub ReadsForClients-Runs : Adds → Starts → Sounds → (cap : ℕ) (g : Gate) → Runs cap g → ReadsForClients g
ReadsForClients-Runs adds starts sounds cap g r = record {
  subscriptions = AllByRecursion-map {P = IsFed g.feeds} {Q = λ (e : Subscription). is_followed e.number g.clients ≡ true}
      (λ e h.
      let same : e.number ≡ h.feed.number = eqb-true e.number h.feed.number (true-find (λ (x : Feed). e.number == x.number) g.feeds h.feed h.found) in
      ap (λ i. is_followed i g.clients) same ∙ AllByRecursion-feed_of (λ (x : Feed). none_but x.number ≡ false → is_followed x.number g.clients ≡ true) g.feeds e.number h.feed a.followed h.found refl)
      g.machine.frame.subscriptions (IsKept-Runs adds starts sounds cap g r).shared.fed;
  feeds = AllByRecursion-map {P = λ (f : Feed). none_but f.number ≡ false → is_followed f.number g.clients ≡ true} {Q = λ (f : Feed). is_followed f.number g.clients ≡ true} (λ f h. h refl) g.feeds a.followed;
}
  where
    a : IsUsing none_but g
    a = IsUsing-Runs adds starts sounds cap g r

-- A new subscription: its client follows a feed that shows nothing yet, and is told its contents by the command.
use Rattle.std.proofs.Common.{◌≡◌, ℕ, ◌+◌, ◌≤◌, false, cond, ◌||◌, List, [], ◌∷◌, ◌++◌, Option, Some, None, is_some, refl, ap, ◌∙◌, sym, subst, arith, pos}
use Rattle.std.specs.Prelude.{◌==◌, length, slice_get}
use Rattle.std.specs.List.{AllByRecursion, list_any}
use Rattle.std.proofs.lemmas.Bool.{eqb-true}
use Rattle.std.proofs.lemmas.Bool.Decides.{nat_tests}
use Rattle.serde_json.specs.Data.{Data}
use Rattle.iv_rows.specs.Columns.{Column}
use Rattle.iv_rows.specs.Options.{if_some}
use Rattle.iv_zset.specs.Limits.{copies}
use Rattle.iv_bind.specs.Catalogs.{named}
use Rattle.iv_access.specs.Rights.{Name}
use Rattle.iv_machine.specs.Act.{subscribe, Refusal, Reply, subscribed, refused}
use Rattle.iv_machine.specs.Machine.{outcome, step}
use Rattle.iv_machine.specs.Reached.{AreNumbersUnique}
use Rattle.iv_machine.specs.Refusing.{refusal}
use Rattle.iv_machine.specs.State.{State, rel_of, shown, view_shown}
use Rattle.iv_message.specs.Message.{request}
use Rattle.iv_message.specs.Told.{replied, opened}
use Rattle.iv_clients.specs.Clients.{Client, Sub, at_client, client_at, following, told, told_one}
use Rattle.iv_clients.specs.Feeds.{Feed, ends_in, feed_of}
use Rattle.iv_records.specs.Journal.{said_by}
use Rattle.iv_clients.proofs.Slots.{same-Some, not_None-Some}
use Rattle.iv_gate.specs.Gate.{Gate, columns_in, feed_begun, in_session, next_own, ran, reply_in, subscribes, tells}
use Rattle.iv_gate.specs.Replies.{ActsAs, replies}
use Rattle.iv_gate.proofs.MachineLists.{true-find, le-subscription_of, find-next_number, rel_of-named, Some-is_some}
use Rattle.iv_gate.proofs.ReplyPlaces.{any_of_both, slice_get-append_length, replies-append}
use Rattle.iv_gate.proofs.SoundSteps.{IsQuiet, ActsAs-step, AllByRecursion-map, client_at-one_changed, AllByRecursion-feed_of, IsSoundGate-ran, Spares-closes_none, IsSoundGate-tells}
use Rattle.iv_gate.proofs.SoundCommands.{Adds, IsAskedIn, IsFeed, IsFollowing, IsReady, IsSoundClient, IsSoundGate, Seer, Sounds, IsFeed-step, IsSoundGate-IsReady, seer, seer-told_one}
use Rattle.iv_gate.proofs.NumberSums.{AreOwn, or-both_false, eq-itself}

pub eq-le_next : (a b : ℕ) → a ≤ b → (a == (b + 1)) ≡ false
eq-le_next a b h = grind (arith, nat_tests)

any_pushed : (own : ℕ) (xs : List Sub) (x : Sub) → list_any (λ (y : Sub). own == y.own) xs ≡ false → (own == x.own) ≡ false → list_any (λ (y : Sub). own == y.own) (xs ++ x ∷ []) ≡ false
any_pushed own [] x h k = ap (λ b. b || false) k
any_pushed own (y ∷ ys) x h k = let e = or-both_false (own == y.own) (list_any (λ (z : Sub). own == z.own) ys) h in (λ i. e.0 i || any_pushed own ys x e.1 k i)

pub AreOwn-push : (given k : ℕ) (xs : List Sub) → AreOwn given xs → AreOwn (given + 1) (xs ++ record { own = given + 1; feed = k } ∷ [])
AreOwn-push given k [] h = (omega arith, refl, tt)
AreOwn-push given k (x ∷ xs) h = let a = h.0 in (omega (arith, a), any_pushed x.own xs (record { own = given + 1; feed = k }) h.1 (eq-le_next x.own given a), AreOwn-push given k xs h.2)

pub AllByRecursion-pushed : {X : Type 0} (P : X → Type 0) (xs : List X) (x : X) → AllByRecursion P xs → P x → AllByRecursion P (xs ++ x ∷ [])
AllByRecursion-pushed P [] x a h = (h, tt)
AllByRecursion-pushed P (y ∷ ys) x a h = (a.0, AllByRecursion-pushed P ys x a.1 h)

pub le-feed_of : (g : Gate) → IsSoundGate g → (j : ℕ) (f : Feed) → feed_of g.feeds j ≡ Some f → j ≤ g.machine.frame.last
le-feed_of g b j f h =
    let x = AllByRecursion-feed_of (IsFeed g.machine) g.feeds j f b.feeds h in
    subst (λ z. z ≤ g.machine.frame.last) (sym (eqb-true j f.number (true-find (λ (y : Feed). j == y.number) g.feeds f h)))
    (le-subscription_of g.machine.frame.last f.number _ g.machine.frame.subscriptions b.state.numbers.given x.found)

not_before : (own : ℕ) (xs : List Sub) (x : Sub) → list_any (λ (y : Sub). own == y.own) (xs ++ x ∷ []) ≡ false → list_any (λ (y : Sub). own == y.own) xs ≡ false
not_before own xs x h = (or-both_false (list_any (λ (y : Sub). own == y.own) xs) (list_any (λ (y : Sub). own == y.own) (x ∷ [])) (sym (any_of_both (λ (y : Sub). own == y.own) xs (x ∷ [])) ∙ h)).0

-- the client is of the role, and was told its next number, for which it asked the relation
pub record IsTold (c : Client) (role rel : Name) : Type 0 where
  pub same : c.role ≡ role
  pub asked : IsAskedIn c.messages (told c) (c.given + 1) rel

module _ (g : Gate) (role rel : Name) (n : ℕ) where
  abbrev pub new_feed : Feed
  new_feed = record { number = g.machine.frame.last + 1; session = n; role = role; rel = rel }

  older : IsSoundGate g → (j : ℕ) (f : Feed) → feed_of g.feeds j ≡ Some f → feed_of (new_feed ∷ g.feeds) j ≡ Some f
  older b j f h = ap (λ z. cond z (Some new_feed) (feed_of g.feeds j)) (eq-le_next j g.machine.frame.last (le-feed_of g b j f h)) ∙ h

  newest : feed_of (new_feed ∷ g.feeds) (g.machine.frame.last + 1) ≡ Some new_feed
  newest = ap (λ z. cond z (Some new_feed) (feed_of g.feeds (g.machine.frame.last + 1))) (eq-itself (g.machine.frame.last + 1))

  shows_none : AreNumbersUnique g.machine.frame → shown g.machine (g.machine.frame.last + 1) ≡ []
  shows_none u = ap (λ o. if_some o [] (view_shown g.machine)) (find-next_number g.machine.frame.last g.machine.frame.subscriptions u.given)

  others_about : IsSoundGate g → (c : Client) → IsSoundClient g.machine g.feeds (seer c) → IsSoundClient g.machine (new_feed ∷ g.feeds) (seer c)
  others_about b c a = record {
    own = a.own;
    follows = AllByRecursion-map {P = IsFollowing g.machine g.feeds (seer c)} {Q = IsFollowing g.machine (new_feed ∷ g.feeds) (seer c)}
        (λ x y. record { feed = y.feed; found = older b x.feed y.feed y.found; role = y.role; asked = y.asked; goes_on = y.goes_on; sum = y.sum }) c.subs a.follows;
    later = a.later;
    unended = a.unended;
    spent = a.spent;
  }

  asker_about : IsSoundGate g → (c : Client) → IsTold c role rel → IsSoundClient g.machine g.feeds (seer c) → IsSoundClient g.machine (new_feed ∷ g.feeds) (seer (following (g.machine.frame.last + 1) c))
  asker_about b c same a =
      let d = following (g.machine.frame.last + 1) c in
      record {
        own = AreOwn-push c.given (g.machine.frame.last + 1) c.subs a.own;
        follows =
            AllByRecursion-pushed (IsFollowing g.machine (new_feed ∷ g.feeds) (seer d)) c.subs (record { own = c.given + 1; feed = g.machine.frame.last + 1 })
            (AllByRecursion-map {P = IsFollowing g.machine g.feeds (seer c)} {Q = IsFollowing g.machine (new_feed ∷ g.feeds) (seer d)}
            (λ x y. record { feed = y.feed; found = older b x.feed y.feed y.found; role = y.role; asked = y.asked; goes_on = y.goes_on; sum = y.sum }) c.subs a.follows)
            (record {
              feed = new_feed;
              found = newest;
              role = sym same.same;
              asked = same.asked;
              goes_on = a.unended (c.given + 1) (omega arith);
              sum = λ q. a.later (c.given + 1) q (omega arith) ∙ sym (ap (λ rows. pos (copies q rows)) (shows_none b.state.numbers));
            });
        later = λ own q h. a.later own q (omega (arith, h));
        unended = λ own h. a.unended own (omega (arith, h));
        spent = λ own h. a.spent own (not_before own c.subs (record { own = c.given + 1; feed = g.machine.frame.last + 1 }) h);
      }

  new_feed_stands : Sounds → refusal g.machine n (subscribe rel) ≡ None → AreNumbersUnique g.machine.frame → ActsAs g.machine n role → IsFeed (step g.machine (in_session n (subscribe rel))).state new_feed
  new_feed_stands sounds h u a =
      let s = g.machine in
      let k = in_session n (subscribe rel) in
      let o = sounds.subscribes s n rel u h in
      let entry = Some-is_some (named s.frame.catalog rel) o.known in
      let still = (sounds.lasts s k).relations rel entry.0 entry.1 in
      record {
        rel = rel_of s.frame.catalog rel;
        found = o.opened;
        there = sym (rel_of-named s.frame.catalog (step s k).state.frame.catalog rel entry.0 entry.1 still);
        known = ap is_some still;
        acts = ActsAs-step sounds s k n role refl a;
      }

  pub opened_ready : Sounds → (m : ℕ) → refusal g.machine n (subscribe rel) ≡ None → ActsAs g.machine n role → ((c : Client) → client_at g.clients m ≡ Some c → IsTold c role rel) → IsSoundGate g
      → IsReady (record g { clients = at_client m (following (g.machine.frame.last + 1)) g.clients; feeds = new_feed ∷ g.feeds }) (in_session n (subscribe rel))
  opened_ready sounds m h acts same b =
      let k = in_session n (subscribe rel) in
      record {
        state = b.state;
        seats = AllByRecursion-map (λ x y. ActsAs-step sounds g.machine k x.session x.role refl y) g.seats b.seats;
        feeds = (
          (λ e. new_feed_stands sounds h b.state.numbers acts),
          AllByRecursion-map {P = IsFeed g.machine} {Q = λ (f : Feed). ends_in (step g.machine k).lines f.number ≡ false → IsFeed (step g.machine k).state f}
              (λ f y e. IsFeed-step sounds g.machine k f b.state.numbers refl (Spares-closes_none g.machine k f.number refl) e y) g.feeds b.feeds,
        );
        spared = λ j f e. Spares-closes_none g.machine k j refl;
        clients = λ j c e live. client_at-one_changed (λ i x. x.dropped ≡ false → IsSoundClient g.machine (new_feed ∷ g.feeds) (seer x)) m (following (g.machine.frame.last + 1)) g.clients
            (λ x t l. asker_about b x (same x t) (b.clients m x t l)) (λ i x ne t l. others_about b x (b.clients i x t l)) j c e live;
      }

pub reply_in-None : (s : State) (n : ℕ) (rel : Name) (o : Option Refusal) → o ≡ None → reply_in (outcome s (in_session n (subscribe rel)) o).lines ≡ subscribed (s.frame.last + 1)
reply_in-None s n rel None h = refl
reply_in-None s n rel (Some r) h = absurd (not_None-Some r h)

pub reply_in-Some : (s : State) (n : ℕ) (rel : Name) (o : Option Refusal) (r : Refusal) → o ≡ Some r → reply_in (outcome s (in_session n (subscribe rel)) o).lines ≡ refused r
reply_in-Some s n rel None r h = absurd (not_None-Some r (sym h))
reply_in-Some s n rel (Some x) r h = ap refused (same-Some x r h)

quiet_opened : (id : Option Data) (own : ℕ) (g : Gate) (rel : Name) → IsQuiet (opened id own (columns_in g.machine rel))
quiet_opened id own g rel = record { weighs = λ i q. refl; goes_on = λ i. refl }

pub IsQuiet-replied : (id : Option Data) (r : Reply) → IsQuiet (replied id r)
IsQuiet-replied id r = record { weighs = λ i q. refl; goes_on = λ i. refl }

-- its last message asks the relation, and has no reply yet
pub record IsAsker (c : Client) (id : Option Data) (role rel : Name) : Type 0 where
  pub same : c.role ≡ role
  pub before : List (List ℕ)
  pub text : List ℕ
  pub messages : c.messages ≡ before ++ text ∷ []
  pub asks : said_by text ≡ request id (subscribe rel)
  pub pending : length (replies (told c)) ≡ length before + 2

asked_new : (c : Client) (id : Option Data) (role rel : Name) (columns : List Column) → IsAsker c id role rel → IsAskedIn c.messages (told c ++ opened id (c.given + 1) columns ∷ []) (c.given + 1) rel
asked_new c id role rel columns a = record {
  place = length a.before;
  id = id;
  columns = columns;
  text = a.text;
  there = ap (λ z. slice_get z (length a.before)) a.messages ∙ slice_get-append_length a.before a.text [];
  asks = a.asks;
  reply = ap (λ z. slice_get z (length a.before + 2)) (replies-append (told c) (opened id (c.given + 1) columns ∷ []))
      ∙ (ap (λ i. slice_get (replies (told c) ++ opened id (c.given + 1) columns ∷ []) i) (sym a.pending) ∙ slice_get-append_length (replies (told c)) (opened id (c.given + 1) columns) []);
}

told_new : (g : Gate) (m : ℕ) (id : Option Data) (role rel : Name) (columns : List Column) → ((c : Client) → client_at g.clients m ≡ Some c → IsAsker c id role rel) → (c : Client)
    → client_at (tells g m (opened id (next_own g m) columns)).clients m ≡ Some c → IsTold c role rel
told_new g m id role rel columns same c h =
    let t = opened id (next_own g m) columns in
    client_at-one_changed (λ i x. i ≡ m → IsTold x role rel) m (told_one g.entries t) g.clients (λ x e _. one x e)
    (λ i x ne e s. absurd (ne (sym s))) m c h refl
  where
    one : (x : Client) → client_at g.clients m ≡ Some x → IsTold (told_one g.entries (opened id (next_own g m) columns) x) role rel
    one x e =
        let own : next_own g m ≡ x.given + 1 = ap (λ o. if_some o 0 (λ (d : Client). d.given + 1)) e in
        record {
          same = (same x e).same;
          asked = subst (λ ts. IsAskedIn x.messages ts (x.given + 1) rel)
              (sym (ap (λ (v : Seer). v.told) (seer-told_one g.entries (opened id (next_own g m) columns) x) ∙ ap (λ i. told x ++ opened id i columns ∷ []) own)) (asked_new x id role rel columns (same x e));
        }

-- a client opens a subscription of a session of its role
pub IsSoundGate-subscribes : Adds → Sounds → (g : Gate) (m : ℕ) (id : Option Data) (n : ℕ) (role rel : Name) → ActsAs g.machine n role → ((c : Client) → client_at g.clients m ≡ Some c → IsAsker c id role rel)
    → IsSoundGate g → IsSoundGate (subscribes g m id n role rel)
IsSoundGate-subscribes adds sounds g m id n role rel acts same b = by (refusal g.machine n (subscribe rel)) refl
  where
    by : (o : Option Refusal) → refusal g.machine n (subscribe rel) ≡ o → IsSoundGate (subscribes g m id n role rel)
    by None h =
        let t = opened id (next_own g m) (columns_in g.machine rel) in
        subst (λ r. IsSoundGate (ran (feed_begun g m id n role rel r) (in_session n (subscribe rel)))) (sym (reply_in-None g.machine n rel (refusal g.machine n (subscribe rel)) h))
        (IsSoundGate-IsReady adds sounds (feed_begun g m id n role rel (subscribed (g.machine.frame.last + 1))) (in_session n (subscribe rel))
        (opened_ready (tells g m t) role rel n sounds m h acts (told_new g m id role rel (columns_in g.machine rel) same) (IsSoundGate-tells g m t (quiet_opened id (next_own g m) g rel) b)))
    by (Some r) h =
        subst (λ x. IsSoundGate (ran (feed_begun g m id n role rel x) (in_session n (subscribe rel)))) (sym (reply_in-Some g.machine n rel (refusal g.machine n (subscribe rel)) r h))
        (IsSoundGate-ran adds sounds (tells g m (replied id (refused r))) (in_session n (subscribe rel)) refl (IsSoundGate-tells g m (replied id (refused r)) (IsQuiet-replied id (refused r)) b))

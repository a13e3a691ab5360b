-- The steps of an event keep clients in step with what their feeds show.
use Rattle.std.proofs.Common.{◌≡◌, ℕ, zero, suc, Bool, true, false, not, cond, ◌||◌, List, [], ◌∷◌, ◌++◌, length, Option, Some, None, map, refl, ap, ◌∙◌, sym, subst, pos, append-nil}
use Rattle.std.specs.Prelude.{◌==◌, filter, flat_map}
use Rattle.std.specs.List.{AllByRecursion, list_any}
use Rattle.std.proofs.lemmas.List.Concat.{flat_map-append}
use Rattle.std.proofs.lemmas.Bool.{false≢true, eqb-true, eqb-false}
use Rattle.iv_rows.specs.Cell.{Cell}
use Rattle.iv_rows.specs.Options.{if_some}
use Rattle.iv_access.specs.Rights.{Name}
use Rattle.iv_machine.specs.Act.{Act, finish, unsubscribe, Command, Refusal}
use Rattle.iv_machine.specs.Held.{closed_by, closed_in}
use Rattle.iv_machine.specs.Machine.{step}
use Rattle.iv_machine.specs.Refusing.{refusal}
use Rattle.iv_machine.specs.State.{State}
use Rattle.iv_message.specs.Told.{Told, alive, settled, made}
use Rattle.iv_clients.specs.Clients.{Client, Shown, Slots, Sub, at_all, at_client, beating, checked, client_at, closing, dropping, handing, is_followed, is_slow, opens, released, settling, told, told_one, telling, greeting}
use Rattle.iv_clients.specs.Feeds.{Feed, feed_of, without_feed}
use Rattle.iv_records.specs.Journal.{Entry, shape_for}
use Rattle.iv_clients.specs.Tokens.{Token}
use Rattle.iv_clients.proofs.Slots.{client_at-at_all, client_at-at_other_client, client_at-at_client, IsFrom-option_map, same-Some, not_None-Some}
use Rattle.iv_gate.specs.Events.{hands, knowing, on_disk, ticking}
use Rattle.iv_gate.specs.Gate.{Gate, all_swept, in_session, ran, settles, shut, swept, tells, informs}
use Rattle.iv_gate.specs.Replies.{ActsAs}
use Rattle.iv_gate.specs.Seen.{is_end_of}
use Rattle.iv_gate.proofs.GrownTexts.{append-associative}
use Rattle.iv_gate.proofs.MachineLists.{true-find, is_kept, not_finish-is_kept}
use Rattle.iv_gate.proofs.SoundCommands.{Adds, IsFeed, IsFollowing, IsSoundClient, IsSoundGate, Seer, Sounds, Spares, any_more, IsAskedIn-said, IsAskedIn-told, IsFeed-step, AllByRecursion-filter_not, feed_of-filter, or_none, AreOwn-filter, IsSoundGate-IsReady, seer, seer-told_one, IsTaken-filter, seer-telling, dropped-telling, ActsAs-step_not_finish}
use Rattle.iv_gate.proofs.NumberSums.{AllByRecursion-zip, eq-false_turned, or-both_false, plus-nothing, sum_for-append, sum_for}
use Rattle.iv_gate.proofs.ShapeTexts.{all_made, AllByRecursion-greeting}

pub AllByRecursion-map : {X : Type 0} {P Q : X → Type 0} → ((x : X) → P x → Q x) → (xs : List X) → AllByRecursion P xs → AllByRecursion Q xs
AllByRecursion-map f [] a = tt
AllByRecursion-map f (x ∷ xs) a = (f x a.0, AllByRecursion-map f xs a.1)

pub AllByRecursion-always : {X : Type 0} {P : X → Type 0} → ((x : X) → P x) → (xs : List X) → AllByRecursion P xs
AllByRecursion-always f [] = tt
AllByRecursion-always f (x ∷ xs) = (f x, AllByRecursion-always f xs)

-- ---- commands that close nothing

pub ActsAs-step : Sounds → (s : State) (k : Command) (n : ℕ) (role : Name) → is_kept k.act ≡ true → ActsAs s n role → ActsAs (step s k).state n role
ActsAs-step sounds s k n role a b = ActsAs-step_not_finish sounds s k n role (not_finish-is_kept k n a) b

abbrev pub closes_none : Act → Bool
closes_none finish = false
closes_none (unsubscribe k) = false
closes_none _ = true

spares_by : (s : State) (k : Command) (o : Option Refusal) (j : ℕ) → closes_none k.act ≡ true → list_any (λ i. j == i) (closed_in s k o) ≡ false
spares_by s k (Some r) j h = refl
spares_by s k None j h = by k.act h
  where
    by : (act : Act) → closes_none act ≡ true → list_any (λ i. j == i) (closed_by s.frame k.session act) ≡ false
    by finish h = absurd (false≢true h)
    by (unsubscribe i) h = absurd (false≢true h)
    by _ h = refl

pub Spares-closes_none : (s : State) (k : Command) (j : ℕ) → closes_none k.act ≡ true → Spares s k j
Spares-closes_none s k j h = spares_by s k (refusal s k.session k.act) j h

-- a close of another subscription
spares_other_by : (s : State) (n t : ℕ) (o : Option Refusal) (j : ℕ) → (j == t) ≡ false → list_any (λ i. j == i) (closed_in s (record { session = n; act = unsubscribe t }) o) ≡ false
spares_other_by s n t (Some r) j h = refl
spares_other_by s n t None j h = ap (λ b. b || false) h

pub spares_other : (s : State) (n t j : ℕ) → (j == t) ≡ false → Spares s (record { session = n; act = unsubscribe t }) j
spares_other s n t j h = spares_other_by s n t (refusal s n (unsubscribe t)) j h

kept_too : (act : Act) → closes_none act ≡ true → is_kept act ≡ true
kept_too finish h = absurd (false≢true h)
kept_too _ h = refl

pub AllByRecursion-feed_of : (P : Feed → Type 0) (fs : List Feed) (j : ℕ) (f : Feed) → AllByRecursion P fs → feed_of fs j ≡ Some f → P f
AllByRecursion-feed_of P [] j f a h = absurd (not_None-Some f (sym h))
AllByRecursion-feed_of P (x ∷ xs) j f a h = by (j == x.number) h (λ k. AllByRecursion-feed_of P xs j f a.1 k)
  where
    by : (b : Bool) → cond b (Some x) (feed_of xs j) ≡ Some f → (feed_of xs j ≡ Some f → P f) → P f
    by true e more = subst P (same-Some x f e) a.0
    by false e more = more e

-- any command that keeps sessions, and spares feeds
pub spared_sound : Adds → Sounds → (g : Gate) (k : Command) → is_kept k.act ≡ true → AllByRecursion (λ f. Spares g.machine k f.number) g.feeds
    → ((j : ℕ) (f : Feed) → feed_of g.feeds j ≡ Some f → Spares g.machine k j) → IsSoundGate g → IsSoundGate (ran g k)
spared_sound adds sounds g k a feeds spared b = IsSoundGate-IsReady adds sounds g k (record {
  state = b.state;
  seats = AllByRecursion-map (λ x y. ActsAs-step sounds g.machine k x.session x.role a y) g.seats b.seats;
  feeds = AllByRecursion-zip {P = IsFeed g.machine} {Q = λ f. Spares g.machine k f.number} {R = λ f. Rattle.iv_clients.specs.Feeds.ends_in (step g.machine k).lines f.number ≡ false → IsFeed (step g.machine k).state f}
      (λ f y z e. IsFeed-step sounds g.machine k f b.state.numbers a z e y) g.feeds b.feeds feeds;
  spared = spared;
  clients = b.clients;
})

-- any command that closes nothing
pub IsSoundGate-ran : Adds → Sounds → (g : Gate) (k : Command) → closes_none k.act ≡ true → IsSoundGate g → IsSoundGate (ran g k)
IsSoundGate-ran adds sounds g k h b =
    spared_sound adds sounds g k (kept_too k.act h) (AllByRecursion-always (λ (f : Feed). Spares-closes_none g.machine k f.number h) g.feeds)
    (λ j f e. Spares-closes_none g.machine k j h) b

-- ---- one client

-- what holds of the one that changed, and of the others
pub client_at-one_changed : (Q : ℕ → Client → Type 0) (m : ℕ) (f : Client → Client) (slots : Slots) → ((c : Client) → client_at slots m ≡ Some c → Q m (f c))
    → ((j : ℕ) (c : Client) → (m ≡ j → ⊥) → client_at slots j ≡ Some c → Q j c) → (j : ℕ) (c : Client) → client_at (at_client m f slots) j ≡ Some c → Q j c
client_at-one_changed Q m f slots this others j c h = by (m == j) refl
  where
    by : (b : Bool) → (m == j) ≡ b → Q j c
    by true e =
        let same : m ≡ j = eqb-true m j e in
        let o = IsFrom-option_map f (client_at slots m) c (sym (client_at-at_client m f slots) ∙ (ap (client_at (at_client m f slots)) same ∙ h)) in
        subst (λ i. Q i c) same (subst (Q m) o.same (this o.old o.there))
    by false e = others j c (eqb-false m j e) (sym (client_at-at_other_client m j f slots (eqb-false m j e)) ∙ h)

-- it is of no client's sum, and no end
pub record IsQuiet (t : Told) : Type 0 where
  pub weighs : (own : ℕ) (q : List Cell) → sum_for own q (t ∷ []) ≡ pos 0
  pub goes_on : (own : ℕ) → is_end_of own t ≡ false

pub client_told : (s : State) (feeds : List Feed) (v : Seer) (t : Told) → IsQuiet t → IsSoundClient s feeds v → IsSoundClient s feeds (record v { told = v.told ++ t ∷ [] })
client_told s feeds v t w b = record {
  own = b.own;
  follows = AllByRecursion-map {P = IsFollowing s feeds v} {Q = IsFollowing s feeds (record v { told = v.told ++ t ∷ [] })}
      (λ x a. record { feed = a.feed; found = a.found; role = a.role; asked = IsAskedIn-told v.messages v.told (t ∷ []) x.own a.feed.rel a.asked; goes_on = ended x.own a.goes_on; sum = λ q. summed x.own q ∙ a.sum q }) v.subs b.follows;
  later = λ own q h. summed own q ∙ b.later own q h;
  unended = λ own h. ended own (b.unended own h);
  spent = λ own h e q. summed own q ∙ b.spent own h (was own e) q;
}
  where
    summed : (own : ℕ) (q : List Cell) → sum_for own q (v.told ++ t ∷ []) ≡ sum_for own q v.told
    summed own q = sum_for-append own q v.told (t ∷ []) ∙ plus-nothing _ _ (w.weighs own q)

    ended : (own : ℕ) → list_any (is_end_of own) v.told ≡ false → list_any (is_end_of own) (v.told ++ t ∷ []) ≡ false
    ended own h = any_more (is_end_of own) v.told (t ∷ []) ∙ (λ i. h i || (w.goes_on own i || false))

    was : (own : ℕ) → list_any (is_end_of own) (v.told ++ t ∷ []) ≡ true → list_any (is_end_of own) v.told ≡ true
    was own e = sym (or_none (list_any (is_end_of own) v.told)) ∙ (sym (any_more (is_end_of own) v.told (t ∷ []) ∙ ap (λ z. list_any (is_end_of own) v.told || (z || false)) (w.goes_on own)) ∙ e)

pub IsSoundClient-said : (s : State) (feeds : List Feed) (v : Seer) (text : List ℕ) → IsSoundClient s feeds v → IsSoundClient s feeds (record v { messages = v.messages ++ text ∷ [] })
IsSoundClient-said s feeds v text b = record {
  own = b.own;
  follows = AllByRecursion-map {P = IsFollowing s feeds v} {Q = IsFollowing s feeds (record v { messages = v.messages ++ text ∷ [] })}
      (λ x a. record { feed = a.feed; found = a.found; role = a.role; asked = IsAskedIn-said v.messages text v.told x.own a.feed.rel a.asked; goes_on = a.goes_on; sum = a.sum }) v.subs b.follows;
  later = b.later;
  unended = b.unended;
  spent = b.spent;
}

pub IsSoundGate-at_client : (g : Gate) (m : ℕ) (f : Client → Client) → ((c : Client) → client_at g.clients m ≡ Some c → (f c).dropped ≡ false → IsSoundClient g.machine g.feeds (seer (f c)))
    → IsSoundGate g → IsSoundGate (record g { clients = at_client m f g.clients })
IsSoundGate-at_client g m f k b = record {
  state = b.state;
  seats = b.seats;
  feeds = b.feeds;
  clients = λ j c h live. client_at-one_changed (λ i x. x.dropped ≡ false → IsSoundClient g.machine g.feeds (seer x)) m f g.clients k
      (λ i x ne e. b.clients i x e) j c h live;
}

pub every_sound : (g : Gate) (f : Client → Client) → ((m : ℕ) (c : Client) → client_at g.clients m ≡ Some c → (f c).dropped ≡ false → IsSoundClient g.machine g.feeds (seer (f c)))
    → IsSoundGate g → IsSoundGate (record g { clients = at_all f g.clients })
every_sound g f k b = record {
  state = b.state;
  seats = b.seats;
  feeds = b.feeds;
  clients = λ m c h live.
      let o = IsFrom-option_map f (client_at g.clients m) c (sym (client_at-at_all f g.clients m) ∙ h) in
      subst (λ x. IsSoundClient g.machine g.feeds (seer x)) o.same (k m o.old o.there (ap (λ (x : Client). x.dropped) o.same ∙ live));
}

pub IsSoundGate-tells : (g : Gate) (m : ℕ) (t : Told) → IsQuiet t → IsSoundGate g → IsSoundGate (tells g m t)
IsSoundGate-tells g m t w b = IsSoundGate-at_client g m (told_one g.entries t)
    (λ c h live. subst (IsSoundClient g.machine g.feeds) (sym (seer-told_one g.entries t c))
    (client_told g.machine g.feeds (seer c) t w (b.clients m c h live))) b

quiet_settled : IsQuiet settled
quiet_settled = record { weighs = λ own q. refl; goes_on = λ own. refl }

quiet_alive : IsQuiet alive
quiet_alive = record { weighs = λ own q. refl; goes_on = λ own. refl }

settling_sound : (s : State) (feeds : List Feed) (es : List Entry) (c : Client) → (c.dropped ≡ false → IsSoundClient s feeds (seer c)) → (settling es c).dropped ≡ false → IsSoundClient s feeds (seer (settling es c))
settling_sound s feeds es c b live = by c.owed live
  where
    by : (o : Bool) → (cond o (record (told_one es settled c) { owed = false }) c).dropped ≡ false → IsSoundClient s feeds (seer (cond o (record (told_one es settled c) { owed = false }) c))
    by true l = subst (IsSoundClient s feeds) (sym (seer-told_one es settled c)) (client_told s feeds (seer c) settled quiet_settled (b l))
    by false l = b l

pub IsSoundGate-settles : (g : Gate) → IsSoundGate g → IsSoundGate (settles g)
IsSoundGate-settles g b = every_sound g (settling g.entries) (λ m c h live. settling_sound g.machine g.feeds g.entries c (b.clients m c h) live) b

quiet_made : (role line : List ℕ) → IsQuiet (made role line)
quiet_made role line = record { weighs = λ own q. refl; goes_on = λ own. refl }

pub IsQuiet-greeting : (es : List Entry) (role : Name) (at : List ℕ) → AllByRecursion IsQuiet (greeting es role at)
IsQuiet-greeting es role at =
    AllByRecursion-greeting IsQuiet (λ r. record { weighs = λ own q. refl; goes_on = λ own. refl }) (λ a. record { weighs = λ own q. refl; goes_on = λ own. refl }) quiet_made quiet_settled es role at

pub IsSoundClient-told : (s : State) (feeds : List Feed) (ts : List Told) (v : Seer) → AllByRecursion IsQuiet ts → IsSoundClient s feeds v → IsSoundClient s feeds (record v { told = v.told ++ ts })
IsSoundClient-told s feeds [] v a b = subst (λ z. IsSoundClient s feeds (record v { told = z })) (sym (append-nil v.told)) b
IsSoundClient-told s feeds (t ∷ ts) v a b =
    subst (λ z. IsSoundClient s feeds (record v { told = z })) (append-associative v.told (t ∷ []) ts)
    (IsSoundClient-told s feeds ts (record v { told = v.told ++ t ∷ [] }) a.1 (client_told s feeds v t a.0 b))

pub IsSoundGate-informs : (g : Gate) (es : List Entry) → IsSoundGate g → IsSoundGate (informs g es)
IsSoundGate-informs g es b = every_sound g (λ c. telling g.entries (shape_for c.role es) c)
    (λ m c h live. let ts = shape_for c.role es in
    subst (IsSoundClient g.machine g.feeds) (sym (seer-telling g.entries ts c))
    (IsSoundClient-told g.machine g.feeds ts (seer c) (all_made IsQuiet quiet_made c.role es)
    (b.clients m c h (sym (dropped-telling g.entries ts c) ∙ live)))) b

pub IsSoundGate-ticking : (g : Gate) → IsSoundGate g → IsSoundGate (ticking g)
IsSoundGate-ticking g b = every_sound g (beating g.entries)
    (λ m c h live. subst (IsSoundClient g.machine g.feeds) (sym (seer-told_one g.entries alive c)) (client_told g.machine g.feeds (seer c) alive quiet_alive (b.clients m c h live))) b

-- ---- text that moves on

told_as : (s : State) (feeds : List Feed) (v : Seer) (ts : List Told) → v.told ≡ ts → IsSoundClient s feeds v → IsSoundClient s feeds (record v { told = ts })
told_as s feeds v ts e b = subst (λ z. IsSoundClient s feeds (record v { told = z })) e b

released_sound : (s : State) (feeds : List Feed) (c : Client) → (c.dropped ≡ false → IsSoundClient s feeds (seer c)) → (released c).dropped ≡ false → IsSoundClient s feeds (seer (released c))
released_sound s feeds c b live = by (c.dropped || is_slow c) live
  where
    by : (o : Bool) → (cond o (dropping c) (record c { unsynced = []; sendable = c.sendable ++ c.unsynced })).dropped ≡ false
        → IsSoundClient s feeds (seer (cond o (dropping c) (record c { unsynced = []; sendable = c.sendable ++ c.unsynced })))
    by true l = absurd (false≢true (sym l))
    by false l = told_as s feeds (seer c) _
        (ap (map (λ (x : Shown). x.told)) (ap (λ z. flat_map (λ ss. ss) c.handed ++ z) (sym (append-nil (c.sendable ++ c.unsynced))))) (b l)

pub IsSoundGate-on_disk : (g : Gate) → IsSoundGate g → IsSoundGate (on_disk g)
IsSoundGate-on_disk g b =
    let x = every_sound g released (λ m c h live. released_sound g.machine g.feeds c (b.clients m c h) live) b in
    record { state = x.state; seats = x.seats; feeds = x.feeds; clients = x.clients }

checked_sound : (s : State) (feeds : List Feed) (tokens : List Token) (c : Client) → (c.dropped ≡ false → IsSoundClient s feeds (seer c)) → (checked tokens c).dropped ≡ false → IsSoundClient s feeds (seer (checked tokens c))
checked_sound s feeds tokens c b live = by (opens tokens c) live
  where
    by : (o : Bool) → (cond o c (dropping c)).dropped ≡ false → IsSoundClient s feeds (seer (cond o c (dropping c)))
    by true l = b l
    by false l = absurd (false≢true (sym l))

pub IsSoundGate-knowing : (g : Gate) (tokens : List Token) → IsSoundGate g → IsSoundGate (knowing g tokens)
IsSoundGate-knowing g tokens b =
    let x = every_sound g (checked tokens) (λ m c h live. checked_sound g.machine g.feeds tokens c (b.clients m c h) live) b in
    record { state = x.state; seats = x.seats; feeds = x.feeds; clients = x.clients }

handing_sound : (s : State) (feeds : List Feed) (c : Client) → (c.dropped ≡ false → IsSoundClient s feeds (seer c)) → (handing c).dropped ≡ false → IsSoundClient s feeds (seer (handing c))
handing_sound s feeds c b live = by (length c.sendable == 0) live
  where
    by : (o : Bool) → (cond o c (record c { sendable = []; asked = 0; handed = c.handed ++ c.sendable ∷ [] })).dropped ≡ false
        → IsSoundClient s feeds (seer (cond o c (record c { sendable = []; asked = 0; handed = c.handed ++ c.sendable ∷ [] })))
    by true l = b l
    by false l = told_as s feeds (seer c) _
        (ap (map (λ (x : Shown). x.told)) (sym (ap (λ z. z ++ c.unsynced) (flat_map-append (λ ss. ss) c.handed (c.sendable ∷ []) ∙ ap (λ z. flat_map (λ ss. ss) c.handed ++ z) (append-nil c.sendable))
        ∙ append-associative (flat_map (λ ss. ss) c.handed) c.sendable c.unsynced))) (b l)

pub IsSoundGate-hands : (g : Gate) (m : ℕ) → IsSoundGate g → IsSoundGate (hands g m)
IsSoundGate-hands g m b =
    let x = IsSoundGate-at_client g m handing (λ c h live. handing_sound g.machine g.feeds c (b.clients m c h) live) b in
    record { state = x.state; seats = x.seats; feeds = x.feeds; clients = x.clients }

-- ---- what is closed

pub AllByRecursion-filter : {X : Type 0} (P : X → Type 0) (q : X → Bool) (xs : List X) → AllByRecursion P xs → AllByRecursion P (filter q xs)
AllByRecursion-filter P q [] a = tt
AllByRecursion-filter P q (x ∷ xs) a = by (q x) (AllByRecursion-filter P q xs a.1)
  where
    by : (b : Bool) → AllByRecursion P (filter q xs) → AllByRecursion P (cond b (x ∷ filter q xs) (filter q xs))
    by true more = (a.0, more)
    by false more = more

pub IsSoundClient-closing : (s : State) (feeds : List Feed) (c : Client) (own : ℕ) → IsSoundClient s feeds (seer c)
    → IsSoundClient s feeds (seer (closing own c))
IsSoundClient-closing s feeds c own b = record {
  own = AreOwn-filter c.given (λ x. not (own == x.own)) c.subs b.own;
  follows = AllByRecursion-filter (IsFollowing s feeds (seer (closing own c))) (λ x. not (own == x.own)) c.subs
      (AllByRecursion-map {P = IsFollowing s feeds (seer c)} {Q = IsFollowing s feeds (seer (closing own c))} (λ x a. record { feed = a.feed; found = a.found; role = a.role; asked = a.asked; goes_on = a.goes_on; sum = a.sum }) c.subs b.follows);
  later = b.later;
  unended = b.unended;
  spent = λ i h e q. by i h e q (list_any (λ (y : Sub). i == y.own) c.subs) refl;
}
  where
    -- what it closes was told no end
    by : (i : ℕ) → list_any (λ (y : Sub). i == y.own) (filter (λ x. not (own == x.own)) c.subs) ≡ false → list_any (is_end_of i) (told c) ≡ true → (q : List Cell)
        → (t : Bool) → list_any (λ (y : Sub). i == y.own) c.subs ≡ t → sum_for i q (told c) ≡ pos 0
    by i h e q true t =
        let x = IsTaken-filter (IsFollowing s feeds (seer c)) (λ x. own == x.own) i c.subs b.follows t h in
        absurd (false≢true (sym (ap (λ j. list_any (is_end_of j) (told c)) x.own_is ∙ x.so.goes_on) ∙ e))
    by i h e q false t = b.spent i t e q

-- it follows others
abbrev pub FollowsNot : ℕ → Client → Type 0
FollowsNot k c = AllByRecursion (λ (x : Sub). (k == x.feed) ≡ false) c.subs

without_all : (k : ℕ) (fs : List Feed) → AllByRecursion (λ (f : Feed). (f.number == k) ≡ false) (without_feed k fs)
without_all k fs = AllByRecursion-filter_not (λ (f : Feed). (f.number == k) ≡ false) (λ (f : Feed). k == f.number) fs (AllByRecursion-always {P = λ (f : Feed). (k == f.number) ≡ false → (f.number == k) ≡ false} (λ f e. eq-false_turned k f.number e) fs)

without_found : (k j : ℕ) (fs : List Feed) (f : Feed) → feed_of (without_feed k fs) j ≡ Some f → (j == k) ≡ false
without_found k j fs f h =
    let n = AllByRecursion-feed_of (λ (x : Feed). (x.number == k) ≡ false) (without_feed k fs) j f (without_all k fs) h in
    ap (λ i. i == k) (eqb-true j f.number (true-find (λ (x : Feed). j == x.number) (without_feed k fs) f h)) ∙ n

pub IsSoundGate-shut : Adds → Sounds → (g : Gate) (f : Feed) → ((m : ℕ) (c : Client) → client_at g.clients m ≡ Some c → c.dropped ≡ false → FollowsNot f.number c) → IsSoundGate g → IsSoundGate (shut g f)
IsSoundGate-shut adds sounds g f alone b =
    let k = f.number in let h = record g { feeds = without_feed k g.feeds } in let o = in_session f.session (unsubscribe k) in
    spared_sound adds sounds h o refl
    (AllByRecursion-map {P = λ (x : Feed). (x.number == k) ≡ false} {Q = λ (x : Feed). Spares g.machine o x.number} (λ x e. spares_other g.machine f.session k x.number e) (without_feed k g.feeds) (without_all k g.feeds))
    (λ j x e. spares_other g.machine f.session k j (without_found k j g.feeds x e))
    (record {
      state = b.state;
      seats = b.seats;
      feeds = AllByRecursion-filter (IsFeed g.machine) (λ (x : Feed). not (k == x.number)) g.feeds b.feeds;
      clients = λ m c e live. let a = b.clients m c e live in record {
        own = a.own;
        follows = AllByRecursion-zip {P = IsFollowing g.machine g.feeds (seer c)} {Q = λ (x : Sub). (k == x.feed) ≡ false} {R = IsFollowing g.machine (without_feed k g.feeds) (seer c)}
            (λ x y n. record { feed = y.feed; found = feed_of-filter (λ i. k == i) x.feed y.feed g.feeds y.found n; role = y.role; asked = y.asked; goes_on = y.goes_on; sum = y.sum }) c.subs a.follows (alone m c e live);
        later = a.later;
        unended = a.unended;
        spent = a.spent;
      };
    })

none_of : (k : ℕ) (xs : List Sub) → list_any (λ (s : Sub). k == s.feed) xs ≡ false → AllByRecursion (λ (x : Sub). (k == x.feed) ≡ false) xs
none_of k [] h = tt
none_of k (x ∷ xs) h = let e = or-both_false (k == x.feed) (list_any (λ (s : Sub). k == s.feed) xs) h in (e.0, none_of k xs e.1)

nobody : (k : ℕ) (slots : Slots) (m : ℕ) (c : Client) → is_followed k slots ≡ false → client_at slots m ≡ Some c → FollowsNot k c
nobody k [] m c h e = absurd (not_None-Some c (sym e))
nobody k (None ∷ ss) zero c h e = absurd (not_None-Some c (sym e))
nobody k (Some d ∷ ss) zero c h e = subst (FollowsNot k) (same-Some d c e) (none_of k d.subs (or-both_false (list_any (λ s. k == s.feed) d.subs) (is_followed k ss) h).0)
nobody k (s ∷ ss) (suc m) c h e =
    nobody k ss m c (or-both_false (if_some s false (λ (d : Client). list_any (λ x. k == x.feed) d.subs)) (is_followed k ss) h).1 e

pub IsSoundGate-swept : Adds → Sounds → (g : Gate) (k : ℕ) → IsSoundGate g → IsSoundGate (swept g k)
IsSoundGate-swept adds sounds g k b = by (is_followed k g.clients) refl (feed_of g.feeds k) refl
  where
    by : (t : Bool) → is_followed k g.clients ≡ t → (o : Option Feed) → feed_of g.feeds k ≡ o → IsSoundGate (cond t g (if_some o g (shut g)))
    by true h o e = b
    by false h None e = b
    by false h (Some f) e =
        let same : k ≡ f.number = eqb-true k f.number (true-find (λ (x : Feed). k == x.number) g.feeds f e) in
        IsSoundGate-shut adds sounds g f (λ m c t live. nobody f.number g.clients m c (ap (λ i. is_followed i g.clients) (sym same) ∙ h) t) b

pub IsSoundGate-all_swept : Adds → Sounds → (g : Gate) (ks : List ℕ) → IsSoundGate g → IsSoundGate (all_swept g ks)
IsSoundGate-all_swept adds sounds g [] b = b
IsSoundGate-all_swept adds sounds g (k ∷ ks) b = IsSoundGate-all_swept adds sounds (swept g k) ks (IsSoundGate-swept adds sounds g k b)

-- What a client is told by an event: nothing of what is read, or what one command of the machine tells.
use Rattle.std.proofs.Common.{◌≡◌, ℕ, ◌+◌, ◌≤◌, Bool, true, false, cond, ◌||◌, List, [], ◌∷◌, ◌++◌, length, drop, map, set, Option, Some, None, option_map, refl, ap, ◌∙◌, sym, subst, append-nil}
use Rattle.std.specs.Prelude.{◌==◌, filter, flat_map, is_some}
use Rattle.std.specs.List.{list_any}
use Rattle.std.proofs.lemmas.Bool.{false≢true, eqb-true, eqb-false}
use Rattle.std.proofs.lemmas.List.Concat.{flat_map-append}
use Rattle.iv_rows.specs.Options.{if_some}
use Rattle.iv_machine.specs.Machine.{difference, step, Outcome}
use Rattle.iv_machine.specs.Sound.{IsSoundState}
use Rattle.iv_message.specs.Told.{Told, alive, changed, settled, granted}
use Rattle.iv_clients.specs.Clients.{Client, Shown, Slots, Sub, answered, at_all, at_client, beating, checked, client_at, dropping, fresh, handing, is_slow, may_say, opens, released, saying, settling, told, told_one, own_lines, staying, telling}
use Rattle.iv_clients.specs.Feeds.{is_of_role}
use Rattle.iv_records.specs.Journal.{Entry, said_by, requests_in, shape_for}
use Rattle.iv_clients.specs.Tokens.{Token}
use Rattle.iv_clients.proofs.Slots.{client_at-at_all, client_at-at_other_client, client_at-at_client, is_free-client_at, same-Some, client_at-set_other, not_None-Some}
use Rattle.iv_gate.specs.Events.{Event, presented, message, gone, known, ticked, synced, handed, failed, happens, next, arrived, forgave, led}
use Rattle.iv_gate.specs.Gate.{Gate, all_rested, all_swept, done_for, hears, token_for, said, settles, with_session, at_text, entries_of, reply_to, next_position}
use Rattle.iv_gate.specs.Replies.{told_by}
use Rattle.iv_gate.proofs.QuietCommands.{all_rested_clients, clients-all_swept, Sits-IsSoundState, clients-with_session}
use Rattle.iv_gate.proofs.GrownTexts.{Grown, append-associative, drop-append_front, Kit-Grown}
use Rattle.iv_gate.proofs.MessageEffects.{all_done, AreCalm-append, told-told_one}
use Rattle.iv_gate.proofs.MessageNews.{Hears, quietly, by_command, by_contents, IsCalm, Later-IsDone, IsCalm-same_told, AreCalm-one, IsToldOutcome, grants_of, told_whole}
use Rattle.iv_gate.proofs.SoundSteps.{IsSoundClient-said, IsSoundGate-at_client}
use Rattle.iv_gate.proofs.SoundEvents.{told-answered}
use Rattle.iv_gate.proofs.EventSigns.{Sign}
use Rattle.iv_gate.proofs.SessionFacts.{at_all_swept}
use Rattle.iv_gate.proofs.SoundCommands.{IsSoundGate, Sounds, seer}
use Rattle.iv_gate.proofs.EventMarks.{next-alive as is_alive, came_as, sign-came_as, client_at-is_gone, Opens-token_for, next-dead, sign-went}
use Rattle.iv_gate.proofs.ClientFacts.{Later, to_done, to_settles, to_then}
use Rattle.iv_gate.specs.Laws.{is_made}
use Rattle.std.proofs.lemmas.List.Elements.{filter-append}
use Rattle.iv_gate.specs.Arriving.{Step, entry_of, fact_of, fault_of, was_taken, landed, newly, takes}
use Rattle.iv_steps.specs.Steps.{stepped}

-- ---- one step and the next

-- calm text behind it
calm_behind : (g h i : Gate) (o : Outcome) (grants : List Told) (added : List Entry) (c z y : Client) → i.machine ≡ h.machine → i.entries ≡ h.entries → IsCalm z y → y.subs ≡ z.subs
    → IsToldOutcome g h o grants added c z → IsToldOutcome g i o grants added c y
calm_behind g h i o grants added c z y machine entries m subs a = record {
  machine = machine ∙ a.machine;
  entries = entries ∙ a.entries;
  front = a.front;
  back = a.back ++ m.more;
  told = m.told ∙ (ap (λ x. x ++ m.more) a.told ∙ (append-associative (told c) (a.front ++ ((own_lines g.feeds o.lines c.subs ++ grants) ++ a.back)) m.more
      ∙ ap (λ x. told c ++ x) (append-associative a.front ((own_lines g.feeds o.lines c.subs ++ grants) ++ a.back) m.more ∙ ap (λ x. a.front ++ x) (append-associative (own_lines g.feeds o.lines c.subs ++ grants) a.back m.more))));
  calm = (a.calm.0, AreCalm-append a.back m.more a.calm.1 m.calm);
  unmade = a.unmade;
  shape = filter-append is_made a.back m.more ∙ ((λ i. a.shape i ++ m.unmade i) ∙ append-nil _);
  subs = subs ∙ a.subs;
}

after_calm : (g h i : Gate) (c z y : Client) → i.machine ≡ h.machine → i.entries ≡ h.entries → IsCalm z y → y.subs ≡ z.subs → y.given ≡ z.given → Hears g h c z → Hears g i c y
after_calm g h i c z y machine entries m subs given (quietly a n) = quietly (record {
  more = a.more ++ m.more;
  told = m.told ∙ (ap (λ x. x ++ m.more) a.told ∙ append-associative (told c) a.more m.more);
  calm = AreCalm-append a.more m.more a.calm m.calm;
  unmade = filter-append is_made a.more m.more ∙ (λ i. a.unmade i ++ m.unmade i);
}) (ap requests_in entries ∙ n)
after_calm g h i c z y machine entries m subs given (by_command a) = by_command (record {
  command = a.command;
  shared = a.shared;
  said = a.said;
  request = a.request;
  name = a.name;
  asks = a.asks;
  by = calm_behind g h i (step g.machine a.command) (grants_of g.machine a.command c.role) (entries_of (next_position g) a.request a.name (reply_to g a.command)) c z y machine entries m subs a.by;
})
after_calm g h i c z y machine entries m subs given (by_contents a n) =
    let news = changed (c.given + 1) (difference a.before a.after) in
    by_contents (record {
      before = a.before;
      after = a.after;
      front = a.front;
      back = a.back ++ m.more;
      told = m.told ∙ (ap (λ x. x ++ m.more) a.told ∙ (append-associative (told c) (a.front ++ (news ∷ a.back)) m.more ∙ ap (λ x. told c ++ x) (append-associative a.front (news ∷ a.back) m.more)));
      calm = (a.calm.0, AreCalm-append a.back m.more a.calm.1 m.calm);
      unmade = (a.unmade.0, filter-append is_made a.back m.more ∙ (λ i. a.unmade.1 i ++ m.unmade i));
      given = subst (λ x. c.given + 1 ≤ x) (sym given) a.given;
      follows = ap (list_any (λ (x : Sub). (c.given + 1) == x.own)) subs ∙ a.follows;
      some = a.some;
    }) (ap requests_in entries ∙ n)

settled_calm : (es : List Entry) (c : Client) → IsCalm c (settling es c)
settled_calm es c = by c.owed
  where
    by : (b : Bool) → IsCalm c (cond b (record (told_one es settled c) { owed = false }) c)
    by true = record { more = settled ∷ []; told = told-told_one es settled c; calm = AreCalm-one settled refl; unmade = refl }
    by false = IsCalm-same_told c c refl

pub subs-settling : (es : List Entry) (c : Client) → ((settling es c).subs ≡ c.subs) × ((settling es c).given ≡ c.given)
subs-settling es c = by c.owed
  where
    by : (b : Bool) → ((cond b (record (told_one es settled c) { owed = false }) c).subs ≡ c.subs) × ((cond b (record (told_one es settled c) { owed = false }) c).given ≡ c.given)
    by true = (refl, refl)
    by false = (refl, refl)

-- a message counts as said, whatever it is
said_hears : (g : Gate) (slots : Slots) (h : Gate) (text : List ℕ) (c z : Client) → Hears (record g { clients = slots }) h (saying text c) z → Hears g h c z
said_hears g slots h text c z (quietly a n) = quietly (record { more = a.more; told = a.told; calm = a.calm; unmade = a.unmade }) n
said_hears g slots h text c z (by_command a) = by_command (record {
  command = a.command;
  shared = a.shared;
  said = a.said;
  request = a.request;
  name = a.name;
  asks = a.asks;
  by = record { machine = a.by.machine; entries = a.by.entries; front = a.by.front; back = a.by.back; told = a.by.told; calm = a.by.calm; unmade = a.by.unmade; shape = a.by.shape; subs = a.by.subs };
})
said_hears g slots h text c z (by_contents a n) = by_contents (record {
  before = a.before;
  after = a.after;
  front = a.front;
  back = a.back;
  told = a.told;
  calm = a.calm;
  unmade = a.unmade;
  given = a.given;
  follows = a.follows;
  some = a.some;
}) n

other_hears : (g : Gate) (slots : Slots) (h : Gate) (c z : Client) → Hears (record g { clients = slots }) h c z → Hears g h c z
other_hears g slots h c z (quietly a n) = quietly a n
other_hears g slots h c z (by_command a) = by_command (record {
  command = a.command;
  shared = a.shared;
  said = a.said;
  request = a.request;
  name = a.name;
  asks = a.asks;
  by = record { machine = a.by.machine; entries = a.by.entries; front = a.by.front; back = a.by.back; told = a.by.told; calm = a.by.calm; unmade = a.by.unmade; shape = a.by.shape; subs = a.by.subs };
})
other_hears g slots h c z (by_contents a n) = by_contents a n

-- ---- a message

module _ (sounds : Sounds) (g : Gate) (b : IsSoundGate g) (m : ℕ) (text : List ℕ) (j : ℕ) (c : Client) (t : client_at g.clients j ≡ Some c) (live : c.dropped ≡ false) where
  abbrev asked : Gate
  asked = record g { clients = at_client m (saying text) g.clients }

  abbrev did : Client → Gate
  did a = done_for asked m a text (said_by text)

  asked_sound : IsSoundGate asked
  asked_sound = IsSoundGate-at_client g m (saying text) (λ d e l. IsSoundClient-said g.machine g.feeds (seer d) text (b.clients m d e l)) b

  told_by_it : (a x : Client) → client_at (at_client m (saying text) g.clients) j ≡ Some x → x.dropped ≡ false
      → Later (λ n y d. Hears (record g { clients = at_client m (saying text) g.clients }) (done_for (record g { clients = at_client m (saying text) g.clients }) m a text (said_by text)) y d)
      (done_for (record g { clients = at_client m (saying text) g.clients }) m a text (said_by text)).clients j x
  told_by_it a x e l = Later-IsDone asked m a (did a) asked_sound (all_done sounds asked m a text (said_by text) b.state refl) j x e l

  -- what it was told grew
  grown : (a d : Client) → m ≡ j → client_at (settles (did a)).clients j ≡ Some d → Grown c d
  grown a d same e =
      let R = λ (i : ℕ) (x y : Client). Grown x y in
      let there : client_at asked.clients j ≡ Some (saying text c) =
      ap (λ i. client_at (at_client i (saying text) g.clients) j) same ∙ (client_at-at_client j (saying text) g.clients ∙ ap (option_map (saying text)) t) in
      let p = to_then m R (Kit-Grown m) asked.clients (did a).clients (settles (did a)).clients (to_done m R (Kit-Grown m) asked a text (said_by text)) (to_settles m R (Kit-Grown m) (did a)) j (saying text c) there in
      let x : Grown (saying text c) d = subst (Grown (saying text c)) (same-Some p.now d (sym p.there ∙ e)) p.so in
      record { more = x.more; handed = x.handed; sendable = x.sendable; unsynced = x.unsynced }

  heard_by_all : (a d : Client) → client_at g.clients m ≡ Some a → client_at (hears g m a text).clients j ≡ Some d → Hears g (hears g m a text) c d
  heard_by_all a d s k = by (m == j) refl
    where
      es : List Entry
      es = (did a).entries

      by : (e : Bool) → (m == j) ≡ e → Hears g (hears g m a text) c d
      by true e =
          let same = eqb-true m j e in
          let one : a ≡ c = same-Some a c (sym s ∙ (ap (client_at g.clients) same ∙ t)) in
          let there : client_at asked.clients j ≡ Some (saying text c) =
          ap (λ i. client_at (at_client i (saying text) g.clients) j) same ∙
          (client_at-at_client j (saying text) g.clients ∙ ap (option_map (saying text)) t) in
          let p = told_by_it a (saying text c) there live in
          let rest = subs-settling es p.now in
          let then_there : client_at (settles (did a)).clients j ≡ Some (settling es p.now) = client_at-at_all (settling es) (did a).clients j ∙ ap (option_map (settling es)) p.there in
          let first : Hears g (settles (did a)) c (settling es p.now) =
          after_calm g (did a) (settles (did a)) c p.now (settling es p.now) refl refl (settled_calm es p.now) rest.0 rest.1 (said_hears g asked.clients (did a) text c p.now p.so) in
          let last : client_at (hears g m a text).clients j ≡ Some (answered a (settling es p.now)) =
          ap (λ i. client_at (at_client i (answered a) (settles (did a)).clients) j) same ∙ (client_at-at_client j (answered a) (settles (did a)).clients ∙ ap (option_map (answered a)) then_there) in
          subst (Hears g (hears g m a text) c) (same-Some (answered a (settling es p.now)) d (sym last ∙ k))
          (after_calm g (settles (did a)) (hears g m a text) c (settling es p.now) (answered a (settling es p.now)) refl refl
          (IsCalm-same_told (settling es p.now) (answered a (settling es p.now)) (told-answered a (settling es p.now) (subst (λ z. Grown z (settling es p.now)) (sym one) (grown a (settling es p.now) same then_there)))) refl refl first)
      by false e =
          let ne = eqb-false m j e in
          let p = told_by_it a c (client_at-at_other_client m j (saying text) g.clients ne ∙ t) live in
          let rest = subs-settling es p.now in
          let then_there : client_at (settles (did a)).clients j ≡ Some (settling es p.now) = client_at-at_all (settling es) (did a).clients j ∙ ap (option_map (settling es)) p.there in
          let last : client_at (hears g m a text).clients j ≡ Some (settling es p.now) =
          client_at-at_other_client m j (answered a) (settles (did a)).clients ne ∙ then_there in
          subst (Hears g (hears g m a text) c) (same-Some (settling es p.now) d (sym last ∙ k))
          (after_calm g (did a) (hears g m a text) c p.now (settling es p.now) refl refl (settled_calm es p.now) rest.0 rest.1 (other_hears g asked.clients (did a) c p.now p.so))

same_hears : (g h : Gate) (slots : Slots) (j : ℕ) (c d : Client) → h.entries ≡ g.entries → client_at slots j ≡ Some c → client_at slots j ≡ Some d → Hears g h c d
same_hears g h slots j c d n s k = quietly (IsCalm-same_told c d (ap told (same-Some d c (sym k ∙ s)))) (ap requests_in n)

same_slot : (slots : Slots) (j : ℕ) (c d : Client) → client_at slots j ≡ Some c → client_at slots j ≡ Some d → c ≡ d
same_slot slots j c d s k = same-Some c d (sym s ∙ k)

said_all : Sounds → (g : Gate) → IsSoundGate g → (m : ℕ) (text : List ℕ) (j : ℕ) (c d : Client) → client_at g.clients j ≡ Some c → c.dropped ≡ false → client_at (said g m text).clients j ≡ Some d
    → Hears g (said g m text) c d
said_all sounds g b m text j c d t live k = by (client_at g.clients m) refl k
  where
    test_by : (a : Client) → client_at g.clients m ≡ Some a → (e : Bool) → client_at (cond e (hears g m a text) g).clients j ≡ Some d → Hears g (cond e (hears g m a text) g) c d
    test_by a s true x = heard_by_all sounds g b m text j c t live a d s x
    test_by a s false x = same_hears g g g.clients j c d refl t x

    by : (o : Option Client) → client_at g.clients m ≡ o → client_at (if_some o g (λ a. cond (may_say a) (hears g m a text) g)).clients j ≡ Some d
        → Hears g (if_some o g (λ a. cond (may_say a) (hears g m a text) g)) c d
    by None s x = same_hears g g g.clients j c d refl t x
    by (Some a) s x = test_by a s (may_say a) x

-- ---- who comes and goes

-- where another comes, it stays as it is
pub same-presented : (g : Gate) → IsSoundGate g → (m : ℕ) (token : List ℕ) (j : ℕ) (c d : Client) → client_at g.clients j ≡ Some c → client_at (happens g (presented m token)).clients j ≡ Some d → c ≡ d
same-presented g b m token j c d t k = by (token_for g m token) refl k
  where
    by : (o : Option Token) → token_for g m token ≡ o → client_at (if_some o g (came_as g m)).clients j ≡ Some d → c ≡ d
    by None e x = same_slot g.clients j c d t x
    by (Some s) e x =
        let i = with_session g s.role in
        let there : client_at (came_as g m s).clients j ≡ Some c =
        client_at-set_other m j (Some (fresh i.entries s (at_text i s))) i.clients ne ∙ (ap (λ z. client_at z j) (clients-with_session g s.role b.state) ∙ t) in
        same-Some c d (sym there ∙ x)
      where
        ne : m ≡ j → ⊥
        ne one = false≢true (sym (is_free-client_at m c g.clients (ap (client_at g.clients) one ∙ t)) ∙ (Opens-token_for g m token s e).free)

-- where another goes, it stays as it is, or is told that this is all
pub either-gone : Sounds → (g : Gate) → IsSoundGate g → (m j : ℕ) (c d : Client) → client_at g.clients j ≡ Some c → client_at (happens g (gone m)).clients j ≡ Some d
    → (P : Type 0) → (c ≡ d → P) → ((es : List Entry) → settling es c ≡ d → P) → P
either-gone sounds g b m j c d t k P same turned = test_by (m == j) refl
  where
    left : Gate
    left = record g { clients = set g.clients m None }

    without : Client → Gate
    without a = let i = all_swept left (map (λ s. s.feed) a.subs) in settles (all_rested i (filter (is_of_role a.role) i.seats))

    gone_as : (a : Client) → (m ≡ j → ⊥) → client_at (without a).clients j ≡ Some d → P
    gone_as a ne x =
        let ks = map (λ (s : Sub). s.feed) a.subs in let i = all_swept left ks in let r = all_rested i (filter (is_of_role a.role) i.seats) in
        let there : client_at r.clients j ≡ Some c =
        ap (λ z. client_at z j) (all_rested_clients sounds i (filter (is_of_role a.role) i.seats) (at_all_swept (λ s seats. IsSoundState s) (Sits-IsSoundState sounds) left ks b.state))
        ∙ (ap (λ z. client_at z j) (clients-all_swept sounds left ks b.state) ∙ (client_at-set_other m j None g.clients ne ∙ t)) in
        turned r.entries (same-Some (settling r.entries c) d
        (sym (client_at-at_all (settling r.entries) r.clients j ∙ ap (option_map (settling r.entries)) there) ∙ x))

    by : (m ≡ j → ⊥) → (o : Option Client) → client_at (if_some o g without).clients j ≡ Some d → P
    by ne None x = same (same_slot g.clients j c d t x)
    by ne (Some a) x = gone_as a ne x

    test_by : (q : Bool) → (m == j) ≡ q → P
    test_by true e = absurd (not_None-Some d (sym k ∙ client_at-is_gone g (gone m) j e))
    test_by false e = by (eqb-false m j e) (client_at g.clients m) k

-- ---- text that moves on

pub same-at_all : (f : Client → Client) (slots : Slots) (j : ℕ) (c d : Client) → client_at slots j ≡ Some c → client_at (at_all f slots) j ≡ Some d → f c ≡ d
same-at_all f slots j c d h k = same-Some (f c) d (ap (option_map f) (sym h) ∙ (sym (client_at-at_all f slots j) ∙ k))

was_dropped : (c d : Client) → dropping c ≡ d → d.dropped ≡ false → told d ≡ told c
was_dropped c d e s = absurd (false≢true (sym s ∙ sym (ap (λ (x : Client). x.dropped) e)))

pub told-checked : (tokens : List Token) (c d : Client) → checked tokens c ≡ d → d.dropped ≡ false → told d ≡ told c
told-checked tokens c d e s = by (opens tokens c) e
  where
    by : (b : Bool) → cond b c (dropping c) ≡ d → told d ≡ told c
    by true x = ap told (sym x)
    by false x = was_dropped c d x s

pub told-released : (c d : Client) → released c ≡ d → d.dropped ≡ false → told d ≡ told c
told-released c d e s = by (c.dropped || is_slow c) e
  where
    by : (b : Bool) → cond b (dropping c) (record c { unsynced = []; sendable = c.sendable ++ c.unsynced }) ≡ d → told d ≡ told c
    by true x = was_dropped c d x s
    by false x = ap told (sym x) ∙ ap (λ z. map (λ (y : Shown). y.told) (flat_map (λ ss. ss) c.handed ++ z)) (append-nil (c.sendable ++ c.unsynced))

pub told-handing : (c d : Client) → handing c ≡ d → told d ≡ told c
told-handing c d e = by (length c.sendable == 0) e
  where
    by : (b : Bool) → cond b c (record c { sendable = []; asked = 0; handed = c.handed ++ c.sendable ∷ [] }) ≡ d → told d ≡ told c
    by true x = ap told (sym x)
    by false x = ap told (sym x)
        ∙ ap (map (λ (y : Shown). y.told)) (ap (λ z. z ++ c.unsynced) (flat_map-append (λ ss. ss) c.handed (c.sendable ∷ []) ∙ ap (λ z. flat_map (λ ss. ss) c.handed ++ z) (append-nil c.sendable))
        ∙ append-associative (flat_map (λ ss. ss) c.handed) c.sendable c.unsynced)

handed_all : (g h : Gate) (m j : ℕ) (c d : Client) → h.entries ≡ g.entries → client_at g.clients j ≡ Some c → client_at (at_client m handing g.clients) j ≡ Some d → Hears g h c d
handed_all g h m j c d n t k = by (m == j) refl
  where
    by : (b : Bool) → (m == j) ≡ b → Hears g h c d
    by true e = quietly (IsCalm-same_told c d (told-handing c d (same-Some (handing c) d
        (ap (option_map handing) (sym t) ∙ (sym (client_at-at_client j handing g.clients) ∙ (ap (λ i. client_at (at_client i handing g.clients) j) (sym (eqb-true m j e)) ∙ k)))))) (ap requests_in n)
    by false e = same_hears g h g.clients j c d n t (sym (client_at-at_other_client m j handing g.clients (eqb-false m j e)) ∙ k)

-- ---- each event

abbrev is_step : Event → Bool
is_step (arrived s) = true
is_step _ = false

apart_step : (e : Event) (s : Step) → is_step e ≡ false → e ≡ arrived s → ⊥
apart_step e s n h = false≢true (sym n ∙ ap is_step h)

came_entries : (g : Gate) (m : ℕ) (token : List ℕ) → (happens g (presented m token)).entries ≡ g.entries
came_entries g m token = by (token_for g m token)
  where
    by : (o : Option Token) → (if_some o g (came_as g m)).entries ≡ g.entries
    by None = refl
    by (Some t) = ap (λ (x : Sign). x.entries) (sign-came_as g m t)

happens_all : Sounds → (g : Gate) (e : Event) → ((s : Step) → e ≡ arrived s → ⊥) → IsSoundGate g → (j : ℕ) (c d : Client) → client_at g.clients j ≡ Some c → c.dropped ≡ false → client_at (happens g e).clients j ≡ Some d → d.dropped ≡ false
    → Hears g (happens g e) c d
happens_all sounds g (presented m token) o b j c d t live k s =
    let h = happens g (presented m token) in let same = came_entries g m token in quietly (IsCalm-same_told c d (ap told (sym (same-presented g b m token j c d t k)))) (ap requests_in same)
happens_all sounds g (message m text) o b j c d t live k s = said_all sounds g b m text j c d t live k
happens_all sounds g (gone m) o b j c d t live k s =
    let h = happens g (gone m) in let same = ap (λ (x : Sign). requests_in x.entries) (sign-went g m) in
    either-gone sounds g b m j c d t k (Hears g h c d) (λ e. quietly (IsCalm-same_told c d (ap told (sym e))) same) (λ es e. subst (Hears g h c) e (quietly (settled_calm es c) same))
happens_all sounds g (known tokens) o b j c d t live k s = quietly (IsCalm-same_told c d (told-checked tokens c d (same-at_all (checked tokens) g.clients j c d t k) s)) refl
happens_all sounds g ticked o b j c d t live k s =
    subst (Hears g (happens g ticked) c) (same-at_all (beating g.entries) g.clients j c d t k) (quietly (record { more = alive ∷ []; told = told-told_one g.entries alive c; calm = AreCalm-one alive refl; unmade = refl }) refl)
happens_all sounds g synced o b j c d t live k s = quietly (IsCalm-same_told c d (told-released c d (same-at_all released g.clients j c d t k) s)) refl
happens_all sounds g (handed m) o b j c d t live k s = handed_all g (happens g (handed m)) m j c d refl t k
happens_all sounds g (arrived x) o b j c d t live k s = absurd (o x refl)
happens_all sounds g led o b j c d t live k s = same_hears g (happens g led) g.clients j c d refl t k
happens_all sounds g forgave o b j c d t live k s = same_hears g (happens g forgave) g.clients j c d refl t k
happens_all sounds g failed o b j c d t live k s = same_hears g (happens g failed) g.clients j c d refl t k

-- ---- a step

-- what it leads to is told
pub record IsToldStep (g h : Gate) (s : Step) (c d : Client) : Type 0 where
  pub outcome : Outcome
  pub leads : stepped (map fact_of s.requests) g.machine ≡ Some outcome
  pub by : IsToldOutcome g h outcome (map granted (newly g.machine.frame outcome.state.frame c.role)) (entry_of s ∷ []) c d

landed_all : (g : Gate) (e : Entry) (o : Outcome) (j : ℕ) (c d : Client) → client_at g.clients j ≡ Some c → client_at (landed g e o).clients j ≡ Some d
    → IsToldOutcome g (landed g e o) o (map granted (newly g.machine.frame o.state.frame c.role)) (e ∷ []) c d
landed_all g e o j c d t k =
    let es = g.entries ++ e ∷ [] in
    let grants : Client → List Told = λ (x : Client). map granted (newly g.machine.frame o.state.frame x.role) in
    let first : Client → Client = λ (x : Client). staying o.lines (telling es (own_lines g.feeds o.lines x.subs ++ grants x) x) in
    let shapes : Client → Client = λ (x : Client). telling es (shape_for x.role (e ∷ [])) x in
    let there : client_at (landed g e o).clients j ≡ Some (settling es (shapes (first c))) =
    client_at-at_all (settling es) (at_all shapes (at_all first g.clients)) j ∙ ap (option_map (settling es)) (client_at-at_all shapes (at_all first g.clients) j ∙ ap (option_map shapes) (client_at-at_all first g.clients j ∙ ap (option_map first) t)) in
    subst (IsToldOutcome g (landed g e o) o (grants c) (e ∷ []) c) (same-Some (settling es (shapes (first c))) d (sym there ∙ k))
    (calm_behind g (landed g e o) (landed g e o) o (grants c) (e ∷ []) c (shapes (first c)) (settling es (shapes (first c))) refl refl (settled_calm es (shapes (first c))) (subs-settling es (shapes (first c))).0
    (told_whole g (landed g e o) o (e ∷ []) refl refl es es grants [] c c refl tt refl (sym (append-nil (told c))) refl refl))

-- by an event that is no step, by a step, or where nothing happens
pub data HearsBy (g : Gate) (e : Event) (c d : Client) : Type 0 where
  heard : ((s : Step) → e ≡ arrived s → ⊥) → Hears g (next g e) c d → HearsBy g e c d
  untaken : (next g e).machine ≡ g.machine → (next g e).entries ≡ g.entries → c ≡ d → HearsBy g e c d
  taken : (s : Step) → e ≡ arrived s → IsToldStep g (next g e) s c d → HearsBy g e c d

data TakesBy (g : Gate) (s : Step) (h : Gate) (c d : Client) : Type 0 where
  passes : h.machine ≡ g.machine → h.entries ≡ g.entries → c ≡ d → TakesBy g s h c d
  lands : IsToldStep g h s c d → TakesBy g s h c d

takes_all : (g : Gate) (s : Step) (j : ℕ) (c d : Client) → client_at g.clients j ≡ Some c → client_at (takes g s).clients j ≡ Some d → TakesBy g s (takes g s) c d
takes_all g s j c d t k = by (is_some (fault_of g s)) (was_taken g s) (stepped (map fact_of s.requests) g.machine) refl k
  where
    by : (x y : Bool) (o : Option Outcome) → stepped (map fact_of s.requests) g.machine ≡ o → let h = cond x (record g { dead = true }) (cond y g (if_some o g (landed g (entry_of s)))) in
        client_at h.clients j ≡ Some d → TakesBy g s h c d
    by true y o e i = passes refl refl (same_slot g.clients j c d t i)
    by false true o e i = passes refl refl (same_slot g.clients j c d t i)
    by false false None e i = passes refl refl (same_slot g.clients j c d t i)
    by false false (Some o) e i = lands (record { outcome = o; leads = e; by = landed_all g (entry_of s) o j c d t i })

pub HearsBy-next : Sounds → (g : Gate) (e : Event) → IsSoundGate g → (j : ℕ) (c d : Client) → client_at g.clients j ≡ Some c → c.dropped ≡ false → client_at (next g e).clients j ≡ Some d → d.dropped ≡ false
    → HearsBy g e c d
HearsBy-next sounds g e b j c d t live k s = by g.dead refl
  where
    awake : g.dead ≡ false → client_at (happens g e).clients j ≡ Some d
    awake q = ap (λ (x : Gate). client_at x.clients j) (sym (is_alive g e q)) ∙ k

    other : g.dead ≡ false → ((x : Step) → e ≡ arrived x → ⊥) → HearsBy g e c d
    other q o = heard o (subst (λ x. Hears g x c d) (sym (is_alive g e q)) (happens_all sounds g e o b j c d t live (awake q) s))

    step_by : g.dead ≡ false → (x : Step) → e ≡ arrived x → (h : Gate) → next g e ≡ h → TakesBy g x h c d → HearsBy g e c d
    step_by q x f h same (passes m n z) = untaken (ap (λ (i : Gate). i.machine) same ∙ m) (ap (λ (i : Gate). i.entries) same ∙ n) z
    step_by q x f h same (lands a) = taken x f (record { outcome = a.outcome; leads = a.leads; by = subst (λ i. IsToldOutcome g i a.outcome (map granted (newly g.machine.frame a.outcome.state.frame c.role)) (entry_of x ∷ []) c d) (sym same) a.by })

    live_by : g.dead ≡ false → (f : Event) → e ≡ f → HearsBy g e c d
    live_by q (presented m token) f = other q (λ x i. apart_step (presented m token) x refl (sym f ∙ i))
    live_by q (message m text) f = other q (λ x i. apart_step (message m text) x refl (sym f ∙ i))
    live_by q (gone m) f = other q (λ x i. apart_step (gone m) x refl (sym f ∙ i))
    live_by q (known tokens) f = other q (λ x i. apart_step (known tokens) x refl (sym f ∙ i))
    live_by q ticked f = other q (λ x i. apart_step ticked x refl (sym f ∙ i))
    live_by q synced f = other q (λ x i. apart_step synced x refl (sym f ∙ i))
    live_by q (handed m) f = other q (λ x i. apart_step (handed m) x refl (sym f ∙ i))
    live_by q (arrived x) f =
        let same : next g e ≡ takes g x = is_alive g e q ∙ ap (happens g) f in
        step_by q x f (takes g x) same (takes_all g x j c d t (ap (λ (i : Gate). client_at i.clients j) (sym same) ∙ k))
    live_by q led f = other q (λ x i. apart_step led x refl (sym f ∙ i))
    live_by q forgave f = other q (λ x i. apart_step forgave x refl (sym f ∙ i))
    live_by q failed f = other q (λ x i. apart_step failed x refl (sym f ∙ i))

    by : (q : Bool) → g.dead ≡ q → HearsBy g e c d
    by true q =
        let same = next-dead g e q in
        untaken (ap (λ (x : Gate). x.machine) same) (ap (λ (x : Gate). x.entries) same) (same_slot g.clients j c d t (ap (λ (x : Gate). client_at x.clients j) (sym same) ∙ k))
    by false q = live_by q e refl

pub told_by-append : (c d : Client) (more : List Told) → told d ≡ told c ++ more → told_by c d ≡ more
told_by-append c d more e = ap (drop (length (told c))) e ∙ drop-append_front (told c) more

-- Texts show entries that are accepted, and only entries on disk once the texts may be sent.
use Rattle.std.proofs.Common.{◌≡◌, ℕ, zero, suc, ◌≤◌, Bool, true, false, cond, is_some, ◌||◌, List, [], ◌∷◌, ◌++◌, drop, take, length, map, set, Option, Some, None, option_map, refl, ap, ◌∙◌, sym, subst, arith, append-nil, length-append}
use Rattle.std.specs.Prelude.{◌==◌, ◌&&◌, option_and_then}
use Rattle.std.specs.List.{AllByRecursion}
use Rattle.std.proofs.Math.Seq.{take-length}
use Rattle.std.proofs.lemmas.Bool.{eqb-true, eqb-false}
use Rattle.std.proofs.lemmas.List.{take-append-drop, take-append-le}
use Rattle.serde_json.specs.Data.{Data}
use Rattle.sha2.specs.Sha256.{sha256}
use Rattle.iv_rows.specs.Names.{is_name}
use Rattle.iv_rows.specs.Options.{if_some}
use Rattle.iv_machine.specs.Act.{Command, Reply, refused}
use Rattle.iv_machine.specs.Machine.{Outcome, step}
use Rattle.iv_message.specs.Told.{Told, alive, settled}
use Rattle.iv_clients.specs.Clients.{Client, Shown, Slots, answered, may_say, at_all, at_client, beating, checked, client_at, closing, dropping, following, fresh, handing, is_free, is_slow, moved, opens, released, saying, settling, staying, telling, told_one, greeting}
use Rattle.iv_records.specs.Journal.{Entry, IsEntry, Request, journal_of, names_in, said_by, shape_for}
use Rattle.iv_records.specs.Laws.{ReadsBack}
use Rattle.iv_once.specs.Names.{Ask}
use Rattle.iv_steps.specs.Steps.{stepped}
use Rattle.iv_clients.specs.Tokens.{Token, token_of}
use Rattle.iv_clients.proofs.Slots.{client_at-at_all, client_at-at_other_client, client_at-at_client, not_client_at-replicate, same-Some, client_at-set_other, not_None-Some}
use Rattle.iv_gate.specs.Arriving.{Step, entry_of, fact_of, fault_of, first_known, was_taken, landed, takes}
use Rattle.iv_gate.specs.Events.{Event, presented, message, gone, known, ticked, synced, handed, arrived, forgave, failed, IsWell, happens, hands, knowing, next, on_disk, ticking, led}
use Rattle.iv_gate.specs.Gate.{Gate, Head, at_text, hears, known_at, came, done_in, entered, entries_of, has_session, in_session, informs, ran, replies_to, reply_to, reply_told, said, tells, token_for, told_of, went, went_on, next_position}
use Rattle.iv_gate.specs.Laws.{IsFront, SentIsKept}
use Rattle.iv_gate.specs.Restoring.{Restores, are_rising, gate_at_start}
use Rattle.iv_gate.specs.Runs.{LeavesOnDisk, Runs, begins, goes_on, begins_again}
use Rattle.iv_gate.proofs.AddedEntries.{IsBooked, Texts, entries-came, IsNext-fault_of, entries-went, IsBooked-MayAdd, IsBooked-same_entries, said_more, MayAdd-entry_of}
use Rattle.iv_gate.proofs.JournalDamage.{Compared, Compared-journal_of, IsEntry-append, longer, not_nothing-journal_of, same, shorter}
use Rattle.iv_gate.proofs.OwnReplies.{entries-done_for, asked, said_added}
use Rattle.iv_gate.proofs.GrownTexts.{append-associative}
use Rattle.iv_gate.proofs.SameFeeds.{and-both_true}
use Rattle.iv_gate.proofs.SoundSteps.{AllByRecursion-map}
use Rattle.iv_gate.proofs.StepRelations.{HasHead, head_kit, Keeps, Steps, came_keeps, request_of, said_keeps, step_done, went_keeps}
use Rattle.iv_gate.proofs.ClientFacts.{step_told}
use Rattle.iv_gate.proofs.ShapeTexts.{told_itself}
use Rattle.iv_journal.specs.Journal.{Line}

-- ---- fronts

pub IsFront-itself : (es : List Entry) → IsFront es es
IsFront-itself es = ([], sym (append-nil es))

pub front_then : (es fs gs : List Entry) → IsFront es fs → IsFront fs gs → IsFront es gs
front_then es fs gs x y = (x.0 ++ y.0, y.1 ∙ (ap (λ z. z ++ y.0) x.1 ∙ append-associative es x.0 y.0))

pub IsFront-take : (n : ℕ) (es : List Entry) → IsFront (take n es) es
IsFront-take n es = (drop n es, sym (take-append-drop n es))

pub all_more : {X : Type 0} (P : X → Type 0) (xs ys : List X) → AllByRecursion P xs → AllByRecursion P ys → AllByRecursion P (xs ++ ys)
all_more P [] ys a b = b
all_more P (x ∷ xs) ys a b = (a.0, all_more P xs ys a.1 b)

pub AllByRecursion-take : {X : Type 0} (P : X → Type 0) (n : ℕ) (xs : List X) → AllByRecursion P xs → AllByRecursion P (take n xs)
AllByRecursion-take P zero xs a = tt
AllByRecursion-take P (suc n) [] a = tt
AllByRecursion-take P (suc n) (x ∷ xs) a = (a.0, AllByRecursion-take P n xs a.1)

pub all_dropped : {X : Type 0} (P : X → Type 0) (n : ℕ) (xs : List X) → AllByRecursion P xs → AllByRecursion P (drop n xs)
all_dropped P zero xs a = a
all_dropped P (suc n) [] a = tt
all_dropped P (suc n) (x ∷ xs) a = all_dropped P n xs a.1

-- ---- clients

abbrev pub AllClients : (Client → Type 0) → Slots → Type 0
AllClients Q slots = (m : ℕ) (c : Client) → client_at slots m ≡ Some c → Q c

changed_by : (Q : Client → Type 0) (f : Client → Client) (o : Option Client) (d : Client) → ((c : Client) → o ≡ Some c → Q (f c)) → option_map f o ≡ Some d → Q d
changed_by Q f None d k h = absurd (not_None-Some d (sym h))
changed_by Q f (Some c) d k h = subst Q (same-Some (f c) d h) (k c refl)

every_client : (Q R : Client → Type 0) (f : Client → Client) → ((c : Client) → Q c → R (f c)) → (slots : Slots) → AllClients Q slots → AllClients R (at_all f slots)
every_client Q R f k slots a j d h = changed_by R f (client_at slots j) d (λ c e. k c (a j c e)) (sym (client_at-at_all f slots j) ∙ h)

one_client : (Q : Client → Type 0) (m : ℕ) (f : Client → Client) (slots : Slots) → ((c : Client) → client_at slots m ≡ Some c → Q c → Q (f c)) → AllClients Q slots → AllClients Q (at_client m f slots)
one_client Q m f slots k a j d h = by (m == j) refl
  where
    by : (t : Bool) → (m == j) ≡ t → Q d
    by true e =
        let same = eqb-true m j e in
        changed_by Q f (client_at slots m) d (λ c q. k c q (a m c q)) (sym (client_at-at_client m f slots) ∙ (ap (client_at (at_client m f slots)) same ∙ h))
    by false e = a j d (sym (client_at-at_other_client m j f slots (eqb-false m j e)) ∙ h)

put_client : (Q : Client → Type 0) (m : ℕ) (o : Option Client) → ((c : Client) → o ≡ Some c → Q c) → (slots : Slots) → AllClients Q slots → AllClients Q (set slots m o)
put_client Q m o k slots a j d h = by (m == j) refl
  where
    there : (ss : Slots) (i : ℕ) → client_at (set ss i o) i ≡ Some d → o ≡ Some d
    there [] i e = absurd (not_None-Some d (sym e))
    there (s ∷ ss) zero e = e
    there (s ∷ ss) (suc i) e = there ss i e

    by : (t : Bool) → (m == j) ≡ t → Q d
    by true e = k d (there slots m (ap (client_at (set slots m o)) (eqb-true m j e) ∙ h))
    by false e = a j d (sym (client_at-set_other m j o slots (eqb-false m j e)) ∙ h)

-- a client's role has a name; what may be sent to it shows what is kept, and what waits shows what is accepted
pub record IsHolding (kept all : List Entry) (c : Client) : Type 0 where
  pub name : is_name c.role ≡ true
  pub sendable : AllByRecursion (λ (s : Shown). IsFront s.entries kept) c.sendable
  pub unsynced : AllByRecursion (λ (s : Shown). IsFront s.entries all) c.unsynced

holding_one : (kept all : List Entry) (t : Told) (c : Client) → IsHolding kept all c → IsHolding kept all (told_one all t c)
holding_one kept all t c b = record {
  name = b.name;
  sendable = b.sendable;
  unsynced = all_more (λ (s : Shown). IsFront s.entries all) c.unsynced (record { told = t; entries = all; answers = false } ∷ []) b.unsynced (IsFront-itself all, tt);
}

holding_telling : (kept all : List Entry) (ts : List Told) (c : Client) → IsHolding kept all c → IsHolding kept all (telling all ts c)
holding_telling kept all [] c b = b
holding_telling kept all (t ∷ ts) c b = holding_telling kept all ts (told_one all t c) (holding_one kept all t c b)

holding_settling : (kept all : List Entry) (c : Client) → IsHolding kept all c → IsHolding kept all (settling all c)
holding_settling kept all c b = by c.owed
  where
    by : (t : Bool) → IsHolding kept all (cond t (record (told_one all settled c) { owed = false }) c)
    by true = let x = holding_one kept all settled c b in record { name = x.name; sendable = x.sendable; unsynced = x.unsynced }
    by false = b

answering_all : (all : List Entry) (ss : List Shown) → AllByRecursion (λ (s : Shown). IsFront s.entries all) ss → AllByRecursion (λ (s : Shown). IsFront s.entries all) (map (λ (s : Shown). record s { answers = true }) ss)
answering_all all [] a = tt
answering_all all (s ∷ ss) a = (a.0, answering_all all ss a.1)

holding_nothing : (kept all : List Entry) (c : Client) → is_name c.role ≡ true → IsHolding kept all (dropping c)
holding_nothing kept all c h = record { name = h; sendable = tt; unsynced = tt }

holding_released : (kept all : List Entry) (c : Client) → IsFront kept all → IsHolding kept all c → IsHolding all all (released c)
holding_released kept all c f b = by (c.dropped || is_slow c)
  where
    by : (t : Bool) → IsHolding all all (cond t (dropping c) (record c { unsynced = []; sendable = c.sendable ++ c.unsynced }))
    by true = holding_nothing all all c b.name
    by false = record {
      name = b.name;
      sendable = all_more (λ (s : Shown). IsFront s.entries all) c.sendable c.unsynced
          (AllByRecursion-map {P = λ (s : Shown). IsFront s.entries kept} {Q = λ (s : Shown). IsFront s.entries all} (λ s x. front_then s.entries kept all x f) c.sendable b.sendable) b.unsynced;
      unsynced = tt;
    }

holding_handing : (kept all : List Entry) (c : Client) → IsHolding kept all c → IsHolding kept all (handing c)
holding_handing kept all c b = by (length c.sendable == 0)
  where
    by : (t : Bool) → IsHolding kept all (cond t c (record c { sendable = []; asked = 0; handed = c.handed ++ c.sendable ∷ [] }))
    by true = b
    by false = record { name = b.name; sendable = tt; unsynced = b.unsynced }

holding_checked : (kept all : List Entry) (tokens : List Token) (c : Client) → IsHolding kept all c → IsHolding kept all (checked tokens c)
holding_checked kept all tokens c b = by (opens tokens c)
  where
    by : (t : Bool) → IsHolding kept all (cond t c (dropping c))
    by true = b
    by false = holding_nothing kept all c b.name

-- ---- gateways

-- all of it, and the entries are these ones with more behind
pub record IsHeld (base : List Entry) (g : Gate) : Type 0 where
  pub front : IsFront base g.entries
  pub kept : g.kept ≤ length g.entries
  pub sent : AllByRecursion (λ (s : Shown). IsFront s.entries (take g.kept g.entries)) g.sent
  pub clients : AllClients (IsHolding (take g.kept g.entries) g.entries) g.clients

module _ (base : List Entry) where
  outcome_held : (g : Gate) (o : Outcome) (told : Client → List Told) → IsHeld base g → IsHeld base (went_on g o told)
  outcome_held g o told b =
      let kept = take g.kept g.entries in
      record {
        front = b.front;
        kept = b.kept;
        sent = b.sent;
        clients = every_client (IsHolding kept g.entries) (IsHolding kept g.entries) (λ c. staying o.lines (telling g.entries (told c) c))
            (λ c x. let y = holding_telling kept g.entries (told c) c x in record { name = y.name; sendable = y.sendable; unsynced = y.unsynced })
            g.clients b.clients;
      }

  ran_held : (g : Gate) (k : Command) → IsHeld base g → IsHeld base (ran g k)
  ran_held g k b = outcome_held g (step g.machine k) (told_of g k.act (step g.machine k)) b

  one_held : (g : Gate) (m : ℕ) (f : Client → Client)
      → ((c : Client) → IsHolding (take g.kept g.entries) g.entries c → IsHolding (take g.kept g.entries) g.entries (f c)) → IsHeld base g → IsHeld base (record g { clients = at_client m f g.clients })
  one_held g m f k b = record {
    front = b.front;
    kept = b.kept;
    sent = b.sent;
    clients = one_client (IsHolding (take g.kept g.entries) g.entries) m f g.clients (λ c e x. k c x) b.clients;
  }

  tells_held : (g : Gate) (m : ℕ) (t : Told) → IsHeld base g → IsHeld base (tells g m t)
  tells_held g m t b = one_held g m (told_one g.entries t) (λ c x. holding_one (take g.kept g.entries) g.entries t c x) b

  put_held : (g : Gate) (m : ℕ) (o : Option Client) → ((c : Client) → o ≡ Some c → IsHolding (take g.kept g.entries) g.entries c) → IsHeld base g → IsHeld base (record g { clients = set g.clients m o })
  put_held g m o k b = record {
    front = b.front;
    kept = b.kept;
    sent = b.sent;
    clients = put_client (IsHolding (take g.kept g.entries) g.entries) m o k g.clients b.clients;
  }

  informs_held : (g : Gate) (es : List Entry) → IsHeld base g → IsHeld base (informs g es)
  informs_held g es b =
      let kept = take g.kept g.entries in
      record {
        front = b.front;
        kept = b.kept;
        sent = b.sent;
        clients = every_client (IsHolding kept g.entries) (IsHolding kept g.entries) (λ c. telling g.entries (shape_for c.role es) c)
            (λ c x. holding_telling kept g.entries (shape_for c.role es) c x) g.clients b.clients;
      }

  held_kit : (m : ℕ) → Steps m (Keeps (IsHeld base))
  held_kit m = record {
    same = λ g b. b;
    chain = λ g h i x y b. y (x b);
    run = λ g k e b. ran_held g k b;
    settle = λ g b. record {
      front = b.front;
      kept = b.kept;
      sent = b.sent;
      clients = every_client (IsHolding (take g.kept g.entries) g.entries) (IsHolding (take g.kept g.entries) g.entries) (settling g.entries)
          (λ c x. holding_settling (take g.kept g.entries) g.entries c x) g.clients b.clients;
    };
    tell = λ g t _ b. tells_held g m t b;
    seat = λ g seats b. record { front = b.front; kept = b.kept; sent = b.sent; clients = b.clients };
    feed = λ g feeds b. record { front = b.front; kept = b.kept; sent = b.sent; clients = b.clients };
    follow = λ g k b. one_held g m (following k) (λ c x. record { name = x.name; sendable = x.sendable; unsynced = x.unsynced }) b;
    move = λ g t k b. one_held g m (moved t k) (λ c x. record { name = x.name; sendable = x.sendable; unsynced = x.unsynced }) b;
    close = λ g own b. one_held g m (closing own) (λ c x. record { name = x.name; sendable = x.sendable; unsynced = x.unsynced }) b;
  }

  -- ---- entries

  more_held : (g : Gate) (more : List Entry) → IsHeld base g → IsHeld base (record g { entries = g.entries ++ more })
  more_held g more b =
      let same : take g.kept (g.entries ++ more) ≡ take g.kept g.entries = take-append-le g.kept g.entries more b.kept in
      record {
        front = front_then base g.entries (g.entries ++ more) b.front (more, refl);
        kept = subst (λ n. g.kept ≤ n) (sym (length-append g.entries more)) (omega (arith, b.kept));
        sent = subst (λ z. AllByRecursion (λ (s : Shown). IsFront s.entries z) g.sent) (sym same) b.sent;
        clients = λ m c h. let x = b.clients m c h in record {
          name = x.name;
          sendable = subst (λ z. AllByRecursion (λ (s : Shown). IsFront s.entries z) c.sendable) (sym same) x.sendable;
          unsynced = AllByRecursion-map {P = λ (s : Shown). IsFront s.entries g.entries} {Q = λ (s : Shown). IsFront s.entries (g.entries ++ more)}
              (λ s f. front_then s.entries g.entries (g.entries ++ more) f (more, refl)) c.unsynced x.unsynced;
        };
      }

  replied_held : (g : Gate) (m : ℕ) (id : Option Data) (q : Request) (name : Option Ask) (r : Reply) → IsHeld base g → IsHeld base (replies_to g m id q name r)
  replied_held g m id q name r b =
      let h = entered g (entries_of (next_position g) q name r) in tells_held h m (reply_told h id name r) (more_held g (entries_of (next_position g) q name r) b)

  requests_held : (g : Gate) (m : ℕ) (id : Option Data) (q : Request) (name : Option Ask) (n : ℕ) → IsHeld base g → IsHeld base (done_in g m id q name n)
  requests_held g m id q name n b =
      let k = in_session n q.act in let r = reply_to g k in let h = replies_to g m id q name r in
      informs_held (ran h k) (entries_of (next_position g) q name r) (ran_held h k (replied_held g m id q name r b))

  -- a step is told
  landed_held : (g : Gate) (e : Entry) (o : Outcome) → IsHeld base g → IsHeld base (landed g e o)
  landed_held g e o b =
      let h = entered g (e ∷ []) in let told = step_told g o in let i = went_on h o told in
      (held_kit 0).settle (informs i (e ∷ [])) (informs_held i (e ∷ []) (outcome_held h o told (more_held g (e ∷ []) b)))

  takes_held : (g : Gate) (s : Step) → IsHeld base g → IsHeld base (takes g s)
  takes_held g s b = by (is_some (fault_of g s)) (was_taken g s) (stepped (map fact_of s.requests) g.machine)
    where
      by : (d p : Bool) (o : Option Outcome) → IsHeld base (cond d (record g { dead = true }) (cond p g (if_some o g (landed g (entry_of s)))))
      by true p o = record { front = b.front; kept = b.kept; sent = b.sent; clients = b.clients }
      by false true o = b
      by false false None = b
      by false false (Some o) = landed_held g (entry_of s) o b

  answered_held : (h : Gate) (m : ℕ) (before : Client) → AllByRecursion (λ (s : Shown). IsFront s.entries h.entries) before.unsynced → IsHeld base h → IsHeld base (record h { clients = at_client m (answered before) h.clients })
  answered_held h m before a b = one_held h m (answered before)
      (λ c x. record {
        name = x.name;
        sendable = x.sendable;
        unsynced = all_more (λ (s : Shown). IsFront s.entries h.entries) before.unsynced (map (λ (s : Shown). record s { answers = true }) (drop (length before.unsynced) c.unsynced)) a
            (answering_all h.entries (drop (length before.unsynced) c.unsynced) (all_dropped (λ (s : Shown). IsFront s.entries h.entries) (length before.unsynced) c.unsynced x.unsynced));
      }) b

-- ---- events

based : (base other : List Entry) (g : Gate) → IsFront other g.entries → IsHeld base g → IsHeld other g
based base other g f b = record { front = f; kept = b.kept; sent = b.sent; clients = b.clients }

name_opened : (g : Gate) (m : ℕ) (token : List ℕ) (t : Token) → token_for g m token ≡ Some t → is_name t.role ≡ true
name_opened g m token t h = by (token_of g.tokens (sha256 token)) h
  where
    test : (r : Token) (b : Bool) → (is_name r.role && (is_free m g.clients && has_session g r.role)) ≡ b → cond b (Some r) None ≡ Some t → is_name t.role ≡ true
    test r true x e =
        ap (λ (z : Token). is_name z.role) (sym (same-Some r t e)) ∙ (and-both_true (is_name r.role) (is_free m g.clients && has_session g r.role) x).0
    test r false x e = absurd (not_None-Some t (sym e))

    by : (o : Option Token) → option_and_then (λ (r : Token). cond (is_name r.role && (is_free m g.clients && has_session g r.role)) (Some r) None) o ≡ Some t → is_name t.role ≡ true
    by None e = absurd (not_None-Some t (sym e))
    by (Some r) e = test r (is_name r.role && (is_free m g.clients && has_session g r.role)) refl e

itself_shows : (es : List Entry) (ts : List Told) → AllByRecursion (λ (s : Shown). IsFront s.entries es) (map (told_itself es) ts)
itself_shows es [] = tt
itself_shows es (t ∷ ts) = (IsFront-itself es, itself_shows es ts)

came_held : (g : Gate) (m : ℕ) (token : List ℕ) → IsHeld [] g → IsHeld [] (came g m token)
came_held g m token b = came_keeps (IsHeld []) (held_kit []) g m token
    (λ h t e x. let at = at_text h t in let who = fresh h.entries t at in put_held [] h m (Some who)
    (λ c same. subst (IsHolding (take h.kept h.entries) h.entries) (same-Some who c same) (record { name = name_opened g m token t e; sendable = tt; unsynced = itself_shows h.entries (greeting h.entries t.role at) })) x) b

nobody_new : (Q : Client → Type 0) (c : Client) → None ≡ Some c → Q c
nobody_new Q c e = absurd (not_None-Some c (sym e))

went_held : (g : Gate) (m : ℕ) → IsHeld [] g → IsHeld [] (went g m)
went_held g m b = went_keeps (IsHeld []) (held_kit []) g m (λ x. put_held [] g m None (λ c e. nobody_new (IsHolding (take g.kept g.entries) g.entries) c e) x) b

said_held : (g : Gate) (m : ℕ) (text : List ℕ) → IsHeld [] g → IsHeld [] (said g m text)
said_held g m text b =
    let h = said g m text in
    let y = said_keeps (IsHeld g.entries) (held_kit g.entries) g m text (λ c e. record {
      says = λ x. one_held g.entries g m (saying text) (λ d z. record { name = z.name; sendable = z.sendable; unsynced = z.unsynced }) x;
      answers = λ i x. answered_held g.entries i m c
          (AllByRecursion-map {P = λ (s : Shown). IsFront s.entries g.entries} {Q = λ (s : Shown). IsFront s.entries i.entries} (λ s f. front_then s.entries g.entries i.entries f x.front) c.unsynced (b.clients m c e).unsynced) x;
      asks = λ id act name n t shared seat x. requests_held g.entries (record g { clients = at_client m (saying text) g.clients }) m id (request_of c text act) name n x;
      refuses = λ id act a r t shared x. replied_held g.entries (record g { clients = at_client m (saying text) g.clients }) m id (request_of c text act) (Some a) (refused r) x;
    }) (based [] g.entries g (IsFront-itself g.entries) b) in
    based g.entries [] h (h.entries, refl) y

known_held : (g : Gate) (tokens : List Token) → IsHeld [] g → IsHeld [] (knowing g tokens)
known_held g tokens b = record {
  front = b.front;
  kept = b.kept;
  sent = b.sent;
  clients = every_client (IsHolding (take g.kept g.entries) g.entries) (IsHolding (take g.kept g.entries) g.entries) (checked tokens)
      (λ c x. holding_checked (take g.kept g.entries) g.entries tokens c x) g.clients b.clients;
}

ticked_held : (g : Gate) → IsHeld [] g → IsHeld [] (ticking g)
ticked_held g b = record {
  front = b.front;
  kept = b.kept;
  sent = b.sent;
  clients = every_client (IsHolding (take g.kept g.entries) g.entries) (IsHolding (take g.kept g.entries) g.entries) (beating g.entries)
      (λ c x. let y = holding_one (take g.kept g.entries) g.entries alive c x in record { name = y.name; sendable = y.sendable; unsynced = y.unsynced }) g.clients b.clients;
}

all_kept : (es : List Entry) → take (length es) es ≡ es
all_kept es = take-length es

synced_held : (g : Gate) → IsHeld [] g → IsHeld [] (on_disk g)
synced_held g b =
    let f : IsFront (take g.kept g.entries) g.entries = IsFront-take g.kept g.entries in
    record {
      front = b.front;
      kept = omega arith;
      sent = subst (λ z. AllByRecursion (λ (s : Shown). IsFront s.entries z) g.sent) (sym (all_kept g.entries))
          (AllByRecursion-map {P = λ (s : Shown). IsFront s.entries (take g.kept g.entries)} {Q = λ (s : Shown). IsFront s.entries g.entries}
          (λ s x. front_then s.entries (take g.kept g.entries) g.entries x f) g.sent b.sent);
      clients = subst (λ z. AllClients (IsHolding z g.entries) (at_all released g.clients)) (sym (all_kept g.entries))
          (every_client (IsHolding (take g.kept g.entries) g.entries) (IsHolding g.entries g.entries) released (λ c x. holding_released (take g.kept g.entries) g.entries c f x) g.clients b.clients);
    }

handed_held : (g : Gate) (m : ℕ) → IsHeld [] g → IsHeld [] (hands g m)
handed_held g m b = record {
  front = b.front;
  kept = b.kept;
  sent = all_more (λ (s : Shown). IsFront s.entries (take g.kept g.entries)) g.sent (if_some (client_at g.clients m) [] (λ c. c.sendable)) b.sent
      (by (client_at g.clients m) (λ c e. (b.clients m c e).sendable));
  clients = one_client (IsHolding (take g.kept g.entries) g.entries) m handing g.clients (λ c e x. holding_handing (take g.kept g.entries) g.entries c x) b.clients;
}
  where
    by : (o : Option Client) → ((c : Client) → o ≡ Some c → AllByRecursion (λ (s : Shown). IsFront s.entries (take g.kept g.entries)) c.sendable)
        → AllByRecursion (λ (s : Shown). IsFront s.entries (take g.kept g.entries)) (if_some o [] (λ c. c.sendable))
    by None k = tt
    by (Some c) k = k c refl

happens_held : (g : Gate) (e : Event) → IsHeld [] g → IsHeld [] (happens g e)
happens_held g (presented m token) b = came_held g m token b
happens_held g (message m text) b = said_held g m text b
happens_held g (gone m) b = went_held g m b
happens_held g (known tokens) b = known_held g tokens b
happens_held g ticked b = ticked_held g b
happens_held g synced b = synced_held g b
happens_held g (handed m) b = handed_held g m b
happens_held g (arrived s) b = takes_held [] g s b
happens_held g led b = record { front = b.front; kept = b.kept; sent = b.sent; clients = b.clients }
happens_held g forgave b = record { front = b.front; kept = b.kept; sent = b.sent; clients = b.clients }
happens_held g failed b = record { front = b.front; kept = b.kept; sent = b.sent; clients = b.clients }

pub next_held : (g : Gate) (e : Event) → IsHeld [] g → IsHeld [] (next g e)
next_held g e b = by g.dead
  where
    by : (t : Bool) → IsHeld [] (cond t g (happens g e))
    by true = b
    by false = happens_held g e b

-- ---- runs

restored_held : (cap : ℕ) (tokens : List Token) (most : ℕ) (head : Head) (sent : List Shown) (journal : List Line) (h : Gate) → Restores (gate_at_start cap tokens most head sent) journal h
    → AllByRecursion (λ (s : Shown). IsFront s.entries h.entries) sent → IsHeld [] h
restored_held cap tokens most head sent journal h r a = subst (IsHeld []) (sym r.leads.gate) (record {
  front = (h.entries, refl);
  kept = omega arith;
  sent = subst (λ z. AllByRecursion (λ (s : Shown). IsFront s.entries z) sent) (sym (all_kept h.entries)) a;
  clients = λ m c e. absurd (not_client_at-replicate most m c e);
})

pub same-journal_of : ReadsBack → (es fs : List Entry) → AllByRecursion IsEntry es → AllByRecursion IsEntry fs → journal_of es ≡ journal_of fs → es ≡ fs
same-journal_of reads es fs w v h = by (Compared-journal_of reads es fs [] [] w v (append-nil (journal_of es) ∙ (h ∙ sym (append-nil (journal_of fs)))))
  where
    by : Compared es fs [] [] → es ≡ fs
    by (same a b) = a
    by (shorter f more a b) = absurd (not_nothing-journal_of f more [] (IsEntry-append es fs f more a v) b)
    by (longer e more a b) = absurd (not_nothing-journal_of e more [] (IsEntry-append fs es e more a w) b)

pub IsFront-take_take : (n m : ℕ) (es : List Entry) → n ≤ m → IsFront (take n es) (take m es)
IsFront-take_take zero m es h = (take m es, refl)
IsFront-take_take (suc n) zero es h = absurd (let no : ⊥ = omega (arith, h) in no)
IsFront-take_take (suc n) (suc m) [] h = ([], refl)
IsFront-take_take (suc n) (suc m) (e ∷ es) h = let x = IsFront-take_take n m es (omega (arith, h)) in (x.0, ap (λ z. e ∷ z) x.1)

-- what is on disk leads to all that was kept
pub kept_again : ReadsBack → (g h : Gate) (disk : List Line) (start : Gate) → AllByRecursion IsEntry g.entries → LeavesOnDisk g disk → Restores start disk h
    → IsFront (take g.kept g.entries) h.entries
kept_again reads g h disk start w l r =
    subst (IsFront (take g.kept g.entries)) (same-journal_of reads (take l.0 g.entries) h.entries (AllByRecursion-take IsEntry l.0 g.entries w) r.leads.well (sym l.2 ∙ r.all)) (IsFront-take_take g.kept l.0 g.entries l.1)

-- ---- the journal

said_booked : Texts → (g : Gate) (m : ℕ) (text : List ℕ) → IsHeld [] g → IsBooked g → IsBooked (said g m text)
said_booked texts g m text b k = by (client_at g.clients m) refl
  where
    head : (c : Client) → (hears g m c text).head ≡ g.head
    head c = step_done m (Keeps (HasHead g.head)) (head_kit g.head m) (asked g m text) (HasHead g.head) (λ h f. f refl) c text (said_by text) (λ id act name n e s t. refl) (λ id act a r e s. refl)

    heard : (c : Client) → client_at g.clients m ≡ Some c → (t : Bool) → IsBooked (cond t (hears g m c text) g)
    heard c e false = k
    heard c e true =
        let i = asked g m text in let x = said_more texts i c text (b.clients m c e).name (said_by text) refl in
        IsBooked-MayAdd g (hears g m c text) (said_added i c text (said_by text)) (entries-done_for i m c text (said_by text)) (head c)
        (record { well = x.well; names = x.names; steps = x.steps }) k

    by : (o : Option Client) → client_at g.clients m ≡ o → IsBooked (if_some o g (λ c. cond (may_say c) (hears g m c text) g))
    by None e = k
    by (Some c) e = heard c e (may_say c)

takes_booked : (g : Gate) (s : Step) → IsEntry (entry_of s) → IsBooked g → IsBooked (takes g s)
takes_booked g s w k = by (is_some (fault_of g s)) refl (was_taken g s) refl (stepped (map fact_of s.requests) g.machine)
  where
    by : (d : Bool) → is_some (fault_of g s) ≡ d → (p : Bool) → was_taken g s ≡ p → (o : Option Outcome)
        → IsBooked (cond d (record g { dead = true }) (cond p g (if_some o g (landed g (entry_of s)))))
    by true e p f o = IsBooked-same_entries g (record g { dead = true }) refl refl k
    by false e true f o = k
    by false e false f None = k
    by false e false f (Some o) =
        let n = IsNext-fault_of g s e f in IsBooked-MayAdd g (landed g (entry_of s) o) (entry_of s ∷ []) refl refl (MayAdd-entry_of g s w n.new n.rises) k

happens_booked : Texts → (g : Gate) (e : Event) → IsWell e → IsHeld [] g → IsBooked g → IsBooked (happens g e)
happens_booked texts g (presented m token) w b k =
    IsBooked-same_entries g (came g m token) (entries-came g m token) (came_keeps (HasHead g.head) (head_kit g.head) g m token (λ h t e y. y) refl) k
happens_booked texts g (message m text) w b k = said_booked texts g m text b k
happens_booked texts g (gone m) w b k = IsBooked-same_entries g (went g m) (entries-went g m) (went_keeps (HasHead g.head) (head_kit g.head) g m (λ y. y) refl) k
happens_booked texts g (known tokens) w b k = IsBooked-same_entries g (knowing g tokens) refl refl k
happens_booked texts g ticked w b k = IsBooked-same_entries g (ticking g) refl refl k
happens_booked texts g synced w b k = IsBooked-same_entries g (on_disk g) refl refl k
happens_booked texts g (handed m) w b k = IsBooked-same_entries g (hands g m) refl refl k
happens_booked texts g (arrived s) w b k = takes_booked g s w.0 k
happens_booked texts g led w b k = IsBooked-same_entries g (record g { leads = is_some g.head.log }) refl refl k
happens_booked texts g forgave w b k = IsBooked-same_entries g (record g { forgiven = length g.entries }) refl refl k
happens_booked texts g failed w b k = IsBooked-same_entries g (record g { dead = true }) refl refl k

next_booked : Texts → (g : Gate) (e : Event) → IsWell e → IsHeld [] g → IsBooked g → IsBooked (next g e)
next_booked texts g e w b k = by g.dead
  where
    by : (t : Bool) → IsBooked (cond t g (happens g e))
    by true = k
    by false = happens_booked texts g e w b k

restored_booked : (cap : ℕ) (tokens : List Token) (most : ℕ) (head : Head) (sent : List Shown) (journal : List Line) (h : Gate) → Restores (gate_at_start cap tokens most head sent) journal h → IsBooked h
restored_booked cap tokens most head sent journal h r =
    let same : h.head ≡ head = ap (λ (x : Gate). x.head) r.leads.gate in
    record {
      well = r.leads.well;
      names = ap (λ z. first_known 1 (names_in h.entries) (known_at z)) same ∙ r.leads.names;
      steps = ap (λ (z : Head). are_rising z.position h.entries) same ∙ r.leads.steps;
    }

-- ---- runs

pub record IsWritten (g : Gate) : Type 0 where
  pub held : IsHeld [] g
  pub booked : IsBooked g

pub IsWritten-Runs : ReadsBack → Texts → (cap : ℕ) (g : Gate) → Runs cap g → IsWritten g
IsWritten-Runs reads texts cap _ (begins tokens most head journal g r) =
    record { held = restored_held cap tokens most head [] journal g r tt; booked = restored_booked cap tokens most head [] journal g r }
IsWritten-Runs reads texts cap _ (goes_on g e w r) =
    let b = IsWritten-Runs reads texts cap g r in record { held = next_held g e b.held; booked = next_booked texts g e w b.held b.booked }
IsWritten-Runs reads texts cap _ (begins_again g disk tokens most h r l x) =
    let b = IsWritten-Runs reads texts cap g r in let start = gate_at_start cap tokens most g.head g.sent in
    record {
      held = restored_held cap tokens most g.head g.sent disk h x
          (AllByRecursion-map {P = λ (s : Shown). IsFront s.entries (take g.kept g.entries)} {Q = λ (s : Shown). IsFront s.entries h.entries}
          (λ s f. front_then s.entries (take g.kept g.entries) h.entries f (kept_again reads g h disk start b.booked.well l x)) g.sent b.held.sent);
      booked = restored_booked cap tokens most g.head g.sent disk h x;
    }

pub SentIsKept-Runs : ReadsBack → Texts → (cap : ℕ) (g : Gate) → Runs cap g → SentIsKept g
SentIsKept-Runs reads texts cap g r =
    let b = (IsWritten-Runs reads texts cap g r).held in record { sent = b.sent; sendable = λ m c h. (b.clients m c h).sendable }

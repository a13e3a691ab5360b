-- An event's texts show the entries that are accepted after it, and answer a client's own message if the event is that.
use Rattle.std.proofs.Common.{◌≡◌, ℕ, Bool, true, false, cond, ◌||◌, List, [], ◌∷◌, ◌++◌, drop, length, map, set, Option, Some, None, option_map, is_some, refl, ap, ◌∙◌, sym, subst, append-nil}
use Rattle.std.specs.Prelude.{◌==◌, ◌&&◌, flat_map}
use Rattle.std.specs.List.{AllByRecursion}
use Rattle.std.proofs.Math.Seq.{drop-append_seam}
use Rattle.std.proofs.lemmas.Bool.{false≢true, eqb-true, eqb-false}
use Rattle.std.proofs.lemmas.List.Concat.{flat_map-append}
use Rattle.serde_json.specs.Data.{Data}
use Rattle.iv_rows.specs.Options.{if_some}
use Rattle.iv_machine.specs.Act.{Command, Reply, refused}
use Rattle.iv_machine.specs.Machine.{step, Outcome}
use Rattle.iv_message.specs.Told.{Told, alive, settled}
use Rattle.iv_clients.specs.Clients.{Client, Shown, Slots, all_shown, answered, at_all, at_client, beating, checked, client_at, closing, dropping, following, fresh, handing, is_slow, may_say, moved, opens, released, saying, settling, staying, telling, told_one}
use Rattle.iv_records.specs.Journal.{Entry, said_by, shape_for, Request}
use Rattle.iv_clients.specs.Tokens.{Token}
use Rattle.iv_clients.proofs.Slots.{client_at-at_all, client_at-at_other_client, client_at-at_client, is_free-client_at, same-Some, client_at-set_None, client_at-set_other, not_None-Some}
use Rattle.iv_gate.specs.Events.{Event, presented, message, gone, known, ticked, synced, handed, failed, happens, next, arrived, forgave, led}
use Rattle.iv_gate.specs.Gate.{Gate, came, done_for, entered, hears, in_session, ran, reply_to, done_in, token_for, said, settles, told_of, went, entries_of, informs, at_text, replies_to, reply_told, next_position}
use Rattle.iv_gate.specs.Replies.{ByClient, heard_by}
use Rattle.iv_gate.proofs.GrownTexts.{Grown, append-associative, all_shown-Grown}
use Rattle.iv_gate.proofs.TextsAndDisk.{all_more}
use Rattle.iv_gate.proofs.SoundSteps.{AllByRecursion-map}
use Rattle.iv_gate.proofs.StepRelations.{Keeps, Steps, came_keeps, step_done, went_keeps, request_of}
use Rattle.iv_gate.proofs.EventMarks.{next-alive as is_alive, client_at-is_gone, Opens-token_for, next-dead}
use Rattle.iv_once.specs.Names.{Ask}
use Rattle.iv_gate.specs.Arriving.{Step, entry_of, fact_of, fault_of, was_taken, landed, takes}
use Rattle.iv_gate.proofs.ClientFacts.{client_at-landed, landed_client, step_told}
use Rattle.iv_steps.specs.Steps.{stepped}

-- ---- one client

-- text that shows these entries, and answers a message or not
pub record Shows (es : List Entry) (b : Bool) (s : Shown) : Type 0 where
  pub entries : s.entries ≡ es
  pub answers : s.answers ≡ b

-- it was told more, which waits and shows these entries
pub record HearsMore (es : List Entry) (c d : Client) : Type 0 where
  pub grown : Grown c d
  pub shows : AllByRecursion (Shows es false) grown.more

told_same : (es : List Entry) (c d : Client) → d.handed ≡ c.handed → d.sendable ≡ c.sendable → d.unsynced ≡ c.unsynced → HearsMore es c d
told_same es c d h s u = record { grown = record { more = []; handed = h; sendable = s; unsynced = u ∙ sym (append-nil c.unsynced) }; shows = tt }

told_then : (es : List Entry) (b c d : Client) → HearsMore es b c → HearsMore es c d → HearsMore es b d
told_then es b c d x y = record {
  grown = record {
    more = x.grown.more ++ y.grown.more;
    handed = y.grown.handed ∙ x.grown.handed;
    sendable = y.grown.sendable ∙ x.grown.sendable;
    unsynced = y.grown.unsynced ∙ (ap (λ z. z ++ y.grown.more) x.grown.unsynced ∙ append-associative b.unsynced x.grown.more y.grown.more);
  };
  shows = all_more (Shows es false) x.grown.more y.grown.more x.shows y.shows;
}

told_more : (es : List Entry) (t : Told) (c : Client) → HearsMore es c (told_one es t c)
told_more es t c = record {
  grown = record { more = record { told = t; entries = es; answers = false } ∷ []; handed = refl; sendable = refl; unsynced = refl };
  shows = (record { entries = refl; answers = refl }, tt);
}

told_all : (es : List Entry) (ts : List Told) (c : Client) → HearsMore es c (telling es ts c)
told_all es [] c = told_same es c c refl refl refl
told_all es (t ∷ ts) c = told_then es c (told_one es t c) (telling es ts (told_one es t c)) (told_more es t c) (told_all es ts (told_one es t c))

-- the same, where what is no text of it is another
told_as : (es : List Entry) (c d e : Client) → e.handed ≡ d.handed → e.sendable ≡ d.sendable → e.unsynced ≡ d.unsynced → HearsMore es c d → HearsMore es c e
told_as es c d e h s u x = told_then es c d e x (told_same es d e h s u)

told_settling : (es : List Entry) (c : Client) → HearsMore es c (settling es c)
told_settling es c = by c.owed
  where
    by : (t : Bool) → HearsMore es c (cond t (record (told_one es settled c) { owed = false }) c)
    by true = told_as es c (told_one es settled c) (record (told_one es settled c) { owed = false }) refl refl refl (told_more es settled c)
    by false = told_same es c c refl refl refl

-- ---- all clients that were there

pub record Follows (es : List Entry) (slots : Slots) (j : ℕ) (c : Client) : Type 0 where
  pub now : Client
  pub there : client_at slots j ≡ Some now
  pub so : HearsMore es c now

abbrev AllFollow : List Entry → Slots → Slots → Type 0
AllFollow es old slots = (j : ℕ) (c : Client) → client_at old j ≡ Some c → Follows es slots j c

follow_start : (es : List Entry) (slots : Slots) → AllFollow es slots slots
follow_start es slots j c h = record { now = c; there = h; so = told_same es c c refl refl refl }

follow_all : (es : List Entry) (f : Client → Client) → ((c : Client) → HearsMore es c (f c)) → (old slots : Slots) → AllFollow es old slots → AllFollow es old (at_all f slots)
follow_all es f k old slots a j c h =
    let p = a j c h in
    record { now = f p.now; there = client_at-at_all f slots j ∙ ap (option_map f) p.there; so = told_then es c p.now (f p.now) p.so (k p.now) }

follow_one : (es : List Entry) (m : ℕ) (f : Client → Client) → ((c : Client) → HearsMore es c (f c)) → (old slots : Slots) → AllFollow es old slots → AllFollow es old (at_client m f slots)
follow_one es m f k old slots a j c h = by (m == j) refl
  where
    by : (t : Bool) → (m == j) ≡ t → Follows es (at_client m f slots) j c
    by true e =
        let p = a j c h in let same = eqb-true m j e in
        record {
          now = f p.now;
          there = ap (λ i. client_at (at_client i f slots) j) same ∙ (client_at-at_client j f slots ∙ ap (option_map f) p.there);
          so = told_then es c p.now (f p.now) p.so (k p.now);
        }
    by false e = let p = a j c h in record { now = p.now; there = client_at-at_other_client m j f slots (eqb-false m j e) ∙ p.there; so = p.so }

-- ---- gateways: the entries are these, and whoever was there was told more that shows them

record IsTelling (es : List Entry) (old : Slots) (g : Gate) : Type 0 where
  entries : g.entries ≡ es
  clients : AllFollow es old g.clients

module _ (es : List Entry) (old : Slots) where
  every_tells : (g : Gate) (f : Client → Client) → ((c : Client) → HearsMore g.entries c (f c)) → IsTelling es old g → AllFollow es old (at_all f g.clients)
  every_tells g f k b = follow_all es f (λ c. subst (λ z. HearsMore z c (f c)) b.entries (k c)) old g.clients b.clients

  one_tells : (g : Gate) (m : ℕ) (f : Client → Client) → ((c : Client) → HearsMore g.entries c (f c)) → IsTelling es old g → IsTelling es old (record g { clients = at_client m f g.clients })
  one_tells g m f k b = record { entries = b.entries; clients = follow_one es m f (λ c. subst (λ z. HearsMore z c (f c)) b.entries (k c)) old g.clients b.clients }

  ran_tells : (g : Gate) (k : Command) → IsTelling es old g → IsTelling es old (ran g k)
  ran_tells g k b = record {
    entries = b.entries;
    clients = every_tells g (λ c. staying (step g.machine k).lines (telling g.entries (told_of g k.act (step g.machine k) c) c))
        (λ c. let ts = told_of g k.act (step g.machine k) c in
        told_as g.entries c (telling g.entries ts c) (staying (step g.machine k).lines (telling g.entries ts c)) refl refl refl (told_all g.entries ts c)) b;
  }

  informs_tells : (g : Gate) (fs : List Entry) → IsTelling es old g → IsTelling es old (informs g fs)
  informs_tells g fs b = record {
    entries = b.entries;
    clients = every_tells g (λ c. telling g.entries (shape_for c.role fs) c) (λ c. told_all g.entries (shape_for c.role fs) c) b;
  }

  telling_kit : (m : ℕ) → Steps m (Keeps (IsTelling es old))
  telling_kit m = record {
    same = λ g b. b;
    chain = λ g h i x y b. y (x b);
    run = λ g k e b. ran_tells g k b;
    settle = λ g b. record { entries = b.entries; clients = every_tells g (settling g.entries) (told_settling g.entries) b };
    tell = λ g t _ b. one_tells g m (told_one g.entries t) (told_more g.entries t) b;
    seat = λ g seats b. record { entries = b.entries; clients = b.clients };
    feed = λ g feeds b. record { entries = b.entries; clients = b.clients };
    follow = λ g k b. one_tells g m (following k) (λ c. told_same g.entries c (following k c) refl refl refl) b;
    move = λ g t k b. one_tells g m (moved t k) (λ c. told_same g.entries c (moved t k c) refl refl refl) b;
    close = λ g own b. one_tells g m (closing own) (λ c. told_same g.entries c (closing own c) refl refl refl) b;
  }

-- ---- what an event tells a client

pub record IsShowing (es : List Entry) (answers : Bool) (c d : Client) : Type 0 where
  pub more : List Shown
  pub shown : all_shown d ≡ all_shown c ++ more
  pub shows : AllByRecursion (Shows es answers) more

nothing_more : (es : List Entry) (answers : Bool) (c d : Client) → all_shown d ≡ all_shown c → IsShowing es answers c d
nothing_more es answers c d e = record { more = []; shown = e ∙ sym (append-nil (all_shown c)); shows = tt }

same_client : (es : List Entry) (answers : Bool) (slots : Slots) (j : ℕ) (c d : Client) → client_at slots j ≡ Some c → client_at slots j ≡ Some d → IsShowing es answers c d
same_client es answers slots j c d h k = nothing_more es answers c d (ap all_shown (same-Some d c (sym k ∙ h)))

showing : (es : List Entry) (c d : Client) → HearsMore es c d → IsShowing es false c d
showing es c d x = record { more = x.grown.more; shown = all_shown-Grown c d x.grown; shows = x.shows }

followed_by : (es : List Entry) (slots : Slots) (j : ℕ) (c d : Client) → Follows es slots j c → client_at slots j ≡ Some d → IsShowing es false c d
followed_by es slots j c d p k = subst (IsShowing es false c) (same-Some p.now d (sym p.there ∙ k)) (showing es c p.now p.so)

-- a token is presented
came_shows : (g : Gate) (m : ℕ) (token : List ℕ) (j : ℕ) (c d : Client) → client_at g.clients j ≡ Some c → client_at (came g m token).clients j ≡ Some d
    → IsShowing (came g m token).entries false c d
came_shows g m token j c d h k =
    let b = came_keeps (IsTelling g.entries g.clients) (telling_kit g.entries g.clients) g m token
    (λ i who e x. record {
      entries = x.entries;
      clients = λ n a t. let p = x.clients n a t in record {
        now = p.now;
        there = client_at-set_other m n (Some (fresh i.entries who (at_text i who))) i.clients (free who e n a t) ∙ p.there;
        so = p.so;
      };
    })
    (record { entries = refl; clients = follow_start g.entries g.clients }) in
    subst (λ z. IsShowing z false c d) (sym b.entries) (followed_by g.entries (came g m token).clients j c d (b.clients j c h) k)
  where
    free : (who : Token) → token_for g m token ≡ Some who → (n : ℕ) (a : Client) → client_at g.clients n ≡ Some a → m ≡ n → ⊥
    free who e n a t same = false≢true (sym (is_free-client_at m a g.clients (ap (client_at g.clients) same ∙ t)) ∙ (Opens-token_for g m token who e).free)

-- a client goes
went_shows : (g : Gate) (m j : ℕ) (c d : Client) → (m ≡ j → ⊥) → client_at g.clients j ≡ Some c → client_at (went g m).clients j ≡ Some d → IsShowing (went g m).entries false c d
went_shows g m j c d ne h k =
    let left = set g.clients m None in
    let b = went_keeps (IsTelling g.entries left) (telling_kit g.entries left) g m
    (λ x. record { entries = x.entries; clients = follow_start g.entries left })
    (record { entries = refl; clients = λ n a t. was n a t (m == n) refl }) in
    subst (λ z. IsShowing z false c d) (sym b.entries)
    (followed_by g.entries (went g m).clients j c d (b.clients j c (client_at-set_other m j None g.clients ne ∙ h)) k)
  where
    was : (n : ℕ) (a : Client) → client_at (set g.clients m None) n ≡ Some a → (t : Bool) → (m == n) ≡ t → Follows g.entries g.clients n a
    was n a t true e = absurd (not_None-Some a (sym t ∙ (ap (λ i. client_at (set g.clients i None) n) (eqb-true m n e) ∙ client_at-set_None n g.clients)))
    was n a t false e =
        record { now = a; there = sym (client_at-set_other m n None g.clients (eqb-false m n e)) ∙ t; so = told_same g.entries a a refl refl refl }

-- a message

abbrev Reached : Slots → Gate → Type 0
Reached old h = AllFollow h.entries old h.clients

done_reaches : (g : Gate) (m : ℕ) (c : Client) (text : List ℕ) → Reached g.clients (done_for g m c text (said_by text))
done_reaches g m c text =
    step_done m (Keeps (IsTelling g.entries g.clients)) (telling_kit g.entries g.clients m) g (Reached g.clients)
    (λ h f. let x = f (record { entries = refl; clients = follow_start g.entries g.clients }) in subst (λ z. AllFollow z g.clients h.clients) (sym x.entries) x.clients)
    c text (said_by text)
    (λ id act name n e shared seat. asked id (request_of c text act) name n) (λ id act a r e shared. (shown_reply id (request_of c text act) (Some a) (refused r)).clients)
  where
    -- the reply comes when its entry is accepted
    shown_reply : (id : Option Data) (q : Request) (name : Option Ask) (r : Reply) → IsTelling (g.entries ++ entries_of (next_position g) q name r) g.clients (replies_to g m id q name r)
    shown_reply id q name r =
        let i = entered g (entries_of (next_position g) q name r) in
        one_tells i.entries g.clients i m (told_one i.entries (reply_told i id name r)) (told_more i.entries (reply_told i id name r)) (record { entries = refl; clients = follow_start i.entries g.clients })

    asked : (id : Option Data) (q : Request) (name : Option Ask) (n : ℕ) → Reached g.clients (done_in g m id q name n)
    asked id q name n =
        let k = in_session n q.act in let r = reply_to g k in let es = g.entries ++ entries_of (next_position g) q name r in let i = replies_to g m id q name r in
        (informs_tells es g.clients (ran i k) (entries_of (next_position g) q name r) (ran_tells es g.clients i k (shown_reply id q name r))).clients

answering : (es : List Entry) (ss : List Shown) → AllByRecursion (Shows es false) ss → AllByRecursion (Shows es true) (map (λ (s : Shown). record s { answers = true }) ss)
answering es [] a = tt
answering es (s ∷ ss) a = (record { entries = a.0.entries; answers = refl }, answering es ss a.1)

answered_shows : (es : List Entry) (c d : Client) → HearsMore es c d → IsShowing es true c (answered c d)
answered_shows es c d x =
    let more = map (λ (s : Shown). record s { answers = true }) (drop (length c.unsynced) d.unsynced) in
    record {
      more = more;
      shown = all_shown-Grown c (answered c d) (record { more = more; handed = x.grown.handed; sendable = x.grown.sendable; unsynced = refl });
      shows = subst (λ z. AllByRecursion (Shows es true) (map (λ (s : Shown). record s { answers = true }) z))
          (sym (ap (drop (length c.unsynced)) x.grown.unsynced ∙ drop-append_seam c.unsynced x.grown.more)) (answering es x.grown.more x.shows);
    }

heard_shows : (g : Gate) (m : ℕ) (text : List ℕ) (j : ℕ) (b c d : Client) → client_at g.clients m ≡ Some b → may_say b ≡ true → client_at g.clients j ≡ Some c
    → client_at (hears g m b text).clients j ≡ Some d → IsShowing (hears g m b text).entries (is_some (heard_by j c (message m text))) c d
heard_shows g m text j b c d t say h k = by (m == j) refl
  where
    asked : Gate
    asked = record g { clients = at_client m (saying text) g.clients }

    did : Gate
    did = settles (done_for asked m b text (said_by text))

    reaches : AllFollow did.entries asked.clients did.clients
    reaches = follow_all did.entries (settling did.entries) (told_settling did.entries) asked.clients (done_for asked m b text (said_by text)).clients (done_reaches asked m b text)

    by : (e : Bool) → (m == j) ≡ e → IsShowing did.entries (is_some (heard_by j c (message m text))) c d
    by true e =
        let same = eqb-true m j e in
        let one : b ≡ c = same-Some b c (sym t ∙ (ap (client_at g.clients) same ∙ h)) in
        let p = reaches j (saying text c) (ap (λ i. client_at (at_client i (saying text) g.clients) j) same ∙ (client_at-at_client j (saying text) g.clients ∙ ap (option_map (saying text)) h)) in
        let there : client_at (at_client m (answered b) did.clients) j ≡ Some (answered b p.now) =
        ap (λ i. client_at (at_client i (answered b) did.clients) j) same ∙
        (client_at-at_client j (answered b) did.clients ∙ ap (option_map (answered b)) p.there) in
        let it : answered c p.now ≡ d = ap (λ z. answered z p.now) (sym one) ∙ same-Some (answered b p.now) d (sym there ∙ k) in
        let is : true ≡ is_some (heard_by j c (message m text)) =
        sym ((λ i. is_some (cond (e i && ap may_say (sym one) i) (Some text) None)) ∙ ap (λ z. is_some (cond (true && z) (Some text) None)) say) in
        subst (λ z. IsShowing did.entries z c d) is (subst (IsShowing did.entries true c) it (answered_shows did.entries c p.now
        (told_then did.entries c (saying text c) p.now (told_same did.entries c (saying text c) refl refl refl) p.so)))
    by false e =
        let ne = eqb-false m j e in
        let p = reaches j c (client_at-at_other_client m j (saying text) g.clients ne ∙ h) in
        let is : false ≡ is_some (heard_by j c (message m text)) = sym (ap (λ z. is_some (cond (z && may_say c) (Some text) None)) e) in
        subst (λ z. IsShowing did.entries z c d) is
        (followed_by did.entries did.clients j c d p (sym (client_at-at_other_client m j (answered b) did.clients ne) ∙ k))

said_shows : (g : Gate) (m : ℕ) (text : List ℕ) (j : ℕ) (c d : Client) → client_at g.clients j ≡ Some c → client_at (said g m text).clients j ≡ Some d
    → IsShowing (said g m text).entries (is_some (heard_by j c (message m text))) c d
said_shows g m text j c d h k = by (client_at g.clients m) refl k
  where
    test : (b : Client) → client_at g.clients m ≡ Some b → (e : Bool) → may_say b ≡ e → client_at (cond e (hears g m b text) g).clients j ≡ Some d
        → IsShowing (cond e (hears g m b text) g).entries (is_some (heard_by j c (message m text))) c d
    test b t true say x = heard_shows g m text j b c d t say h x
    test b t false say x = same_client g.entries (is_some (heard_by j c (message m text))) g.clients j c d h x

    by : (o : Option Client) → client_at g.clients m ≡ o → client_at (if_some o g (λ b. cond (may_say b) (hears g m b text) g)).clients j ≡ Some d
        → IsShowing (if_some o g (λ b. cond (may_say b) (hears g m b text) g)).entries (is_some (heard_by j c (message m text))) c d
    by None t x = same_client g.entries (is_some (heard_by j c (message m text))) g.clients j c d h x
    by (Some b) t x = test b t (may_say b) refl x

-- text that is gone, or moves on

is_dropped : (es : List Entry) (answers : Bool) (c d : Client) → dropping c ≡ d → d.dropped ≡ false → IsShowing es answers c d
is_dropped es answers c d e s = absurd (false≢true (sym s ∙ sym (ap (λ (x : Client). x.dropped) e)))

every_at : (f : Client → Client) (slots : Slots) (j : ℕ) (c d : Client) → client_at slots j ≡ Some c → client_at (at_all f slots) j ≡ Some d → f c ≡ d
every_at f slots j c d h k = same-Some (f c) d (ap (option_map f) (sym h) ∙ (sym (client_at-at_all f slots j) ∙ k))

checked_shows : (es : List Entry) (answers : Bool) (tokens : List Token) (c d : Client) → checked tokens c ≡ d → d.dropped ≡ false → IsShowing es answers c d
checked_shows es answers tokens c d e s = by (opens tokens c) e
  where
    by : (b : Bool) → cond b c (dropping c) ≡ d → IsShowing es answers c d
    by true x = nothing_more es answers c d (ap all_shown (sym x))
    by false x = is_dropped es answers c d x s

released_shows : (es : List Entry) (answers : Bool) (c d : Client) → released c ≡ d → d.dropped ≡ false → IsShowing es answers c d
released_shows es answers c d e s = by (c.dropped || is_slow c) e
  where
    by : (b : Bool) → cond b (dropping c) (record c { unsynced = []; sendable = c.sendable ++ c.unsynced }) ≡ d → IsShowing es answers c d
    by true x = is_dropped es answers c d x s
    by false x = nothing_more es answers c d (ap all_shown (sym x) ∙ ap (λ z. flat_map (λ ss. ss) c.handed ++ z) (append-nil (c.sendable ++ c.unsynced)))

handing_shows : (es : List Entry) (answers : Bool) (c d : Client) → handing c ≡ d → IsShowing es answers c d
handing_shows es answers c d e = by (length c.sendable == 0) e
  where
    by : (b : Bool) → cond b c (record c { sendable = []; asked = 0; handed = c.handed ++ c.sendable ∷ [] }) ≡ d → IsShowing es answers c d
    by true x = nothing_more es answers c d (ap all_shown (sym x))
    by false x = nothing_more es answers c d (ap all_shown (sym x)
        ∙ (ap (λ z. z ++ c.unsynced) (flat_map-append (λ ss. ss) c.handed (c.sendable ∷ []) ∙ ap (λ z. flat_map (λ ss. ss) c.handed ++ z) (append-nil c.sendable))
        ∙ append-associative (flat_map (λ ss. ss) c.handed) c.sendable c.unsynced))

handed_shows : (es : List Entry) (answers : Bool) (g : Gate) (m j : ℕ) (c d : Client) → client_at g.clients j ≡ Some c → client_at (at_client m handing g.clients) j ≡ Some d → IsShowing es answers c d
handed_shows es answers g m j c d h k = by (m == j) refl
  where
    by : (b : Bool) → (m == j) ≡ b → IsShowing es answers c d
    by true e = handing_shows es answers c d
        (same-Some (handing c) d (ap (option_map handing) (sym h) ∙ (sym (client_at-at_client j handing g.clients) ∙ (ap (λ i. client_at (at_client i handing g.clients) j) (sym (eqb-true m j e)) ∙ k))))
    by false e = same_client es answers g.clients j c d h (sym (client_at-at_other_client m j handing g.clients (eqb-false m j e)) ∙ k)

-- a step
landed_shows : (g : Gate) (e : Entry) (o : Outcome) (c : Client) → HearsMore (g.entries ++ e ∷ []) c (landed_client g e o c)
landed_shows g e o c =
    let es = g.entries ++ e ∷ [] in let ts = step_told g o c in let z = staying o.lines (telling es ts c) in let more = shape_for z.role (e ∷ []) in
    told_then es c (telling es more z) (settling es (telling es more z)) (told_then es c z (telling es more z) (told_as es c (telling es ts c) z refl refl refl (told_all es ts c)) (told_all es more z))
    (told_settling es (telling es more z))

takes_shows : (g : Gate) (s : Step) (j : ℕ) (c d : Client) → client_at g.clients j ≡ Some c → client_at (takes g s).clients j ≡ Some d → IsShowing (takes g s).entries false c d
takes_shows g s j c d t k = by (is_some (fault_of g s)) (was_taken g s) (stepped (map fact_of s.requests) g.machine) k
  where
    by : (x y : Bool) (o : Option Outcome) → let h = cond x (record g { dead = true }) (cond y g (if_some o g (landed g (entry_of s)))) in client_at h.clients j ≡ Some d → IsShowing h.entries false c d
    by true y o i = same_client g.entries false g.clients j c d t i
    by false true o i = same_client g.entries false g.clients j c d t i
    by false false None i = same_client g.entries false g.clients j c d t i
    by false false (Some o) i =
        let e = entry_of s in
        subst (IsShowing (g.entries ++ e ∷ []) false c) (same-Some (landed_client g e o c) d (sym (client_at-landed g e o j c t) ∙ i)) (showing (g.entries ++ e ∷ []) c (landed_client g e o c) (landed_shows g e o c))

happens_shows : (g : Gate) (e : Event) (j : ℕ) (c d : Client) → client_at g.clients j ≡ Some c → client_at (happens g e).clients j ≡ Some d → d.dropped ≡ false
    → IsShowing (happens g e).entries (is_some (heard_by j c e)) c d
happens_shows g (presented m token) j c d h k s = came_shows g m token j c d h k
happens_shows g (message m text) j c d h k s = said_shows g m text j c d h k
happens_shows g (gone m) j c d h k s = by (m == j) refl
  where
    by : (b : Bool) → (m == j) ≡ b → IsShowing (went g m).entries false c d
    by true e = absurd (not_None-Some d (sym k ∙ client_at-is_gone g (gone m) j e))
    by false e = went_shows g m j c d (eqb-false m j e) h k
happens_shows g (known tokens) j c d h k s = checked_shows g.entries false tokens c d (every_at (checked tokens) g.clients j c d h k) s
happens_shows g ticked j c d h k s =
    subst (IsShowing g.entries false c) (every_at (beating g.entries) g.clients j c d h k)
    (showing g.entries c (beating g.entries c) (told_as g.entries c (told_one g.entries alive c) (beating g.entries c) refl refl refl (told_more g.entries alive c)))
happens_shows g synced j c d h k s = released_shows g.entries false c d (every_at released g.clients j c d h k) s
happens_shows g (handed m) j c d h k s = handed_shows g.entries false g m j c d h k
happens_shows g (arrived x) j c d h k s = takes_shows g x j c d h k
happens_shows g led j c d h k s = same_client g.entries false g.clients j c d h k
happens_shows g forgave j c d h k s = same_client g.entries false g.clients j c d h k
happens_shows g failed j c d h k s = same_client g.entries false g.clients j c d h k

next_shows : (g : Gate) (e : Event) (j : ℕ) (c d : Client) → client_at g.clients j ≡ Some c → client_at (next g e).clients j ≡ Some d → d.dropped ≡ false
    → IsShowing (next g e).entries (is_some (heard_by j c e)) c d
next_shows g e j c d h k s = by g.dead refl
  where
    by : (b : Bool) → g.dead ≡ b → IsShowing (next g e).entries (is_some (heard_by j c e)) c d
    by true q =
        same_client (next g e).entries (is_some (heard_by j c e)) g.clients j c d h (ap (λ (x : Gate). client_at x.clients j) (sym (next-dead g e q)) ∙ k)
    by false q =
        subst (λ (x : Gate). IsShowing x.entries (is_some (heard_by j c e)) c d) (sym (is_alive g e q))
        (happens_shows g e j c d h (ap (λ (x : Gate). client_at x.clients j) (sym (is_alive g e q)) ∙ k) s)

-- what is told shows the entries that are accepted then, and comes of the client's own message where the event is that
pub record IsShownBy (g : Gate) (e : Event) (m : ℕ) (c : Client) (s : Shown) : Type 0 where
  pub entries : s.entries ≡ (next g e).entries
  pub answers : s.answers ≡ is_some (heard_by m c e)

pub record IsToldMore (g : Gate) (e : Event) (m : ℕ) (c d : Client) : Type 0 where
  pub more : List Shown
  pub keeps : all_shown d ≡ all_shown c ++ more
  pub shows : AllByRecursion (IsShownBy g e m c) more

pub ByClient-IsToldMore : (g : Gate) (e : Event) → ByClient g e (IsToldMore g e)
ByClient-IsToldMore g e m c d a b =
    let x = next_shows g e m c d a.there b.there b.stays in
    record {
      more = x.more;
      keeps = x.shown;
      shows = AllByRecursion-map {P = Shows (next g e).entries (is_some (heard_by m c e))} {Q = IsShownBy g e m c} (λ s y. record { entries = y.entries; answers = y.answers }) x.more x.shows;
    }

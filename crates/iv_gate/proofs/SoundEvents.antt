-- An event leads from a gateway that is in step with its feeds to another.
use Rattle.std.proofs.Common.{◌≡◌, ℕ, zero, suc, Bool, true, false, cond, not, List, [], ◌∷◌, ◌++◌, length, drop, map, set, Option, Some, None, option_map, refl, ap, ◌∙◌, sym, subst}
use Rattle.std.specs.Prelude.{◌==◌, ◌+◌, ◌&&◌, filter, nat_lt}
use Rattle.std.proofs.lemmas.Bool.{false≢true, eqb-true, eqb-false}
use Rattle.iv_rows.specs.Options.{if_some}
use Rattle.iv_access.specs.Rights.{Name}
use Rattle.iv_clients.specs.Bounds.{most_requests, most_waiting}
use Rattle.iv_clients.specs.Clients.{Client, Shown, Slots, answered, at_client, client_at, fresh, may_say, saying, told, waiting, greeting}
use Rattle.iv_clients.specs.Feeds.{is_of_role, seat_of}
use Rattle.iv_records.specs.Journal.{said_by, Entry}
use Rattle.iv_clients.proofs.Slots.{client_at-at_client, same-Some, client_at-set_other, not_None-Some}
use Rattle.iv_gate.specs.Events.{Event, presented, message, gone, known, ticked, synced, handed, failed, happens, next, arrived, forgave, led}
use Rattle.iv_gate.specs.Gate.{Gate, all_rested, all_swept, begun_for, done_for, hears, token_for, said, seated, settles, went, with_session, at_text}
use Rattle.iv_gate.specs.Replies.{IsClient, replies}
use Rattle.iv_gate.proofs.SoundRequests.{IsHeard, IsSoundGate-done_for, IsSoundGate-seated}
use Rattle.iv_gate.proofs.FinishedSessions.{IsSoundGate-all_rested}
use Rattle.iv_gate.proofs.GrownTexts.{Grown, append-drop_front, Kit-Grown}
use Rattle.iv_gate.proofs.SoundSteps.{IsSoundGate-all_swept, IsSoundClient-said, IsSoundGate-hands, IsSoundGate-knowing, IsSoundGate-on_disk, IsSoundGate-at_client, IsSoundGate-settles, IsSoundGate-ticking, IsSoundClient-told, IsQuiet-greeting}
use Rattle.iv_gate.proofs.SoundCommands.{Adds, IsSoundClient, IsSoundGate, Sounds, seer, Seer}
use Rattle.iv_gate.proofs.EventMarks.{came_as}
use Rattle.iv_gate.proofs.ClientFacts.{to_done, to_settles, to_then}
use Rattle.iv_gate.proofs.ShapeTexts.{told-fresh}
use Rattle.iv_clients.specs.Tokens.{Token}
use Rattle.iv_gate.proofs.StepsTaken.{IsSoundGate-takes}

some_sound : {X : Type 0} (o : Option X) (h : Gate) (f : X → Gate) → IsSoundGate h → ((x : X) → o ≡ Some x → IsSoundGate (f x)) → IsSoundGate (if_some o h f)
some_sound None h f a b = a
some_sound (Some x) h f a b = b x refl

-- who is put where nobody was
pub client_at-set_each : (Q : Client → Type 0) (m : ℕ) (o : Option Client) (slots : Slots) → ((c : Client) → o ≡ Some c → Q c) → ((j : ℕ) (c : Client) → client_at slots j ≡ Some c → Q c)
    → (j : ℕ) (c : Client) → client_at (set slots m o) j ≡ Some c → Q c
client_at-set_each Q m o slots k others j c h = by (m == j) refl
  where
    there : (xs : Slots) (i : ℕ) → client_at (set xs i o) i ≡ Some c → o ≡ Some c
    there [] i t = absurd (not_None-Some c (sym t))
    there (s ∷ ss) zero t = t
    there (s ∷ ss) (suc i) t = there ss i t

    by : (t : Bool) → (m == j) ≡ t → Q c
    by true e = k c (there slots m (ap (client_at (set slots m o)) (eqb-true m j e) ∙ h))
    by false e = others j c (sym (client_at-set_other m j o slots (eqb-false m j e)) ∙ h)

pub IsSoundGate-set : (g : Gate) (m : ℕ) (o : Option Client) → ((c : Client) → o ≡ Some c → IsSoundClient g.machine g.feeds (seer c)) → IsSoundGate g → IsSoundGate (record g { clients = set g.clients m o })
IsSoundGate-set g m o k b = record {
  state = b.state;
  seats = b.seats;
  feeds = b.feeds;
  clients = client_at-set_each (λ c. c.dropped ≡ false → IsSoundClient g.machine g.feeds (seer c)) m o g.clients (λ c e live. k c e) b.clients;
}

fresh_sound : (g : Gate) (es : List Entry) (t : Token) (at : List ℕ) → IsSoundClient g.machine g.feeds (seer (fresh es t at))
fresh_sound g es t at =
    let nothing : Seer = record { role = t.role; given = 0; subs = []; told = []; messages = [] } in
    subst (λ z. IsSoundClient g.machine g.feeds (record { role = t.role; given = 0; subs = []; told = z; messages = [] })) (sym (told-fresh es t at))
    (IsSoundClient-told g.machine g.feeds (greeting es t.role at) nothing (IsQuiet-greeting es t.role at) (record { own = tt; follows = tt; later = λ own q h. refl; unended = λ own h. refl; spent = λ own h e q. refl }))

with_sound : Adds → Sounds → (g : Gate) (role : Name) → IsSoundGate g → IsSoundGate (with_session g role)
with_sound adds sounds g role b = some_sound (seat_of g.seats role) (if_some (begun_for g role) g (λ n. seated g n role)) (λ n. g)
    (some_sound (begun_for g role) g (λ n. seated g n role) b (λ n e. IsSoundGate-seated adds sounds g role n e b)) (λ n e. b)

came_sound : Adds → Sounds → (g : Gate) (m : ℕ) (t : Token) → IsSoundGate g → IsSoundGate (came_as g m t)
came_sound adds sounds g m t b =
    let h = with_session g t.role in let who = fresh h.entries t (at_text h t) in
    IsSoundGate-set h m (Some who) (λ c e. subst (λ x. IsSoundClient h.machine h.feeds (seer x)) (same-Some who c e) (fresh_sound h h.entries t (at_text h t))) (with_sound adds sounds g t.role b)

went_sound : Adds → Sounds → (g : Gate) (m : ℕ) → IsSoundGate g → IsSoundGate (went g m)
went_sound adds sounds g m b = by (client_at g.clients m)
  where
    by : (o : Option Client) → IsSoundGate (if_some o g (λ c. let h = all_swept (record g { clients = set g.clients m None }) (map (λ s. s.feed) c.subs) in settles (all_rested h (filter (is_of_role c.role) h.seats))))
    by None = b
    by (Some c) =
        let h = all_swept (record g { clients = set g.clients m None }) (map (λ s. s.feed) c.subs) in let ss = filter (is_of_role c.role) h.seats in
        IsSoundGate-settles (all_rested h ss) (IsSoundGate-all_rested adds sounds h ss
        (IsSoundGate-all_swept adds sounds (record g { clients = set g.clients m None }) (map (λ s. s.feed) c.subs) (IsSoundGate-set g m None (λ d e. absurd (not_None-Some d (sym e))) b)))

-- ---- a message

same_told : (ss : List Shown) → map (λ (s : Shown). s.told) (map (λ (s : Shown). record s { answers = true }) ss) ≡ map (λ (s : Shown). s.told) ss
same_told [] = refl
same_told (s ∷ ss) = ap (λ z. s.told ∷ z) (same_told ss)

split_told : (xs ys : List Shown) → map (λ (s : Shown). s.told) (xs ++ ys) ≡ map (λ (s : Shown). s.told) xs ++ map (λ (s : Shown). s.told) ys
split_told [] ys = refl
split_told (x ∷ xs) ys = ap (λ z. x.told ∷ z) (split_told xs ys)

pub told-answered : (b c : Client) → Grown b c → told (answered b c) ≡ told c
told-answered b c x =
    split_told front (c.sendable ++ (b.unsynced ++ marked)) ∙ (ap (λ z. map (λ (s : Shown). s.told) front ++ z) (split_told c.sendable (b.unsynced ++ marked)
    ∙ (ap (λ z. map (λ (s : Shown). s.told) c.sendable ++ z) (split_told b.unsynced marked ∙ (ap (λ z. map (λ (s : Shown). s.told) b.unsynced ++ z) (same_told (drop (length b.unsynced) c.unsynced))
    ∙ (sym (split_told b.unsynced (drop (length b.unsynced) c.unsynced)) ∙ ap (map (λ (s : Shown). s.told)) (sym (append-drop_front b.unsynced x.more c.unsynced x.unsynced)))))
    ∙ sym (split_told c.sendable c.unsynced)))
    ∙ sym (split_told front (c.sendable ++ c.unsynced)))
  where
    front : List Shown
    front = Rattle.std.specs.Prelude.flat_map (λ ss. ss) c.handed

    marked : List Shown
    marked = map (λ (s : Shown). record s { answers = true }) (drop (length b.unsynced) c.unsynced)

-- it was told as many replies as it sent messages, and one to its token
abbrev pub IsEven : Client → Type 0
IsEven c = length (replies (told c)) ≡ length c.messages + 2

hears_sound : Adds → Sounds → (g : Gate) (m : ℕ) (c : Client) (text : List ℕ) → client_at g.clients m ≡ Some c → IsEven c → IsSoundGate g → IsSoundGate (hears g m c text)
hears_sound adds sounds g m c text t even b = IsSoundGate-at_client (settles did) m (answered c)
    (λ d e live. subst (λ z. IsSoundClient did.machine did.feeds (record (seer d) { told = z })) (sym (told-answered c d (grown d e))) (after.clients m d e live)) after
  where
    R : ℕ → Client → Client → Type 0
    R i x y = Grown x y

    asked : Gate
    asked = record g { clients = at_client m (saying text) g.clients }

    did : Gate
    did = done_for asked m c text (said_by text)

    there : client_at asked.clients m ≡ Some (saying text c)
    there = client_at-at_client m (saying text) g.clients ∙ ap (option_map (saying text)) t

    after : IsSoundGate (settles did)
    after = IsSoundGate-settles did (IsSoundGate-done_for adds sounds asked m c text (said_by text) refl
        (λ d e. subst (IsHeard asked m c text) (same-Some (saying text c) d (sym there ∙ e)) (record { role = refl; before = c.messages; messages = refl; pending = even }))
        (IsSoundGate-at_client g m (saying text) (λ d e live. IsSoundClient-said g.machine g.feeds (seer d) text (b.clients m d e live)) b))

    grown : (d : Client) → client_at (settles did).clients m ≡ Some d → Grown c d
    grown d e =
        let p = to_then m R (Kit-Grown m) asked.clients did.clients (settles did).clients (to_done m R (Kit-Grown m) asked c text (said_by text)) (to_settles m R (Kit-Grown m) did) m (saying text c) there in
        let x : Grown (saying text c) d = subst (Grown (saying text c)) (same-Some p.now d (sym p.there ∙ e)) p.so in
        record { more = x.more; handed = x.handed; sendable = x.sendable; unsynced = x.unsynced }

abbrev pub AreEven : Gate → Type 0
AreEven g = (m : ℕ) (c : Client) → IsClient g m c → IsEven c

-- who is to go says nothing
pub dropped-may_say : (c : Client) → may_say c ≡ true → c.dropped ≡ false
dropped-may_say c h = by c.dropped refl h
  where
    by : (d : Bool) → c.dropped ≡ d → (not d && (nat_lt c.asked most_requests && nat_lt (waiting c) most_waiting)) ≡ true → c.dropped ≡ false
    by true e k = absurd (false≢true k)
    by false e k = e

said_sound : Adds → Sounds → (g : Gate) (m : ℕ) (text : List ℕ) → AreEven g → IsSoundGate g → IsSoundGate (said g m text)
said_sound adds sounds g m text even b = some_sound (client_at g.clients m) g (λ c. cond (may_say c) (hears g m c text) g) b (λ c e. test c e (may_say c) refl)
  where
    test : (c : Client) → client_at g.clients m ≡ Some c → (t : Bool) → may_say c ≡ t → IsSoundGate (cond t (hears g m c text) g)
    test c e true t = hears_sound adds sounds g m c text e (even m c (record { there = e; stays = dropped-may_say c t })) b
    test c e false t = b

-- ---- each event

happens_sound : Adds → Sounds → (g : Gate) (e : Event) → AreEven g → IsSoundGate g → IsSoundGate (happens g e)
happens_sound adds sounds g (presented m token) even b = some_sound (token_for g m token) g (came_as g m) b (λ t e. came_sound adds sounds g m t b)
happens_sound adds sounds g (message m text) even b = said_sound adds sounds g m text even b
happens_sound adds sounds g (gone m) even b = went_sound adds sounds g m b
happens_sound adds sounds g (known tokens) even b = IsSoundGate-knowing g tokens b
happens_sound adds sounds g ticked even b = IsSoundGate-ticking g b
happens_sound adds sounds g synced even b = IsSoundGate-on_disk g b
happens_sound adds sounds g (handed m) even b = IsSoundGate-hands g m b
happens_sound adds sounds g (arrived s) even b = IsSoundGate-takes sounds g s b
happens_sound adds sounds g led even b = record { state = b.state; seats = b.seats; feeds = b.feeds; clients = b.clients }
happens_sound adds sounds g forgave even b = record { state = b.state; seats = b.seats; feeds = b.feeds; clients = b.clients }
happens_sound adds sounds g failed even b = record { state = b.state; seats = b.seats; feeds = b.feeds; clients = b.clients }

pub IsSoundGate-next : Adds → Sounds → (g : Gate) (e : Event) → AreEven g → IsSoundGate g → IsSoundGate (next g e)
IsSoundGate-next adds sounds g e even b = by g.dead
  where
    by : (t : Bool) → IsSoundGate (cond t g (happens g e))
    by true = b
    by false = happens_sound adds sounds g e even b

-- What is heard and offered at one number, by what the code answers.
use Rattle.std.proofs.Common.{◌≡◌, ◌<◌, ℕ, String, Global, Bool, true, false, cond, not, ◌&&◌, ◌||◌, List, [], ◌∷◌, ◌++◌, length, Option, Some, None, is_some}
use Rattle.std.proofs.Common.{refl, ap, ◌∙◌, sym, subst}
use Rattle.std.specs.Prelude.{◌==◌, codes, nat_lt, string_bytes}
use Rattle.std.proofs.lemmas.Bool.{false≢true}
use Rattle.sha2.specs.Sha256.{sha256}
use Rattle.httparse.specs.Grammar.{HasNoRequest}
use Rattle.websocket.specs.Content.{Content, text, binary, ping, pong, close}
use Rattle.websocket.specs.Connection.{Connection, Effect}
use Rattle.iv_clients.specs.Tokens.{Token, role_opened}
use Rattle.iv_gate.specs.Events.{handed, message, next, presented, Event, IsWell}
use Rattle.iv_gate.specs.Gate.{Gate, is_heard, token_for}
use Rattle.iv_gate.specs.Laws.{marked}
use Rattle.iv_gate.specs.Laws as law
use Rattle.iv_gateway.specs.Views.{IsGate}
use Rattle.iv_gateway.specs.declared.gateway.Gateway.{Gateway}
use Rattle.iv_peer.specs.declared.peer.Heard.TheVariants as heard
use Rattle.iv_peer.specs.Socket.{Socket, IsAccepted, accepted, bad_request, closed, ending, failed, forget, framed, most_head, refused, stepped}
use Rattle.iv_peer.specs.Socket.{upgrade_required, is_open}
use Rattle.iv_peer.specs.Hearing.{AsksOther, Hears, HearsAs, IsBadHead, IsServer, IsWaiting, accepts, refuses_other, refuses_bad, refuses_long, frames, fails}
use Rattle.iv_peer.specs.Lives.{Lives}
use Rattle.iv_peer.specs.Lives as life
use Rattle.iv_desk.specs.Front.{HearsAt, first_text, has_presented, is_dropped, is_held, later_text, let_go, let_in, most_pending, no_text, nothing, offered_to}
use Rattle.iv_desk.specs.Front.{put_off, text_for, told_some, turned_away}
use Rattle.iv_desk.specs.Desks.{IsHeardOut, IsHearing, IsLived, IsTextNext, place_of}
use Rattle.iv_desk.specs.declared.place.Place.{Place}
use Rattle.iv_desk.specs.declared.place.Hearing.TheVariants.{All, Held, Over}
use Rattle.iv_desk.proofs.PresentedTokens.{AlwaysCarries, SameEffects-closed, Forgets-closed, has_presented-SameEffects, has_presented-no_text, has_presented-text, SameEffects-told_some}
use Rattle.iv_desk.proofs.PresentedTokens.{Forgets-told_some}
use Rattle.iv_desk.proofs.NumberTraffic.{next-no_token}

-- ---- what the code hears is heard

record Lifted (s : Socket) (t : Option (List ℕ)) (r : Socket) : Type 0 where
  socket : Socket
  hears : Hears s t socket
  same : r ≡ forget socket

ending_forgets : (m : Option Content) (s : Socket) → forget (ending m (forget s)) ≡ forget (ending m s)
ending_forgets None s = refl
ending_forgets (Some (text bytes)) s = refl
ending_forgets (Some (binary bytes)) s = refl
ending_forgets (Some (ping bytes)) s = refl
ending_forgets (Some (pong bytes)) s = refl
ending_forgets (Some (close frame)) s = refl

framed_forgets : (n : ℕ) (e : Effect) (s : Socket) → forget (framed n e (forget s)) ≡ forget (framed n e s)
framed_forgets n e s = sym (ending_forgets e.message (stepped n e (forget s))) ∙ ending_forgets e.message (stepped n e s)

lifted : (f s : Socket) (t : Option (List ℕ)) (r : Socket) → f ≡ forget s → Hears f t r → Lifted s t (forget r)
lifted _ s _ _ e (accepts f head rest accept over at is) = record {
  socket = accepted accept rest s;
  hears = accepts s head rest accept (ap (λ (z : Socket). z.over) (sym e) ∙ over) (ap (λ (z : Socket). z.protocol) (sym e) ∙ at)
      (subst (λ z. IsAccepted z head rest accept) (ap (λ (z : Socket). z.input) e) is);
  same = ap (λ z. forget (accepted accept rest z)) e;
}
lifted _ s _ _ e (refuses_other f over at asks) = record {
  socket = refused upgrade_required s;
  hears = refuses_other s (ap (λ (z : Socket). z.over) (sym e) ∙ over) (ap (λ (z : Socket). z.protocol) (sym e) ∙ at)
      (subst AsksOther (ap (λ (z : Socket). z.input) e) asks);
  same = ap (λ z. forget (refused upgrade_required z)) e;
}
lifted _ s _ _ e (refuses_bad f over at bad) = record {
  socket = refused bad_request s;
  hears = refuses_bad s (ap (λ (z : Socket). z.over) (sym e) ∙ over) (ap (λ (z : Socket). z.protocol) (sym e) ∙ at)
      (subst IsBadHead (ap (λ (z : Socket). z.input) e) bad);
  same = ap (λ z. forget (refused bad_request z)) e;
}
lifted _ s _ _ e (refuses_long f over at head long) = record {
  socket = refused bad_request s;
  hears = refuses_long s (ap (λ (z : Socket). z.over) (sym e) ∙ over) (ap (λ (z : Socket). z.protocol) (sym e) ∙ at)
      (subst HasNoRequest (ap (λ (z : Socket). z.input) e) head)
      (subst (λ z. most_head < length z) (ap (λ (z : Socket). z.input) e) long);
  same = ap (λ z. forget (refused bad_request z)) e;
}
lifted _ s _ _ e (frames f conn n x over at read) = record {
  socket = framed n x s;
  hears = frames s conn n x (ap (λ (z : Socket). z.over) (sym e) ∙ over) (ap (λ (z : Socket). z.protocol) (sym e) ∙ at)
      (ap (λ (z : Socket). Rattle.websocket.specs.Connection.read_step conn z.input) (sym e) ∙ read);
  same = ap (λ z. forget (framed n x z)) e ∙ framed_forgets n x s;
}
lifted _ s _ _ e (fails f conn x over at read) = record {
  socket = failed x s;
  hears = fails s conn x (ap (λ (z : Socket). z.over) (sym e) ∙ over) (ap (λ (z : Socket). z.protocol) (sym e) ∙ at)
      (ap (λ (z : Socket). Rattle.websocket.specs.Connection.read_step conn z.input) (sym e) ∙ read);
  same = ap (λ z. forget (failed x z)) e;
}

-- ---- one thing more

place_parts : (p : Place) (a : Socket) (b : Bool) → p.peer ≡ a → p.presented ≡ b → p ≡ record { peer = a; presented = b }
place_parts p a b e h = λ i. record { peer = e i; presented = h i }

peer_of : (p : Place) (s : Socket) → p ≡ place_of s → p.peer ≡ forget s
peer_of p s e = ap (λ (q : Place). q.peer) e

pub IsServer-IsHearing : ((hs ts : List (List ℕ)) (s : Socket) → Lives hs ts s → IsServer s) → (g : Gate) (m : ℕ) (s : Socket) (x : Gateway) (p : Place)
    → IsHearing g m s x p → IsServer p.peer
IsServer-IsHearing serves g m s x p w =
    λ conn at. serves w.lived.0 w.lived.1 w.socket w.lived.2 conn (ap (λ (z : Socket). z.protocol) (sym (peer_of p w.socket w.place))
    ∙ at)

pub IsHeardOut-over : (g : Gate) (m : ℕ) (s : Socket) (x : Gateway) (p : Place) → IsHearing g m s x p → p.peer.over ≡ true → IsHeardOut g m s Over x p
IsHeardOut-over g m s x p w over = record { heard = w; left = ap (λ (z : Socket). z.over) (sym (peer_of p w.socket w.place)) ∙ over }

pub IsHeardOut-is_held : (g : Gate) (m : ℕ) (s : Socket) (x : Gateway) (p : Place) → (w : IsHearing g m s x p) → p.peer.over ≡ false
    → is_held w.now m w.socket ≡ true
    → IsHeardOut g m s Held x p
IsHeardOut-is_held g m s x p w over held = record { heard = w; left = (ap (λ (z : Socket). z.over) (sym (peer_of p w.socket w.place)) ∙ over, held) }

pub IsHeardOut-IsWaiting : (g : Gate) (m : ℕ) (s : Socket) (x : Gateway) (p : Place) (y : Socket) → IsHearing g m s x p → IsWaiting p.peer × (y ≡ p.peer)
    → IsHeardOut g m s All x (record p { peer = y })
IsHeardOut-IsWaiting g m s x p y w is = record {
  heard = record {
    now = w.now;
    socket = w.socket;
    heard = w.heard;
    alive = w.alive;
    gate = w.gate;
    place = ap (λ z. record p { peer = z }) is.1 ∙ w.place;
    lived = w.lived;
  };
  left = subst IsWaiting (peer_of p w.socket w.place) is.0;
}

pub IsHearing-Other : AlwaysCarries → (g : Gate) (m : ℕ) (s : Socket) (x : Gateway) (p : Place) (y : Socket) → IsHearing g m s x p
    → HearsAs heard.Other p.peer y
    → IsHearing g m s x (record p { peer = y })
IsHearing-Other l g m s x p y w is =
    let r = lifted p.peer w.socket is.0 is.1 (peer_of p w.socket w.place) is.3 in
    let hears : Hears w.socket None r.socket = subst (λ o. Hears w.socket o r.socket) is.2 r.hears in
    let lives = life.hears w.lived.0 w.lived.1 w.socket r.socket None w.lived.2 hears in
    record {
      now = w.now;
      socket = r.socket;
      heard = no_text w.now w.socket r.socket w.heard hears;
      alive = w.alive;
      gate = w.gate;
      place = place_parts (record p { peer = y }) (forget r.socket) (has_presented r.socket) (is.4 ∙ r.same)
          (ap (λ (q : Place). q.presented) w.place ∙ has_presented-no_text l w.lived.0 w.lived.1 w.lived.1 w.socket r.socket w.lived.2 lives);
      lived = (w.lived.0 ++ [], w.lived.1, lives);
    }

-- who has presented its token and is not held has a client that is heard
heard_if : (a b c : Bool) → (a || (b && not c)) ≡ false → b ≡ true → c ≡ true
heard_if true b c h e = absurd (false≢true (sym h))
heard_if false true true h e = refl
heard_if false true false h e = absurd (false≢true (sym h))
heard_if false false c h e = absurd (false≢true e)

pub IsTextNext-Text : (g : Gate) (m : ℕ) (s : Socket) (x : Gateway) (p : Place) (t : String Global) (y : Socket) → (w : IsHearing g m s x p)
    → is_held w.now m w.socket ≡ false
    → HearsAs (heard.Text t) p.peer y → IsTextNext g m s (string_bytes t) x (record p { peer = y })
IsTextNext-Text g m s x p t y w held is =
    let r = lifted p.peer w.socket is.0 is.1 (peer_of p w.socket w.place) is.3 in
    record {
      now = w.now;
      before = w.socket;
      after = r.socket;
      heard = w.heard;
      next = subst (λ o. Hears w.socket o r.socket) is.2 r.hears;
      may = λ e. heard_if (nat_lt most_pending (length w.socket.output)) (has_presented w.socket) (is_heard w.now m) held e;
      alive = w.alive;
      gate = w.gate;
      place = place_parts (record p { peer = y }) (forget r.socket) (has_presented w.socket) (is.4 ∙ r.same) (ap (λ (q : Place). q.presented) w.place);
      lived = w.lived;
    }

-- ---- a text

-- the marks that an event leaves
abbrev pub LeavesMarks : Type 0
LeavesMarks = (g : Gate) (e : Event) → IsWell e → g.dead ≡ false → law.LeavesMarks g e

pub dead-next : LeavesMarks → (g : Gate) (e : Event) → IsWell e → g.dead ≡ false → (next g e).dead ≡ (marked g e).dead
dead-next k g e w a = ap (λ (x : Gate). x.dead) (k g e w a).marks

lived_on : (s t : Socket) (bytes : List ℕ) → (l : IsLived s) → Hears s (Some bytes) t → Lives (l.0 ++ bytes ∷ []) l.1 t
lived_on s t bytes l h = life.hears l.0 l.1 s t (Some bytes) l.2 h

pub IsHearing-message : AlwaysCarries → LeavesMarks → (g : Gate) (m : ℕ) (s : Socket) (bytes : List ℕ) (x : Gateway) (p : Place) (y : Gateway)
    → (w : IsTextNext g m s bytes x p)
    → p.presented ≡ true → IsGate (next w.now (message m bytes)) y → IsHearing g m s y p
IsHearing-message l k g m s bytes x p y w known is =
    let lives = lived_on w.before w.after bytes w.lived w.next in
    record {
      now = next w.now (message m bytes);
      socket = w.after;
      heard = later_text w.now w.before w.after bytes w.heard (w.may (ap (λ (q : Place). q.presented) (sym w.place) ∙ known)) w.next;
      alive = dead-next k w.now (message m bytes) tt w.alive ∙ w.alive;
      gate = is;
      place = place_parts p (forget w.after) (has_presented w.after) (ap (λ (q : Place). q.peer) w.place)
          (known ∙ sym (has_presented-text l w.lived.0 w.lived.1 bytes w.after lives));
      lived = (w.lived.0 ++ bytes ∷ [], w.lived.1, lives);
    }

-- where nobody comes in by a token that opens a role, or none
abbrev pub sent_away : Bool → Socket → Socket
sent_away b s = cond b (put_off s) (turned_away s)

abbrev pub opens : Gate → List ℕ → Bool
opens g token = is_some (role_opened g.tokens (sha256 token))

token_heard : AlwaysCarries → LeavesMarks → (g : Gate) (m : ℕ) (s : Socket) (bytes : List ℕ) (x : Gateway) (p : Place) (y : Gateway) (q : Place) (t : Socket)
    → (w : IsTextNext g m s bytes x p)
    → p.presented ≡ false → IsGate (next w.now (presented m bytes)) y → let_in w.now m bytes w.after ≡ t → q.peer ≡ forget t → q.presented ≡ true
    → has_presented t ≡ true → IsLived t
    → IsHearing g m s y q
token_heard l k g m s bytes x p y q t w new is e peer known has lived = record {
  now = next w.now (presented m bytes);
  socket = t;
  heard = subst (HearsAt m g s (next w.now (presented m bytes))) e
      (first_text w.now w.before w.after bytes w.heard (ap (λ (r : Place). r.presented) (sym w.place) ∙ new) w.next);
  alive = dead-next k w.now (presented m bytes) tt w.alive ∙ w.alive;
  gate = is;
  place = place_parts q (forget t) (has_presented t) peer (known ∙ sym has);
  lived = lived;
}

pub IsHearing-admitted : AlwaysCarries → LeavesMarks → (g : Gate) (m : ℕ) (s : Socket) (bytes : List ℕ) (x : Gateway) (p : Place) (y : Gateway)
    → (w : IsTextNext g m s bytes x p)
    → p.presented ≡ false → IsGate (next w.now (presented m bytes)) y → true ≡ is_some (token_for w.now m bytes)
    → IsHearing g m s y (record p { presented = true })
IsHearing-admitted l k g m s bytes x p y w new is came =
    let lives = lived_on w.before w.after bytes w.lived w.next in
    token_heard l k g m s bytes x p y (record p { presented = true }) w.after w new is
    (ap (λ b. cond b w.after (sent_away (opens w.now bytes) w.after)) (sym came))
    (ap (λ (q : Place). q.peer) w.place) refl (has_presented-text l w.lived.0 w.lived.1 bytes w.after lives) (w.lived.0 ++ bytes ∷ [], w.lived.1, lives)

away_forgets : (b : Bool) (s : Socket) → forget (sent_away b (forget s)) ≡ forget (sent_away b s)
away_forgets true s = Forgets-closed 1013 (codes "No place is free, or the role is not there.") s
away_forgets false s = Forgets-closed 4401 (codes "This token opens no role.") s

away_presents : (b : Bool) (s : Socket) → has_presented s ≡ has_presented (sent_away b s)
away_presents true = has_presented-SameEffects put_off (SameEffects-closed 1013 (codes "No place is free, or the role is not there."))
away_presents false = has_presented-SameEffects turned_away (SameEffects-closed 4401 (codes "This token opens no role."))

away_lived : (b : Bool) (s : Socket) → IsLived s → IsLived (sent_away b s)
away_lived true s l = (l.0, l.1, life.closes l.0 l.1 s 1013 (codes "No place is free, or the role is not there.") l.2)
away_lived false s l = (l.0, l.1, life.closes l.0 l.1 s 4401 (codes "This token opens no role.") l.2)

-- by a token that was refused nothing changes, and the code asks then whether it opens a role
opens_still : (g : Gate) (m : ℕ) (token : List ℕ) (y : Gateway) (b : Bool) → g.dead ≡ false → IsGate (next g (presented m token)) y
    → false ≡ is_some (token_for g m token)
    → ((h : Gate) → IsGate h y → h.dead ≡ false → b ≡ opens h token) → b ≡ opens g token
opens_still g m token y b a is none asked = asked g (subst (λ h. IsGate h y) (next-no_token g m token a (by (token_for g m token) none)) is) a
  where
    by : (o : Option Token) → false ≡ is_some o → o ≡ None
    by None e = refl
    by (Some t) e = absurd (false≢true e)

pub IsHearing-refused : AlwaysCarries → LeavesMarks → (g : Gate) (m : ℕ) (s : Socket) (bytes : List ℕ) (x : Gateway) (p : Place) (y : Gateway) (peer : Socket)
    (b : Bool) → (w : IsTextNext g m s bytes x p)
    → p.presented ≡ false → IsGate (next w.now (presented m bytes)) y → false ≡ is_some (token_for w.now m bytes)
    → ((h : Gate) → IsGate h y → h.dead ≡ false → b ≡ opens h bytes) → peer ≡ forget (sent_away b p.peer)
    → IsHearing g m s y (record { peer = peer; presented = true })
IsHearing-refused l k g m s bytes x p y peer b w new is came asked closes =
    let lives = lived_on w.before w.after bytes w.lived w.next in
    let opened : opens w.now bytes ≡ b = sym (opens_still w.now m bytes y b w.alive is came asked) in
    token_heard l k g m s bytes x p y (record { peer = peer; presented = true }) (sent_away b w.after) w new is
    (ap (λ z. cond z w.after (sent_away (opens w.now bytes) w.after)) (sym came) ∙ ap (λ z. sent_away z w.after) opened)
    (closes ∙ (ap (λ (q : Place). forget (sent_away b q.peer)) w.place ∙ away_forgets b w.after)) refl
    (sym (away_presents b w.after) ∙ has_presented-text l w.lived.0 w.lived.1 bytes w.after lives)
    (away_lived b w.after (w.lived.0 ++ bytes ∷ [], w.lived.1, lives))

pub IsHearing-start : (g : Gate) (m : ℕ) (s : Socket) (x : Gateway) (p : Place) → IsGate g x → g.dead ≡ false → p ≡ place_of s → IsLived s → IsHearing g m s x p
IsHearing-start g m s x p is a e l = record { now = g; socket = s; heard = nothing; alive = a; gate = is; place = e; lived = l }

-- ---- what is offered

abbrev pub offered_by : Gate → ℕ → Socket → Bool → Bool → Bool → Gate × Socket
offered_by g m s opened dropped sent = cond {A = Gate × Socket} (not opened) (g, s)
    (cond {A = Gate × Socket} dropped (g, let_go s) (cond {A = Gate × Socket} sent (next g (handed m), told_some (text_for g m) s) (g, s)))

pub offered_to-offered_by : (g : Gate) (m : ℕ) (s : Socket) (a b c : Bool) → is_open s ≡ a → is_dropped g m ≡ b → (length s.output == 0) ≡ c
    → offered_to m g s ≡ offered_by g m s a b c
offered_to-offered_by g m s a b c e h k = λ i. offered_by g m s (e i) (h i) (k i)

-- what an offer leaves
abbrev pub IsOffered : Gate × Socket → Gateway → Place → Type 0
IsOffered o x p = IsGate o.0 x × (p ≡ place_of o.1)

pub offers_closed : (g : Gate) (m : ℕ) (s : Socket) (x : Gateway) (p : Place) → IsGate g x → p ≡ place_of s → is_open s ≡ false
    → IsOffered (offered_to m g s) x p
offers_closed g m s x p is e opened =
    subst (λ o. IsOffered o x p) (sym (offered_to-offered_by g m s false (is_dropped g m) (length s.output == 0) opened refl refl))
    (is, e)

pub offers_gone : (g : Gate) (m : ℕ) (s : Socket) (x : Gateway) (p : Place) (y : Socket) → IsGate g x → p ≡ place_of s → is_open s ≡ true
    → is_dropped g m ≡ true → y ≡ forget (let_go p.peer)
    → IsOffered (offered_to m g s) x (record p { peer = y })
offers_gone g m s x p y is e opened dropped closes = subst (λ o. IsOffered o x (record p { peer = y }))
    (sym (offered_to-offered_by g m s true true (length s.output == 0) opened dropped refl)) (
      is,
      place_parts (record p { peer = y }) (forget (let_go s)) (has_presented (let_go s))
          (closes ∙ (ap (λ (q : Place). forget (let_go q.peer)) e ∙ Forgets-closed 1013 (codes "What was told was not taken.") s))
          (ap (λ (q : Place). q.presented) e ∙ has_presented-SameEffects (closed 1013 (codes "What was told was not taken."))
          (SameEffects-closed 1013 (codes "What was told was not taken.")) s),
    )

pub offers_later : (g : Gate) (m : ℕ) (s : Socket) (x : Gateway) (p : Place) → IsGate g x → p ≡ place_of s → is_open s ≡ true → is_dropped g m ≡ false
    → (length s.output == 0) ≡ false
    → IsOffered (offered_to m g s) x p
offers_later g m s x p is e opened dropped sent = subst (λ o. IsOffered o x p) (sym (offered_to-offered_by g m s true false false opened dropped sent)) (is, e)

pub offers_text : (g : Gate) (m : ℕ) (s : Socket) (x : Gateway) (p : Place) (y : Socket) → IsGate (next g (handed m)) x → p ≡ place_of s → is_open s ≡ true
    → is_dropped g m ≡ false
    → (length s.output == 0) ≡ true → y ≡ forget (told_some (text_for g m) p.peer) → IsOffered (offered_to m g s) x (record p { peer = y })
offers_text g m s x p y is e opened dropped sent tells = subst (λ o. IsOffered o x (record p { peer = y }))
    (sym (offered_to-offered_by g m s true false true opened dropped sent)) (
      is,
      place_parts (record p { peer = y }) (forget (told_some (text_for g m) s)) (has_presented (told_some (text_for g m) s))
          (tells ∙ (ap (λ (q : Place). forget (told_some (text_for g m) q.peer)) e ∙ Forgets-told_some (text_for g m) s))
          (ap (λ (q : Place). q.presented) e ∙ has_presented-SameEffects (told_some (text_for g m)) (SameEffects-told_some (text_for g m)) s),
    )

told_lived : (text : List ℕ) (s : Socket) → is_open s ≡ true → IsLived s → IsLived (told_some text s)
told_lived [] s opened l = l
told_lived (b ∷ bs) s opened l = (l.0, l.1 ++ (b ∷ bs) ∷ [], life.tells l.0 l.1 s (b ∷ bs) l.2 opened)

pub IsLived-offered_to : (g : Gate) (m : ℕ) (s : Socket) → IsLived s → IsLived (offered_to m g s).1
IsLived-offered_to g m s l = by (is_open s) refl
  where
    ready : is_open s ≡ true → (c : Bool) → IsLived (offered_by g m s true false c).1
    ready opened true = told_lived (text_for g m) s opened l
    ready opened false = l

    dropped : is_open s ≡ true → (b : Bool) → IsLived (offered_by g m s true b (length s.output == 0)).1
    dropped opened true = (l.0, l.1, life.closes l.0 l.1 s 1013 (codes "What was told was not taken.") l.2)
    dropped opened false = ready opened (length s.output == 0)

    by : (a : Bool) → is_open s ≡ a → IsLived (offered_by g m s a (is_dropped g m) (length s.output == 0)).1
    by true opened = dropped opened (is_dropped g m)
    by false opened = l

pub dead-offered_to : LeavesMarks → (g : Gate) (m : ℕ) (s : Socket) → g.dead ≡ false → (offered_to m g s).0.dead ≡ false
dead-offered_to k g m s a = by (is_open s) (is_dropped g m) (length s.output == 0)
  where
    by : (b d c : Bool) → (offered_by g m s b d c).0.dead ≡ false
    by false d c = a
    by true true c = a
    by true false true = dead-next k g (handed m) tt a ∙ a
    by true false false = a

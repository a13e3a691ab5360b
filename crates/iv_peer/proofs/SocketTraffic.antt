-- What a socket has carried, whatever happens at it.
use Rattle.std.proofs.Common.{◌≡◌, ◌⊎◌, inl, inr, ℕ, Bool, true, false, not, ◌&&◌, List, [], ◌∷◌, ◌++◌, take, drop, length, Option, None, Some, Ok, is_some, option_map, refl, ◌∙◌, ap, sym, subst, append_assoc, append-nil}
use Rattle.std.specs.Prelude.{flat_map, nat_le}
use Rattle.std.proofs.lemmas.List.{take-append-drop}
use Rattle.std.proofs.lemmas.Bool.{false≢true}
use Rattle.std.proofs.lemmas.Grind.{flat_map-append}
use Rattle.httparse.specs.Grammar.{RequestHead}
use Rattle.websocket.specs.declared.protocol.frame.codec.FrameStatus.TheVariants.{Partial, Complete}
use Rattle.websocket.specs.declared.protocol.config.Role.TheVariants.{Server}
use Rattle.websocket.specs.Content.{Content, text, binary, ping, pong, close}
use Rattle.websocket.specs.Connection.{Connection, Effect, Outgoing, failed_connection, read_step}
use Rattle.websocket.specs.Handshake.{response_bytes}
use Rattle.websocket.specs.Stream.{prepend, read_all}
use Rattle.iv_peer.specs.Socket.{Item, Socket, IsAccepted, accepted, answer, answers, at_start, bad_request, close_of, closed, ended, ending, failed, fault_code, framed, fresh, is_open, item_bytes, offering, passing, refused, stepped, telling, told, told_text, took, upgrade_required}
use Rattle.iv_peer.specs.Hearing.{Hears, IsServer, IsWaiting, IsWaitingAt, accepts, refuses_other, refuses_bad, refuses_long, frames, fails, text_in}
use Rattle.iv_peer.specs.Lives.{Carries, CarriesAt, Decodes, IsOpened, IsUnopened, Lives, answer_of, answers_in, begins, closes, ends, frame, hears, listed, nothing, replies_of, sends, takes, tells, text_of, texts_in, texts_of}
use Rattle.iv_peer.proofs.FrameBytes.{read_all-Decodes, Decodes-next, Decodes-append, read_all-Partial}
use Rattle.iv_peer.proofs.Roles.{role-read_step}

none_some : {X : Type 0} (a : X) → None ≡ Some a → ⊥
none_some a h = cc h

-- ---- lists of frames

told_more : (items : List Item) (o : Option Outgoing) → texts_in (items ++ answers o) ≡ texts_in items
told_more items None = ap texts_in (append-nil items)
told_more items (Some f) = flat_map-append text_of items (answer f ∷ []) ∙ append-nil (texts_in items)

answers_one : (o : Option Outgoing) → answers_in (answers o) ≡ listed o ++ []
answers_one None = refl
answers_one (Some f) = refl

replies_more : (es : List Effect) (e : Effect) → replies_of (es ++ e ∷ []) ≡ replies_of es ++ listed e.reply
replies_more es e = flat_map-append (λ (x : Effect). listed x.reply) es (e ∷ []) ∙ ap (λ z. replies_of es ++ z) (append-nil (listed e.reply))

texts_more : (es : List Effect) (e : Effect) → texts_of (es ++ e ∷ []) ≡ texts_of es ++ listed (text_in e.message)
texts_more es e = flat_map-append (λ (x : Effect). listed (text_in x.message)) es (e ∷ []) ∙ ap (λ z. texts_of es ++ z) (append-nil (listed (text_in e.message)))

answers_more : (items : List Item) (es : List Effect) (e : Effect) → answers_in items ≡ replies_of es → answers_in (items ++ answers e.reply) ≡ replies_of (es ++ e ∷ [])
answers_more items es e h =
    flat_map-append answer_of items (answers e.reply) ∙ ((λ i. h i ++ (answers_one e.reply ∙ append-nil (listed e.reply)) i) ∙ sym (replies_more es e))

-- ---- behind the handshake

-- what a socket carries, but for what follows of it
record Opened (hs ts : List (List ℕ)) (s : Socket) (conn : Connection) : Type 0 where
  head : RequestHead
  accept : List ℕ
  body : List ℕ
  request : IsAccepted s.read head body accept
  last : Connection
  rest : List ℕ
  decodes : Decodes at_start body s.effects last rest
  heard : hs ≡ texts_of s.effects
  offered : s.offered ≡ response_bytes accept [] ++ flat_map item_bytes s.items
  told : ts ≡ texts_in s.items
  close : Option Outgoing
  answers : answers_in s.items ≡ replies_of s.effects ++ listed close
  lives : s.over ≡ false → (close ≡ None) × ((last ≡ conn) × (rest ≡ s.input))

all_by : (hs ts : List (List ℕ)) (s : Socket) (conn : Connection) → s.protocol ≡ Some conn → (o : Opened hs ts s conn) → IsWaiting s
    → read_all at_start o.body ≡ record { effects = s.effects; end = Ok (conn, s.input) }
all_by hs ts s conn at o waits =
    let now = o.lives waits.0 in
    let w : IsWaitingAt (Some conn) s.input = subst (λ k. IsWaitingAt k s.input) at waits.1 in
    read_all-Decodes at_start o.last o.body o.rest s.effects o.decodes
    ∙ ((λ i. prepend s.effects (read_all (now.1.0 i) (now.1.1 i))) ∙ (ap (prepend s.effects) (read_all-Partial conn s.input w.0 w.1)
    ∙ (λ i. record { effects = append-nil s.effects i; end = Ok (conn, s.input) })))

opened_is : (hs ts : List (List ℕ)) (s : Socket) (conn : Connection) → s.protocol ≡ Some conn → Opened hs ts s conn → IsOpened hs ts s conn
opened_is hs ts s conn at o = record {
  head = o.head;
  accept = o.accept;
  body = o.body;
  request = o.request;
  last = o.last;
  rest = o.rest;
  decodes = o.decodes;
  heard = o.heard;
  offered = o.offered;
  told = o.told;
  close = o.close;
  answers = o.answers;
  lives = o.lives;
  all = all_by hs ts s conn at o;
}

abbrev CarriedAt : List (List ℕ) → List (List ℕ) → Socket → Option Connection → Type 0
CarriedAt hs ts s None = IsUnopened hs ts s
CarriedAt hs ts s (Some conn) = Opened hs ts s conn

record Carried (hs ts : List (List ℕ)) (s : Socket) : Type 0 where
  sent : s.offered ≡ s.sent ++ s.output
  carries : CarriedAt hs ts s s.protocol
  serves : IsServer s

-- ---- what is offered

offering_sent : (bytes : List ℕ) (s : Socket) → s.offered ≡ s.sent ++ s.output → s.offered ++ bytes ≡ s.sent ++ (s.output ++ bytes)
offering_sent bytes s h = ap (λ z. z ++ bytes) h ∙ append_assoc s.sent s.output bytes

frames_more : (front : List ℕ) (items more : List Item) (offered : List ℕ) → offered ≡ front ++ flat_map item_bytes items
    → offered ++ flat_map item_bytes more ≡ front ++ flat_map item_bytes (items ++ more)
frames_more front items more offered h =
    ap (λ z. z ++ flat_map item_bytes more) h ∙ (append_assoc front (flat_map item_bytes items) (flat_map item_bytes more)
    ∙ ap (λ z. front ++ z) (sym (flat_map-append item_bytes items more)))

frame_more : (front : List ℕ) (items : List Item) (t : Item) (offered : List ℕ) → offered ≡ front ++ flat_map item_bytes items
    → offered ++ item_bytes t ≡ front ++ flat_map item_bytes (items ++ t ∷ [])
frame_more front items t offered h = ap (λ z. offered ++ z) (sym (append-nil (item_bytes t))) ∙ frames_more front items (t ∷ []) offered h

-- ---- bytes are read

accepted_on : (bytes more : List ℕ) (head : RequestHead) (rest accept : List ℕ) → IsAccepted bytes head rest accept → IsAccepted (bytes ++ more) head (rest ++ more) accept
accepted_on bytes more head rest accept is = record { reads = (is.reads.0, ap (λ z. z ++ more) is.reads.1 ∙ append_assoc _ rest more); key = is.key; asked = is.asked; valid = is.valid; answers = is.answers }

took_at : (hs ts : List (List ℕ)) (s : Socket) (bytes : List ℕ) (k : Option Connection) → CarriedAt hs ts s k → CarriedAt hs ts (took bytes s) k
took_at hs ts s bytes None u = record { heard = u.heard; told = u.told; effects = u.effects; items = u.items; offered = u.offered; waits = λ o. ((u.waits o).0, ap (λ z. z ++ bytes) (u.waits o).1) }
took_at hs ts s bytes (Some conn) o = record {
  head = o.head;
  accept = o.accept;
  body = o.body ++ bytes;
  request = accepted_on s.read bytes o.head o.body o.accept o.request;
  last = o.last;
  rest = o.rest ++ bytes;
  decodes = Decodes-append at_start o.last o.body o.rest bytes s.effects o.decodes;
  heard = o.heard;
  offered = o.offered;
  told = o.told;
  close = o.close;
  answers = o.answers;
  lives = λ l. ((o.lives l).0, ((o.lives l).1.0, ap (λ z. z ++ bytes) (o.lives l).1.1));
}

-- ---- a close is offered behind all else

close_offered : (hs ts : List (List ℕ)) (s : Socket) (conn : Connection) (f : Outgoing) → s.over ≡ false → Opened hs ts s conn → Opened hs ts (telling (answer f) (ended s)) conn
close_offered hs ts s conn f over o = record {
  head = o.head;
  accept = o.accept;
  body = o.body;
  request = o.request;
  last = o.last;
  rest = o.rest;
  decodes = o.decodes;
  heard = o.heard;
  offered = frame_more (response_bytes o.accept []) s.items (answer f) s.offered o.offered;
  told = o.told ∙ sym (told_more s.items (Some f));
  close = Some f;
  answers = flat_map-append answer_of s.items (answer f ∷ []) ∙ ap (λ z. z ++ f ∷ []) (o.answers ∙ (ap (λ z. replies_of s.effects ++ listed z) (o.lives over).0 ∙ append-nil (replies_of s.effects)));
  lives = λ l. absurd (false≢true (sym l));
}

over_opened : (hs ts : List (List ℕ)) (s : Socket) (conn : Connection) → Opened hs ts s conn → Opened hs ts (ended s) conn
over_opened hs ts s conn o = record {
  head = o.head;
  accept = o.accept;
  body = o.body;
  request = o.request;
  last = o.last;
  rest = o.rest;
  decodes = o.decodes;
  heard = o.heard;
  offered = o.offered;
  told = o.told;
  close = o.close;
  answers = o.answers;
  lives = λ l. absurd (false≢true (sym l));
}

-- ---- a frame is heard

stepped_opened : (hs ts : List (List ℕ)) (s : Socket) (conn : Connection) (n : ℕ) (e : Effect) → s.over ≡ false → read_step conn s.input ≡ Ok (Complete (n, e)) → Opened hs ts s conn
    → Opened (hs ++ listed (text_in e.message)) ts (stepped n e s) e.next
stepped_opened hs ts s conn n e over read o =
    let now = o.lives over in
    record {
      head = o.head;
      accept = o.accept;
      body = o.body;
      request = o.request;
      last = e.next;
      rest = drop n o.rest;
      decodes = Decodes-next at_start o.last o.body o.rest s.effects n e o.decodes ((λ i. read_step (now.1.0 i) (now.1.1 i)) ∙ read);
      heard = ap (λ z. z ++ listed (text_in e.message)) o.heard ∙ sym (texts_more s.effects e);
      offered = frames_more (response_bytes o.accept []) s.items (answers e.reply) s.offered o.offered;
      told = o.told ∙ sym (told_more s.items e.reply);
      close = None;
      answers = answers_more s.items s.effects e (o.answers ∙ (ap (λ z. replies_of s.effects ++ listed z) now.0 ∙ append-nil (replies_of s.effects))) ∙ sym (append-nil (replies_of (s.effects ++ e ∷ [])));
      lives = λ l. (refl, (refl, ap (drop n) now.1.1));
    }

ending_opened : (hs ts : List (List ℕ)) (m : Option Content) (s : Socket) (conn : Connection) → s.over ≡ false → Opened hs ts s conn → Opened hs ts (ending m s) conn
ending_opened hs ts None s conn over o = o
ending_opened hs ts (Some (text bytes)) s conn over o = o
ending_opened hs ts (Some (binary bytes)) s conn over o = close_offered hs ts s conn (close_of 1003 []) over o
ending_opened hs ts (Some (ping bytes)) s conn over o = o
ending_opened hs ts (Some (pong bytes)) s conn over o = o
ending_opened hs ts (Some (close f)) s conn over o = over_opened hs ts s conn o

ending_protocol : (m : Option Content) (s : Socket) → (ending m s).protocol ≡ s.protocol
ending_protocol None s = refl
ending_protocol (Some (text bytes)) s = refl
ending_protocol (Some (binary bytes)) s = refl
ending_protocol (Some (ping bytes)) s = refl
ending_protocol (Some (pong bytes)) s = refl
ending_protocol (Some (close f)) s = refl

ending_sent : (m : Option Content) (s : Socket) → s.offered ≡ s.sent ++ s.output → (ending m s).offered ≡ (ending m s).sent ++ (ending m s).output
ending_sent None s h = h
ending_sent (Some (text bytes)) s h = h
ending_sent (Some (binary bytes)) s h = offering_sent (item_bytes (answer (close_of 1003 []))) s h
ending_sent (Some (ping bytes)) s h = h
ending_sent (Some (pong bytes)) s h = h
ending_sent (Some (close f)) s h = h

some_same : {X : Type 0} (a b : X) → Some a ≡ Some b → a ≡ b
some_same a b h = cc

opened_at : (hs ts : List (List ℕ)) (s : Socket) (conn : Connection) → s.protocol ≡ Some conn → CarriedAt hs ts s s.protocol → Opened hs ts s conn
opened_at hs ts s conn at c = subst (CarriedAt hs ts s) at c

heard_frame : (hs ts : List (List ℕ)) (s : Socket) (conn : Connection) (n : ℕ) (e : Effect) → s.over ≡ false → s.protocol ≡ Some conn → read_step conn s.input ≡ Ok (Complete (n, e))
    → Carried hs ts s → Carried (hs ++ listed (text_in e.message)) ts (framed n e s)
heard_frame hs ts s conn n e over at read c =
    let h = stepped n e s in
    let same = ending_protocol e.message h in
    let o = stepped_opened hs ts s conn n e over read (opened_at hs ts s conn at c.carries) in
    record {
      sent = ending_sent e.message h (offering_sent (flat_map item_bytes (answers e.reply)) s c.sent);
      carries = subst (CarriedAt (hs ++ listed (text_in e.message)) ts (framed n e s)) (sym same) (ending_opened (hs ++ listed (text_in e.message)) ts e.message h e.next over o);
      serves = λ k is. ap (λ (z : Connection). z.role) (some_same k e.next (sym is ∙ same)) ∙ (role-read_step conn s.input (n, e) read ∙ c.serves conn at);
    }

-- ---- all that happens

begun : Carried [] [] fresh
begun = record {
  sent = refl;
  carries = record { heard = refl; told = refl; effects = refl; items = refl; waits = λ o. (refl, refl); offered = inl refl };
  serves = λ k is. absurd (none_some k is);
}

unopened_at : (hs ts : List (List ℕ)) (s : Socket) → s.protocol ≡ None → CarriedAt hs ts s s.protocol → IsUnopened hs ts s
unopened_at hs ts s at c = subst (CarriedAt hs ts s) at c

heard_accept : (hs ts : List (List ℕ)) (s : Socket) (head : RequestHead) (rest accept : List ℕ) → s.over ≡ false → s.protocol ≡ None → IsAccepted s.input head rest accept
    → Carried hs ts s → Carried (hs ++ []) ts (accepted accept rest s)
heard_accept hs ts s head rest accept over at is c =
    let u = unopened_at hs ts s at c.carries in
    record {
      sent = offering_sent (response_bytes accept []) s c.sent;
      carries = record {
        head = head;
        accept = accept;
        body = rest;
        request = subst (λ z. IsAccepted z head rest accept) (u.waits over).1 is;
        last = at_start;
        rest = rest;
        decodes = subst (λ z. Decodes at_start rest z at_start rest) (sym u.effects) (nothing at_start rest);
        heard = append-nil hs ∙ (u.heard ∙ ap texts_of (sym u.effects));
        offered = ap (λ z. z ++ response_bytes accept []) (u.waits over).0 ∙ (sym (append-nil (response_bytes accept [])) ∙ ap (λ z. response_bytes accept [] ++ flat_map item_bytes z) (sym u.items));
        told = u.told ∙ ap texts_in (sym u.items);
        close = None;
        answers = ap answers_in u.items ∙ ap (λ z. replies_of z ++ []) (sym u.effects);
        lives = λ l. (refl, (refl, refl));
      };
      serves = λ k h. ap (λ (z : Connection). z.role) (some_same k at_start (sym h));
    }

heard_refusal : (hs ts : List (List ℕ)) (s : Socket) (bytes : List ℕ) → (bytes ≡ bad_request) ⊎ (bytes ≡ upgrade_required) → s.over ≡ false → s.protocol ≡ None
    → Carried hs ts s → Carried (hs ++ []) ts (refused bytes s)
heard_refusal hs ts s bytes which over at c =
    let u = unopened_at hs ts s at c.carries in
    record {
      sent = offering_sent bytes s c.sent;
      carries = subst (CarriedAt (hs ++ []) ts (refused bytes s)) (sym at) (record {
        heard = append-nil hs ∙ u.heard;
        told = u.told;
        effects = u.effects;
        items = u.items;
        waits = λ l. absurd (false≢true (sym l));
        offered = inr (one which (ap (λ z. z ++ bytes) (u.waits over).0));
      });
      serves = λ k h. absurd (none_some k (sym at ∙ h));
    }
  where
    one : {offered : List ℕ} → (bytes ≡ bad_request) ⊎ (bytes ≡ upgrade_required) → offered ≡ bytes → (offered ≡ bad_request) ⊎ (offered ≡ upgrade_required)
    one (inl a) h = inl (h ∙ a)
    one (inr a) h = inr (h ∙ a)

heard_fault : (hs ts : List (List ℕ)) (s : Socket) (conn : Connection) (f : Outgoing) → s.over ≡ false → s.protocol ≡ Some conn → Carried hs ts s
    → Carried (hs ++ []) ts (telling (answer f) (record s { protocol = option_map failed_connection s.protocol; over = true; input = [] }))
heard_fault hs ts s conn f over at c =
    let o = close_offered hs ts s conn f over (opened_at hs ts s conn at c.carries) in
    let t = telling (answer f) (record s { protocol = option_map failed_connection s.protocol; over = true; input = [] }) in
    let same : t.protocol ≡ Some (failed_connection conn) = ap (option_map failed_connection) at in
    record {
      sent = offering_sent (item_bytes (answer f)) s c.sent;
      carries = subst (CarriedAt (hs ++ []) ts t) (sym same) (record {
        head = o.head;
        accept = o.accept;
        body = o.body;
        request = o.request;
        last = o.last;
        rest = o.rest;
        decodes = o.decodes;
        heard = append-nil hs ∙ o.heard;
        offered = o.offered;
        told = o.told;
        close = o.close;
        answers = o.answers;
        lives = λ l. absurd (false≢true (sym l));
      });
      serves = λ k h. ap (λ (z : Connection). z.role) (some_same k (failed_connection conn) (sym h ∙ same)) ∙ c.serves conn at;
    }

heard_next : (hs ts : List (List ℕ)) (s next : Socket) (t : Option (List ℕ)) → Carried hs ts s → Hears s t next → Carried (hs ++ listed t) ts next
heard_next hs ts _ _ _ c (accepts s head rest accept over at is) = heard_accept hs ts s head rest accept over at is c
heard_next hs ts _ _ _ c (refuses_other s over at asks) = heard_refusal hs ts s upgrade_required (inr refl) over at c
heard_next hs ts _ _ _ c (refuses_bad s over at bad) = heard_refusal hs ts s bad_request (inl refl) over at c
heard_next hs ts _ _ _ c (refuses_long s over at head long) = heard_refusal hs ts s bad_request (inl refl) over at c
heard_next hs ts _ _ _ c (frames s conn n e over at read) = heard_frame hs ts s conn n e over at read c
heard_next hs ts _ _ _ c (fails s conn e over at read) = heard_fault hs ts s conn (close_of (fault_code e) []) over at c

took_carried : (hs ts : List (List ℕ)) (s : Socket) (bytes : List ℕ) → Carried hs ts s → Carried hs ts (took bytes s)
took_carried hs ts s bytes c = record { sent = c.sent; carries = took_at hs ts s bytes s.protocol c.carries; serves = c.serves }

told_opened : (hs ts : List (List ℕ)) (s : Socket) (conn : Connection) (bytes : List ℕ) → Opened hs ts s conn → s.over ≡ false → Opened hs (ts ++ bytes ∷ []) (telling (told bytes) s) conn
told_opened hs ts s conn bytes o over = record {
  head = o.head;
  accept = o.accept;
  body = o.body;
  request = o.request;
  last = o.last;
  rest = o.rest;
  decodes = o.decodes;
  heard = o.heard;
  offered = frame_more (response_bytes o.accept []) s.items (told bytes) s.offered o.offered;
  told = ap (λ z. z ++ bytes ∷ []) o.told ∙ sym (flat_map-append text_of s.items (told bytes ∷ []));
  close = o.close;
  answers = flat_map-append answer_of s.items (told bytes ∷ []) ∙ (append-nil (answers_in s.items) ∙ o.answers);
  lives = o.lives;
}

told_at : (hs ts : List (List ℕ)) (s : Socket) (bytes : List ℕ) (k : Option Connection) → is_some k ≡ true → s.over ≡ false → CarriedAt hs ts s k
    → CarriedAt hs (ts ++ bytes ∷ []) (telling (told bytes) s) k
told_at hs ts s bytes None some over c = absurd (false≢true some)
told_at hs ts s bytes (Some conn) some over c = told_opened hs ts s conn bytes c over

both : (a b : Bool) → (a && not b) ≡ true → (a ≡ true) × (b ≡ false)
both true false h = (refl, refl)
both true true h = absurd (false≢true h)
both false b h = absurd (false≢true h)

told_carried : (hs ts : List (List ℕ)) (s : Socket) (bytes : List ℕ) → Carried hs ts s → is_open s ≡ true → Carried hs (ts ++ bytes ∷ []) (told_text bytes s)
told_carried hs ts s bytes c opened =
    let b = both (is_some s.protocol) s.over opened in
    rw opened (record { sent = offering_sent (item_bytes (told bytes)) s c.sent; carries = told_at hs ts s bytes s.protocol b.0 b.1 c.carries; serves = c.serves })

ended_at : (hs ts : List (List ℕ)) (s : Socket) (k : Option Connection) → CarriedAt hs ts s k → CarriedAt hs ts (ended s) k
ended_at hs ts s None u = record { heard = u.heard; told = u.told; effects = u.effects; items = u.items; offered = u.offered; waits = λ l. absurd (false≢true (sym l)) }
ended_at hs ts s (Some conn) o = over_opened hs ts s conn o

ended_carried : (hs ts : List (List ℕ)) (s : Socket) → Carried hs ts s → Carried hs ts (ended s)
ended_carried hs ts s c = record { sent = c.sent; carries = ended_at hs ts s s.protocol c.carries; serves = c.serves }

close_at : (hs ts : List (List ℕ)) (s : Socket) (f : Outgoing) (k : Option Connection) → is_some k ≡ true → s.over ≡ false → CarriedAt hs ts s k
    → CarriedAt hs ts (telling (answer f) (ended s)) k
close_at hs ts s f None some over c = absurd (false≢true some)
close_at hs ts s f (Some conn) some over c = close_offered hs ts s conn f over c

closed_carried : (hs ts : List (List ℕ)) (s : Socket) (code : ℕ) (words : List ℕ) (b : Bool) → is_open s ≡ b → Carried hs ts s → Carried hs ts (closed code words s)
closed_carried hs ts s code words true opened c =
    let b = both (is_some s.protocol) s.over opened in
    rw opened (record { sent = offering_sent (item_bytes (answer (close_of code words))) s c.sent; carries = close_at hs ts s (close_of code words) s.protocol b.0 b.1 c.carries; serves = c.serves })
closed_carried hs ts s code words false opened c = rw opened (ended_carried hs ts s c)

passed_carried : (hs ts : List (List ℕ)) (s : Socket) (n : ℕ) (b : Bool) → nat_le n (length s.output) ≡ b → Carried hs ts s → Carried hs ts (passing n s)
passed_carried hs ts s n true fits c =
    rw fits (record {
      sent = c.sent ∙ (ap (λ z. s.sent ++ z) (sym (take-append-drop n s.output)) ∙ sym (append_assoc s.sent (take n s.output) (drop n s.output)));
      carries = same_at s.protocol c.carries;
      serves = c.serves;
    })
  where
    same_at : (k : Option Connection) → CarriedAt hs ts s k → CarriedAt hs ts (record s { output = drop n s.output; sent = s.sent ++ take n s.output }) k
    same_at None u = record { heard = u.heard; told = u.told; effects = u.effects; items = u.items; waits = u.waits; offered = u.offered }
    same_at (Some conn) o = record {
      head = o.head;
      accept = o.accept;
      body = o.body;
      request = o.request;
      last = o.last;
      rest = o.rest;
      decodes = o.decodes;
      heard = o.heard;
      offered = o.offered;
      told = o.told;
      close = o.close;
      answers = o.answers;
      lives = o.lives;
    }
passed_carried hs ts s n false fits c = rw fits c

carried : (hs ts : List (List ℕ)) (s : Socket) → Lives hs ts s → Carried hs ts s
carried _ _ _ begins = begun
carried _ _ _ (takes hs ts s bytes l) = took_carried hs ts s bytes (carried hs ts s l)
carried _ _ _ (hears hs ts s next t l h) = heard_next hs ts s next t (carried hs ts s l) h
carried _ _ _ (tells hs ts s bytes l opened) = told_carried hs ts s bytes (carried hs ts s l) opened
carried _ _ _ (closes hs ts s code words l) = closed_carried hs ts s code words (is_open s) refl (carried hs ts s l)
carried _ _ _ (ends hs ts s l) = ended_carried hs ts s (carried hs ts s l)
carried _ _ _ (sends hs ts s n l) = passed_carried hs ts s n (nat_le n (length s.output)) refl (carried hs ts s l)

shown_at : (hs ts : List (List ℕ)) (s : Socket) (k : Option Connection) → s.protocol ≡ k → CarriedAt hs ts s k → CarriesAt hs ts s k
shown_at hs ts s None at u = u
shown_at hs ts s (Some conn) at o = opened_is hs ts s conn at o

pub Carries-Lives : (hs ts : List (List ℕ)) (s : Socket) → Lives hs ts s → Carries hs ts s
Carries-Lives hs ts s l = let c = carried hs ts s l in record { sent = c.sent; carries = shown_at hs ts s s.protocol refl c.carries }

pub IsServer-Lives : (hs ts : List (List ℕ)) (s : Socket) → Lives hs ts s → IsServer s
IsServer-Lives hs ts s l = (carried hs ts s l).serves

-- Each number of a front carries what its client says and is told, whatever happens.
use Rattle.std.proofs.Common.{◌≡◌, ◌⊎◌, inl, inr, ℕ, suc, Bool, true, false, cond, not, ◌&&◌, List, [], ◌∷◌, ◌++◌, drop, take, length, map, replicate, set}
use Rattle.std.proofs.Common.{Option, Some, None, option_map, is_some, refl, ap, ◌∙◌, sym, subst, append-nil}
use Rattle.std.specs.Prelude.{◌==◌, bytes_eq, codes, option_and_then, nat_le}
use Rattle.std.proofs.lemmas.Bool.{eqb-false, eqb-true, false≢true, eq-eqb, ne_eqb}
use Rattle.std.proofs.lemmas.List.{map-append}
use Rattle.std.proofs.lemmas.Slice.Eq.{bytes_eq-Decides}
use Rattle.sha2.specs.Sha256.{sha256}
use Rattle.iv_rows.specs.Names.{is_name}
use Rattle.iv_rows.specs.Options.{if_some}
use Rattle.iv_access.specs.Rights.{Name}
use Rattle.iv_clients.specs.Clients.{Client, Shown, at_client, client_at, fresh, handing, is_free, may_say, saying, text_shown}
use Rattle.iv_clients.specs.Feeds.{seat_of}
use Rattle.iv_clients.specs.Tokens.{Token, role_opened, token_of}
use Rattle.iv_gate.specs.Arriving.{Step}
use Rattle.iv_gate.specs.Events.{Event, IsWell, arrived, failed, forgave, gone, handed, known, message, next, presented, synced, ticked, led}
use Rattle.iv_gate.specs.Gate.{Gate, begun_for, came, at_text, has_session, is_heard, seated, token_for, with_session}
use Rattle.iv_gate.specs.Laws.{HoldAlways, marked}
use Rattle.iv_gate.specs.Runs.{Runs}
use Rattle.iv_gate.specs.Runs as gate
use Rattle.iv_gate.specs.Touched.{AreTouched, IsNewcomer, itself_after}
use Rattle.iv_peer.specs.Socket.{Socket, closed, ended, is_open, passing, told_text as told_in_frame, took}
use Rattle.iv_peer.specs.Socket as socket
use Rattle.iv_peer.specs.Hearing.{Hears, accepts, refuses_other, refuses_bad, refuses_long, frames, fails}
use Rattle.iv_peer.specs.Lives.{Lives, listed}
use Rattle.iv_peer.specs.Lives as life
use Rattle.iv_desk.specs.Front.{Front, FrontRuns, Happens, HearsAt, arrives, at_socket, begins, begun, by_event, closes, dismisses, fails as front_fails, forgives, leads as front_leads, front_at_start}
use Rattle.iv_desk.specs.Front.{goes_on, has_presented, hears, knows, leaves, left, let_go, let_in, later_text, no_text, first_text, nothing, offered}
use Rattle.iv_desk.specs.Front.{offered_to, offers, put_off, sends, socket_at, starts, syncs, takes, text_for, ticks, told_some, turned_away, with_both}
use Rattle.iv_desk.specs.Front.{is_dropped}
use Rattle.iv_desk.specs.Served.{BrowsersAreTold, CarriesFor}
use Rattle.iv_desk.proofs.ClientsToTell.{AreLines, not_nothing-text_shown, not_zero-suc}
use Rattle.iv_desk.proofs.PresentedTokens.{AlwaysCarries, has_presented-Lives}
use Rattle.iv_clients.proofs.Slots.{client_at-at_other_client, client_at-at_client, client_at-is_free, same-Some, client_at-set_None, client_at-set_other, client_at-set_free}
use Rattle.iv_desk.proofs.Slots.{at_each_number, is_free-at_all, client_at-replicate, not_Some-None}

-- what holds always of the gateway, and of the life of a socket
pub record Laws : Type 0 where
  pub always : HoldAlways
  pub carries : AlwaysCarries
  pub lines : AreLines

-- ---- clients

-- what its socket carries of a client
record Known : Type 0 where
  digest : List ℕ
  messages : List (List ℕ)
  handed : List (List Shown)

abbrev known_of : Client → Known
known_of c = record { digest = c.digest; messages = c.messages; handed = c.handed }

-- of client n as much is known as before
abbrev IsSame : Gate → Gate → ℕ → Type 0
IsSame g h n = option_map known_of (client_at h.clients n) ≡ option_map known_of (client_at g.clients n)

message_comes : (m n : ℕ) (text token : List ℕ) → message m text ≡ presented n token → ⊥
message_comes m n text token e = cc e

handed_comes : (m n : ℕ) (token : List ℕ) → handed m ≡ presented n token → ⊥
handed_comes m n token e = cc e

gone_comes : (m n : ℕ) (token : List ℕ) → gone m ≡ presented n token → ⊥
gone_comes m n token e = cc e

known_comes : (tokens : List Token) (n : ℕ) (token : List ℕ) → known tokens ≡ presented n token → ⊥
known_comes tokens n token e = cc e

ticked_comes : (n : ℕ) (token : List ℕ) → ticked ≡ presented n token → ⊥
ticked_comes n token e = cc e

led_comes : (n : ℕ) (token : List ℕ) → led ≡ presented n token → ⊥
led_comes n token e = cc e

forgave_comes : (n : ℕ) (token : List ℕ) → forgave ≡ presented n token → ⊥
forgave_comes n token e = cc e

arrived_comes : (s : Step) (n : ℕ) (token : List ℕ) → arrived s ≡ presented n token → ⊥
arrived_comes s n token e = cc e

synced_comes : (n : ℕ) (token : List ℕ) → synced ≡ presented n token → ⊥
synced_comes n token e = cc e

failed_comes : (n : ℕ) (token : List ℕ) → failed ≡ presented n token → ⊥
failed_comes n token e = cc e

presented_at : (m n : ℕ) (a b : List ℕ) → presented m a ≡ presented n b → m ≡ n
presented_at m n a b e = cc e

presented_text : (m n : ℕ) (a b : List ℕ) → presented m a ≡ presented n b → a ≡ b
presented_text m n a b e = cc e

-- whether somebody goes by it
abbrev takes_leave : Event → Bool
takes_leave (gone n) = true
takes_leave e = false

does_not_go : (n : ℕ) (e : Event) → takes_leave e ≡ false → e ≡ gone n → ⊥
does_not_go n e h q = false≢true (sym h ∙ ap takes_leave q)

gone_at : (m n : ℕ) → gone m ≡ gone n → m ≡ n
gone_at m n e = cc e

pub goes_or_stays : (n : ℕ) (e : Event) → (e ≡ gone n) ⊎ (e ≡ gone n → ⊥)
goes_or_stays n (gone m) = by (m == n) refl
  where
    by : (b : Bool) → (m == n) ≡ b → (gone m ≡ gone n) ⊎ (gone m ≡ gone n → ⊥)
    by true h = inl (ap (λ k. gone k) (eqb-true m n h))
    by false h = inr (λ e. eqb-false m n h (gone_at m n e))
goes_or_stays n (presented m token) = inr (does_not_go n (presented m token) refl)
goes_or_stays n (message m text) = inr (does_not_go n (message m text) refl)
goes_or_stays n (known tokens) = inr (does_not_go n (known tokens) refl)
goes_or_stays n ticked = inr (does_not_go n ticked refl)
goes_or_stays n synced = inr (does_not_go n synced refl)
goes_or_stays n (handed m) = inr (does_not_go n (handed m) refl)
goes_or_stays n (arrived s) = inr (does_not_go n (arrived s) refl)
goes_or_stays n led = inr (does_not_go n led refl)
goes_or_stays n forgave = inr (does_not_go n forgave refl)
goes_or_stays n failed = inr (does_not_go n failed refl)

-- an event that leaves what is known of it, and by which nobody comes with its number
stays_same : (g : Gate) (e : Event) (n : ℕ) → AreTouched g e → (e ≡ gone n → ⊥) → ((c : Client) → known_of (itself_after n c e) ≡ known_of c)
    → ((token : List ℕ) → e ≡ presented n token → ⊥)
    → IsSame g (next g e) n
stays_same g e n t stays same nobody = by (client_at g.clients n) refl
  where
    none : client_at g.clients n ≡ None → (p : Option Client) → client_at (next g e).clients n ≡ p → option_map known_of p ≡ None
    none h None k = refl
    none h (Some d) k = let c = t.comes n d h k in absurd (nobody c.text c.event)

    by : (o : Option Client) → client_at g.clients n ≡ o → option_map known_of (client_at (next g e).clients n) ≡ option_map known_of o
    by (Some c) h = let k = t.stays n c h stays in ap (option_map known_of) k.there ∙ ap Some (ap known_of k.is ∙ same c)
    by None h = none h (client_at (next g e).clients n) refl

beside_message : (g : Gate) (m n : ℕ) (text : List ℕ) → (m ≡ n → ⊥) → AreTouched g (message m text) → IsSame g (next g (message m text)) n
beside_message g m n text ne t =
    stays_same g (message m text) n t (does_not_go n (message m text) refl)
    (λ c. ap (λ b. known_of (if_some (cond (b && may_say c) (Some text) None) c (λ x. saying x c))) (ne_eqb m n ne)) (message_comes m n text)

beside_token : (g : Gate) (m n : ℕ) (token : List ℕ) → (m ≡ n → ⊥) → AreTouched g (presented m token) → IsSame g (next g (presented m token)) n
beside_token g m n token ne t = stays_same g (presented m token) n t (does_not_go n (presented m token) refl) (λ c. refl)
    (λ b e. ne (presented_at m n token b e))

beside_handed : (g : Gate) (m n : ℕ) → (m ≡ n → ⊥) → AreTouched g (handed m) → IsSame g (next g (handed m)) n
beside_handed g m n ne t = stays_same g (handed m) n t (does_not_go n (handed m) refl) (λ c. ap (λ b. known_of (cond b (handing c) c)) (ne_eqb m n ne))
    (handed_comes m n)

beside_gone : (g : Gate) (m n : ℕ) → (m ≡ n → ⊥) → AreTouched g (gone m) → IsSame g (next g (gone m)) n
beside_gone g m n ne t = stays_same g (gone m) n t (λ e. ne (gone_at m n e)) (λ c. refl) (gone_comes m n)

-- ---- who comes

free_with : (g : Gate) (role : Name) (m : ℕ) → is_free m (with_session g role).clients ≡ is_free m g.clients
free_with g role m = by (seat_of g.seats role)
  where
    begun_by : (o : Option ℕ) → is_free m (if_some o g (λ n. seated g n role)).clients ≡ is_free m g.clients
    begun_by None = refl
    begun_by (Some n) = is_free-at_all m _ g.clients

    by : (o : Option ℕ) → is_free m (if_some o (if_some (begun_for g role) g (λ n. seated g n role)) (λ n. g)).clients ≡ is_free m g.clients
    by None = begun_by (begun_for g role)
    by (Some n) = refl

-- whose token opens a role for a number is the client of it
abbrev came_as : Gate → ℕ → Token → Gate
came_as g m t = let h = with_session g t.role in record h { clients = set h.clients m (Some (fresh h.entries t (at_text h t))) }

came_there : (g : Gate) (m : ℕ) (t : Token) → is_free m g.clients ≡ true
    → client_at (came_as g m t).clients m ≡ Some (fresh (came_as g m t).entries t (at_text (with_session g t.role) t))
came_there g m t free = let h = with_session g t.role in client_at-set_free m (fresh h.entries t (at_text h t)) h.clients (free_with g t.role m ∙ free)

and_true : (b d : Bool) → (b && d) ≡ true → (b ≡ true) × (d ≡ true)
and_true true d h = (refl, h)
and_true false d h = cc

free_by_token : (g : Gate) (m : ℕ) (token : List ℕ) (t : Token) → token_for g m token ≡ Some t → is_free m g.clients ≡ true
free_by_token g m token t h = by (token_of g.tokens (sha256 token)) h
  where
    test : (r : Token) (b : Bool) → (is_name r.role && (is_free m g.clients && has_session g r.role)) ≡ b → cond b (Some r) None ≡ Some t → is_free m g.clients ≡ true
    test r true k e = (and_true (is_free m g.clients) (has_session g r.role) (and_true (is_name r.role) (is_free m g.clients && has_session g r.role) k).1).0
    test r false k e = absurd (not_Some-None t e)

    by : (o : Option Token) → option_and_then (λ (r : Token). cond (is_name r.role && (is_free m g.clients && has_session g r.role)) (Some r) None) o ≡ Some t
        → is_free m g.clients ≡ true
    by None e = absurd (not_Some-None t e)
    by (Some r) e = test r (is_name r.role && (is_free m g.clients && has_session g r.role)) refl e

alive_next : (g : Gate) (m : ℕ) (token : List ℕ) → g.dead ≡ false → next g (presented m token) ≡ came g m token
alive_next g m token a = ap (λ b. cond b g (came g m token)) a

-- where nobody comes in nothing changes
pub next-no_token : (g : Gate) (m : ℕ) (token : List ℕ) → g.dead ≡ false → token_for g m token ≡ None → next g (presented m token) ≡ g
next-no_token g m token a e = alive_next g m token a ∙ ap (λ o. if_some o g (came_as g m)) e

-- ---- one number

pub record LivesClient (c : Client) (s : Socket) : Type 0 where
  pub token : List ℕ
  pub presented : c.digest ≡ sha256 token
  pub life : Lives (token ∷ c.messages) (map text_shown c.handed) s

pub record LivesNobody (s : Socket) : Type 0 where
  pub token : Option (List ℕ)
  pub life : Lives (listed token) [] s
  pub silent : s.over ≡ false → token ≡ None

abbrev pub LivesFor : Option Client → Option Socket → Type 0
LivesFor None None = Unit {0}
LivesFor None (Some s) = LivesNobody s
LivesFor (Some c) None = ⊥
LivesFor (Some c) (Some s) = LivesClient c s

carries_for : Laws → (o : Option Client) (s : Option Socket) → LivesFor o s → CarriesFor o s
carries_for l None None k = k
carries_for l None (Some s) k = record { token = k.token; carries = l.carries (listed k.token) [] s k.life; silent = k.silent }
carries_for l (Some c) None k = k
carries_for l (Some c) (Some s) k =
    record { token = k.token; presented = k.presented; carries = l.carries (k.token ∷ c.messages) (map text_shown c.handed) s k.life }

client_lives : (c d : Client) (s : Socket) (token : List ℕ) → d.digest ≡ sha256 token → Lives (token ∷ c.messages) (map text_shown c.handed) s
    → d.messages ≡ c.messages → d.handed ≡ c.handed → LivesClient d s
client_lives c d s token p l m h = record {
  token = token;
  presented = p;
  life = subst (λ z. Lives (token ∷ z) (map text_shown d.handed) s) (sym m) (subst (λ z. Lives (token ∷ c.messages) (map text_shown z) s) (sym h) l);
}

same_lives : (o p : Option Client) (s : Option Socket) → option_map known_of p ≡ option_map known_of o → LivesFor o s → LivesFor p s
same_lives None None s k l = l
same_lives None (Some d) s k l = absurd (not_Some-None (known_of d) (sym k))
same_lives (Some c) None s k l = absurd (not_Some-None (known_of c) k)
same_lives (Some c) (Some d) None k l = l
same_lives (Some c) (Some d) (Some s) k l =
    let e = same-Some (known_of d) (known_of c) k in
    client_lives c d s l.token (ap (λ (x : Known). x.digest) e ∙ l.presented) l.life (ap (λ (x : Known). x.messages) e) (ap (λ (x : Known). x.handed) e)

-- a step in the life of a socket by which no text is heard or told, and behind which it is over where it was
step_lives : (f : Socket → Socket) → ((hs ts : List (List ℕ)) (s : Socket) → Lives hs ts s → Lives hs ts (f s))
    → ((s : Socket) → (f s).over ≡ false → s.over ≡ false)
    → (o : Option Client) (s : Option Socket) → LivesFor o s → LivesFor o (option_map f s)
step_lives f step over None None k = k
step_lives f step over None (Some s) k = record { token = k.token; life = step (listed k.token) [] s k.life; silent = λ l. k.silent (over s l) }
step_lives f step over (Some c) None k = k
step_lives f step over (Some c) (Some s) k =
    record { token = k.token; presented = k.presented; life = step (k.token ∷ c.messages) (map text_shown c.handed) s k.life }

pub over-closed : (code : ℕ) (words : List ℕ) (s : Socket) → (closed code words s).over ≡ true
over-closed code words s = by (is_open s)
  where
    by : (b : Bool) → (cond b (socket.telling (socket.answer (socket.close_of code words)) (ended s)) (ended s)).over ≡ true
    by true = refl
    by false = refl

pub over-passed : (n : ℕ) (s : Socket) → (passing n s).over ≡ s.over
over-passed n s = by (nat_le n (length s.output))
  where
    by : (b : Bool) → (cond b (record s { output = drop n s.output; sent = s.sent ++ take n s.output }) s).over ≡ s.over
    by true = refl
    by false = refl

takes_lives : (bytes : List ℕ) (o : Option Client) (s : Option Socket) → LivesFor o s → LivesFor o (option_map (took bytes) s)
takes_lives bytes = step_lives (took bytes) (λ hs ts s l. life.takes hs ts s bytes l) (λ s l. l)

closes_lives : (code : ℕ) (words : List ℕ) (o : Option Client) (s : Option Socket) → LivesFor o s → LivesFor o (option_map (closed code words) s)
closes_lives code words = step_lives (closed code words) (λ hs ts s l. life.closes hs ts s code words l)
    (λ s l. absurd (false≢true (sym l ∙ over-closed code words s)))

sends_lives : (n : ℕ) (o : Option Client) (s : Option Socket) → LivesFor o s → LivesFor o (option_map (passing n) s)
sends_lives n = step_lives (passing n) (λ hs ts s l. life.sends hs ts s n l) (λ s l. sym (over-passed n s) ∙ l)

-- ---- what is heard

-- the gateway and socket m were led on from a gateway
pub record Led (cap m : ℕ) (g h : Gate) (t : Socket) : Type 0 where
  pub runs : Runs cap h
  pub alive : h.dead ≡ false
  pub own : LivesFor (client_at h.clients m) (Some t)
  pub others : (n : ℕ) → (m ≡ n → ⊥) → IsSame g h n

event_touches : Laws → (cap : ℕ) (g : Gate) (e : Event) → IsWell e → Runs cap g → g.dead ≡ false → AreTouched g e
event_touches l cap g e w r a = ((l.always cap g r).1 e w).touched a

event_marks : Laws → (cap : ℕ) (g : Gate) (e : Event) → IsWell e → Runs cap g → g.dead ≡ false → (next g e).dead ≡ (marked g e).dead
event_marks l cap g e w r a = ap (λ (k : Gate). k.dead) (((l.always cap g r).1 e w).marks a).marks

heard_over : (s t : Socket) (o : Option (List ℕ)) → Hears s o t → s.over ≡ false
heard_over _ _ _ (accepts s head rest accept over at is) = over
heard_over _ _ _ (refuses_other s over at asks) = over
heard_over _ _ _ (refuses_bad s over at bad) = over
heard_over _ _ _ (refuses_long s over at head long) = over
heard_over _ _ _ (frames s conn n e over at read) = over
heard_over _ _ _ (fails s conn e over at read) = over

-- what is no text is heard
other_lives : (o : Option Client) (s t : Socket) → Hears s None t → LivesFor o (Some s) → LivesFor o (Some t)
other_lives None s t h k = record {
  token = k.token;
  life = subst (λ z. Lives z [] t) (append-nil (listed k.token)) (life.hears (listed k.token) [] s t None k.life h);
  silent = λ l. k.silent (heard_over s t None h);
}
other_lives (Some c) s t h k = record {
  token = k.token;
  presented = k.presented;
  life = subst (λ z. Lives z (map text_shown c.handed) t) (append-nil (k.token ∷ c.messages))
      (life.hears (k.token ∷ c.messages) (map text_shown c.handed) s t None k.life h);
}

-- who has heard no text is no client
pub not_Lives-not_presented : Laws → (t : List ℕ) (hs ts : List (List ℕ)) (s : Socket) → Lives (t ∷ hs) ts s → has_presented s ≡ false → ⊥
not_Lives-not_presented l t hs ts s k h = false≢true (sym h ∙ has_presented-Lives l.carries (t ∷ hs) ts s k)

-- a token is heard, which is the first text
pub Lives-Hears : (s t : Socket) (token : List ℕ) → Hears s (Some token) t → LivesNobody s → Lives (token ∷ []) [] t
Lives-Hears s t token h k = subst (λ z. Lives (listed z ++ token ∷ []) [] t) (k.silent (heard_over s t (Some token) h))
    (life.hears (listed k.token) [] s t (Some token) k.life h)

-- nobody comes in by it
refused_lives : (code : ℕ) (words : List ℕ) (s t : Socket) (token : List ℕ) → Hears s (Some token) t → LivesNobody s → LivesNobody (closed code words t)
refused_lives code words s t token h k = record {
  token = Some token;
  life = life.closes (token ∷ []) [] t code words (Lives-Hears s t token h k);
  silent = λ l. absurd (false≢true (sym l ∙ over-closed code words t));
}

sent_away : (s t : Socket) (token : List ℕ) → Hears s (Some token) t → LivesNobody s → (b : Bool) → LivesNobody (cond b (put_off t) (turned_away t))
sent_away s t token h k true = refused_lives 1013 (codes "No place is free, or the role is not there.") s t token h k
sent_away s t token h k false = refused_lives 4401 (codes "This token opens no role.") s t token h k

-- or a client comes by it
admitted_lives : (s t : Socket) (d : Client) (token : List ℕ) → Hears s (Some token) t → LivesNobody s → d.digest ≡ sha256 token → d.messages ≡ []
    → d.handed ≡ [] → LivesClient d t
admitted_lives s t d token h k e m n = record {
  token = token;
  presented = e;
  life = subst (λ z. Lives (token ∷ z) (map text_shown d.handed) t) (sym m)
      (subst (λ z. Lives (token ∷ []) (map text_shown z) t) (sym n) (Lives-Hears s t token h k));
}

-- the token that is found has the digest by which it is looked for
digest_of : (ts : List Token) (digest : List ℕ) (t : Token) → token_of ts digest ≡ Some t → t.digest ≡ digest
digest_of [] digest t h = absurd (not_Some-None t h)
digest_of (x ∷ ts) digest t h = by (bytes_eq x.digest digest) refl (digest_of ts digest t) h
  where
    by : (b : Bool) → bytes_eq x.digest digest ≡ b → (token_of ts digest ≡ Some t → t.digest ≡ digest) → cond b (Some x) (token_of ts digest) ≡ Some t → t.digest ≡ digest
    by true e rest k = ap (λ (y : Token). y.digest) (sym (same-Some x t k)) ∙ (bytes_eq-Decides x.digest digest).0 e
    by false e rest k = rest k

token_lives : Laws → (cap : ℕ) (g : Gate) (m : ℕ) (s t : Socket) (token : List ℕ) → Runs cap g → g.dead ≡ false → Hears s (Some token) t
    → has_presented s ≡ false
    → LivesFor (client_at g.clients m) (Some s) → LivesFor (client_at (next g (presented m token)).clients m) (Some (let_in g m token t))
token_lives l cap g m s t token r a h first k = by (client_at g.clients m) refl k
  where
    after : Gate
    after = next g (presented m token)

    away : Socket → Socket
    away r = cond (is_some (role_opened g.tokens (sha256 token))) (put_off r) (turned_away r)

    is : (d : Client) → IsNewcomer g (presented m token) m d → LivesNobody s → LivesClient d t
    is d c nobody =
        let same = presented_text m m token c.text c.event in
        admitted_lives s t d token h nobody (ap (λ (x : Client). x.digest) c.is ∙ (digest_of g.tokens (sha256 c.text) c.token c.opened ∙ ap sha256 (sym same)))
        (ap (λ (x : Client). x.messages) c.is) (ap (λ (x : Client). x.handed) c.is)

    none : client_at g.clients m ≡ None → LivesNobody s → (o : Option Token) → token_for g m token ≡ o
        → LivesFor (client_at after.clients m) (Some (cond (is_some o) t (away t)))
    none nobody k None e =
        let unchanged : client_at after.clients m ≡ None = ap (λ (x : Gate). client_at x.clients m) (alive_next g m token a)
        ∙ (ap (λ o. client_at (if_some o g (came_as g m)).clients m) e ∙ nobody) in
        subst (λ z. LivesFor z (Some (away t))) (sym unchanged) (sent_away s t token h k (is_some (role_opened g.tokens (sha256 token))))
    none nobody k (Some opened) e =
        let there = ap (λ (x : Gate). client_at x.clients m) (alive_next g m token a)
        ∙ (ap (λ o. client_at (if_some o g (came_as g m)).clients m) e ∙ came_there g m opened (free_by_token g m token opened e)) in
        subst (λ z. LivesFor z (Some t)) (sym there) (is _ ((event_touches l cap g (presented m token) tt r a).comes m _ nobody there) k)

    by : (o : Option Client) → client_at g.clients m ≡ o → LivesFor o (Some s) → LivesFor (client_at after.clients m) (Some (let_in g m token t))
    by (Some c) e k = absurd (not_Lives-not_presented l k.token c.messages (map text_shown c.handed) s k.life first)
    by None e k = none e k (token_for g m token) refl

-- a message is heard of a client that is heard
heard_client : (o : Option Client) → if_some o false may_say ≡ true → (c : Client) × (o ≡ Some c) × (may_say c ≡ true)
heard_client None h = absurd (false≢true h)
heard_client (Some c) h = (c, refl, h)

message_lives : Laws → (cap : ℕ) (g : Gate) (m : ℕ) (s t : Socket) (text : List ℕ) → Runs cap g → g.dead ≡ false → Hears s (Some text) t → is_heard g m ≡ true
    → LivesFor (client_at g.clients m) (Some s) → LivesFor (client_at (next g (message m text)).clients m) (Some t)
message_lives l cap g m s t text r a h may k =
    let w = heard_client (client_at g.clients m) may in
    let now = (event_touches l cap g (message m text) tt r a).stays m w.0 w.1 (does_not_go m (message m text) refl) in
    let own : LivesClient w.0 s = subst (λ o. LivesFor o (Some s)) w.1 k in
    let heard : known_of now.now ≡ known_of (saying text w.0) =
    ap known_of now.is
    ∙ (ap (λ b. known_of (if_some (cond (b && may_say w.0) (Some text) None) w.0 (λ x. saying x w.0))) (eq-eqb m m refl)
    ∙ ap (λ b. known_of (if_some (cond b (Some text) None) w.0 (λ x. saying x w.0))) w.2) in
    subst (λ o. LivesFor o (Some t)) (sym now.there) (client_lives (saying text w.0) now.now t own.token
    (ap (λ (x : Known). x.digest) heard ∙ own.presented) (life.hears (own.token ∷ w.0.messages) (map text_shown w.0.handed) s t (Some text) own.life h)
    (ap (λ (x : Known). x.messages) heard) (ap (λ (x : Known). x.handed) heard))

pub Led-HearsAt : Laws → (cap m : ℕ) (g : Gate) (s : Socket) (h : Gate) (t : Socket) → Runs cap g → g.dead ≡ false → LivesFor (client_at g.clients m) (Some s)
    → HearsAt m g s h t
    → Led cap m g h t
Led-HearsAt l cap m g s _ _ r a k nothing = record { runs = r; alive = a; own = k; others = λ n ne. refl }
Led-HearsAt l cap m g s _ _ r a k (no_text h b t x e) =
    let w = Led-HearsAt l cap m g s h b r a k x in
    record { runs = w.runs; alive = w.alive; own = other_lives (client_at h.clients m) b t e w.own; others = w.others }
Led-HearsAt l cap m g s _ _ r a k (first_text h b t text x first e) =
    let w = Led-HearsAt l cap m g s h b r a k x in
    record {
      runs = gate.goes_on h (presented m text) tt w.runs;
      alive = event_marks l cap h (presented m text) tt w.runs w.alive ∙ w.alive;
      own = token_lives l cap h m b t text w.runs w.alive e first w.own;
      others = λ n ne. beside_token h m n text ne (event_touches l cap h (presented m text) tt w.runs w.alive) ∙ w.others n ne;
    }
Led-HearsAt l cap m g s _ _ r a k (later_text h b t text x may e) =
    let w = Led-HearsAt l cap m g s h b r a k x in
    record {
      runs = gate.goes_on h (message m text) tt w.runs;
      alive = event_marks l cap h (message m text) tt w.runs w.alive ∙ w.alive;
      own = message_lives l cap h m b t text w.runs w.alive e may w.own;
      others = λ n ne. beside_message h m n text ne (event_touches l cap h (message m text) tt w.runs w.alive) ∙ w.others n ne;
    }

-- ---- what is offered

some_handed : (l : Laws) (c : Client) (s : Socket) (ss : List Shown) (text : List ℕ) → text ≡ text_shown ss → length c.sendable ≡ length ss → c.sendable ≡ ss
    → is_open s ≡ true → LivesClient c s
    → (d : Client) → known_of d ≡ known_of (handing c) → LivesClient d (told_some text s)
some_handed l c s [] [] e n is opened k d same =
    let kept : known_of d ≡ known_of c = same ∙ ap (λ b. known_of (cond b c (record c { sendable = []; asked = 0; handed = c.handed ++ c.sendable ∷ [] })))
    (ap (λ z. z == 0) n) in
    client_lives c d s k.token (ap (λ (x : Known). x.digest) kept ∙ k.presented) k.life (ap (λ (x : Known). x.messages) kept)
    (ap (λ (x : Known). x.handed) kept)
some_handed l c s [] (b ∷ bs) e n is opened k d same = absurd (cc e)
some_handed l c s (x ∷ ss) [] e n is opened k d same = absurd (not_nothing-text_shown l.lines x ss (sym e))
some_handed l c s (x ∷ ss) (b ∷ bs) e n is opened k d same =
    let kept : known_of d ≡ known_of (record c { sendable = []; asked = 0; handed = c.handed ++ c.sendable ∷ [] }) =
    same ∙ ap (λ q. known_of (cond q c (record c { sendable = []; asked = 0; handed = c.handed ++ c.sendable ∷ [] })))
    (ap (λ z. z == 0) n ∙ ne_eqb (suc (length ss)) 0 (λ q. not_zero-suc (length ss) q)) in
    let all : map text_shown c.handed ++ (b ∷ bs) ∷ [] ≡ map text_shown (c.handed ++ c.sendable ∷ []) =
    ap (λ z. map text_shown c.handed ++ z ∷ []) (e ∙ ap text_shown (sym is)) ∙ sym (map-append text_shown c.handed (c.sendable ∷ [])) in
    client_lives (record c { sendable = []; asked = 0; handed = c.handed ++ c.sendable ∷ [] }) d (told_in_frame (b ∷ bs) s) k.token
    (ap (λ (x : Known). x.digest) kept ∙ k.presented)
    (subst (λ z. Lives (k.token ∷ c.messages) z (told_in_frame (b ∷ bs) s)) all
    (life.tells (k.token ∷ c.messages) (map text_shown c.handed) s (b ∷ bs) k.life opened))
    (ap (λ (x : Known). x.messages) kept) (ap (λ (x : Known). x.handed) kept)

handed_lives : Laws → (cap : ℕ) (g : Gate) (m : ℕ) (s : Socket) → Runs cap g → g.dead ≡ false → is_open s ≡ true → LivesFor (client_at g.clients m) (Some s)
    → LivesFor (client_at (next g (handed m)).clients m) (Some (told_some (text_for g m) s))
handed_lives l cap g m s r a opened k = by (client_at g.clients m) refl k
  where
    t : AreTouched g (handed m)
    t = event_touches l cap g (handed m) tt r a

    none : client_at g.clients m ≡ None → (p : Option Client) → client_at (next g (handed m)).clients m ≡ p → LivesNobody s → LivesFor p (Some s)
    none e None h k = k
    none e (Some d) h k = let c = t.comes m d e h in absurd (handed_comes m m c.text c.event)

    by : (o : Option Client) → client_at g.clients m ≡ o → LivesFor o (Some s)
        → LivesFor (client_at (next g (handed m)).clients m) (Some (told_some (if_some o [] (λ c. text_shown c.sendable)) s))
    by None e k = none e (client_at (next g (handed m)).clients m) refl k
    by (Some c) e k =
        let now = t.stays m c e (does_not_go m (handed m) refl) in
        let same : known_of now.now ≡ known_of (handing c) = ap known_of now.is ∙ ap (λ b. known_of (cond b (handing c) c)) (eq-eqb m m refl) in
        subst (λ o. LivesFor o (Some (told_some (text_shown c.sendable) s))) (sym now.there)
        (some_handed l c s c.sendable (text_shown c.sendable) refl refl refl opened k now.now same)

offered_leads : Laws → (cap : ℕ) (g : Gate) (m : ℕ) (s : Socket) → Runs cap g → g.dead ≡ false → LivesFor (client_at g.clients m) (Some s)
    → Led cap m g (offered_to m g s).0 (offered_to m g s).1
offered_leads l cap g m s r a k = by (is_open s) refl
  where
    same : Led cap m g g s
    same = record { runs = r; alive = a; own = k; others = λ n ne. refl }

    gone_too : Led cap m g g (let_go s)
    gone_too = record {
      runs = r;
      alive = a;
      own = closes_lives 1013 (codes "What was told was not taken.") (client_at g.clients m) (Some s) k;
      others =
          λ n ne. refl;
    }

    told : is_open s ≡ true → Led cap m g (next g (handed m)) (told_some (text_for g m) s)
    told opened = record {
      runs = gate.goes_on g (handed m) tt r;
      alive = event_marks l cap g (handed m) tt r a ∙ a;
      own = handed_lives l cap g m s r a opened k;
      others = λ n ne. beside_handed g m n ne (event_touches l cap g (handed m) tt r a);
    }

    told_if : Bool → Gate × Socket
    told_if b = cond {A = Gate × Socket} b (next g (handed m), told_some (text_for g m) s) (g, s)

    gone_if : Bool → Gate × Socket
    gone_if b = cond {A = Gate × Socket} b (g, let_go s) (told_if (length s.output == 0))

    ready : is_open s ≡ true → (b : Bool) → Led cap m g (told_if b).0 (told_if b).1
    ready opened true = told opened
    ready opened false = same

    dropped : is_open s ≡ true → (b : Bool) → Led cap m g (gone_if b).0 (gone_if b).1
    dropped opened true = gone_too
    dropped opened false = ready opened (length s.output == 0)

    by : (b : Bool) → is_open s ≡ b → let o = cond {A = Gate × Socket} (not b) (g, s) (gone_if (is_dropped g m)) in Led cap m g o.0 o.1
    by true opened = dropped opened (is_dropped g m)
    by false opened = same

-- ---- all numbers

pub record IsLiving (cap : ℕ) (d : Front) : Type 0 where
  pub runs : Runs cap d.gate
  pub numbers : (m : ℕ) → LivesFor (client_at d.gate.clients m) (socket_at d m)

both_living : (cap : ℕ) (d : Front) (m : ℕ) (s : Socket) (h : Gate) (t : Socket) → IsLiving cap d → socket_at d m ≡ Some s → Led cap m d.gate h t
    → IsLiving cap (with_both m h t d)
both_living cap d m s h t v e w = record {
  runs = w.runs;
  numbers = at_each_number (λ n. LivesFor (client_at h.clients n) (client_at (at_client m (λ _. t) d.sockets) n)) m
      (subst (LivesFor (client_at h.clients m)) (sym (client_at-at_client m (λ _. t) d.sockets ∙ ap (option_map (λ _. t)) e)) w.own)
      (λ n ne. subst (LivesFor (client_at h.clients n)) (sym (client_at-at_other_client m n (λ _. t) d.sockets ne))
      (same_lives (client_at d.gate.clients n) (client_at h.clients n) (socket_at d n) (w.others n ne) (v.numbers n)));
}

-- a step at one socket alone
socket_living : (cap : ℕ) (d : Front) (m : ℕ) (f : Socket → Socket) → ((o : Option Client) (s : Option Socket) → LivesFor o s → LivesFor o (option_map f s))
    → IsLiving cap d
    → IsLiving cap (at_socket m f d)
socket_living cap d m f step v = record {
  runs = v.runs;
  numbers = at_each_number (λ n. LivesFor (client_at d.gate.clients n) (client_at (at_client m f d.sockets) n)) m
      (subst (LivesFor (client_at d.gate.clients m)) (sym (client_at-at_client m f d.sockets))
      (step (client_at d.gate.clients m) (socket_at d m) (v.numbers m)))
      (λ n ne. subst (LivesFor (client_at d.gate.clients n)) (sym (client_at-at_other_client m n f d.sockets ne)) (v.numbers n));
}

-- an event by which no client says or is handed anything
event_living : (cap : ℕ) (d : Front) (e : Event) → IsWell e → IsLiving cap d → ((n : ℕ) → IsSame d.gate (next d.gate e) n) → IsLiving cap (by_event e d)
event_living cap d e w v same = record {
  runs = gate.goes_on d.gate e w v.runs;
  numbers = λ n. same_lives (client_at d.gate.clients n) (client_at (next d.gate e).clients n) (socket_at d n) (same n) (v.numbers n);
}

begun_living : (cap : ℕ) (d : Front) (m : ℕ) → IsLiving cap d → IsLiving cap (begun m d)
begun_living cap d m v = by (is_free m d.sockets) refl
  where
    nobody : (o : Option Client) → LivesFor o None → LivesFor o (Some socket.fresh)
    nobody None k = record { token = None; life = life.begins; silent = λ l. refl }
    nobody (Some c) k = absurd k

    by : (b : Bool) → is_free m d.sockets ≡ b → IsLiving cap (cond b (record d { sockets = set d.sockets m (Some socket.fresh) }) d)
    by false e = v
    by true e = record {
      runs = v.runs;
      numbers = at_each_number (λ n. LivesFor (client_at d.gate.clients n) (client_at (set d.sockets m (Some socket.fresh)) n)) m
          (subst (LivesFor (client_at d.gate.clients m)) (sym (client_at-set_free m socket.fresh d.sockets e))
          (nobody (client_at d.gate.clients m) (subst (LivesFor (client_at d.gate.clients m)) (client_at-is_free m d.sockets e) (v.numbers m))))
          (λ n ne. subst (LivesFor (client_at d.gate.clients n)) (sym (client_at-set_other m n (Some socket.fresh) d.sockets ne)) (v.numbers n));
    }

left_living : Laws → (cap : ℕ) (d : Front) (m : ℕ) → d.gate.dead ≡ false → IsLiving cap d → IsLiving cap (left m d)
left_living l cap d m a v =
    let t = event_touches l cap d.gate (gone m) tt v.runs a in
    record {
      runs = gate.goes_on d.gate (gone m) tt v.runs;
      numbers = at_each_number (λ n. LivesFor (client_at (next d.gate (gone m)).clients n) (client_at (set d.sockets m None) n)) m
          (subst (λ o. LivesFor o (client_at (set d.sockets m None) m)) (sym (t.leaves m refl))
          (subst (LivesFor None) (sym (client_at-set_None m d.sockets)) tt))
          (λ n ne. subst (LivesFor (client_at (next d.gate (gone m)).clients n)) (sym (client_at-set_other m n None d.sockets ne))
          (same_lives (client_at d.gate.clients n) (client_at (next d.gate (gone m)).clients n) (socket_at d n) (beside_gone d.gate m n ne t) (v.numbers n)));
    }

offered_living : Laws → (cap : ℕ) (d : Front) (m : ℕ) → d.gate.dead ≡ false → IsLiving cap d → IsLiving cap (offered m d)
offered_living l cap d m a v = by (socket_at d m) refl
  where
    by : (o : Option Socket) → socket_at d m ≡ o → IsLiving cap (if_some o d (λ s. let o = offered_to m d.gate s in with_both m o.0 o.1 d))
    by None e = v
    by (Some s) e = both_living cap d m s (offered_to m d.gate s).0 (offered_to m d.gate s).1 v e
        (offered_leads l cap d.gate m s v.runs a (subst (LivesFor (client_at d.gate.clients m)) e (v.numbers m)))

happens_living : Laws → (cap : ℕ) (d e : Front) → d.gate.dead ≡ false → IsLiving cap d → Happens d e → IsLiving cap e
happens_living l cap d _ a v (begins m) = begun_living cap d m v
happens_living l cap d _ a v (takes m bytes) = socket_living cap d m (took bytes) (takes_lives bytes) v
happens_living l cap d _ a v (hears m s t h e x) =
    both_living cap d m s h t v e (Led-HearsAt l cap m d.gate s h t v.runs a (subst (LivesFor (client_at d.gate.clients m)) e (v.numbers m)) x)
happens_living l cap d _ a v (offers m) = offered_living l cap d m a v
happens_living l cap d _ a v (dismisses m) = by (is_dropped d.gate m)
  where
    by : (b : Bool) → IsLiving cap (cond b (at_socket m turned_away d) d)
    by true = socket_living cap d m turned_away (closes_lives 4401 (codes "This token opens no role.")) v
    by false = v
happens_living l cap d _ a v (sends m n) = socket_living cap d m (passing n) (sends_lives n) v
happens_living l cap d _ a v (leaves m) = left_living l cap d m a v
happens_living l cap d _ a v syncs =
    event_living cap d synced tt v (λ n. stays_same d.gate synced n (event_touches l cap d.gate synced tt v.runs a) (does_not_go n synced refl) (λ c. refl)
    (synced_comes n))
happens_living l cap d _ a v (knows tokens) =
    event_living cap d (known tokens) tt v (λ n. stays_same d.gate (known tokens) n (event_touches l cap d.gate (known tokens) tt v.runs a)
    (does_not_go n (known tokens) refl) (λ c. refl) (known_comes tokens n))
happens_living l cap d _ a v (arrives s w) =
    event_living cap d (arrived s) w v (λ n. stays_same d.gate (arrived s) n (event_touches l cap d.gate (arrived s) w v.runs a) (does_not_go n (arrived s) refl) (λ c. refl)
    (arrived_comes s n))
happens_living l cap d _ a v ticks =
    event_living cap d ticked tt v (λ n. stays_same d.gate ticked n (event_touches l cap d.gate ticked tt v.runs a) (does_not_go n ticked refl) (λ c. refl)
    (ticked_comes n))
happens_living l cap d _ a v front_leads =
    event_living cap d led tt v (λ n. stays_same d.gate led n (event_touches l cap d.gate led tt v.runs a) (does_not_go n led refl) (λ c. refl)
    (led_comes n))
happens_living l cap d _ a v forgives =
    event_living cap d forgave tt v (λ n. stays_same d.gate forgave n (event_touches l cap d.gate forgave tt v.runs a) (does_not_go n forgave refl) (λ c. refl)
    (forgave_comes n))
happens_living l cap d _ a v front_fails =
    event_living cap d failed tt v (λ n. stays_same d.gate failed n (event_touches l cap d.gate failed tt v.runs a) (does_not_go n failed refl) (λ c. refl)
    (failed_comes n))

starts_living : (cap : ℕ) (g : Gate) (most : ℕ) → Runs cap g → ((m : ℕ) → client_at g.clients m ≡ None) → IsLiving cap (front_at_start g most)
starts_living cap g most r nobody = record {
  runs = r;
  numbers = λ m. subst (λ o. LivesFor o (client_at (replicate most None) m)) (sym (nobody m)) (subst (LivesFor None) (sym (client_at-replicate most m)) tt);
}

pub IsLiving-FrontRuns : Laws → (cap : ℕ) (d : Front) → FrontRuns cap d → IsLiving cap d
IsLiving-FrontRuns l cap _ (starts g most r nobody) = starts_living cap g most r nobody
IsLiving-FrontRuns l cap _ (goes_on d e r a h) = happens_living l cap d e a (IsLiving-FrontRuns l cap d r) h
IsLiving-FrontRuns l cap _ (closes d m code words r a may) = socket_living cap d m (closed code words) (closes_lives code words) (IsLiving-FrontRuns l cap d r)

pub browsers_told : Laws → BrowsersAreTold
browsers_told l cap d r =
    let v = IsLiving-FrontRuns l cap d r in
    record {
      numbers = λ m. carries_for l (client_at d.gate.clients m) (socket_at d m) (v.numbers m);
      gate = (l.always cap d.gate v.runs).0;
      events = (l.always cap d.gate v.runs).1;
    }

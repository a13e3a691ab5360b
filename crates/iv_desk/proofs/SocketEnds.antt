-- A socket ends for a cause.
use Rattle.std.proofs.Common.{◌≡◌, ◌⊎◌, inl, inr, ◌<◌, ℕ, Bool, true, false, cond, not, List, [], ◌∷◌, length, map, set, Option, Some, None, option_map}
use Rattle.std.proofs.Common.{is_some, refl, ap, ◌∙◌, sym, subst}
use Rattle.std.specs.Prelude.{◌==◌, Err, codes}
use Rattle.std.proofs.lemmas.Bool.{eqb-false, eqb-true, false≢true}
use Rattle.sha2.specs.Sha256.{sha256}
use Rattle.websocket.specs.Content.{Content, text, binary, ping, pong, close}
use Rattle.websocket.specs.Connection.{Connection, read_step}
use Rattle.iv_rows.specs.Options.{if_some}
use Rattle.iv_clients.specs.Clients.{Client, at_client, client_at, is_free, text_shown}
use Rattle.iv_clients.specs.Tokens.{Token, role_opened}
use Rattle.iv_gate.specs.Events.{handed, message, next, presented}
use Rattle.iv_gate.specs.Gate.{Gate, token_for}
use Rattle.iv_gate.specs.Runs.{Runs}
use Rattle.httparse.specs.Grammar.{HasNoRequest}
use Rattle.websocket.specs.declared.error.Error.{Error}
use Rattle.iv_peer.specs.Socket.{Socket, ending, fresh, is_open, most_head, passing, stepped, took}
use Rattle.iv_peer.specs.Socket as socket
use Rattle.iv_peer.specs.Hearing.{AsksOther, Hears, IsBadHead, accepts, refuses_other, refuses_bad, refuses_long, frames, fails, text_in}
use Rattle.iv_peer.specs.Lives.{CarriesAt, listed, texts_of}
use Rattle.iv_desk.specs.Front.{Front, FrontRuns, Happens, HearsAt, arrives, at_socket, begins, dismisses, fails as front_fails, leads as front_leads, first_text, has_presented, hears}
use Rattle.iv_desk.specs.Front.{is_dropped, knows, later_text, leaves, let_in, no_text, nothing, offered, offered_to, offers, put_off, sends, socket_at, syncs}
use Rattle.iv_desk.specs.Front.{forgives, takes, text_for, ticks, told_some, turned_away, with_both}
use Rattle.iv_desk.specs.Desks.{IsLived}
use Rattle.iv_desk.specs.Causes.{HasFailed, IsOverFor, asked_none, dropped, ended, failed, is_last, refused}
use Rattle.iv_desk.proofs.OneNumber.{offered_by}
use Rattle.iv_desk.proofs.PresentedTokens.{SameEffects-closed, texts_of-Lives}
use Rattle.iv_desk.proofs.NumberTraffic.{Laws, LivesFor, LivesNobody, Lives-Hears, Led-HearsAt, next-no_token, over-passed, IsLiving-FrontRuns, not_Lives-not_presented}
use Rattle.iv_clients.proofs.Slots.{client_at-at_other_client, client_at-at_client, client_at-is_free, same-Some, client_at-set_None, client_at-set_other}
use Rattle.iv_desk.proofs.Slots.{not_Some-None}

-- ---- what is heard

-- behind a text nothing is over
text_goes_on : (r t : Socket) (o : Option (List ℕ)) (said : List ℕ) → Hears r o t → o ≡ Some said → t.over ≡ false
text_goes_on _ _ _ said (accepts s head rest accept over at is) e = absurd (not_Some-None said e)
text_goes_on _ _ _ said (refuses_other s over at asks) e = absurd (not_Some-None said e)
text_goes_on _ _ _ said (refuses_bad s over at bad) e = absurd (not_Some-None said e)
text_goes_on _ _ _ said (refuses_long s over at head long) e = absurd (not_Some-None said e)
text_goes_on _ _ _ said (frames s conn n x over at read) e = by x.message e
  where
    by : (c : Option Content) → text_in c ≡ Some said → (ending c (stepped n x s)).over ≡ false
    by None e = absurd (not_Some-None said e)
    by (Some (text bytes)) e = over
    by (Some (binary bytes)) e = absurd (not_Some-None said e)
    by (Some (ping bytes)) e = absurd (not_Some-None said e)
    by (Some (pong bytes)) e = absurd (not_Some-None said e)
    by (Some (close frame)) e = absurd (not_Some-None said e)
text_goes_on _ _ _ said (fails s conn x over at read) e = absurd (not_Some-None said e)

not_over : (s : Socket) → s.over ≡ false → s.over ≡ true → ⊥
not_over s a b = false≢true (sym a ∙ b)

-- before the handshake all that was read waits
all_waits : Laws → (s : Socket) → IsLived s → s.over ≡ false → s.protocol ≡ None → s.input ≡ s.read
all_waits l s v over at = by s.protocol at (l.carries v.0 v.1 s v.2).carries
  where
    by : (p : Option Connection) → p ≡ None → CarriesAt v.0 v.1 s p → s.input ≡ s.read
    by None e u = (u.waits over).1
    by (Some conn) e u = absurd (not_Some-None conn (sym e))

has_failed : Laws → (s : Socket) (conn : Connection) (x : Error) → IsLived s → s.over ≡ false → s.protocol ≡ Some conn → read_step conn s.input ≡ Err x
    → HasFailed (socket.failed x s)
has_failed l s conn x v over at read = by s.protocol at (l.carries v.0 v.1 s v.2).carries
  where
    by : (p : Option Connection) → p ≡ Some conn → CarriesAt v.0 v.1 s p → HasFailed (socket.failed x s)
    by None e u = absurd (not_Some-None conn e)
    by (Some other) e u =
        let w = (u.lives over).1 in
        record {
          head = u.head;
          accept = u.accept;
          body = u.body;
          request = u.request;
          state = u.last;
          rest = u.rest;
          decodes = u.decodes;
          error = x;
          fails = (λ i. read_step ((w.0 ∙ same-Some other conn e) i) (w.1 i)) ∙ read;
        }

-- what is heard ends it
ends_by_bytes : Laws → (g : Gate) (m : ℕ) (r t : Socket) (o : Option (List ℕ)) → IsLived r → Hears r o t → t.over ≡ true → IsOverFor g m t
ends_by_bytes l g m _ _ _ v (accepts s head rest accept over at is) e = absurd (not_over s over e)
ends_by_bytes l g m _ _ _ v (refuses_other s over at asks) e = asked_none (inl (subst AsksOther (all_waits l s v over at) asks))
ends_by_bytes l g m _ _ _ v (refuses_bad s over at bad) e = asked_none (inr (inl (subst IsBadHead (all_waits l s v over at) bad)))
ends_by_bytes l g m _ _ _ v (refuses_long s over at head long) e =
    let all = all_waits l s v over at in asked_none (inr (inr (subst HasNoRequest all head, subst (λ z. most_head < length z) all long)))
ends_by_bytes l g m _ _ _ v (frames s conn n x over at read) e = by x.message refl e
  where
    by : (c : Option Content) → x.message ≡ c → (ending c (stepped n x s)).over ≡ true → IsOverFor g m (ending c (stepped n x s))
    by None h e = absurd (not_over s over e)
    by (Some (text bytes)) h e = absurd (not_over s over e)
    by (Some (binary bytes)) h e = ended (record { before = s.effects; last = x; all = refl; ends = ap is_last h })
    by (Some (ping bytes)) h e = absurd (not_over s over e)
    by (Some (pong bytes)) h e = absurd (not_over s over e)
    by (Some (close frame)) h e = ended (record { before = s.effects; last = x; all = refl; ends = ap is_last h })
ends_by_bytes l g m _ _ _ v (fails s conn x over at read) e = failed (has_failed l s conn x v over at read)

lived_of : (o : Option Client) (s : Socket) → LivesFor o (Some s) → IsLived s
lived_of None s k = (listed k.token, [], k.life)
lived_of (Some c) s k = (k.token ∷ c.messages, map text_shown c.handed, k.life)

-- who presents a first text is nobody yet
still_nobody : Laws → (o : Option Client) (s : Socket) → LivesFor o (Some s) → has_presented s ≡ false → LivesNobody s
still_nobody l None s k first = k
still_nobody l (Some c) s k first = absurd (not_Lives-not_presented l k.token c.messages (map text_shown c.handed) s k.life first)

-- or its token lets nobody in
token_ends : Laws → (g : Gate) (m : ℕ) (s t : Socket) (token : List ℕ) → g.dead ≡ false → LivesNobody s → Hears s (Some token) t
    → (let_in g m token t).over ≡ true
    → IsOverFor (next g (presented m token)) m (let_in g m token t)
token_ends l g m s t token a k h e = by (token_for g m token) refl e
  where
    away : Bool → Socket
    away b = cond b (put_off t) (turned_away t)

    said : (b : Bool) → texts_of (away b).effects ≡ token ∷ []
    said true = ap texts_of (SameEffects-closed 1013 (codes "No place is free, or the role is not there.") t)
        ∙ sym (texts_of-Lives l.carries (token ∷ []) [] t (Lives-Hears s t token h k))
    said false = ap texts_of (SameEffects-closed 4401 (codes "This token opens no role.") t)
        ∙ sym (texts_of-Lives l.carries (token ∷ []) [] t (Lives-Hears s t token h k))

    by : (o : Option Token) → token_for g m token ≡ o → (cond (is_some o) t (away (is_some (role_opened g.tokens (sha256 token))))).over ≡ true
        → IsOverFor (next g (presented m token)) m (cond (is_some o) t (away (is_some (role_opened g.tokens (sha256 token)))))
    by None none e = refused (record {
      token = token;
      said = said (is_some (role_opened g.tokens (sha256 token)));
      nobody = ap (λ (x : Gate). token_for x m token) (next-no_token g m token a none) ∙ none;
    })
    by (Some opened) some e = absurd (not_over t (text_goes_on s t (Some token) token h refl) e)

hearing_ends : Laws → (cap m : ℕ) (g : Gate) (s : Socket) (h : Gate) (t : Socket) → Runs cap g → g.dead ≡ false → LivesFor (client_at g.clients m) (Some s)
    → HearsAt m g s h t → s.over ≡ false
    → t.over ≡ true → IsOverFor h m t
hearing_ends l cap m g s _ _ r a k nothing live e = absurd (not_over s live e)
hearing_ends l cap m g s _ _ r a k (no_text h b t x y) live e =
    ends_by_bytes l h m b t None (lived_of (client_at h.clients m) b (Led-HearsAt l cap m g s h b r a k x).own) y e
hearing_ends l cap m g s _ _ r a k (first_text h b t said x first y) live e =
    let w = Led-HearsAt l cap m g s h b r a k x in
    token_ends l h m b t said w.alive (still_nobody l (client_at h.clients m) b w.own first) y e
hearing_ends l cap m g s _ _ r a k (later_text h b t said x may y) live e = absurd (not_over t (text_goes_on b t (Some said) said y refl) e)

-- ---- what is offered

told_over : (bytes : List ℕ) (s : Socket) → (told_some bytes s).over ≡ s.over
told_over [] s = refl
told_over (b ∷ bs) s = by (is_open s)
  where
    by : (p : Bool) → (cond p (socket.telling (socket.told (b ∷ bs)) s) s).over ≡ s.over
    by true = refl
    by false = refl

-- an offer ends it where its client is to go
offer_ends : (g : Gate) (m : ℕ) (s : Socket) → s.over ≡ false → (offered_to m g s).1.over ≡ true → is_dropped (offered_to m g s).0 m ≡ true
offer_ends g m s live e = by (is_open s) (is_dropped g m) (length s.output == 0) refl e
  where
    by : (p q z : Bool) → is_dropped g m ≡ q → (offered_by g m s p q z).1.over ≡ true → is_dropped (offered_by g m s p q z).0 m ≡ true
    by false q z f e = absurd (not_over s live e)
    by true true z f e = f
    by true false true f e = absurd (not_over s live (sym (told_over (text_for g m) s) ∙ e))
    by true false false f e = absurd (not_over s live e)

-- ---- all numbers

-- a socket behind a step at a number stays, or has the number
at_number : (n m : ℕ) (f : Socket → Socket) (xs : List (Option Socket)) (s t : Socket) → client_at xs m ≡ Some s → client_at (at_client n f xs) m ≡ Some t
    → (t ≡ s) ⊎ ((n ≡ m) × (t ≡ f s))
at_number n m f xs s t here there = by (n == m) refl
  where
    by : (b : Bool) → (n == m) ≡ b → (t ≡ s) ⊎ ((n ≡ m) × (t ≡ f s))
    by true e =
        let same = eqb-true n m e in
        inr (
          same,
          sym (same-Some (f s) t
              (sym (client_at-at_client m f xs ∙ ap (option_map f) here) ∙ subst (λ z. client_at (at_client z f xs) m ≡ Some t) same there)),
        )
    by false e = inl (sym (same-Some s t (sym (client_at-at_other_client n m f xs (eqb-false n m e) ∙ here) ∙ there)))

stays_going : (s t : Socket) → t ≡ s → s.over ≡ false → t.over ≡ true → ⊥
stays_going s t same live e = false≢true (sym live ∙ (ap (λ (x : Socket). x.over) (sym same) ∙ e))

-- where a step keeps going what goes on, it ends nothing
keeps_going : (n m : ℕ) (f : Socket → Socket) (xs : List (Option Socket)) (s t : Socket) → ((s : Socket) → (f s).over ≡ s.over) → client_at xs m ≡ Some s
    → client_at (at_client n f xs) m ≡ Some t
    → s.over ≡ false → t.over ≡ true → ⊥
keeps_going n m f xs s t keeps here there live e = by (at_number n m f xs s t here there)
  where
    by : (t ≡ s) ⊎ ((n ≡ m) × (t ≡ f s)) → ⊥
    by (inl same) = stays_going s t same live e
    by (inr w) = false≢true (sym live ∙ (sym (keeps s) ∙ (ap (λ (x : Socket). x.over) (sym w.1) ∙ e)))

pub IsOverFor-Happens : Laws → (cap m : ℕ) (d e : Front) (s t : Socket) → FrontRuns cap d → d.gate.dead ≡ false → Happens d e → socket_at d m ≡ Some s
    → s.over ≡ false → socket_at e m ≡ Some t → t.over ≡ true
    → IsOverFor e.gate m t
IsOverFor-Happens l cap m d _ s t r a (begins n) here live there over = absurd (by (is_free n d.sockets) refl there)
  where
    other : (n == m) ≡ false → client_at (set d.sockets n (Some fresh)) m ≡ Some t → ⊥
    other e there = stays_going s t (sym (same-Some s t (sym (client_at-set_other n m (Some fresh) d.sockets (eqb-false n m e) ∙ here) ∙ there))) live over

    at : is_free n d.sockets ≡ true → (b : Bool) → (n == m) ≡ b → client_at (set d.sockets n (Some fresh)) m ≡ Some t → ⊥
    at free true e there = not_Some-None s (sym (subst (λ z. client_at d.sockets z ≡ None) (eqb-true n m e) (client_at-is_free n d.sockets free)) ∙ here)
    at free false e there = other e there

    by : (b : Bool) → is_free n d.sockets ≡ b → socket_at (cond b (record d { sockets = set d.sockets n (Some fresh) }) d) m ≡ Some t → ⊥
    by false free there = stays_going s t (sym (same-Some s t (sym here ∙ there))) live over
    by true free there = at free (n == m) refl there
IsOverFor-Happens l cap m d _ s t r a (takes n bytes) here live there over =
    absurd (keeps_going n m (took bytes) d.sockets s t (λ s. refl) here there live over)
IsOverFor-Happens l cap m d _ s t r a (hears n q u h at x) here live there over = by (at_number n m (λ _. u) d.sockets s t here there)
  where
    by : (t ≡ s) ⊎ ((n ≡ m) × (t ≡ u)) → IsOverFor h m t
    by (inl same) = absurd (stays_going s t same live over)
    by (inr w) =
        let was : q ≡ s = same-Some q s (sym (subst (λ z. client_at d.sockets z ≡ Some q) w.0 at) ∙ here) in
        let v = IsLiving-FrontRuns l cap d r in
        hearing_ends l cap m d.gate s h t v.runs a (subst (LivesFor (client_at d.gate.clients m)) here (v.numbers m))
        (subst (λ z. HearsAt z d.gate s h t) w.0 (subst (λ z. HearsAt n d.gate z h t) was (subst (HearsAt n d.gate q h) (sym w.1) x))) live over
IsOverFor-Happens l cap m d _ s t r a (offers n) here live there over = by (socket_at d n) refl there
  where
    at : (q : Socket) → socket_at d n ≡ Some q → (t ≡ s) ⊎ ((n ≡ m) × (t ≡ (offered_to n d.gate q).1)) → IsOverFor (offered_to n d.gate q).0 m t
    at q e (inl same) = absurd (stays_going s t same live over)
    at q e (inr w) =
        let was : q ≡ s = same-Some q s (sym (subst (λ z. client_at d.sockets z ≡ Some q) w.0 e) ∙ here) in
        dropped (subst (λ z. is_dropped (offered_to n d.gate q).0 z ≡ true) w.0
        (offer_ends d.gate n q (ap (λ (x : Socket). x.over) was ∙ live) (ap (λ (x : Socket). x.over) (sym w.1) ∙ over)))

    by : (o : Option Socket) → socket_at d n ≡ o → let e = if_some o d (λ s. with_both n (offered_to n d.gate s).0 (offered_to n d.gate s).1 d)
        in socket_at e m ≡ Some t → IsOverFor e.gate m t
    by None e there = absurd (stays_going s t (sym (same-Some s t (sym here ∙ there))) live over)
    by (Some q) e there = at q e (at_number n m (λ _. (offered_to n d.gate q).1) d.sockets s t here there)
IsOverFor-Happens l cap m d _ s t r a (dismisses n) here live there over = by (is_dropped d.gate n) refl there
  where
    at : is_dropped d.gate n ≡ true → (t ≡ s) ⊎ ((n ≡ m) × (t ≡ turned_away s)) → IsOverFor d.gate m t
    at f (inl same) = absurd (stays_going s t same live over)
    at f (inr w) = dropped (subst (λ z. is_dropped d.gate z ≡ true) w.0 f)

    by : (b : Bool) → is_dropped d.gate n ≡ b → let e = cond b (at_socket n turned_away d) d in socket_at e m ≡ Some t → IsOverFor e.gate m t
    by true f there = at f (at_number n m turned_away d.sockets s t here there)
    by false f there = absurd (stays_going s t (sym (same-Some s t (sym here ∙ there))) live over)
IsOverFor-Happens l cap m d _ s t r a (sends n k) here live there over = absurd (keeps_going n m (passing k) d.sockets s t (over-passed k) here there live over)
IsOverFor-Happens l cap m d _ s t r a (leaves n) here live there over = absurd (by (n == m) refl)
  where
    by : (b : Bool) → (n == m) ≡ b → ⊥
    by true e = not_Some-None t (sym (client_at-set_None m d.sockets) ∙ subst (λ z. client_at (set d.sockets z None) m ≡ Some t) (eqb-true n m e) there)
    by false e = stays_going s t (sym (same-Some s t (sym (client_at-set_other n m None d.sockets (eqb-false n m e) ∙ here) ∙ there))) live over
IsOverFor-Happens l cap m d _ s t r a syncs here live there over = absurd (stays_going s t (sym (same-Some s t (sym here ∙ there))) live over)
IsOverFor-Happens l cap m d _ s t r a (knows tokens) here live there over = absurd (stays_going s t (sym (same-Some s t (sym here ∙ there))) live over)
IsOverFor-Happens l cap m d _ s t r a (arrives e w) here live there over = absurd (stays_going s t (sym (same-Some s t (sym here ∙ there))) live over)
IsOverFor-Happens l cap m d _ s t r a ticks here live there over = absurd (stays_going s t (sym (same-Some s t (sym here ∙ there))) live over)
IsOverFor-Happens l cap m d _ s t r a front_leads here live there over = absurd (stays_going s t (sym (same-Some s t (sym here ∙ there))) live over)
IsOverFor-Happens l cap m d _ s t r a forgives here live there over = absurd (stays_going s t (sym (same-Some s t (sym here ∙ there))) live over)
IsOverFor-Happens l cap m d _ s t r a front_fails here live there over = absurd (stays_going s t (sym (same-Some s t (sym here ∙ there))) live over)

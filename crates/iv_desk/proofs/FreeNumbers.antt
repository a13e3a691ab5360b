-- Who takes all that it is offered is free then.
use Rattle.std.proofs.Common.{◌≡◌, ◌⊎◌, inl, inr, ◌≤◌, ℕ, suc, ◌+◌, Bool, true, false, cond, not, ◌&&◌, ◌||◌, List, [], ◌∷◌, ◌++◌, drop, take, length, map}
use Rattle.std.proofs.Common.{Option, Some, None, option_map, is_some, refl, ap, ◌∙◌, sym, subst, arith, le_refl}
use Rattle.std.specs.Prelude.{◌==◌, codes, flat_map, nat_le, nat_lt, slice_get}
use Rattle.std.proofs.lemmas.Bool.{false≢true, le-leb, ne_eqb, or_parts}
use Rattle.std.proofs.lemmas.List.{drop_all}
use Rattle.iv_rows.specs.Options.{if_some}
use Rattle.iv_message.specs.Told.{Told}
use Rattle.iv_clients.specs.Bounds.{most_requests, most_waiting}
use Rattle.iv_clients.specs.Clients.{Client, Shown, all_shown, client_at, dropping, handing, is_slow, may_say, released, saying, text_shown}
use Rattle.iv_gate.specs.Events.{Event, IsWell, arrived, failed, forgave, gone, handed, hands, known, message, next, on_disk, presented, synced, ticked, led}
use Rattle.iv_gate.specs.Gate.{Gate, is_heard}
use Rattle.iv_gate.specs.Laws.{HoldAlways}
use Rattle.iv_gate.specs.Replies.{IsClient, heard_by, told_by}
use Rattle.iv_gate.specs.Restoring.{Restores}
use Rattle.iv_journal.specs.Journal.{Line}
use Rattle.iv_gate.specs.Runs.{Runs}
use Rattle.iv_gate.specs.Runs as gate
use Rattle.iv_gate.specs.Touched.{as_told, drops, itself_after}
use Rattle.websocket.specs.Connection.{Connection}
use Rattle.iv_peer.specs.Socket.{Socket, is_open, passing}
use Rattle.iv_peer.specs.Lives.{CarriesAt, listed}
use Rattle.iv_desk.specs.Front.{Front, by_event, goes_on, has_presented, is_dropped, let_go, most_pending, offered, offered_to, offers, sends, socket_at, syncs}
use Rattle.iv_desk.specs.Front.{with_both}
use Rattle.iv_desk.specs.Progress.{HeldAreFreed, IsFree, caught_up, left_at, taken}
use Rattle.iv_desk.proofs.RunsByCalls.{dead-offered}
use Rattle.iv_desk.proofs.ClientsToTell.{not_zero-suc}
use Rattle.iv_desk.proofs.OneNumber.{LeavesMarks, dead-next, offered_to-offered_by}
use Rattle.iv_desk.proofs.PresentedTokens.{has_presented-Lives}
use Rattle.iv_desk.proofs.NumberTraffic.{IsLiving, Laws, LivesClient, LivesFor, LivesNobody, over-closed, goes_or_stays, over-passed, IsLiving-FrontRuns}
use Rattle.iv_clients.proofs.Slots.{client_at-at_all, client_at-at_client, same-Some}
use Rattle.iv_desk.proofs.Slots.{client_at-replicate, not_Some-None}

-- ---- who has asked was told something since something was handed to it

-- what waits for it
abbrev rest : Client → List Shown
rest c = c.sendable ++ c.unsynced

abbrev given : Client → List Shown
given c = flat_map (λ ss. ss) c.handed

abbrev AskedWaits : Client → Type 0
AskedWaits c = c.dropped ≡ false → rest c ≡ [] → c.asked ≡ 0

no_front : {X : Type 0} (xs ys : List X) → [] ≡ xs ++ ys → xs ≡ []
no_front [] ys e = refl
no_front (x ∷ xs) ys e = absurd (cc e)

-- where nothing waits though more was told, nothing waited
none_waited : (h w more : List Shown) → h ++ [] ≡ (h ++ w) ++ more → w ≡ []
none_waited [] w more e = no_front w more e
none_waited (x ∷ h) w more e = let tail : h ++ [] ≡ (h ++ w) ++ more = cc e in none_waited h w more tail

told_none : (h w : List Shown) → drop (length (map (λ (s : Shown). s.told) (h ++ w))) (map (λ (s : Shown). s.told) (h ++ [])) ≡ []
told_none h w = drop_all (length (map (λ (s : Shown). s.told) (h ++ w))) (map (λ (s : Shown). s.told) (h ++ [])) (shorter h w)
  where
    shorter : (h w : List Shown) → length (map (λ (s : Shown). s.told) (h ++ [])) ≤ length (map (λ (s : Shown). s.told) (h ++ w))
    shorter [] w = omega arith
    shorter (x ∷ h) w = let less = shorter h w in omega (arith, less)

-- how much it has asked, and what was handed to it
record Asked : Type 0 where
  asked : ℕ
  handed : List (List Shown)

abbrev asked_of : Client → Asked
asked_of c = record { asked = c.asked; handed = c.handed }

-- neither of which changes
same_asked : (c d : Client) (more : List Shown) → AskedWaits c → c.dropped ≡ false → asked_of d ≡ asked_of c → all_shown d ≡ all_shown c ++ more → AskedWaits d
same_asked c d more k stays same keeps = λ _ none.
    let handed_same : given d ≡ given c = ap (λ (x : Asked). flat_map (λ ss. ss) x.handed) same in
    let alike : given c ++ [] ≡ (given c ++ rest c) ++ more = sym ((λ i. handed_same i ++ none i)) ∙ keeps in
    ap (λ (x : Asked). x.asked) same ∙ k stays (none_waited (given c) (rest c) more alike)

-- it is told a reply to what it says
replied_waits : (c d : Client) (t : Told) (others : List Told) → given d ≡ given c → told_by c d ≡ t ∷ others → AskedWaits d
replied_waits c d t others same first =
    λ _ none. absurd (no_reply (sym (told_none (given c) (rest c))
    ∙ (sym (ap (λ z. drop (length (map (λ (s : Shown). s.told) (all_shown c))) (map (λ (s : Shown). s.told) z)) (λ i. same i ++ none i)) ∙ first)))
  where
    no_reply : [] ≡ t ∷ others → ⊥
    no_reply e = cc e

-- something is handed to it
handed_waits : (c d : Client) (more : List Shown) → AskedWaits c → c.dropped ≡ false → asked_of d ≡ asked_of (handing c) → all_shown d ≡ all_shown c ++ more
    → AskedWaits d
handed_waits c d more k stays same keeps = by (length c.sendable == 0) same
  where
    by : (b : Bool) → asked_of d ≡ asked_of (cond b c (record c { sendable = []; asked = 0; handed = c.handed ++ c.sendable ∷ [] })) → AskedWaits d
    by true same = same_asked c d more k stays same keeps
    by false same = λ _ _. ap (λ (x : Asked). x.asked) same

-- what a client that stays is told by an event
abbrev shown_by : Gate → Event → ℕ → Client → Client → List Shown
shown_by g e m c d = map (λ t. record { told = t; entries = (next g e).entries; answers = is_some (heard_by m c e) }) (told_by c d)

-- of a client that stays
kept_waits : HoldAlways → (cap : ℕ) (g : Gate) (e : Event) → IsWell e → Runs cap g → g.dead ≡ false → (m : ℕ) (c d : Client) → IsClient g m c → IsClient (next g e) m d
    → asked_of d ≡ asked_of (itself_after m c e) → AskedWaits c → AskedWaits d
kept_waits l cap g (message n text) v r a m c d x y same k = by (n == m && may_say c) refl
  where
    shows : all_shown d ≡ all_shown c ++ shown_by g (message n text) m c d
    shows = ((l cap g r).1 (message n text) tt).shows m c d x y

    by : (b : Bool) → (n == m && may_say c) ≡ b → AskedWaits d
    by true e =
        let w = (((l cap g r).1 (message n text) tt).replied a).own m c d x y text (ap (λ b. cond b (Some text) None) e) in
        replied_waits c d w.0 w.1 (ap (λ (k : Asked). flat_map (λ ss. ss) k.handed)
        (same ∙ ap (λ b. asked_of (if_some (cond b (Some text) None) c (λ t. saying t c))) e)) w.2
    by false e = same_asked c d (shown_by g (message n text) m c d) k x.stays
        (same ∙ ap (λ b. asked_of (if_some (cond b (Some text) None) c (λ t. saying t c))) e) shows
kept_waits l cap g (handed n) v r a m c d x y same k = by (n == m) refl
  where
    shows : all_shown d ≡ all_shown c ++ shown_by g (handed n) m c d
    shows = ((l cap g r).1 (handed n) tt).shows m c d x y

    by : (b : Bool) → (n == m) ≡ b → AskedWaits d
    by true e = handed_waits c d (shown_by g (handed n) m c d) k x.stays (same ∙ ap (λ b. asked_of (cond b (handing c) c)) e) shows
    by false e = same_asked c d (shown_by g (handed n) m c d) k x.stays (same ∙ ap (λ b. asked_of (cond b (handing c) c)) e) shows
kept_waits l cap g (presented n token) v r a m c d x y same k = same_asked c d _ k x.stays same (((l cap g r).1 (presented n token) tt).shows m c d x y)
kept_waits l cap g (gone n) v r a m c d x y same k = same_asked c d _ k x.stays same (((l cap g r).1 (gone n) tt).shows m c d x y)
kept_waits l cap g (known tokens) v r a m c d x y same k = same_asked c d _ k x.stays same (((l cap g r).1 (known tokens) tt).shows m c d x y)
kept_waits l cap g ticked v r a m c d x y same k = same_asked c d _ k x.stays same (((l cap g r).1 ticked tt).shows m c d x y)
kept_waits l cap g synced v r a m c d x y same k = same_asked c d _ k x.stays same (((l cap g r).1 synced tt).shows m c d x y)
kept_waits l cap g (arrived s) v r a m c d x y same k = same_asked c d _ k x.stays same (((l cap g r).1 (arrived s) v).shows m c d x y)
kept_waits l cap g led v r a m c d x y same k = same_asked c d _ k x.stays same (((l cap g r).1 led tt).shows m c d x y)
kept_waits l cap g forgave v r a m c d x y same k = same_asked c d _ k x.stays same (((l cap g r).1 forgave tt).shows m c d x y)
kept_waits l cap g failed v r a m c d x y same k = same_asked c d _ k x.stays same (((l cap g r).1 failed tt).shows m c d x y)

next_waits : HoldAlways → (cap : ℕ) (g : Gate) (e : Event) → IsWell e → Runs cap g → ((m : ℕ) (c : Client) → client_at g.clients m ≡ Some c → AskedWaits c)
    → (m : ℕ) (d : Client) → client_at (next g e).clients m ≡ Some d → AskedWaits d
next_waits l cap g e v r k m d there = by g.dead refl
  where
    stays : g.dead ≡ false → (c : Client) → client_at g.clients m ≡ Some c → (e ≡ gone m) ⊎ (e ≡ gone m → ⊥) → AskedWaits d
    stays a c here (inl goes) = absurd (not_Some-None d (sym ((((l cap g r).1 e v).touched a).leaves m goes) ∙ there))
    stays a c here (inr left) =
        let w = (((l cap g r).1 e v).touched a).stays m c here left in
        let is : d ≡ record (as_told w.now (itself_after m c e)) { dropped = c.dropped || drops c e } = sym (same-Some w.now d (sym w.there ∙ there)) ∙ w.is in
        λ alive none. kept_waits l cap g e v r a m c d
        (record { there = here; stays = (or_parts c.dropped (drops c e) (sym (ap (λ (x : Client). x.dropped) is) ∙ alive)).0 })
        (record { there = there; stays = alive }) (ap asked_of is) (k m c here) alive none

    step : g.dead ≡ false → (o : Option Client) → client_at g.clients m ≡ o → AskedWaits d
    step a None nobody = let w = (((l cap g r).1 e v).touched a).comes m d nobody there in λ _ _. ap (λ (x : Client). x.asked) w.is
    step a (Some c) here = stays a c here (goes_or_stays m e)

    by : (b : Bool) → g.dead ≡ b → AskedWaits d
    by true a = k m d (subst (λ (h : Gate). client_at h.clients m ≡ Some d) (((l cap g r).1 e v).rests a) there)
    by false a = step a (client_at g.clients m) refl

-- whom a gateway restores has no client
nobody_waits : (g h : Gate) (journal : List Line) (most m : ℕ) (c : Client) → Restores g journal h → client_at g.clients m ≡ None → client_at h.clients m ≡ Some c
    → AskedWaits c
nobody_waits g h journal most m c r none there = absurd (not_Some-None c (sym (ap (λ (x : Gate). client_at x.clients m) r.leads.gate ∙ none) ∙ there))

all_wait : HoldAlways → (cap : ℕ) (g : Gate) → Runs cap g → (m : ℕ) (c : Client) → client_at g.clients m ≡ Some c → AskedWaits c
all_wait l cap _ (gate.begins tokens most head journal g r) m c there = nobody_waits _ g journal most m c r (client_at-replicate most m) there
all_wait l cap _ (gate.goes_on g e v r) m c there = next_waits l cap g e v r (all_wait l cap g r) m c there
all_wait l cap _ (gate.begins_again g disk tokens most h r leaves restores) m c there =
    nobody_waits _ h disk most m c restores (client_at-replicate most m) there

-- ---- who takes all has nothing that waits, and may say more

record IsUp (c : Client) : Type 0 where
  may : may_say c ≡ true
  sendable : c.sendable ≡ []
  unsynced : c.unsynced ≡ []

nothing_left : (xs : List Shown) → (length xs == 0) ≡ true → xs ≡ []
nothing_left [] e = refl
nothing_left (x ∷ xs) e = absurd (false≢true (sym (ne_eqb (suc (length xs)) 0 (not_zero-suc (length xs))) ∙ e))

may_again : (c : Client) → c.dropped ≡ false → c.asked ≡ 0 → c.sendable ≡ [] → c.unsynced ≡ [] → may_say c ≡ true
may_again c stays asked sent kept =
    λ i. not (stays i) && (nat_lt (asked i) most_requests && nat_lt (length (text_shown (sent i)) + length (text_shown (kept i))) most_waiting)

up_again : (c : Client) → AskedWaits c → (released c).dropped ≡ false → IsUp (handing (released c))
up_again c k stays = by (c.dropped || is_slow c) refl stays
  where
    kept : Client
    kept = record c { unsynced = []; sendable = c.sendable ++ c.unsynced }

    quiet : c.dropped ≡ false → (b : Bool) → (length (rest c) == 0) ≡ b
        → IsUp (cond b kept (record kept { sendable = []; asked = 0; handed = kept.handed ++ kept.sendable ∷ [] }))
    quiet alive true e = let none = nothing_left (rest c) e in record { may = may_again kept alive (k alive none) none refl; sendable = none; unsynced = refl }
    quiet alive false e = record {
      may = may_again (record kept { sendable = []; asked = 0; handed = kept.handed ++ kept.sendable ∷ [] }) alive refl refl refl;
      sendable = refl;
      unsynced = refl;
    }

    by : (b : Bool) → (c.dropped || is_slow c) ≡ b → (cond b (dropping c) kept).dropped ≡ false → IsUp (handing (cond b (dropping c) kept))
    by true e left = absurd (false≢true (sym left))
    by false e stays = quiet (or_parts c.dropped (is_slow c) e).0 (length (rest c) == 0) refl

-- ---- sockets

-- all that is to be sent is sent
abbrev passed : Socket → Socket
passed s = passing (length s.output) s

passed_output : (s : Socket) → (passed s).output ≡ []
passed_output s = ap (λ b. (cond b (record s { output = drop (length s.output) s.output; sent = s.sent ++ take (length s.output) s.output }) s).output)
    (le-leb (length s.output) (length s.output) (le_refl (length s.output)))
    ∙ drop_all (length s.output) s.output (le_refl (length s.output))

passed_open : (n : ℕ) (s : Socket) → is_open (passing n s) ≡ is_open s
passed_open n s = by (nat_le n (length s.output))
  where
    by : (b : Bool) → is_open (cond b (record s { output = drop n s.output; sent = s.sent ++ take n s.output }) s) ≡ is_open s
    by true = refl
    by false = refl

taken_socket : (m : ℕ) (d : Front) (o : Option Socket) → socket_at d m ≡ o → socket_at (taken m d) m ≡ option_map passed o
taken_socket m d None e = client_at-at_client m (passing (left_at d m)) d.sockets ∙ ap (option_map (passing (left_at d m))) e
taken_socket m d (Some s) e =
    client_at-at_client m (passing (left_at d m)) d.sockets ∙ (λ i. option_map (passing (if_some (e i) 0 (λ s. length s.output))) (e i))

offered_socket : (m : ℕ) (d : Front) (o : Option Socket) → socket_at d m ≡ o → socket_at (offered m d) m ≡ option_map (λ s. (offered_to m d.gate s).1) o
offered_socket m d None e = ap (λ o. socket_at (if_some o d (λ s. with_both m (offered_to m d.gate s).0 (offered_to m d.gate s).1 d)) m) e ∙ e
offered_socket m d (Some s) e =
    ap (λ o. socket_at (if_some o d (λ s. with_both m (offered_to m d.gate s).0 (offered_to m d.gate s).1 d)) m) e
    ∙ (client_at-at_client m (λ _. (offered_to m d.gate s).1) d.sockets ∙ ap (option_map (λ _. (offered_to m d.gate s).1)) e)

offered_gate : (m : ℕ) (d : Front) (s : Socket) → socket_at d m ≡ Some s → (offered m d).gate ≡ (offered_to m d.gate s).0
offered_gate m d s e = ap (λ o. (if_some o d (λ s. with_both m (offered_to m d.gate s).0 (offered_to m d.gate s).1 d)).gate) e

-- the socket of a client is open, or over
client_open : Laws → (c : Client) (s : Socket) → LivesClient c s → s.over ≡ false → is_open s ≡ true
client_open l c s k going = by s.protocol refl (l.carries (k.token ∷ c.messages) (map text_shown c.handed) s k.life).carries
  where
    by : (p : Option Connection) → s.protocol ≡ p → CarriesAt (k.token ∷ c.messages) (map text_shown c.handed) s p → is_open s ≡ true
    by None e u = absurd (cc u.heard)
    by (Some conn) e u = λ i. is_some (e i) && not (going i)

-- who is nobody's has presented no token, or is over
nobody_presents : Laws → (s : Socket) → LivesNobody s → s.over ≡ false → has_presented s ≡ false
nobody_presents l s k going = has_presented-Lives l.carries (listed k.token) [] s k.life ∙ ap (λ o. is_some (slice_get (listed o) 0)) (k.silent going)

and_false : (b : Bool) → (b && false) ≡ false
and_false true = refl
and_false false = refl

-- ---- all of it

-- the client of number m, behind what is handed to it
record IsHanded (g h : Gate) (m : ℕ) : Type 0 where
  stays : is_dropped (next g synced) m ≡ false
  gate : h ≡ next (next g synced) (handed m)

handed_up : HoldAlways → (cap : ℕ) (g h : Gate) (m : ℕ) → Runs cap g → g.dead ≡ false → (next g synced).dead ≡ false → IsHanded g h m → (c : Client)
    → client_at h.clients m ≡ Some c → IsUp c
handed_up l cap g h m r a b w c there = by (client_at g.clients m) refl
  where
    disk : next g synced ≡ on_disk g
    disk = ap (λ z. cond z g (on_disk g)) a

    released_at : client_at (next g synced).clients m ≡ option_map released (client_at g.clients m)
    released_at = ap (λ (x : Gate). client_at x.clients m) disk ∙ client_at-at_all released g.clients m

    now : client_at h.clients m ≡ option_map handing (option_map released (client_at g.clients m))
    now = ap (λ (x : Gate). client_at x.clients m) (w.gate ∙ ap (λ z. cond z (next g synced) (hands (next g synced) m)) b)
        ∙ (client_at-at_client m handing (next g synced).clients ∙ ap (option_map handing) released_at)

    by : (o : Option Client) → client_at g.clients m ≡ o → IsUp c
    by None e = absurd (not_Some-None c (sym (now ∙ ap (λ z. option_map handing (option_map released z)) e) ∙ there))
    by (Some d) e =
        let same : handing (released d) ≡ c = same-Some (handing (released d)) c (sym (now ∙ ap (λ z. option_map handing (option_map released z)) e) ∙ there) in
        let stays : (released d).dropped ≡ false = ap (λ z. if_some z false (λ (x : Client). x.dropped)) (sym (released_at ∙ ap (option_map released) e))
        ∙ w.stays in
        subst IsUp same (up_again d (all_wait l cap g r m d e) stays)

-- an offer to a socket at which all was sent hands its client all, or leaves it closed, or over
offer_hands : Laws → (g : Gate) (m : ℕ) (s t : Socket) → s.output ≡ [] → t ≡ passed (offered_to m (next g synced) s).1 → t.over ≡ false → is_open t ≡ true
    → IsHanded g (offered_to m (next g synced) s).0 m
offer_hands l g m s t sent same going opened = by (is_open s) (is_dropped (next g synced) m) refl refl
  where
    all_sent : (length s.output == 0) ≡ true
    all_sent = ap (λ z. length z == 0) sent

    by : (p q : Bool) → is_open s ≡ p → is_dropped (next g synced) m ≡ q → IsHanded g (offered_to m (next g synced) s).0 m
    by false q e f =
        let left : is_open t ≡ false =
        ap is_open (same ∙ ap (λ (o : Gate × Socket). passed o.1) (offered_to-offered_by (next g synced) m s false q true e f all_sent))
        ∙ (passed_open (length s.output) s ∙ e) in
        absurd (false≢true (sym left ∙ opened))
    by true true e f =
        let over : t.over ≡ true = ap (λ (x : Socket). x.over)
        (same ∙ ap (λ (o : Gate × Socket). passed o.1) (offered_to-offered_by (next g synced) m s true true true e f all_sent))
        ∙ (over-passed (length (let_go s).output) (let_go s) ∙ over-closed 1013 (codes "What was told was not taken.") s) in
        absurd (false≢true (sym going ∙ over))
    by true false e f = record { stays = f; gate = ap (λ (o : Gate × Socket). o.0) (offered_to-offered_by (next g synced) m s true false true e f all_sent) }

pub held_freed : Laws → LeavesMarks → HeldAreFreed
held_freed l k cap m d s r a there going = by (socket_at d m) refl
  where
    first : Front
    first = taken m d

    second : Front
    second = by_event synced first

    third : Front
    third = offered m second

    alive : (next d.gate synced).dead ≡ false
    alive = dead-next k d.gate synced tt a ∙ a

    living : IsLiving cap (caught_up m d)
    living = IsLiving-FrontRuns l cap (caught_up m d)
        (goes_on third (caught_up m d) (goes_on second third (goes_on first second (goes_on d first r a (sends m (left_at d m))) a syncs) alive (offers m))
        (dead-offered k m second alive) (sends m (left_at third m)))

    own : LivesFor (client_at (caught_up m d).gate.clients m) (Some s)
    own = subst (LivesFor (client_at (caught_up m d).gate.clients m)) there (living.numbers m)

    at_end : (o : Option Socket) → socket_at d m ≡ o → socket_at (caught_up m d) m ≡ option_map passed
        (option_map (λ t. (offered_to m (next d.gate synced) t).1) (option_map passed o))
    at_end o e =
        taken_socket m third (option_map (λ t. (offered_to m (next d.gate synced) t).1) (option_map passed o))
        (offered_socket m second (option_map passed o) (taken_socket m d o e))

    up : (t : Socket) → socket_at d m ≡ Some t → (c : Client) → client_at (caught_up m d).gate.clients m ≡ Some c → IsUp c
    up t e c here =
        let same : s ≡ passed (offered_to m (next d.gate synced) (passed t)).1 = same-Some s _ (sym there ∙ at_end (Some t) e) in
        let w = offer_hands l d.gate m (passed t) s (passed_output t) same going (client_open l c s (subst (λ o. LivesFor o (Some s)) here own) going) in
        handed_up l.always cap d.gate (caught_up m d).gate m (IsLiving-FrontRuns l cap d r).runs a alive
        (record { stays = w.stays; gate = offered_gate m second (passed t) (taken_socket m d (Some t) e) ∙ w.gate }) c here

    heard : (t : Socket) → socket_at d m ≡ Some t → (o : Option Client) → client_at (caught_up m d).gate.clients m ≡ o → LivesFor o (Some s)
        → (has_presented s && not (if_some o false may_say)) ≡ false
    heard t e None here nobody = ap (λ b. b && true) (nobody_presents l s nobody going)
    heard t e (Some c) here lives = ap (λ b. has_presented s && not b) (up t e c here).may ∙ and_false (has_presented s)

    by : (o : Option Socket) → socket_at d m ≡ o → IsFree (caught_up m d) m s
    by None e = absurd (not_Some-None s (sym (at_end None e) ∙ there))
    by (Some t) e =
        let same : s ≡ passed (offered_to m (next d.gate synced) (passed t)).1 = same-Some s _ (sym there ∙ at_end (Some t) e) in
        let empty : s.output ≡ [] = ap (λ (x : Socket). x.output) same ∙ passed_output (offered_to m (next d.gate synced) (passed t)).1 in
        record {
          heard = ap (λ z. nat_lt most_pending (length z) || (has_presented s && not (is_heard (caught_up m d).gate m))) empty
              ∙ heard t e (client_at (caught_up m d).gate.clients m) refl own;
          told = λ c here. ((up t e c here).sendable, (up t e c here).unsynced);
        }

-- A gateway and the sockets before it, and whatever happens to them.
use Rattle.std.specs.Prelude.{◌≡◌, ℕ, ◌==◌, ◌&&◌, ◌||◌, not, Bool, true, false, if◌then◌else◌, List, [], ◌∷◌, codes, length, nat_le, nat_lt, replicate}
use Rattle.std.specs.Prelude.{slice_get, slice_set, Option, Some, None, is_some}
use Rattle.sha2.specs.Sha256.{sha256}
use Rattle.iv_rows.specs.Options.{if_some}
use Rattle.iv_clients.specs.Clients.{at_client, client_at, is_free, text_shown}
use Rattle.iv_clients.specs.Tokens.{Token, role_opened}
use Rattle.iv_gate.specs.Arriving.{Step}
use Rattle.iv_gate.specs.Events.{Event, IsWell, arrived, failed, forgave, gone, handed, known, led, message, next, presented, synced, ticked}
use Rattle.iv_gate.specs.Gate.{Gate, is_heard, token_for}
use Rattle.iv_gate.specs.Runs.{Runs}
use Rattle.iv_peer.specs.Socket.{Socket, closed, fresh, is_open, passing, told_text, took}
use Rattle.iv_peer.specs.Hearing.{Hears}
use Rattle.iv_peer.specs.Lives.{texts_of}

-- a socket and its client have one number
pub record Front : Type 0 where
  pub gate : Gate
  pub sockets : List (Option Socket)

abbrev pub socket_at : Front → ℕ → Option Socket
socket_at d m = client_at d.sockets m

-- socket m, changed
abbrev pub at_socket : ℕ → (Socket → Socket) → Front → Front
at_socket m f d = record d { sockets = at_client m f d.sockets }

-- the gateway and socket m, changed
abbrev pub with_both : ℕ → Gate → Socket → Front → Front
with_both m g s d = record { gate = g; sockets = at_client m (λ _. s) d.sockets }

-- an event of the gateway
abbrev pub by_event : Event → Front → Front
by_event e d = record d { gate = next d.gate e }

-- before the gateway are places for so many sockets, and none is there
abbrev pub front_at_start : Gate → ℕ → Front
front_at_start g most = record { gate = g; sockets = replicate most None }

-- ---- sockets come and go

-- a socket begins at a number that none has
abbrev pub begun : ℕ → Front → Front
begun m d = if is_free m d.sockets then record d { sockets = slice_set d.sockets m (Some fresh) } else d

-- socket m goes, and its client with it
abbrev pub left : ℕ → Front → Front
left m d = by_event (gone m) (record d { sockets = slice_set d.sockets m None })

-- ---- what is heard

-- its first text was heard, which is a token
abbrev pub has_presented : Socket → Bool
has_presented s = is_some (slice_get (texts_of s.effects) 0)

-- it is closed, since its token opens no role, or does so no more
abbrev pub turned_away : Socket → Socket
turned_away s = closed 4401 (codes "This token opens no role.") s

-- it is closed, since nobody comes in now by its token, which opens a role: no session or number is free, or the role is not there
abbrev pub put_off : Socket → Socket
put_off s = closed 1013 (codes "No place is free, or the role is not there.") s

-- who does not come in by its token is closed
abbrev pub let_in : Gate → ℕ → List ℕ → Socket → Socket
let_in g m token s = if is_some (token_for g m token) then s
    else if is_some (role_opened g.tokens (sha256 token)) then put_off s else turned_away s

-- bytes that may wait at a number that is heard
abbrev pub most_pending : ℕ
most_pending = 262144

-- what it says is not heard now: it does not take what it is offered, or its client is not heard
abbrev pub is_held : Gate → ℕ → Socket → Bool
is_held g m s = nat_lt most_pending (length s.output) || (has_presented s && not (is_heard g m))

-- what the bytes of number m say is heard, one thing after another: what is no text; the first text, which is a token; a message, if
-- the client of the number is heard
pub data HearsAt (m : ℕ) (g : Gate) (s : Socket) : Gate → Socket → Type 0 where
  nothing : HearsAt m g s g s
  no_text : (h : Gate) (r t : Socket) → HearsAt m g s h r → Hears r None t → HearsAt m g s h t
  first_text : (h : Gate) (r t : Socket) (text : List ℕ) → HearsAt m g s h r → has_presented r ≡ false → Hears r (Some text) t
      → HearsAt m g s (next h (presented m text)) (let_in h m text t)
  later_text : (h : Gate) (r t : Socket) (text : List ℕ) → HearsAt m g s h r → is_heard h m ≡ true → Hears r (Some text) t
      → HearsAt m g s (next h (message m text)) t

-- ---- what is offered

abbrev pub is_dropped : Gate → ℕ → Bool
is_dropped g m = if_some (client_at g.clients m) false (λ c. c.dropped)

-- the text that client m may be sent
abbrev pub text_for : Gate → ℕ → List ℕ
text_for g m = if_some (client_at g.clients m) [] (λ c. text_shown c.sendable)

-- it is closed, since its client takes less than it is told
abbrev pub let_go : Socket → Socket
let_go s = closed 1013 (codes "What was told was not taken.") s

-- the text is told in one frame, if there is any
abbrev pub told_some : List ℕ → Socket → Socket
told_some [] s = s
told_some (b ∷ bs) s = told_text (b ∷ bs) s

-- an open socket at which all was sent that it was offered is offered what its client may be sent; one whose client is to go is closed
abbrev pub offered_to : ℕ → Gate → Socket → Gate × Socket
offered_to m g s = if not (is_open s) then (g, s)
    else if is_dropped g m then (g, let_go s)
    else if length s.output == 0 then (next g (handed m), told_some (text_for g m) s)
    else (g, s)

abbrev pub offered : ℕ → Front → Front
offered m d = if_some (socket_at d m) d (λ s. let o = offered_to m d.gate s in with_both m o.0 o.1 d)

-- who is to go is closed
abbrev pub dismissed : ℕ → Front → Front
dismissed m d = if is_dropped d.gate m then at_socket m turned_away d else d

-- ---- runs

abbrev pub is_within : (low high n : ℕ) → Bool
is_within low high n = nat_le low n && nat_le n high

-- a close may tell it: its code may be sent, and its words fit into its frame (RFC 6455, sections 7.4 and 5.5)
abbrev pub may_tell : ℕ → List ℕ → Bool
may_tell code words = nat_le (length words) 123 && (is_within 1000 1003 code || (is_within 1007 1014 code || is_within 3000 4999 code))

-- whatever happens to a front of its own: each is a step in the life of one socket, with the events of the gateway that belong to it, or an
-- event of the gateway alone
pub data Happens (d : Front) : Front → Type 0 where
  begins : (m : ℕ) → Happens d (begun m d)
  takes : (m : ℕ) (bytes : List ℕ) → Happens d (at_socket m (took bytes) d)
  hears : (m : ℕ) (s t : Socket) (h : Gate) → socket_at d m ≡ Some s → HearsAt m d.gate s h t → Happens d (with_both m h t d)
  offers : (m : ℕ) → Happens d (offered m d)
  dismisses : (m : ℕ) → Happens d (dismissed m d)
  sends : (m n : ℕ) → Happens d (at_socket m (passing n) d)
  leaves : (m : ℕ) → Happens d (left m d)
  syncs : Happens d (by_event synced d)
  knows : (tokens : List Token) → Happens d (by_event (known tokens) d)
  arrives : (s : Step) → IsWell (arrived s) → Happens d (by_event (arrived s) d)
  leads : Happens d (by_event led d)
  ticks : Happens d (by_event ticked d)
  forgives : Happens d (by_event forgave d)
  fails : Happens d (by_event failed d)

-- no socket is before a gateway that began, also again after a crash, and that has no client; while it is alive anything happens, and
-- sockets are closed from outside
pub data FrontRuns (cap : ℕ) : Front → Type 0 where
  starts : (g : Gate) (most : ℕ) → Runs cap g → ((m : ℕ) → client_at g.clients m ≡ None) → FrontRuns cap (front_at_start g most)
  goes_on : (d e : Front) → FrontRuns cap d → d.gate.dead ≡ false → Happens d e → FrontRuns cap e
  closes : (d : Front) (m code : ℕ) (words : List ℕ) → FrontRuns cap d → d.gate.dead ≡ false → may_tell code words ≡ true
      → FrontRuns cap (at_socket m (closed code words) d)

-- what happens to a socket may always happen, and so may a change of the known tokens, and a failure; of any other event of the gateway alone
-- `may` says whether it may happen
abbrev pub may_happen : (may : Front → Event → Bool) → (d e : Front) → Happens d e → Bool
may_happen may d e (begins m) = true
may_happen may d e (takes m bytes) = true
may_happen may d e (hears m s t h is by) = true
may_happen may d e (offers m) = true
may_happen may d e (dismisses m) = true
may_happen may d e (sends m n) = true
may_happen may d e (leaves m) = true
may_happen may d e syncs = may d synced
may_happen may d e (knows tokens) = true
may_happen may d e (arrives s is) = may d (arrived s)
may_happen may d e leads = may d led
may_happen may d e ticks = may d ticked
may_happen may d e forgives = may d forgave
may_happen may d e fails = true

-- where a front goes on to: nowhere, or while it is alive something happens that may, and sockets are closed from outside
pub data GoesOn (may : Front → Event → Bool) (d : Front) : Front → Type 0 where
  stays : GoesOn may d d
  then_happens : (e f : Front) → GoesOn may d e → e.gate.dead ≡ false → (h : Happens e f) → may_happen may e f h ≡ true → GoesOn may d f
  then_closes : (e : Front) (m code : ℕ) (words : List ℕ) → GoesOn may d e → e.gate.dead ≡ false → may_tell code words ≡ true
      → GoesOn may d (at_socket m (closed code words) e)

-- What is heard, from what the parsers answer.
use Rattle.std.proofs.Common.{◌≡◌, ◌<◌, ℕ, false, true, List, [], String, Global, drop, length, map, Option, None, Some, Result, Ok, Err, option_map, refl, ◌∙◌, ap, sym, subst}
use Rattle.httparse.specs.Grammar.{RequestHead, ReadsRequest, HasNoRequest}
use Rattle.httparse.specs.Spans.{name_and_value, RequestOverflows}
use Rattle.websocket.specs.declared.error.Error.{Error}
use Rattle.websocket.specs.declared.handshake.failure.HandshakeError.{HandshakeError}
use Rattle.websocket.specs.declared.protocol.frame.codec.FrameStatus.{FrameStatus}
use Rattle.websocket.specs.declared.protocol.frame.codec.FrameStatus.TheVariants.{Partial, Complete}
use Rattle.websocket.specs.Content.{Content, text, binary, ping, pong, close}
use Rattle.websocket.specs.Connection.{Connection, Effect, failed_connection, read_step}
use Rattle.websocket.specs.Handshake.{Answers, IsValidKey, requested_key}
use Rattle.iv_peer.specs.declared.peer.Heard.{Heard}
use Rattle.iv_peer.specs.declared.peer.Heard.TheVariants as heard
use Rattle.iv_peer.specs.declared.peer.Said.{Said}
use Rattle.iv_peer.specs.declared.peer.Said.TheVariants as said
use Rattle.iv_peer.specs.declared.peer.Read.{Read}
use Rattle.iv_peer.specs.declared.peer.Read.TheVariants as read
use Rattle.iv_peer.specs.Socket.{Socket, IsAccepted, accepted, answer, bad_request, close_of, ended, ending, failed, fault_code, forget, framed, most_fields, most_head, refused, stepped, telling, upgrade_required}
use Rattle.iv_peer.specs.Hearing.{AsksOther, Hears, IsHeard, IsHeardAs, HearsAs, accepts, refuses_other, refuses_bad, refuses_long, frames, fails, text_in}
use Rattle.iv_peer.specs.Reading.{IsEnded, left_by, IsRead, IsSaidAs}

-- ---- the handshake

pub IsHeard-accepted : (s new : Socket) (head : RequestHead) (rest accept : List ℕ) → s.over ≡ false → s.protocol ≡ None → IsAccepted s.input head rest accept
    → new ≡ forget (accepted accept rest s) → IsHeard heard.Other s new
IsHeard-accepted s new head rest accept over none is e = (None, accepted accept rest s, refl, accepts s head rest accept over none is, e)

pub IsHeard-AsksOther : (s new : Socket) → s.over ≡ false → s.protocol ≡ None → AsksOther s.input → new ≡ forget (refused upgrade_required s)
    → IsHeard heard.Other s new
IsHeard-AsksOther s new over none asks e = (None, refused upgrade_required s, refl, refuses_other s over none asks, e)

pub IsHeard-RequestOverflows : (s new : Socket) → s.over ≡ false → s.protocol ≡ None → RequestOverflows most_fields s.input → new ≡ forget (refused bad_request s) → IsHeard heard.Other s new
IsHeard-RequestOverflows s new over none bad e = (None, refused bad_request s, refl, refuses_bad s over none bad, e)

pub IsHeard-too_long : (s new : Socket) → s.over ≡ false → s.protocol ≡ None → HasNoRequest s.input → most_head < length s.input
    → new ≡ forget (refused bad_request s)
    → IsHeard heard.Other s new
IsHeard-too_long s new over none head long e = (None, refused bad_request s, refl, refuses_long s over none head long, e)

-- a key that is refused is none, or not valid
pub not_IsValidKey-Err : (e : HandshakeError) (r : Result (List ℕ) HandshakeError) → Answers (Err e) r → (key : List ℕ) → r ≡ Ok key → ¬ (IsValidKey key)
not_IsValidKey-Err e (Ok k) is key h = subst (λ z. ¬ (IsValidKey z)) (cc h) is.0
not_IsValidKey-Err e (Err f) is key h = absurd (cc h)

-- ---- frames

pub Partial-IsRead_Nothing : (r : Result (FrameStatus (ℕ × Effect)) Error) (s new : Socket) → IsRead r read.Nothing s new
    → ((n : ℕ) × (r ≡ Ok (Partial n))) × (new ≡ s)
Partial-IsRead_Nothing (Err e) s new is = absurd (cc is.0)
Partial-IsRead_Nothing (Ok (Partial n)) s new is = ((n, refl), is.1)
Partial-IsRead_Nothing (Ok (Complete p)) s new is = absurd (cc is.1)

pub Complete-IsRead_Frame : (r : Result (FrameStatus (ℕ × Effect)) Error) (t : Said) (s new : Socket) → IsRead r (read.Frame t) s new
    → (x : ℕ × Effect) × (r ≡ Ok (Complete x)) × IsSaidAs x.1.message t × (new ≡ forget (stepped x.0 x.1 s))
Complete-IsRead_Frame (Err e) t s new is = absurd (cc is.0)
Complete-IsRead_Frame (Ok (Partial n)) t s new is = absurd (cc is.0)
Complete-IsRead_Frame (Ok (Complete p)) t s new is =
    let same : is.0 ≡ t = cc is.1 in
    (p, refl, subst (IsSaidAs p.1.message) same is.2, is.3)

pub Err-IsRead_Fault : (r : Result (FrameStatus (ℕ × Effect)) Error) (e : Error) (s new : Socket) → IsRead r (read.Fault e) s new
    → (r ≡ Err e) × (new ≡ record s { protocol = option_map failed_connection s.protocol; input = [] })
Err-IsRead_Fault (Err f) e s new is = (ap (λ x. Err x) (cc is.0), is.1)
Err-IsRead_Fault (Ok (Partial n)) e s new is = absurd (cc is.0)
Err-IsRead_Fault (Ok (Complete p)) e s new is = absurd (cc is.1)

-- what the code has of the end is the end of what the code has
ending_forgets : (m : Option Content) (s : Socket) → left_by m (forget s) ≡ forget (ending m s)
ending_forgets None s = refl
ending_forgets (Some (text bytes)) s = refl
ending_forgets (Some (binary bytes)) s = refl
ending_forgets (Some (ping bytes)) s = refl
ending_forgets (Some (pong bytes)) s = refl
ending_forgets (Some (close frame)) s = refl

by_frame_as : (h : Heard) (s new : Socket) (t : Option (List ℕ)) (next : Socket) → IsHeardAs h t → Hears s t next → new ≡ forget next → IsHeard h s new
by_frame_as heard.Nothing s new t next is h e = absurd is
by_frame_as heard.Over s new t next is h e = absurd is
by_frame_as heard.Other s new t next is h e = (t, next, is, h, e)
by_frame_as (heard.Text x) s new t next is h e = (t, next, is, h, e)

pub IsHeard-Complete : (s mid new : Socket) (conn : Connection) (x : ℕ × Effect) (h : Heard) → s.over ≡ false → s.protocol ≡ Some conn → read_step conn s.input ≡ Ok (Complete x)
    → mid ≡ forget (stepped x.0 x.1 s) → IsEnded x.1.message h mid new → IsHeard h s new
IsHeard-Complete s mid new conn x h over at read mid_is is =
    by_frame_as h s new (text_in x.1.message) (framed x.0 x.1 s) is.0 (frames s conn x.0 x.1 over at read)
    (is.1 ∙ (ap (left_by x.1.message) mid_is ∙ ending_forgets x.1.message (stepped x.0 x.1 s)))

pub IsHeard-Err : (s mid new : Socket) (conn : Connection) (e : Error) → s.over ≡ false → s.protocol ≡ Some conn → read_step conn s.input ≡ Err e
    → mid ≡ record s { protocol = option_map failed_connection s.protocol; input = [] } → new ≡ forget (telling (answer (close_of (fault_code e) [])) (ended mid)) → IsHeard heard.Other s new
IsHeard-Err s mid new conn e over at read mid_is is =
    (None, failed e s, refl, fails s conn e over at read, is ∙ ap (λ z. forget (telling (answer (close_of (fault_code e) [])) (ended z))) mid_is)

-- ---- behind a frame

pub IsEnded-Text : (m : Option Content) (x : String Global) (s : Socket) → IsSaidAs m (said.Text x) → IsEnded m (heard.Text x) s s
IsEnded-Text None x s is = absurd (cc is)
IsEnded-Text (Some (text bytes)) x s is = (ap (λ z. Some z) (sym is), refl)
IsEnded-Text (Some (binary bytes)) x s is = absurd (cc is)
IsEnded-Text (Some (ping bytes)) x s is = absurd (cc is)
IsEnded-Text (Some (pong bytes)) x s is = absurd (cc is)
IsEnded-Text (Some (close frame)) x s is = absurd (cc is)

pub IsEnded-Other : (m : Option Content) (s : Socket) → IsSaidAs m said.Other → IsEnded m heard.Other s s
IsEnded-Other None s is = (refl, refl)
IsEnded-Other (Some (text bytes)) s is = absurd is
IsEnded-Other (Some (binary bytes)) s is = absurd (cc is)
IsEnded-Other (Some (ping bytes)) s is = (refl, refl)
IsEnded-Other (Some (pong bytes)) s is = (refl, refl)
IsEnded-Other (Some (close frame)) s is = absurd (cc is)

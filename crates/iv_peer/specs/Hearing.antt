-- What the bytes of a socket say next.
use Rattle.std.specs.Prelude.{◌≡◌, ◌≤◌, ◌<◌, ℕ, Bool, true, false, List, length, map, Option, Some, None, Ok, Err, string_bytes}
use Rattle.httparse.specs.Grammar.{RequestHead, ReadsRequest, HasNoRequest}
use Rattle.httparse.specs.Spans.{name_and_value, RequestOverflows}
use Rattle.websocket.specs.declared.error.Error.{Error}
use Rattle.websocket.specs.declared.protocol.config.Role.TheVariants.{Server}
use Rattle.websocket.specs.declared.protocol.frame.codec.FrameStatus.TheVariants.{Partial, Complete}
use Rattle.websocket.specs.Content.{Content, text}
use Rattle.websocket.specs.Connection.{Connection, Effect, read_step}
use Rattle.websocket.specs.Handshake.{IsValidKey, requested_key}
use Rattle.iv_peer.specs.declared.peer.Heard.{Heard}
use Rattle.iv_peer.specs.declared.peer.Heard.TheVariants as heard
use Rattle.iv_peer.specs.Socket.{Socket, IsAccepted, accepted, bad_request, failed, forget, framed, most_fields, most_head, refused, upgrade_required}

-- the text that a frame brings
abbrev pub text_in : Option Content → Option (List ℕ)
text_in (Some (text bytes)) = Some bytes
text_in _ = None

-- the bytes begin with a request of HTTP that asks for no WebSocket of this version, or has no valid key
pub record AsksOther (bytes : List ℕ) : Type 0 where
  pub head : RequestHead
  pub rest : List ℕ
  pub reads : ReadsRequest bytes head rest
  pub none : (key : List ℕ) → requested_key head.method head.minor (map name_and_value head.fields) ≡ Ok key → ¬ (IsValidKey key)

-- whatever follows is a request with too many fields, if it is one
abbrev pub IsBadHead : List ℕ → Type 0
IsBadHead bytes = RequestOverflows most_fields bytes

-- the bytes say one thing more, maybe a text, which leads from one socket to another
pub data Hears : Socket → Option (List ℕ) → Socket → Type 0 where
  accepts : (s : Socket) (head : RequestHead) (rest accept : List ℕ) → s.over ≡ false → s.protocol ≡ None → IsAccepted s.input head rest accept
      → Hears s None (accepted accept rest s)
  refuses_other : (s : Socket) → s.over ≡ false → s.protocol ≡ None → AsksOther s.input → Hears s None (refused upgrade_required s)
  refuses_bad : (s : Socket) → s.over ≡ false → s.protocol ≡ None → IsBadHead s.input → Hears s None (refused bad_request s)
  refuses_long : (s : Socket) → s.over ≡ false → s.protocol ≡ None → HasNoRequest s.input → most_head < length s.input → Hears s None (refused bad_request s)
  frames : (s : Socket) (conn : Connection) (n : ℕ) (e : Effect) → s.over ≡ false → s.protocol ≡ Some conn → read_step conn s.input ≡ Ok (Complete (n, e))
      → Hears s (text_in e.message) (framed n e s)
  fails : (s : Socket) (conn : Connection) (e : Error) → s.over ≡ false → s.protocol ≡ Some conn → read_step conn s.input ≡ Err e → Hears s None (failed e s)

abbrev pub IsWaitingAt : Option Connection → List ℕ → Type 0
IsWaitingAt None input = HasNoRequest input × (length input ≤ most_head)
IsWaitingAt (Some conn) input = (n : ℕ) × (read_step conn input ≡ Ok (Partial n))

-- what was read is no whole head, or no whole frame
abbrev pub IsWaiting : Socket → Type 0
IsWaiting s = (s.over ≡ false) × IsWaitingAt s.protocol s.input

-- it is a server's end
abbrev pub IsServer : Socket → Type 0
IsServer s = (conn : Connection) → s.protocol ≡ Some conn → conn.role ≡ Server

-- what the code answers: that the bytes say no more yet, that nothing more is heard, a text, or another thing
abbrev pub IsHeardAs : Heard → Option (List ℕ) → Type 0
IsHeardAs (heard.Text s) t = t ≡ Some (string_bytes s)
IsHeardAs heard.Other t = t ≡ None
IsHeardAs heard.Nothing t = ⊥
IsHeardAs heard.Over t = ⊥

abbrev pub HearsAs : Heard → (old new : Socket) → Type 0
HearsAs h old new = (t : Option (List ℕ)) × (s : Socket) × IsHeardAs h t × Hears old t s × (new ≡ forget s)

abbrev pub IsHeard : Heard → (old new : Socket) → Type 0
IsHeard heard.Nothing old new = IsWaiting old × (new ≡ old)
IsHeard heard.Over old new = (old.over ≡ true) × (new ≡ old)
IsHeard (heard.Text s) old new = HearsAs (heard.Text s) old new
IsHeard heard.Other old new = HearsAs heard.Other old new

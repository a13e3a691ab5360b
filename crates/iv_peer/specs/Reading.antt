-- What a read of a frame leaves, as the code has it.
use Rattle.std.specs.Prelude.{◌≡◌, ℕ, [], Option, Some, None, option_map, Result, Ok, Err, string_bytes}
use Rattle.websocket.specs.declared.error.Error.{Error}
use Rattle.websocket.specs.declared.protocol.frame.codec.FrameStatus.{FrameStatus}
use Rattle.websocket.specs.declared.protocol.frame.codec.FrameStatus.TheVariants.{Partial, Complete}
use Rattle.websocket.specs.Content.{Content, text, binary, ping, pong, close}
use Rattle.websocket.specs.Connection.{Connection, Effect, failed_connection}
use Rattle.iv_peer.specs.declared.peer.Heard.{Heard}
use Rattle.iv_peer.specs.declared.peer.Said.{Said}
use Rattle.iv_peer.specs.declared.peer.Said.TheVariants as said
use Rattle.iv_peer.specs.declared.peer.Read.{Read}
use Rattle.iv_peer.specs.declared.peer.Read.TheVariants as read
use Rattle.iv_peer.specs.Socket.{Socket, answer, close_of, ended, forget, stepped, telling}
use Rattle.iv_peer.specs.Hearing.{IsHeardAs, text_in}

-- what a frame's message is to the code
abbrev pub IsSaidAs : Option Content → Said → Type 0
IsSaidAs (Some (text bytes)) (said.Text s) = string_bytes s ≡ bytes
IsSaidAs (Some (text bytes)) _ = ⊥
IsSaidAs (Some (binary bytes)) t = t ≡ said.Binary
IsSaidAs (Some (close frame)) t = t ≡ said.Close
IsSaidAs None t = t ≡ said.Other
IsSaidAs (Some (ping bytes)) t = t ≡ said.Other
IsSaidAs (Some (pong bytes)) t = t ≡ said.Other

-- one step of the protocol
abbrev pub IsRead : Result (FrameStatus (ℕ × Effect)) Error → Read → (old new : Socket) → Type 0
IsRead (Err e) r old new = (r ≡ read.Fault e) × (new ≡ record old { protocol = option_map failed_connection old.protocol; input = [] })
IsRead (Ok (Partial n)) r old new = (r ≡ read.Nothing) × (new ≡ old)
IsRead (Ok (Complete p)) r old new = (s : Said) × (r ≡ read.Frame s) × IsSaidAs p.1.message s × (new ≡ forget (stepped p.0 p.1 old))

-- what the code has after a frame
abbrev pub left_by : Option Content → Socket → Socket
left_by (Some (binary bytes)) s = forget (telling (answer (close_of 1003 [])) (ended s))
left_by (Some (close frame)) s = ended s
left_by _ s = s

abbrev pub IsEnded : Option Content → Heard → (old new : Socket) → Type 0
IsEnded m h old new = IsHeardAs h (text_in m) × (new ≡ left_by m old)

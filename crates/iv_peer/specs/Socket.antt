-- What a socket carries, as bytes: the opening handshake, and then frames (RFC 6455).
use Rattle.std.specs.Prelude.{◌≡◌, ℕ, Bool, true, false, if◌then◌else◌, ◌&&◌, not, List, [], ◌∷◌, ◌++◌, codes, drop, take, flat_map, length, map, nat_le, Option, Some, None, is_some, option_map, Ok}
use Rattle.std.specs.Int.{w16, to_be_bytes}
use Rattle.httparse.specs.Grammar.{RequestHead, ReadsRequest}
use Rattle.httparse.specs.Spans.{name_and_value}
use Rattle.websocket.specs.declared.error.Error.{Error}
use Rattle.websocket.specs.declared.error.Error.TheVariants.{ConnectionClosed, AlreadyClosed, Capacity, Protocol, Utf8, OutOfMemory}
use Rattle.websocket.specs.declared.protocol.config.Role.TheVariants.{Server}
use Rattle.websocket.specs.declared.protocol.config.WebSocketConfig.{WebSocketConfig}
use Rattle.websocket.specs.declared.protocol.state.WebSocketState.TheVariants.{Active}
use Rattle.websocket.specs.declared.protocol.frame.coding.OpCode.{OpCode}
use Rattle.websocket.specs.declared.protocol.frame.coding.OpCode.TheVariants as Op
use Rattle.websocket.specs.declared.protocol.frame.coding.Data.TheVariants.{Text}
use Rattle.websocket.specs.declared.protocol.frame.coding.Control.TheVariants.{Close}
use Rattle.websocket.specs.Content.{Content, text, binary, ping, pong, close}
use Rattle.websocket.specs.Connection.{Connection, Effect, Outgoing, failed_connection, whole_header}
use Rattle.websocket.specs.Frame.{encode_frame}
use Rattle.websocket.specs.Handshake.{IsValidKey, accept_key_of, requested_key, response_bytes}

-- ---- frames

-- a text that was told, or a frame of the protocol's own: a pong or a close
pub data Item : Type 0 where
  told : List ℕ → Item
  answer : Outgoing → Item

-- a frame of a server is final and whole, and has no mask
abbrev pub frame_of : OpCode → List ℕ → List ℕ
frame_of opcode payload = encode_frame (whole_header opcode None) payload

abbrev pub item_bytes : Item → List ℕ
item_bytes (told bytes) = frame_of (Op.Data Text) bytes
item_bytes (answer f) = frame_of f.opcode f.payload

abbrev pub answers : Option Outgoing → List Item
answers None = []
answers (Some f) = answer f ∷ []

-- a close with this code and these words
abbrev pub close_of : ℕ → List ℕ → Outgoing
close_of code words = record { opcode = Op.Control Close; payload = to_be_bytes w16 code ++ words }

-- the code that tells why a connection fails (section 7.4.1)
abbrev pub fault_code : Error → ℕ
fault_code ConnectionClosed = 1000
fault_code AlreadyClosed = 1002
fault_code (Capacity e) = 1009
fault_code (Protocol e) = 1002
fault_code Utf8 = 1007
fault_code OutOfMemory = 1011

-- ---- the socket

-- `protocol` is the protocol's state, once the handshake is done; `over`: nothing more is heard or told. `input` was read and is not used
-- yet, `output` is to be sent. The code has no memory of the rest: all that was read, all that was offered, and of that what was sent;
-- what the frames that were read do, in order; and the frames that were offered.
pub record Socket : Type 0 where
  pub protocol : Option Connection
  pub over : Bool
  pub input : List ℕ
  pub output : List ℕ
  pub read : List ℕ
  pub offered : List ℕ
  pub sent : List ℕ
  pub effects : List Effect
  pub items : List Item

abbrev pub fresh : Socket
fresh = record { protocol = None; over = false; input = []; output = []; read = []; offered = []; sent = []; effects = []; items = [] }

-- what the code has of it
abbrev pub forget : Socket → Socket
forget s = record s { read = []; offered = []; sent = []; effects = []; items = [] }

-- messages of at most 131,072 bytes, in masked frames
abbrev pub limits : WebSocketConfig
limits = record { max_message_size = Some 131072; max_frame_size = Some 131072; accept_unmasked_frames = false }

-- the protocol's state after the handshake
abbrev pub at_start : Connection
at_start = record { role = Server; state = Active; config = limits; fragments = None }

-- bytes were read
abbrev pub took : List ℕ → Socket → Socket
took bytes s = record s { input = s.input ++ bytes; read = s.read ++ bytes }

-- bytes are offered
abbrev pub offering : List ℕ → Socket → Socket
offering bytes s = record s { output = s.output ++ bytes; offered = s.offered ++ bytes }

-- a frame is offered
abbrev pub telling : Item → Socket → Socket
telling t s = offering (item_bytes t) (record s { items = s.items ++ t ∷ [] })

-- nothing more is heard or told
abbrev pub ended : Socket → Socket
ended s = record s { over = true }

-- ---- the handshake

-- bytes of a request's head that is not whole yet
abbrev pub most_head : ℕ
most_head = 8192

-- fields of a request's head
abbrev pub most_fields : ℕ
most_fields = 64

-- the bytes begin with a request for a WebSocket, and that is what accepts its key
pub record IsAccepted (bytes : List ℕ) (head : RequestHead) (rest accept : List ℕ) : Type 0 where
  pub reads : ReadsRequest bytes head rest
  pub key : List ℕ
  pub asked : requested_key head.method head.minor (map name_and_value head.fields) ≡ Ok key
  pub valid : IsValidKey key
  pub answers : accept ≡ accept_key_of key

-- the handshake is done: it is accepted by one 101
abbrev pub accepted : List ℕ → List ℕ → Socket → Socket
accepted accept rest s = offering (response_bytes accept []) (record s { protocol = Some at_start; input = rest })

-- an answer with no body, after which the connection ends
abbrev pub refusal : List ℕ → List ℕ
refusal status = codes "HTTP/1.1 " ++ (status ++ codes "\r\nconnection: close\r\ncontent-length: 0\r\n\r\n")

abbrev pub bad_request : List ℕ
bad_request = refusal (codes "400 Bad Request")

abbrev pub upgrade_required : List ℕ
upgrade_required = refusal (codes "426 Upgrade Required\r\nupgrade: websocket\r\nsec-websocket-version: 13")

-- the handshake is refused
abbrev pub refused : List ℕ → Socket → Socket
refused bytes s = offering bytes (record s { over = true; input = [] })

-- ---- frames that are read

-- a frame of n bytes does this
abbrev pub stepped : ℕ → Effect → Socket → Socket
stepped n e s = offering (flat_map item_bytes (answers e.reply)) (record s {
  protocol = Some e.next;
  input = drop n s.input;
  effects = s.effects ++ e ∷ [];
  items = s.items ++ answers e.reply;
})

-- nothing more is heard after a close, or after a binary message, which a close refuses
abbrev pub ending : Option Content → Socket → Socket
ending (Some (binary bytes)) s = telling (answer (close_of 1003 [])) (ended s)
ending (Some (close frame)) s = ended s
ending _ s = s

abbrev pub framed : ℕ → Effect → Socket → Socket
framed n e s = ending e.message (stepped n e s)

-- what was read is no frame: a close tells why
abbrev pub failed : Error → Socket → Socket
failed e s = telling (answer (close_of (fault_code e) [])) (record s { protocol = option_map failed_connection s.protocol; over = true; input = [] })

-- ---- what is told

-- frames may be told
abbrev pub is_open : Socket → Bool
is_open s = is_some s.protocol && not s.over

-- a text is told in one frame
abbrev pub told_text : List ℕ → Socket → Socket
told_text bytes s = if is_open s then telling (told bytes) s else s

-- it is closed, by a code and words that tell why
abbrev pub closed : ℕ → List ℕ → Socket → Socket
closed code words s = if is_open s then telling (answer (close_of code words)) (ended s) else ended s

-- ---- what is sent

-- the first n bytes that were offered are sent, if as many are to be sent
abbrev pub passing : ℕ → Socket → Socket
passing n s = if nat_le n (length s.output) then record s { output = drop n s.output; sent = s.sent ++ take n s.output } else s

-- Whatever happens at a socket, and what it has carried then.
use Rattle.std.specs.Prelude.{◌≡◌, ◌⊎◌, ℕ, true, false, List, [], ◌∷◌, ◌++◌, drop, flat_map, Option, Some, None, Ok}
use Rattle.httparse.specs.Grammar.{RequestHead}
use Rattle.websocket.specs.declared.protocol.frame.codec.FrameStatus.TheVariants.{Complete}
use Rattle.websocket.specs.Connection.{Connection, Effect, Outgoing, read_step}
use Rattle.websocket.specs.Handshake.{response_bytes}
use Rattle.websocket.specs.Stream.{read_all}
use Rattle.iv_peer.specs.Socket.{Item, Socket, IsAccepted, accepted, answer, at_start, bad_request, closed, ended, fresh, is_open, item_bytes, passing, told, told_text, took, upgrade_required}
use Rattle.iv_peer.specs.Hearing.{Hears, IsWaiting, text_in}

-- the list of what is there
abbrev pub listed : {A : Type 0} → Option A → List A
listed None = []
listed (Some x) = x ∷ []

-- bytes are read, things are heard, texts are told, it is closed, bytes are sent; the first list has the texts that were heard, the second
-- those that were told while it was open
pub data Lives : List (List ℕ) → List (List ℕ) → Socket → Type 0 where
  begins : Lives [] [] fresh
  takes : (hs ts : List (List ℕ)) (s : Socket) (bytes : List ℕ) → Lives hs ts s → Lives hs ts (took bytes s)
  hears : (hs ts : List (List ℕ)) (s next : Socket) (t : Option (List ℕ)) → Lives hs ts s → Hears s t next → Lives (hs ++ listed t) ts next
  tells : (hs ts : List (List ℕ)) (s : Socket) (bytes : List ℕ) → Lives hs ts s → is_open s ≡ true → Lives hs (ts ++ bytes ∷ []) (told_text bytes s)
  closes : (hs ts : List (List ℕ)) (s : Socket) (code : ℕ) (words : List ℕ) → Lives hs ts s → Lives hs ts (closed code words s)
  ends : (hs ts : List (List ℕ)) (s : Socket) → Lives hs ts s → Lives hs ts (ended s)
  sends : (hs ts : List (List ℕ)) (s : Socket) (n : ℕ) → Lives hs ts s → Lives hs ts (passing n s)

-- ---- frames

-- the bytes begin with frames that do this, one after another, and leave a state and the bytes after them
pub data Decodes : Connection → List ℕ → List Effect → Connection → List ℕ → Type 0 where
  nothing : (c : Connection) (bytes : List ℕ) → Decodes c bytes [] c bytes
  frame : (c d : Connection) (bytes rest : List ℕ) (n : ℕ) (e : Effect) (es : List Effect) → read_step c bytes ≡ Ok (Complete (n, e))
      → Decodes e.next (drop n bytes) es d rest → Decodes c bytes (e ∷ es) d rest

abbrev pub texts_of : List Effect → List (List ℕ)
texts_of es = flat_map (λ e. listed (text_in e.message)) es

-- the protocol's replies to frames: pongs, and a close
abbrev pub replies_of : List Effect → List Outgoing
replies_of es = flat_map (λ e. listed e.reply) es

abbrev pub text_of : Item → List (List ℕ)
text_of (told bytes) = bytes ∷ []
text_of (answer f) = []

abbrev pub answer_of : Item → List Outgoing
answer_of (told bytes) = []
answer_of (answer f) = f ∷ []

-- the texts, and the frames of the protocol, among what was offered
abbrev pub texts_in : List Item → List (List ℕ)
texts_in items = flat_map text_of items

abbrev pub answers_in : List Item → List Outgoing
answers_in items = flat_map answer_of items

-- ---- what it carried

-- before the handshake nothing was offered but its refusal, and nothing was heard or told
pub record IsUnopened (hs ts : List (List ℕ)) (s : Socket) : Type 0 where
  pub heard : hs ≡ []
  pub told : ts ≡ []
  pub effects : s.effects ≡ []
  pub items : s.items ≡ []
  pub waits : s.over ≡ false → (s.offered ≡ []) × (s.input ≡ s.read)
  pub offered : (s.offered ≡ []) ⊎ ((s.offered ≡ bad_request) ⊎ (s.offered ≡ upgrade_required))

-- after it: what was read is a request for a WebSocket, and then frames, whose texts are these, in order; what was offered is the
-- 101 that accepts its key, and then frames: one for each text that was told, in order, and the protocol's own, which are the replies to
-- the frames that were read, and after them at most one close
pub record IsOpened (hs ts : List (List ℕ)) (s : Socket) (conn : Connection) : Type 0 where
  pub head : RequestHead
  pub accept : List ℕ
  pub body : List ℕ
  pub request : IsAccepted s.read head body accept
  pub last : Connection
  pub rest : List ℕ
  pub decodes : Decodes at_start body s.effects last rest
  pub heard : hs ≡ texts_of s.effects
  pub offered : s.offered ≡ response_bytes accept [] ++ flat_map item_bytes s.items
  pub told : ts ≡ texts_in s.items
  pub close : Option Outgoing
  pub answers : answers_in s.items ≡ replies_of s.effects ++ listed close
  pub lives : s.over ≡ false → (close ≡ None) × ((last ≡ conn) × (rest ≡ s.input))
  -- who waits for more has heard all that the bytes say, however they were cut
  pub all : IsWaiting s → read_all at_start body ≡ record { effects = s.effects; end = Ok (conn, s.input) }

abbrev pub CarriesAt : List (List ℕ) → List (List ℕ) → Socket → Option Connection → Type 0
CarriesAt hs ts s None = IsUnopened hs ts s
CarriesAt hs ts s (Some conn) = IsOpened hs ts s conn

-- what was offered is what was sent and what is to be sent
pub record Carries (hs ts : List (List ℕ)) (s : Socket) : Type 0 where
  pub sent : s.offered ≡ s.sent ++ s.output
  pub carries : CarriesAt hs ts s s.protocol

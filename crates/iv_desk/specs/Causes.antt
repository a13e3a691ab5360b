-- Why a front closes a socket of its own.
use Rattle.std.specs.Prelude.{◌≡◌, ◌⊎◌, ◌<◌, ℕ, Bool, true, false, List, [], ◌∷◌, ◌++◌, length, Option, Some, None, Err}
use Rattle.httparse.specs.Grammar.{RequestHead, HasNoRequest}
use Rattle.websocket.specs.declared.error.Error.{Error}
use Rattle.websocket.specs.Content.{Content, binary, close}
use Rattle.websocket.specs.Connection.{Connection, Effect, read_step}
use Rattle.iv_gate.specs.Gate.{Gate, token_for}
use Rattle.iv_peer.specs.Socket.{Socket, IsAccepted, at_start, most_head}
use Rattle.iv_peer.specs.Hearing.{AsksOther, IsBadHead}
use Rattle.iv_peer.specs.Lives.{Decodes, texts_of}
use Rattle.iv_desk.specs.Front.{Front, FrontRuns, Happens, is_dropped, socket_at}

-- the bytes ask for no WebSocket, and none that follow make them ask for one
abbrev pub AsksNone : List ℕ → Type 0
AsksNone bytes = AsksOther bytes ⊎ (IsBadHead bytes ⊎ (HasNoRequest bytes × (most_head < length bytes)))

-- a close, or a binary message
abbrev pub is_last : Option Content → Bool
is_last (Some (binary bytes)) = true
is_last (Some (close frame)) = true
is_last _ = false

-- that is the last that was read of it
pub record HasEnded (s : Socket) : Type 0 where
  pub before : List Effect
  pub last : Effect
  pub all : s.effects ≡ before ++ last ∷ []
  pub ends : is_last last.message ≡ true

-- after a request for a WebSocket and frames there was read of it what is no frame
pub record HasFailed (s : Socket) : Type 0 where
  pub head : RequestHead
  pub accept : List ℕ
  pub body : List ℕ
  pub request : IsAccepted s.read head body accept
  pub state : Connection
  pub rest : List ℕ
  pub decodes : Decodes at_start body s.effects state rest
  pub error : Error
  pub fails : read_step state rest ≡ Err error

-- all that it said is a token by which nobody comes in at the number
pub record IsRefused (g : Gate) (m : ℕ) (s : Socket) : Type 0 where
  pub token : List ℕ
  pub said : texts_of s.effects ≡ token ∷ []
  pub nobody : token_for g m token ≡ None

-- why socket m is over: by what its own bytes say, by its token, or since its client is to go
pub data IsOverFor (g : Gate) (m : ℕ) (s : Socket) : Type 0 where
  asked_none : AsksNone s.read → IsOverFor g m s
  ended : HasEnded s → IsOverFor g m s
  failed : HasFailed s → IsOverFor g m s
  refused : IsRefused g m s → IsOverFor g m s
  dropped : is_dropped g m ≡ true → IsOverFor g m s

-- in whatever runs: what happens to a front of its own ends a socket for a cause
abbrev pub ClosesForCause : Type 0
ClosesForCause = (cap m : ℕ) (d e : Front) (s t : Socket) → FrontRuns cap d → d.gate.dead ≡ false → Happens d e
    → socket_at d m ≡ Some s → s.over ≡ false → socket_at e m ≡ Some t → t.over ≡ true → IsOverFor e.gate m t

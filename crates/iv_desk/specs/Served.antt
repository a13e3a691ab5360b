-- What each socket of a front carries.
use Rattle.std.specs.Prelude.{◌≡◌, ℕ, false, List, [], ◌∷◌, map, Option, Some, None}
use Rattle.sha2.specs.Sha256.{sha256}
use Rattle.iv_clients.specs.Clients.{Client, client_at, text_shown}
use Rattle.iv_gate.specs.Events.{Event, IsWell}
use Rattle.iv_gate.specs.Laws.{Holds, HoldsBy}
use Rattle.iv_peer.specs.Socket.{Socket}
use Rattle.iv_peer.specs.Lives.{Carries, listed}
use Rattle.iv_desk.specs.Front.{Front, FrontRuns, socket_at}

-- a client's socket: its texts are the token that the client presented and then its messages, and it was told what was handed to the
-- client, each time in one frame, all of them and in order
pub record CarriesClient (c : Client) (s : Socket) : Type 0 where
  pub token : List ℕ
  pub presented : c.digest ≡ sha256 token
  pub carries : Carries (token ∷ c.messages) (map text_shown c.handed) s

-- a socket without a client: it was told nothing, and once it has presented a token, which is one at most, it is over
pub record CarriesNobody (s : Socket) : Type 0 where
  pub token : Option (List ℕ)
  pub carries : Carries (listed token) [] s
  pub silent : s.over ≡ false → token ≡ None

-- a client has a socket
abbrev pub CarriesFor : Option Client → Option Socket → Type 0
CarriesFor None None = Unit {0}
CarriesFor None (Some s) = CarriesNobody s
CarriesFor (Some c) None = ⊥
CarriesFor (Some c) (Some s) = CarriesClient c s

-- each number carries what its client says and is told, and all holds that holds always of the gateway
pub record IsServed (cap : ℕ) (d : Front) : Type 0 where
  pub numbers : (m : ℕ) → CarriesFor (client_at d.gate.clients m) (socket_at d m)
  pub gate : Holds cap d.gate
  pub events : (e : Event) → IsWell e → HoldsBy d.gate e

-- in whatever runs, over restarts
abbrev pub BrowsersAreTold : Type 0
BrowsersAreTold = (cap : ℕ) (d : Front) → FrontRuns cap d → IsServed cap d

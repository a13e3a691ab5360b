-- For contracts of the code: what its values are to the definitions.
use Rattle.std.specs.Prelude.{◌≡◌, ◌⊎◌, ◌<◌, ◌||◌, ℕ, Bool, true, false, if◌then◌else◌, List, [], ◌∷◌, Contains, length, map, Option, Some, None, option_map}
use Rattle.iv_rows.specs.Options.{if_some}
use Rattle.iv_clients.specs.Clients.{Client, client_at}
use Rattle.iv_gate.specs.Gate.{Gate, is_heard}
use Rattle.iv_gate.specs.Restoring.{Restores}
use Rattle.iv_gateway.specs.Views.{IsGate}
use Rattle.iv_journal.specs.Journal.{Line}
use Rattle.iv_gateway.specs.declared.gateway.Gateway.{Gateway}
use Rattle.iv_peer.specs.Socket.{Socket, forget}
use Rattle.iv_peer.specs.Hearing.{Hears, IsWaiting}
use Rattle.iv_peer.specs.Lives.{Lives}
use Rattle.iv_desk.specs.Front.{Front, HearsAt, has_presented, is_held, offered_to, socket_at, with_both}
use Rattle.iv_desk.specs.declared.desk.Desk.{Desk}
use Rattle.iv_desk.specs.declared.place.Place.{Place}
use Rattle.iv_desk.specs.declared.place.Hearing.{Hearing}
use Rattle.iv_desk.specs.declared.place.Hearing.TheVariants.{All, Held, Over}

-- what the code has of a socket
abbrev pub place_of : Socket → Place
place_of s = record { peer = forget s; presented = has_presented s }

abbrev pub places_of : List (Option Socket) → List (Option Place)
places_of sockets = map (option_map place_of) sockets

-- its peer, changed
abbrev pub with_peer : (Socket → Socket) → Place → Place
with_peer f p = record p { peer = forget (f p.peer) }

-- it has had a life
abbrev pub IsLived : Socket → Type 0
IsLived s = (hs : List (List ℕ)) × (ts : List (List ℕ)) × Lives hs ts s

abbrev pub AreLived : Option Socket → Type 0
AreLived None = Unit {0}
AreLived (Some s) = IsLived s

-- a front that is alive stands behind the code's gateway and its places
pub record IsBehind (d : Front) (x : Gateway) (slots : List (Option Place)) : Type 0 where
  pub alive : d.gate.dead ≡ false
  pub gate : IsGate d.gate x
  pub places : slots ≡ places_of d.sockets
  pub lives : (m : ℕ) (s : Socket) → socket_at d m ≡ Some s → IsLived s

-- of a dead one nothing is known but that
pub record IsDesk (d : Front) (x : Desk) : Type 0 where
  pub dead : x.dead ≡ d.gate.dead
  pub alive : d.gate.dead ≡ false → IsBehind d x.gateway x.places.items

-- ---- restoring

-- the journal leads the gateway there
pub record IsRestored (d : Front) (journal : List Line) (x : Desk) : Type 0 where
  pub now : Gate
  pub restores : Restores d.gate journal now
  pub stands : IsDesk (record d { gate = now }) x

-- ---- hearing

-- what is left at a number: nothing that can be heard, what is not heard now, or nothing ever
abbrev pub IsLeft : Gate → ℕ → Socket → Hearing → Type 0
IsLeft g m s All = IsWaiting s
IsLeft g m s Held = (s.over ≡ false) × (is_held g m s ≡ true)
IsLeft g m s Over = s.over ≡ true

-- what was heard at number m has led to a gateway and a socket that stand behind the code
pub record IsHearing (g : Gate) (m : ℕ) (s : Socket) (x : Gateway) (p : Place) : Type 0 where
  pub now : Gate
  pub socket : Socket
  pub heard : HearsAt m g s now socket
  pub alive : now.dead ≡ false
  pub gate : IsGate now x
  pub place : p ≡ place_of socket
  pub lived : IsLived socket

-- and a text is heard next, which may be
pub record IsTextNext (g : Gate) (m : ℕ) (s : Socket) (text : List ℕ) (x : Gateway) (p : Place) : Type 0 where
  pub now : Gate
  pub before : Socket
  pub after : Socket
  pub heard : HearsAt m g s now before
  pub next : Hears before (Some text) after
  pub may : has_presented before ≡ true → is_heard now m ≡ true
  pub alive : now.dead ≡ false
  pub gate : IsGate now x
  pub place : p ≡ record { peer = forget after; presented = has_presented before }
  pub lived : IsLived before

pub record IsHeardOut (g : Gate) (m : ℕ) (s : Socket) (hearing : Hearing) (x : Gateway) (p : Place) : Type 0 where
  pub heard : IsHearing g m s x p
  pub left : IsLeft heard.now m heard.socket hearing

abbrev pub IsHeardNext : Gate → ℕ → Socket → Option Hearing → Gateway → Place → Type 0
IsHeardNext g m s None x p = IsHearing g m s x p
IsHeardNext g m s (Some hearing) x p = IsHeardOut g m s hearing x p

abbrev pub IsHeardAt : Gate → ℕ → Option Socket → Hearing → Gateway → Option Place → Type 0
IsHeardAt g m None hearing x y = IsGate g x × (y ≡ None) × (hearing ≡ Over)
IsHeardAt g m (Some s) hearing x y = (p : Place) × (y ≡ Some p) × IsHeardOut g m s hearing x p

-- all that number m says is heard that may be heard now, and leads to a front
abbrev pub IsHeardBy : Front → ℕ → Option Socket → Hearing → Front → Type 0
IsHeardBy d m None hearing e = (hearing ≡ Over) × (e ≡ d)
IsHeardBy d m (Some s) hearing e = (h : Gate) × (t : Socket) × HearsAt m d.gate s h t × IsLeft h m t hearing × (e ≡ with_both m h t d)

pub record IsHeardBehind (d : Front) (m : ℕ) (hearing : Hearing) (x : Gateway) (places : List (Option Place)) : Type 0 where
  pub now : Front
  pub heard : IsHeardBy d m (socket_at d m) hearing now
  pub stands : IsBehind now x places

pub record IsHeard (d : Front) (m : ℕ) (hearing : Hearing) (x : Desk) : Type 0 where
  pub now : Front
  pub heard : IsHeardBy d m (socket_at d m) hearing now
  pub stands : IsDesk now x

-- ---- offering

abbrev pub IsOfferedAt : Gate → ℕ → Option Socket → Gateway → Option Place → Type 0
IsOfferedAt g m None x y = IsGate g x × (y ≡ None)
IsOfferedAt g m (Some s) x y = IsGate (offered_to m g s).0 x × (y ≡ Some (place_of (offered_to m g s).1))

-- ---- all numbers

-- a step at each of the numbers, one after another
abbrev pub at_each : (ℕ → Front → Front) → List ℕ → Front → Front
at_each f [] d = d
at_each f (m ∷ ms) d = at_each f ms (f m d)

-- client m is to go, or may be sent something
abbrev pub IsCalled : Front → ℕ → Type 0
IsCalled d m = (c : Client) × (client_at d.gate.clients m ≡ Some c) × ((c.dropped ≡ true) ⊎ (0 < length c.sendable))

-- the step is made at some numbers, and each that is called is one of them
pub record IsCalledOut (f : ℕ → Front → Front) (d : Front) (x : Desk) : Type 0 where
  pub numbers : List ℕ
  pub all : (m : ℕ) → IsCalled d m → Contains numbers m
  pub stands : IsDesk (at_each f numbers d) x

pub record IsCalledBehind (f : ℕ → Front → Front) (d : Front) (x : Gateway) (places : List (Option Place)) : Type 0 where
  pub numbers : List ℕ
  pub all : (m : ℕ) → IsCalled d m → Contains numbers m
  pub stands : IsBehind (at_each f numbers d) x places

-- ---- what is to be sent

abbrev pub pending_at : Front → ℕ → List ℕ
pending_at d m = if d.gate.dead then [] else if_some (socket_at d m) [] (λ s. s.output)

abbrev pub is_over_at : Front → ℕ → Bool
is_over_at d m = d.gate.dead || if_some (socket_at d m) true (λ s. s.over)

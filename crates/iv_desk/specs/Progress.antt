-- What comes of who takes what it is offered.
use Rattle.std.specs.Prelude.{◌≡◌, ℕ, false, [], length, Some}
use Rattle.iv_rows.specs.Options.{if_some}
use Rattle.iv_clients.specs.Clients.{Client, client_at}
use Rattle.iv_gate.specs.Events.{synced}
use Rattle.iv_peer.specs.Socket.{Socket, passing}
use Rattle.iv_desk.specs.Front.{Front, FrontRuns, at_socket, by_event, is_held, offered, socket_at}

-- the bytes that are to be sent at number m
abbrev pub left_at : Front → ℕ → ℕ
left_at d m = if_some (socket_at d m) 0 (λ s. length s.output)

-- all of them are sent
abbrev pub taken : ℕ → Front → Front
taken m d = at_socket m (passing (left_at d m)) d

-- number m takes what is left; the journal is synced; it is offered what its client may be sent, and takes that
abbrev pub caught_up : ℕ → Front → Front
caught_up m d = taken m (offered m (by_event synced (taken m d)))

-- what it says is heard, and all that its client was told was handed to it
pub record IsFree (d : Front) (m : ℕ) (s : Socket) : Type 0 where
  pub heard : is_held d.gate m s ≡ false
  pub told : (c : Client) → client_at d.gate.clients m ≡ Some c → (c.sendable ≡ []) × (c.unsynced ≡ [])

-- in whatever runs: who takes all that it is offered is free then, or is over
abbrev pub HeldAreFreed : Type 0
HeldAreFreed = (cap m : ℕ) (d : Front) (s : Socket) → FrontRuns cap d → d.gate.dead ≡ false
    → socket_at (caught_up m d) m ≡ Some s → s.over ≡ false → IsFree (caught_up m d) m s

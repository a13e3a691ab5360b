-- What becomes of the sockets when nobody may come in any more.
use Rattle.std.specs.Prelude.{◌≡◌, ◌<◌, ℕ, zero, suc, true, codes}
use Rattle.iv_peer.specs.Socket.{closed}
use Rattle.iv_desk.specs.Front.{Front, at_socket}
use Rattle.iv_desk.specs.Desks.{is_over_at}

-- socket m is closed (RFC 6455, section 7.4.1: 1013, try again later)
abbrev pub closed_at : ℕ → Front → Front
closed_at m d = at_socket m (closed 1013 (codes "The log is not followed now.")) d

-- each socket below this is closed
abbrev pub closed_below : ℕ → Front → Front
closed_below zero d = d
closed_below (suc m) d = closed_at m (closed_below m d)

-- then nothing more is heard or told at any of them
abbrev pub ClosedAreOver : Type 0
ClosedAreOver = (most : ℕ) (d : Front) (m : ℕ) → m < most → is_over_at (closed_below most d) m ≡ true

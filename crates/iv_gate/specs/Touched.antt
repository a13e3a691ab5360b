-- Who is touched by an event: who comes, who stays, and who is to go.
use Rattle.std.specs.Prelude.{◌≡◌, ◌⊎◌, ◌<◌, ℕ, ◌==◌, ◌||◌, Bool, true, false, not, if◌then◌else◌, List, length, Some, None, is_some}
use Rattle.sha2.specs.Sha256.{sha256}
use Rattle.iv_rows.specs.Names.{is_name}
use Rattle.iv_rows.specs.Options.{if_some}
use Rattle.iv_access.specs.Privileges.{role_of}
use Rattle.iv_access.specs.Rights.{Name}
use Rattle.iv_clients.specs.Bounds.{most_seats}
use Rattle.iv_clients.specs.Clients.{Client, client_at, fresh, handing, is_free, is_slow, opens, saying}
use Rattle.iv_clients.specs.Feeds.{seat_of}
use Rattle.iv_records.specs.Names.{holder_of}
use Rattle.iv_clients.specs.Tokens.{Token, role_opened, token_of}
use Rattle.iv_gate.specs.Events.{Event, presented, gone, known, synced, handed, next}
use Rattle.iv_gate.specs.Gate.{Gate}
use Rattle.iv_gate.specs.Replies.{heard_by, place_after}

-- the client after an event, as far as others cannot change it: its own message that is heard, and what is handed to it
abbrev pub itself_after : ℕ → Client → Event → Client
itself_after m c (handed n) = if n == m then handing c else c
itself_after m c e = if_some (heard_by m c e) c (λ text. saying text c)

-- the event drops the client: it does not take what it is offered, or its token is known no more
abbrev pub drops : Client → Event → Bool
drops c synced = is_slow c
drops c (known tokens) = not (opens tokens c)
drops c e = false

-- the client with what others may change of it, as it is now
abbrev pub as_told : Client → Client → Client
as_told now c = record c { given = now.given; subs = now.subs; unsynced = now.unsynced; sendable = now.sendable; owed = now.owed }

-- a client stays, with its role, its token, its messages and what was handed to it; it is to go if the event drops it
pub record StaysItself (g : Gate) (e : Event) (m : ℕ) (c : Client) : Type 0 where
  pub now : Client
  pub there : client_at (next g e).clients m ≡ Some now
  pub is : now ≡ record (as_told now (itself_after m c e)) { dropped = c.dropped || drops c e }

-- a number that nobody had has a client who presented a token that is known, and who is told its greeting alone
pub record IsNewcomer (g : Gate) (e : Event) (m : ℕ) (d : Client) : Type 0 where
  pub text : List ℕ
  pub token : Token
  pub event : e ≡ presented m text
  pub opened : token_of g.tokens (sha256 text) ≡ Some token
  pub is : d ≡ fresh (next g e).entries token (place_after g (holder_of token.role token.user) 0)

pub record AreTouched (g : Gate) (e : Event) : Type 0 where
  pub stays : (m : ℕ) (c : Client) → client_at g.clients m ≡ Some c → (e ≡ gone m → ⊥) → StaysItself g e m c
  pub leaves : (m : ℕ) → e ≡ gone m → client_at (next g e).clients m ≡ None
  pub comes : (m : ℕ) (d : Client) → client_at g.clients m ≡ None → client_at (next g e).clients m ≡ Some d → IsNewcomer g e m d

-- who presents a token that opens a role which the machine knows comes in, if the number is free and a session is there for the role
abbrev pub LetsIn : Gate → Type 0
LetsIn g = (m : ℕ) (token : List ℕ) (role : Name) → role_opened g.tokens (sha256 token) ≡ Some role
    → is_name role ≡ true → is_some (role_of g.machine.frame.rights role) ≡ true → is_free m g.clients ≡ true
    → (is_some (seat_of g.seats role) ≡ true) ⊎ (length g.seats < most_seats) → is_some (client_at (next g (presented m token)).clients m) ≡ true

-- the token that a client presented opens its role, and its role has a session
pub record ActsByToken (g : Gate) (c : Client) : Type 0 where
  pub opened : role_opened g.tokens c.digest ≡ Some c.role
  pub seat : is_some (seat_of g.seats c.role) ≡ true

-- What is presented first in the bytes that are read at a number.
use Rattle.std.specs.Prelude.{◌≡◌, ◌⊎◌, ◌<◌, ◌≤◌, ◌+◌, ℕ, true, List, length, Some, None, string_bytes}
use Rattle.iv_peer.specs.Socket.{Socket, forget, took}
use Rattle.iv_peer.specs.Hearing.{Hears, IsServer, IsWaiting}
use Rattle.iv_admission.specs.declared.scout.Found.{Found}
use Rattle.iv_admission.specs.declared.scout.Found.TheVariants as found
use Rattle.iv_admission.specs.declared.scout.Scout.{Scout}

-- things are heard one after another, and none of them is a text
pub data PassesBy (s : Socket) : Socket → Type 0 where
  nothing : PassesBy s s
  no_text : (r t : Socket) → PassesBy s r → Hears r None t → PassesBy s (forget t)

-- no text yet, and more bytes are needed; the first text; nothing more is heard, and there was none
abbrev pub IsFoundIn : Found → (s after : Socket) → Type 0
IsFoundIn found.More s after = PassesBy s after × IsWaiting after × IsServer after
IsFoundIn (found.Text text) s after = (r : Socket) × (t : Socket) × PassesBy s r × Hears r (Some (string_bytes text)) t
IsFoundIn found.Nothing s after = PassesBy s after × (after.over ≡ true)

-- bytes that are heard, with the head of the request: a web token is to be whole within them
abbrev pub most_heard : ℕ
most_heard = 32768

abbrev pub IsFoundOf : Found → (taken : ℕ) → Socket → Scout → Type 0
IsFoundOf found.More taken s x = (taken ≤ most_heard) × (x.taken ≡ taken) × IsFoundIn found.More s x.peer
IsFoundOf (found.Text text) taken s x = (taken ≤ most_heard) × IsFoundIn (found.Text text) s x.peer
IsFoundOf found.Nothing taken s x = (most_heard < taken) ⊎ IsFoundIn found.Nothing s x.peer

-- what is found of these bytes behind as many others, at an end of the connection that has taken those
abbrev pub IsFound : Found → (taken : ℕ) → List ℕ → Socket → Scout → Type 0
IsFound f taken bytes s x = IsFoundOf f (taken + length bytes) (forget (took bytes s)) x

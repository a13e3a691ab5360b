-- A server's end stays one, whatever is heard there.
use Rattle.std.proofs.Common.{◌≡◌, ℕ, List, Option, Some, None, option_map, refl, ap, ◌∙◌, sym}
use Rattle.websocket.specs.Content.{Content, text, binary, ping, pong, close}
use Rattle.websocket.specs.Connection.{Connection, failed_connection}
use Rattle.iv_peer.specs.Socket.{Socket, at_start, ending, stepped}
use Rattle.iv_peer.specs.Hearing.{Hears, IsServer, accepts, refuses_other, refuses_bad, refuses_long, frames, fails}
use Rattle.iv_peer.proofs.Roles.{role-read_step}
use Rattle.iv_admission.specs.Scouting.{PassesBy, nothing, no_text}

some_same : {X : Type 0} (a b : X) → Some a ≡ Some b → a ≡ b
some_same a b h = cc h

ending_protocol : (m : Option Content) (s : Socket) → (ending m s).protocol ≡ s.protocol
ending_protocol None s = refl
ending_protocol (Some (text bytes)) s = refl
ending_protocol (Some (binary bytes)) s = refl
ending_protocol (Some (ping bytes)) s = refl
ending_protocol (Some (pong bytes)) s = refl
ending_protocol (Some (close f)) s = refl

pub IsServer-Hears : (s t : Socket) (o : Option (List ℕ)) → IsServer s → Hears s o t → IsServer t
IsServer-Hears _ _ _ v (accepts s head rest accept over at is) = λ k h. ap (λ (z : Connection). z.role) (some_same k at_start (sym h))
IsServer-Hears _ _ _ v (refuses_other s over at asks) = v
IsServer-Hears _ _ _ v (refuses_bad s over at bad) = v
IsServer-Hears _ _ _ v (refuses_long s over at head long) = v
IsServer-Hears _ _ _ v (frames s conn n e over at read) = λ k h.
    ap (λ (z : Connection). z.role) (some_same k e.next (sym h ∙ ending_protocol e.message (stepped n e s)))
    ∙ (role-read_step conn s.input (n, e) read ∙ v conn at)
IsServer-Hears _ _ _ v (fails s conn e over at read) = λ k h.
    ap (λ (z : Connection). z.role) (some_same k (failed_connection conn) (sym h ∙ ap (option_map failed_connection) at)) ∙ v conn at

pub IsServer-PassesBy : (s r : Socket) → IsServer s → PassesBy s r → IsServer r
IsServer-PassesBy s _ v nothing = v
IsServer-PassesBy s _ v (no_text r t p h) = IsServer-Hears r t None (IsServer-PassesBy s r v p) h

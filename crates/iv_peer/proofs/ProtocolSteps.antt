-- A step of the protocol, and what a peer is behind it.
use Rattle.std.proofs.Common.{◌≡◌, ℕ, List, ◌++◌, drop, Option, None, Some, Result, Ok, Err, option_map, refl, ◌∙◌, ap, sym, subst, append-nil}
use Rattle.std.specs.Prelude.{flat_map}
use Rattle.std.proofs.lemmas.Bool.{false≢true}
use Rattle.websocket.specs.declared.error.Error.{Error}
use Rattle.websocket.specs.declared.protocol.config.Role.{Role}
use Rattle.websocket.specs.declared.protocol.config.Role.TheVariants.{Server}
use Rattle.websocket.specs.declared.protocol.context.Step.{Step}
use Rattle.websocket.specs.declared.protocol.frame.codec.FrameStatus.{FrameStatus}
use Rattle.websocket.specs.declared.protocol.frame.codec.FrameStatus.TheVariants.{Partial, Complete}
use Rattle.websocket.specs.Content.{received_content}
use Rattle.websocket.specs.Connection.{Connection, Effect, IsMaskOf, Outgoing, Sends, whole_header}
use Rattle.websocket.specs.Frame.{encode_frame}
use Rattle.websocket.specs.View.{Returns, ReadLeaves}
use Rattle.iv_peer.specs.declared.peer.Said.{Said}
use Rattle.iv_peer.specs.declared.peer.Read.TheVariants as read
use Rattle.iv_peer.specs.Socket.{Socket, answers, forget, item_bytes}
use Rattle.iv_peer.specs.Reading.{IsRead, IsSaidAs}

no_mask : (mask : Option (List ℕ)) → IsMaskOf Server mask → mask ≡ None
no_mask None h = refl
no_mask (Some m) h = absurd (false≢true (sym h.0))

sends : (role : Role) (o : Option Outgoing) (old new : List ℕ) → role ≡ Server → Sends role o old new → new ≡ old ++ flat_map item_bytes (answers o)
sends role None old new e h = h ∙ sym (append-nil old)
sends role (Some f) old new e h =
    let bare = no_mask h.0 (subst (λ r. IsMaskOf r h.0) e h.1) in
    h.2 ∙ ap (λ z. old ++ z) (ap (λ m. encode_frame (whole_header f.opcode m) f.payload) bare ∙ sym (append-nil (encode_frame (whole_header f.opcode None) f.payload)))

-- a read that completes is a step of the socket
pub IsRead-Returns : (r : Result (FrameStatus (ℕ × Effect)) Error) (conn behind : Connection) (p : Socket) (input output : List ℕ) (step : Step) (s : Said) → conn.role ≡ Server
    → ((x : ℕ × Effect) → r ≡ Ok (Complete x) → x.1.next.role ≡ conn.role) → Returns r input (Complete step) → ReadLeaves r conn behind p.output output
    → drop step.consumed input ≡ drop step.consumed p.input → IsSaidAs (option_map (received_content input) step.message) s
    → IsRead r (read.Frame s) p (record (forget p) { protocol = Some behind; input = drop step.consumed input; output = output })
IsRead-Returns (Err e) conn behind p input output step s server stays returns leaves kept said_as = absurd returns
IsRead-Returns (Ok (Partial n)) conn behind p input output step s server stays returns leaves kept said_as = absurd (cc returns)
IsRead-Returns (Ok (Complete x)) conn behind p input output step s server stays returns leaves kept said_as =
    let said : IsSaidAs x.1.message s = subst (λ m. IsSaidAs m s) returns.1.0 said_as in
    let rest : drop step.consumed input ≡ drop x.0 p.input = kept ∙ ap (λ n. drop n p.input) returns.0 in
    let sent : output ≡ p.output ++ flat_map item_bytes (answers x.1.reply) = sends behind.role x.1.reply p.output output (ap (λ (c : Connection). c.role) leaves.0 ∙ (stays x refl ∙ server)) leaves.1 in
    (s, refl, said, λ i. record (forget p) { protocol = Some (leaves.0 i); input = rest i; output = sent i })

use Rattle.std.proofs.Common.{arith, rules, ◌≡◌, ◌∙◌, sym, ap, subst, drop, option_map}
use Rattle.std.proofs.lemmas.Grind.{common_steps}
use Rattle.websocket.specs.Connection.{Connection, read_step}
use Rattle.websocket.specs.Content.{received_content}
use Rattle.websocket.specs.View.{KeepsRest, Returns, ReadLeaves}
use Rattle.websocket.specs.declared.protocol.frame.codec.FrameStatus.TheVariants.{Complete}
use Rattle.iv_peer.specs.declared.peer.Read.TheVariants as read
use Rattle.iv_peer.specs.Reading.{IsRead, IsSaidAs}
use Rattle.iv_peer.proofs.ProtocolSteps.{IsRead-Returns}
use Rattle.iv_peer.proofs.Roles.{role-read_step}
use Rattle.iv_peer.proofs.peer.Peer.read_frame.Goals as goal

pub returns-in_ok-said-in-Ok-Complete : goal.returns-in_ok-said-in-Ok-Complete
returns-in_ok-said-in-Ok-Complete c = λ conn e server.
    let p = c.args.self.now in
    let same : c.in-Some.socket ≡ conn = search rules in
    let step = c.in-Ok-Complete.step in
    let a : Returns (read_step c.in-Some.socket c.deref_mut.result.now) c.read.new.input (Complete c.in-Ok-Complete.step) = subst (Returns (read_step c.in-Some.socket c.deref_mut.result.now) c.read.new.input) c.in-Ok-Complete.field-0-is c.in-Ok-Complete.ensures.returns in
    let v : c.deref_mut.result.now ≡ c.args.self.now.input = search rules in
    let w : c.deref.result.now ≡ c.read.new.input = c.deref.ensures.value ∙ (grind (arith, common_steps)) in
    let k : drop c.in-Ok-Complete.step.consumed c.read.new.input ≡ drop c.in-Ok-Complete.step.consumed c.deref_mut.result.now = (subst (λ z. KeepsRest z c.deref_mut.result.now c.read.new.input) c.in-Ok-Complete.field-0-is c.in-Ok-Complete.ensures.keeps_rest).1 in
    let returns : Returns (read_step c.in-Some.socket c.args.self.now.input) c.deref.result.now (Complete c.in-Ok-Complete.step) =
    subst (λ z. Returns (read_step c.in-Some.socket z) c.deref.result.now (Complete c.in-Ok-Complete.step)) v (subst (λ z. Returns (read_step c.in-Some.socket c.deref_mut.result.now) z (Complete c.in-Ok-Complete.step)) (sym w) a) in
    let leaves : ReadLeaves (read_step c.in-Some.socket c.args.self.now.input) c.in-Some.socket c.read.new.self c.args.self.now.output c.read.new.output.items = search rules in
    let kept : drop c.in-Ok-Complete.step.consumed c.deref.result.now ≡ drop c.in-Ok-Complete.step.consumed c.args.self.now.input = ap (drop c.in-Ok-Complete.step.consumed) w ∙ (k ∙ ap (drop c.in-Ok-Complete.step.consumed) v) in
    let said : IsSaidAs (option_map (received_content c.deref.result.now) c.in-Ok-Complete.step.message) c.in_ok-said-in-Ok-Complete.said = c.in_ok-said-in-Ok-Complete.ensures in
    subst (λ k. IsRead (read_step k c.args.self.now.input) (read.Frame c.in_ok-said-in-Ok-Complete.said) c.args.self.now c.drop_front.new.self) same
    (subst (IsRead (read_step c.in-Some.socket c.args.self.now.input) (read.Frame c.in_ok-said-in-Ok-Complete.said) c.args.self.now) (search rules)
    (IsRead-Returns (read_step c.in-Some.socket c.args.self.now.input) c.in-Some.socket c.read.new.self c.args.self.now c.deref.result.now c.read.new.output.items c.in-Ok-Complete.step c.in_ok-said-in-Ok-Complete.said
    (ap (λ (k : Connection). k.role) same ∙ server) (λ x is. role-read_step c.in-Some.socket c.args.self.now.input x is) returns leaves kept said))

use Rattle.std.proofs.Common.{◌≡◌, ◌∙◌, Some, ap, rules, set, sym}
use Rattle.std.specs.Prelude.{string_bytes}
use Rattle.iv_clients.specs.Clients.{fresh}
use Rattle.iv_clients.specs.Kept.{coming, kept}
use Rattle.iv_clients.specs.Tokens.{Token}
use Rattle.iv_gate.specs.Gate.{at_text, shape_text}
use Rattle.iv_notices.specs.Shaping.{greeting_text}
use Rattle.iv_gateway.proofs.AddedEntries.{placed_in-place_text}
use Rattle.iv_notices.proofs.ClientChanges.{set-kept_slots}
use Rattle.iv_notices.proofs.ShapeLines.{kept-fresh}
use Rattle.iv_gateway.proofs.gateway.Gateway.enter.Goals as goal

pub returns : goal.returns
returns c = λ g b.
    let t : Token = record { digest = c.args.digest.items; role = string_bytes c.args.role; user = string_bytes c.args.user } in
    let who = fresh g.entries t (at_text g t) in
    let at : string_bytes c.in_ok-at.at ≡ at_text g t =
    c.in_ok-at.ensures ∙ placed_in-place_text g c.args.self.now _ _ b.names (search rules) in
    let text : c.in_ok-text.text.items ≡ greeting_text t.role (at_text g t) (shape_text g.entries) =
    c.in_ok-text.ensures ∙ (λ i. greeting_text (c.as_str-4.ensures.value i) ((c.as_str-5.ensures.value ∙ at) i) ((c.deref.ensures.value ∙ b.shape) i)) in
    record {
      tokens = b.tokens;
      machine = b.machine;
      seats = b.seats;
      feeds = b.feeds;
      names = b.names;
      log = b.log;
      leads = b.leads;
      position = b.position;
      settled = b.settled;
      forgiven = b.forgiven;
      pending = b.pending;
      shape = b.shape;
      clients = c.enter.ensures
          ∙ (ap (λ k. set c.args.self.now.clients c.args.client (Some k))
          (ap (coming t.role t.user t.digest) text ∙ sym (kept-fresh g.entries t (at_text g t)))
          ∙ (ap (λ z. set z c.args.client (Some (kept who))) b.clients ∙ set-kept_slots c.args.client (Some who) g.clients));
    }

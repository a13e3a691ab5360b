use Rattle.std.proofs.Common.{◌≡◌, ◌∙◌, ◌++◌, option_map, rules, subst, sym, ap}
use Rattle.iv_message.specs.Seen.{id_data}
use Rattle.iv_message.specs.Told.{denied, told_text}
use Rattle.iv_gate.specs.Gate.{tells}
use Rattle.iv_arrivals.specs.Speaking.{asked_id}
use Rattle.iv_gateway.specs.Views.{IsAlive}
use Rattle.iv_gateway.proofs.gateway.Gateway.deny.Goals as goal

pub returns : goal.returns
returns c = λ g b.
    let client : c.asked.inside.client ≡ c.args.asked.now.client = search rules in
    let same : c.asked.inside.id.now ≡ c.args.asked.now.id = search rules in
    let id : option_map id_data c.asked.inside.id.now ≡ asked_id c.args.asked.now = ap (option_map id_data) same in
    subst (λ m. IsAlive (tells g m (denied (asked_id c.args.asked.now) c.args.number)) c.tell.new.self) client
    (c.in_ok-tell.ensures g (denied (asked_id c.args.asked.now) c.args.number) b
    (sym (c.deref.ensures.value ∙ (c.in_ok-push_denied.ensures ∙ (λ i. c.new-text.ensures.items i ++ told_text (denied (id i) c.args.number))))))

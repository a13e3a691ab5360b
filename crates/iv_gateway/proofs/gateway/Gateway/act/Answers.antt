use Rattle.std.proofs.Common.{◌≡◌, ◌∙◌, ap, is_some, option_map, rules, sym}
use Rattle.std.specs.Prelude.{string_bytes}
use Rattle.iv_command.specs.Views.{act_of}
use Rattle.iv_message.specs.Seen.{id_data}
use Rattle.iv_gateway.proofs.HeardMessages.{IsAlive-claim_not_shared, IsAlive-acts, IsAlive-shares}
use Rattle.iv_gateway.proofs.gateway.Gateway.act.Goals as goal

pub returns-then-is_shared : goal.returns-then-is_shared
returns-then-is_shared c = λ g k text b there is line claim.
    let held : string_bytes c.speaker.inside.role ≡ c.args.speaker.now.role = search rules in
    let used : string_bytes c.speaker.inside.user ≡ c.args.speaker.now.user = search rules in
    let role : c.as_str.result.now ≡ k.role = c.as_str.ensures.value ∙ (held ∙ ap (λ s. s.role) is) in
    let user : c.as_str-then-is_shared.result.now ≡ k.user = c.as_str-then-is_shared.ensures.value ∙ (used ∙ ap (λ s. s.user) is) in
    IsAlive-shares g c.args.client k (option_map id_data c.args.id.now) text c.args.line.now c.as_str.result.now c.args.claim (act_of c.args.act) _
    (sym c.is_shared.ensures ∙ c.if-is_shared.true) role line claim (c.in_ok-share.ensures g k b role user)

pub returns-then-is_some : goal.returns-then-is_some
returns-then-is_some c = λ g k text b there is line claim.
    IsAlive-claim_not_shared g c.args.client k (option_map id_data c.args.id.now) text (act_of c.args.act) _ (sym c.is_shared.ensures ∙ c.if-is_shared.false)
    (ap is_some claim ∙ (sym c.is_some.ensures ∙ c.if-is_some.true)) (c.in_ok-refuse_name.ensures g b)

pub returns : goal.returns
returns c = λ g k text b there is line claim.
    IsAlive-acts g c.args.client k (option_map id_data c.args.id.now) text (act_of c.args.act) _
    (ap is_some claim ∙ (sym c.is_some.ensures ∙ c.if-is_some.false)) (c.in_ok-ask.ensures g k text b there is)

use Rattle.std.proofs.Common.{Bor, ◌≡◌, ◌∙◌, ◌++◌, ap, map, rules}
use Rattle.std.specs.Prelude.{string_bytes}
use Rattle.iv_access.specs.Rights.{Name}
use Rattle.iv_engine.specs.Known.{relations_with}
use Rattle.iv_notices.specs.Granting.{text_granted}
use Rattle.iv_notices.specs.Newly.{only_new}
use Rattle.iv_notices.proofs.newly.newly_told.Goals as goal

pub returns-in_ok-role-in-Ok : goal.returns-in_ok-role-in-Ok
returns-in_ok-role-in-Ok c =
    let f = c.args.engine.now.frame in
    let r = c.args.before.now in
    let role : string_bytes c.in_ok-role-in-Ok.role ≡ c.args.before.now.role = search rules in
    let asked : c.as_str.result.now ≡ c.args.before.now.role = search rules in
    let text = c.in_ok-push_new-in-Ok.ensures
    ∙ (ap (λ z. z ++ text_granted (only_new f r (map (λ (n : Bor Name). n.now) c.deref.result.now))) c.new-text.ensures.items
    ∙ ap (λ z. text_granted (only_new f r z)) (ap (map (λ (n : Bor Name). n.now)) c.deref.ensures.value
    ∙ (c.in-Ok.ensures c.requires ∙ ap (relations_with f) asked))) in
    λ i. record { role = role i; text = text i }

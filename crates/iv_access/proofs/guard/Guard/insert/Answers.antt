use Rattle.std.proofs.Common.{◌≡◌, ap, ◌∙◌}
use Rattle.std.specs.Prelude.{insert}
use Rattle.std.specs.List.{position_or_len}
use Rattle.iv_access.specs.Changing.{insert_policy}
use Rattle.iv_access.specs.Stored.{is_before}
use Rattle.iv_access.proofs.Policies.{insert-insert_policy}
use Rattle.iv_access.proofs.guard.Guard.insert.Goals as goal

pub returns-clause-ok : goal.returns-clause-ok
returns-clause-ok c =
    let ps = c.self.inside.policies.items in
    let p = c.args.policy in
    let place : c.place_for-place.result ≡ position_or_len (is_before p.name) ps =
    c.place_for-place.ensures.place
    ∙ (λ i. position_or_len (is_before ((c.as_str.ensures.value ∙ ap (λ q. q.name) c.policy.view_is) i)) (c.deref.ensures.value i)) in
    let after : c.insert.new.self.items ≡ insert_policy p c.args.self.now.policies =
    c.in_ok-insert.ensures.items
    ∙ ap (λ n. insert ps n p) place
    ∙ insert-insert_policy p ps
    ∙ ap (λ g. insert_policy p g.policies) c.self.view_is in
    λ i. record { owner = (c.self.view_is i).owner; enabled = (c.self.view_is i).enabled; forced = (c.self.view_is i).forced; policies = after i }

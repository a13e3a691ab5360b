use Rattle.std.proofs.Common.{rules, ◌≡◌, ap, ◌∙◌}
use Rattle.std.proofs.lemmas.Fn.{filter_same}
use Rattle.iv_access.specs.Changing.{remove_policy}
use Rattle.iv_access.proofs.guard.Guard.remove.Goals as goal

pub returns : goal.returns
returns c =
    let after : c.retain.new.self.items ≡ remove_policy c.args.name.now c.args.self.now.policies =
    filter_same _ _ _ (λ x b f' k. search rules) _ _ c.retain.ensures.filtered
    ∙ ap (λ g. remove_policy c.args.name.now g.policies) c.self.view_is in
    λ i. record { owner = (c.self.view_is i).owner; enabled = (c.self.view_is i).enabled; forced = (c.self.view_is i).forced; policies = after i }

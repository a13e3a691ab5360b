use Rattle.std.proofs.Common.{ap, sym, ◌∙◌, ◌&&◌, map}
use Rattle.std.specs.List.{list_any}
use Rattle.iv_access.specs.Grants.{seen}
use Rattle.iv_access.specs.Policies.{applies}
use Rattle.iv_access.specs.Privileges.{is_for}
use Rattle.iv_roles.proofs.Lists.{list_any-map}
use Rattle.iv_access.proofs.access.Access.applies.Goals as goal

pub returns-then-covers : goal.returns-then-covers
returns-then-covers c =
    let r = c.args.self.now.rights in
    let role = c.args.role.0 in
    c.goes_to.ensures
    ∙ ap (list_any (λ t. is_for r role (seen t))) c.deref.ensures.value
    ∙ sym (list_any-map (is_for r role) seen c.policy.inside.to.items)
    ∙ ap (λ b. b && list_any (is_for r role) (map seen c.policy.inside.to.items)) (sym c.if-covers.true ∙ c.covers.ensures)
    ∙ ap (applies r role c.args.test) c.policy.view_is

use Rattle.std.proofs.Common.{◌≡◌, ap, sym, ◌∙◌, map, option_map, string_bytes}
use Rattle.iv_access.specs.Grants.{seen}
use Rattle.iv_access.specs.Access.{grantee_of}
use Rattle.iv_access.proofs.Lists.{map-of_map}
use Rattle.iv_access.proofs.access.Access.stored.Goals as goal

pub returns-in-Ok : goal.returns-in-Ok
returns-in-Ok c =
    let r = c.args.self.now.rights in
    let to : map seen c.in-Ok.to.items ≡ map (grantee_of r) c.args.policy.to =
    c.in-Ok.ensures
    ∙ ap (map (λ t. grantee_of r (option_map string_bytes t))) c.deref.ensures.value
    ∙ sym (map-of_map (grantee_of r) (option_map string_bytes) c.policy.inside.to.items)
    ∙ ap (λ p. map (grantee_of r) p.to) c.policy.view_is in
    λ i. record {
      name = (c.policy.view_is i).name;
      restrictive = (c.policy.view_is i).restrictive;
      command = (c.policy.view_is i).command;
      to = to i;
      using = (c.policy.view_is i).using;
      check = (c.policy.view_is i).check;
    }

use Rattle.std.proofs.Common.{◌≡◌, ◌∙◌, ◌||◌, ap, sym, false}
use Rattle.std.specs.List.{list_any}
use Rattle.iv_access.specs.Given.{grant_to, is_among}
use Rattle.iv_access.specs.Access.{Access}
use Rattle.iv_roles.specs.Roles.{is_admin}
use Rattle.iv_access.specs.Rights.{Public, Role}
use Rattle.iv_roles.proofs.Chains.{by_right}
use Rattle.iv_access.proofs.GrantSets.{by_own, gives, told}
use Rattle.iv_access.proofs.access.Access.has.Goals as goal

pub returns-then-is_granted : goal.returns-then-is_granted
returns-then-is_granted c =
    let r = c.args.self.now.rights in
    let role = c.args.role.0 in
    let p = c.args.privilege in
    let rel = c.args.rel.0 in
    let own = sym (ap (λ (k : Access). is_among k.rights.grants (grant_to Public p rel) || is_among k.rights.grants (grant_to (Role role) p rel)) c.self.view_is) ∙ (sym c.is_granted.ensures ∙ c.if-is_granted.true) in
    c.if-is_granted.true ∙ sym (by_right (is_admin role) (list_any (gives r role p rel) r.grants) (by_own r role p rel own))

pub returns-else-is_granted : goal.returns-else-is_granted
returns-else-is_granted c =
    let r = c.args.self.now.rights in
    let role = c.args.role.0 in
    let p = c.args.privilege in
    let rel = c.args.rel.0 in
    let t = c.is_inherited.result in
    let own = sym (ap (λ (k : Access). is_among k.rights.grants (grant_to Public p rel) || is_among k.rights.grants (grant_to (Role role) p rel)) c.self.view_is) ∙ (sym c.is_granted.ensures ∙ c.if-is_granted.false) in
    let other : false ≡ is_admin role = sym (sym c.is_admin.ensures ∙ c.if-is_admin.false) in
    ap (λ b. b || t) (sym own)
    ∙ told r role p rel t c.is_inherited.ensures.yes c.is_inherited.ensures.no
    ∙ ap (λ b. b || list_any (gives r role p rel) r.grants) other

use Rattle.std.proofs.Common.{◌≡◌, ◌∙◌, List, Some, ap, sym, subst}
use Rattle.std.specs.Prelude.{IfSome, slice_get}
use Rattle.std.specs.List.{AllByRecursion, count_by, find}
use Rattle.iv_algebra.specs.Shapes.{condition_of}
use Rattle.iv_access.specs.Policies.{is_named, IsRestriction, policies_of}
use Rattle.iv_access.specs.Rights.{Policy}
use Rattle.iv_access.proofs.Alone.{lent_alone}
use Rattle.iv_access.proofs.access.Access.restriction.Goals as goal

pub returns-then-count_of-eq1 : goal.returns-then-count_of-eq1
returns-then-count_of-eq1 c =
    let name = c.args.name.now in
    let ps : List Policy = c.branch.inside.policies.items in
    let p : Policy = c.in_ok-policy.policy.now in
    let there : ps ≡ policies_of (slice_get c.args.self.now.rights.guards c.args.table.0) = (λ i. (c.branch.view_is i).policies) ∙ ap policies_of c.in_ok-policies.ensures in
    let found : find (is_named name) ps ≡ Some p = ap (find (is_named name)) (sym c.deref.ensures.value) ∙ sym c.in_ok-policy.ensures in
    let one : count_by (is_named name) ps ≡ 1 = ap (count_by (is_named name)) (sym c.deref-then-policy.ensures.value) ∙ sym c.count_of.ensures ∙ c.if-count_of-eq1.true in
    subst (λ (qs : List Policy). IfSome c.as_ref.result (λ pred. AllByRecursion (IsRestriction name (condition_of pred.now)) qs)) there
    (lent_alone (λ b. b.now) c.as_ref.result c.policy.inside.using c.as_ref.ensures.value name p ps
    (λ i. (sym c.policy.view_is i).using) ((λ i. (sym c.policy.view_is i).restrictive) ∙ c.if-policy.true) found one)

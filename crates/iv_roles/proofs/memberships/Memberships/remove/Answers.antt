use Rattle.std.proofs.Common.{rules, ◌≡◌, not, ap, sym, ◌∙◌, subst, length}
use Rattle.std.specs.List.{All}
use Rattle.std.proofs.lemmas.Fn.{filter_same}
use Rattle.std.proofs.lemmas.List.Elements.{All-filter}
use Rattle.iv_roles.specs.Memberships.{member_of, membership_eq, without_membership, reaches}
use Rattle.iv_roles.specs.Rows.{AreRows, IsWithin}
use Rattle.iv_roles.proofs.Flags.{take-whole}
use Rattle.iv_roles.proofs.memberships.Memberships.remove.Goals as goal

pub follow-requires : goal.follow-requires
follow-requires c =
    let m = member_of c.args.role.0 c.args.member.0 in
    let old = c.self.inside.direct.items in
    let rows = c.self.inside.rows.items in
    let left : c.retain.new.self.items ≡ without_membership m old = filter_same _ _ _ (λ x b f' k. search rules) _ _ c.retain.ensures.filtered in
    subst (λ rs. All (IsWithin (length rs)) c.deref.result.now) (sym c.deref_mut.ensures.value)
    (subst (All (IsWithin (length rows))) (sym (c.deref.ensures.value ∙ left)) (All-filter (λ n. not (membership_eq m n)) (IsWithin (length rows)) old c.self.invariant.within))

pub invariant_of-self : goal.invariant_of-self
invariant_of-self c =
    let m = member_of c.args.role.0 c.args.member.0 in
    let old = c.self.inside.direct.items in
    let rows = c.self.inside.rows.items in
    let new = c.follow.new.rows in
    let left : c.retain.new.self.items ≡ without_membership m old = filter_same _ _ _ (λ x b f' k. search rules) _ _ c.retain.ensures.filtered in
    let long : length new ≡ length rows = c.follow.ensures.length ∙ ap length c.deref_mut.ensures.value in
    subst (AreRows c.retain.new.self.items) (sym (take-whole c.self.inside.rows.len new rows long (sym c.deref_mut.ensures.len ∙ ap length c.deref_mut.ensures.value)))
    (record {
      within = subst (λ n. All (IsWithin n) c.retain.new.self.items) (sym long)
          (subst (All (IsWithin (length rows))) (sym left) (All-filter (λ n. not (membership_eq m n)) (IsWithin (length rows)) old c.self.invariant.within));
      follow = λ a b. c.follow.ensures.flags a b ∙ ap (λ ms. reaches ms a b) c.deref.ensures.value;
    })

pub returns : goal.returns
returns c =
    filter_same _ _ _ (λ x b f' k. search rules) _ _ c.retain.ensures.filtered
    ∙ ap (without_membership (member_of c.args.role.0 c.args.member.0)) c.self.view_is

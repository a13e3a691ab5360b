use Rattle.std.proofs.Common.{◌≡◌, ◌<◌, ap, sym, ◌∙◌, subst, length, arith}
use Rattle.iv_roles.specs.Memberships.{member_of}
use Rattle.iv_roles.specs.Rows.{AreRows, leads}
use Rattle.iv_roles.proofs.Flags.{AreRows-push, take-whole}
use Rattle.iv_roles.proofs.memberships.Memberships.add.Goals as goal

pub invariant_of-self-2 : goal.invariant_of-self-2
invariant_of-self-2 c =
    let m = member_of c.args.role.0 c.args.member.0 in
    let rows = c.self.inside.rows.items in
    let grown = c.grow.new.rows.items in
    let new = c.lead.new.rows in
    let value = c.deref_mut.ensures.value in
    let long : length new ≡ length grown = c.lead.ensures.length ∙ ap length value in
    let room = c.in_ok-grow.ensures.ok in
    let most = c.max.ensures in
    let role : c.args.role.0 < length grown = omega (arith, room, most) in
    let member : c.args.member.0 < length grown = omega (arith, room, most) in
    subst (AreRows c.push.new.self.items) (sym (take-whole c.grow.new.rows.len new grown long (sym c.deref_mut.ensures.len ∙ ap length value)))
    (subst (λ ms. AreRows ms new) (sym c.in_ok-push.ensures.items)
    (AreRows-push c.self.inside.direct.items m rows grown new c.self.invariant c.in_ok-grow.ensures.length c.in_ok-grow.ensures.flags
    (record { wide = c.requires.role; role = role; member = member }) long
    (λ a b. subst (λ rs. leads new a b ≡ Rattle.iv_roles.specs.Memberships.further (leads rs) m a b) value (c.lead.ensures.flags a b))))

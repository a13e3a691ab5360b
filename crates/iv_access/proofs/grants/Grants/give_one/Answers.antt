use Rattle.std.proofs.Common.{◌≡◌, ◌<◌, [], ◌∷◌, ◌++◌, ap, sym, ◌∙◌, subst, false, length, set, arith}
use Rattle.std.specs.Prelude.{if◌then◌else◌, is_ok}
use Rattle.iv_access.specs.Given.{grant_to, is_among}
use Rattle.iv_access.specs.Grants.{AreFlags, seen}
use Rattle.iv_access.proofs.GrantFlags.{AreFlags-granted}
use Rattle.iv_access.proofs.grants.Grants.give_one.Goals as goal

pub invariant_of-self : goal.invariant_of-self
invariant_of-self c =
    let h = grant_to (seen c.args.grantee) c.args.privilege c.args.rel.0 in
    let gs = c.self.inside.list.items in
    let rs = c.self.inside.flags.items in
    let none : is_among gs h ≡ false = ap (λ k. is_among k.list h) c.self.view_is ∙ (sym c.is_granted_to.ensures ∙ c.if-is_granted_to.false) in
    let told = c.requires.relation in
    let many = ap (λ k. k.relations) c.self.view_is in
    let here : c.args.rel.0 < length rs = omega (arith, told, many, c.self.inside.flags.ok.0) in
    let pushed : c.push.new.self.items ≡ gs ++ h ∷ [] = c.push.ensures.items ∙ ap (λ r. if is_ok r then gs ++ h ∷ [] else gs) c.unwrap.ensures in
    subst (λ ks. AreFlags ks (set rs c.args.rel.0 c.set.new.self)) (sym pushed) (AreFlags-granted gs rs h c.index_mut.result.now c.set.new.self c.self.invariant none here c.index_mut.ensures.value c.set.ensures)

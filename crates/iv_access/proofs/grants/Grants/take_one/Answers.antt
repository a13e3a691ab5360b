use Rattle.std.proofs.Common.{rules, ◌≡◌, ◌<◌, ap, sym, ◌∙◌, subst, true, length, set}
use Rattle.std.proofs.lemmas.Fn.{filter_same}
use Rattle.iv_access.specs.Changing.{revoked}
use Rattle.iv_access.specs.Given.{grant_to, is_among}
use Rattle.iv_access.specs.Grants.{AreFlags, seen}
use Rattle.iv_access.proofs.GrantFlags.{lt-is_among, revoked-absent, AreFlags-revoked}
use Rattle.iv_access.proofs.grants.Grants.take_one.Goals as goal

pub returns-then-not-is_granted_to : goal.returns-then-not-is_granted_to
returns-then-not-is_granted_to c =
    let h = grant_to (seen c.args.grantee) c.args.privilege c.args.rel.0 in
    revoked-absent c.args.self.now.list h (sym c.is_granted_to.ensures ∙ c.if-not-is_granted_to.true)

pub invariant_of-self : goal.invariant_of-self
invariant_of-self c =
    let h = grant_to (seen c.args.grantee) c.args.privilege c.args.rel.0 in
    let gs = c.self.inside.list.items in
    let rs = c.self.inside.flags.items in
    let held : is_among gs h ≡ true = ap (λ k. is_among k.list h) c.self.view_is ∙ (sym c.is_granted_to.ensures ∙ c.if-not-is_granted_to.false) in
    let here : c.args.rel.0 < length rs = lt-is_among gs rs h c.self.invariant held in
    let left : c.retain.new.self.items ≡ revoked h gs = filter_same _ _ _ (λ x b f' k. search rules) _ _ c.retain.ensures.filtered in
    subst (λ ks. AreFlags ks (set rs c.args.rel.0 c.set.new.self)) (sym left) (AreFlags-revoked gs rs h c.index_mut.result.now c.set.new.self c.self.invariant here c.index_mut.ensures.value c.set.ensures)

pub returns : goal.returns
returns c =
    filter_same _ _ _ (λ x b f' k. search rules) _ _ c.retain.ensures.filtered
    ∙ ap (λ k. revoked (grant_to (seen c.args.grantee) c.args.privilege c.args.rel.0) k.list) c.self.view_is

use Rattle.std.proofs.Common.{◌∙◌, ◌||◌, ap, sym}
use Rattle.std.proofs.lemmas.List.{take_all}
use Rattle.std.specs.List.{list_any}
use Rattle.iv_store.specs.Store.{frame_of, is_read_through}
use Rattle.iv_store.proofs.ReadersFound.{list_any-take_more, over_own, own_at}
use Rattle.iv_store.proofs.store.Store.still_read.Goals as goal

pub loop-subscription-preserved : goal.loop-subscription-preserved
loop-subscription-preserved c = λ role rel.
    let e = c.args.self.now in
    let p = is_read_through (frame_of e) role rel in
    let i = c.loop-subscription.subscription-index in
    let s = c.subscription-item.result in
    let own = own_at e _ _ i s c.deref-subscription-items.ensures.value c.self.view_is c.loop-subscription-test.true c.subscription-item.is in
    c.in_ok-add_read.ensures role rel ∙ ap (λ b. b || p s) (c.loop-subscription.invariant role rel) ∙ sym (list_any-take_more p e.subscriptions i s own.0 own.1)

pub returns : goal.returns
returns c = λ role rel.
    let e = c.args.self.now in
    let i = c.loop-subscription.subscription-index in
    c.loop-subscription.invariant role rel
    ∙ ap (list_any (is_read_through (frame_of e) role rel)) (take_all i e.subscriptions (over_own e _ _ i c.deref-subscription-items.ensures.value c.self.view_is c.loop-subscription-test.false))

use Rattle.std.proofs.Common.{◌≡◌, ◌==◌, ◌∙◌, ap, rules}
use Rattle.std.specs.Prelude.{filter, not}
use Rattle.std.proofs.lemmas.Fn.{filter_same}
use Rattle.iv_machine.specs.State.{Subscription}
use Rattle.iv_store.specs.Store.{store_of}
use Rattle.iv_store.specs.Finished.{without_subscription}
use Rattle.iv_store.proofs.store.Store.close.Goals as goal

pub returns : goal.returns
returns c =
    let x = c.self.inside in
    let after : c.retain.new.self.items ≡ filter (λ (s : Subscription). not (c.args.number == s.number)) x.subscriptions.items = filter_same _ _ _ (λ s b f' k. search rules) _ _ c.retain.ensures.filtered in
    (λ i. store_of x.database (after i) x.circuits x.last)
    ∙ ap (without_subscription c.args.number) c.self.view_is

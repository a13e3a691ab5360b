use Rattle.std.proofs.Common.{◌≡◌, ◌==◌, ◌∙◌, ap, rules}
use Rattle.std.specs.Prelude.{filter, not}
use Rattle.std.proofs.lemmas.Fn.{filter_same}
use Rattle.iv_machine.specs.State.{Subscription}
use Rattle.iv_store.specs.Store.{store_of}
use Rattle.iv_store.specs.Finished.{without_session}
use Rattle.iv_store.proofs.store.Store.close_session.Goals as goal

pub returns : goal.returns
returns c =
    let x = c.self.inside in
    let n = c.args.session in
    let after : c.retain.new.self.items ≡ filter (λ (s : Subscription). not (n == s.session)) x.subscriptions.items = filter_same _ (λ (s : Subscription). not (n == s.session)) _ (λ s b f' k. search rules) x.subscriptions.items c.retain.new.self.items c.retain.ensures.filtered in
    (λ i. store_of (c.end_session.ensures i) (after i) x.circuits x.last) ∙ ap (without_session n) c.self.view_is

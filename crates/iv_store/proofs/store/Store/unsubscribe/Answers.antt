use Rattle.std.proofs.Common.{◌∙◌, ap, sym}
use Rattle.std.specs.Prelude.{option_map}
use Rattle.iv_machine.specs.State.{session_of}
use Rattle.iv_store.specs.Store.{Store}
use Rattle.iv_store.specs.Finished.{without_unread}
use Rattle.iv_store.proofs.ClosedSessions.{is_some-same_role, unsubscribed_step}
use Rattle.iv_store.proofs.store.Store.unsubscribe.Goals as goal

pub returns : goal.returns
returns c =
    let e = c.args.self.now in
    let n = c.args.session in
    unsubscribed_step e c.drop_unread.new.self n c.new.result c.requires c.new.ensures.items (is_some-same_role c.actor.result (session_of e.sessions n) (c.actor.ensures ∙ ap (λ (v : Store). option_map (λ s. s.role) (session_of v.sessions n)) c.self.view_is) c.if-is_none.ensures) c.args.number (sym c.if-not-has_subscription.ensures)
    (c.in_ok-drop_unread.ensures ∙ ap without_unread c.close.ensures)

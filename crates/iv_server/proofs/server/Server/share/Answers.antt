use Rattle.std.proofs.Common.{length, refl, ap, ◌∙◌, sym}
use Rattle.iv_server.specs.Sharing.{last_end, user_at, waiting_lines}
use Rattle.iv_server.proofs.MadeShares.{HasShare-same, IsShared-none, IsShared-one, same_length}
use Rattle.iv_server.proofs.server.Server.share.Goals as goal

pub returns-then-end-last_end : goal.returns-then-end-last_end
returns-then-end-last_end c = λ d s a.
    IsShared-none (waiting_lines d) (length c.entered-end.result.now) (user_at d c.args.at) c.args.self.now.shares.items
    (same_length c.entered-end.result.now _ (c.entered-end.ensures.lines d s a))
    (c.if-end-last_end.true ∙ (c.last_end.ensures ∙ ap last_end c.deref.ensures.value))

pub returns : goal.returns
returns c = λ d s a.
    IsShared-one (waiting_lines d) (length c.entered-end.result.now) (user_at d c.args.at) c.args.self.now.shares.items c.push_share.new.self.shares.items
    (same_length c.entered-end.result.now _ (c.entered-end.ensures.lines d s a))
    (λ h. c.if-end-last_end.false (h ∙ sym (c.last_end.ensures ∙ ap last_end c.deref.ensures.value)))
    (HasShare-same _ _ _ _ _ _ refl (c.in_ok-holder.ensures.ok ∙ c.user_of.ensures d s a) c.in_ok-push_share.ensures.share)

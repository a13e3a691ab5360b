use Rattle.std.proofs.Common.{◌∙◌, ap, sym}
use Rattle.iv_clients.specs.Feeds.{feed_of}
use Rattle.iv_clients.specs.Kept.{is_followed_by}
use Rattle.iv_notices.proofs.ClientChanges.{is_followed_by-kept_slots}
use Rattle.iv_gateway.proofs.UnfollowedFeeds.{IsAlive-swept_followed, swept_none, IsAlive-swept}
use Rattle.iv_gateway.proofs.gateway.Gateway.sweep.Goals as goal

pub returns-then-is_followed : goal.returns-then-is_followed
returns-then-is_followed c = λ g b.
    IsAlive-swept_followed g c.args.number _ c.is_followed.result (c.is_followed.ensures
    ∙ (ap (is_followed_by c.args.number) b.clients ∙ is_followed_by-kept_slots c.args.number g.clients)) c.if-is_followed.true b

pub returns-in-None : goal.returns-in-None
returns-in-None c = λ g b.
    swept_none g c.args.number _ c.is_followed.result
    (c.is_followed.ensures ∙ (ap (is_followed_by c.args.number) b.clients ∙ is_followed_by-kept_slots c.args.number g.clients)) c.if-is_followed.false
    (feed_of c.deref.result.now c.args.number) (ap (λ fs. feed_of fs c.args.number) (c.deref.ensures.value ∙ b.feeds)) (sym c.place_of.ensures ∙ c.in-None.is) b

pub returns-in_ok-shut-in-Some : goal.returns-in_ok-shut-in-Some
returns-in_ok-shut-in-Some c = λ g b.
    IsAlive-swept g c.args.number _ c.is_followed.result c.in-Some.session c.in-Some.number
    (c.is_followed.ensures ∙ (ap (is_followed_by c.args.number) b.clients ∙ is_followed_by-kept_slots c.args.number g.clients)) c.if-is_followed.false
    (feed_of c.deref.result.now c.args.number) (ap (λ fs. feed_of fs c.args.number) (c.deref.ensures.value ∙ b.feeds)) (sym c.place_of.ensures ∙ c.in-Some.is)
    (λ f s k. c.in_ok-shut-in-Some.ensures g f b s k)

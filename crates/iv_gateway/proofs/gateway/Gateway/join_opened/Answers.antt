use Rattle.std.proofs.Common.{◌∙◌, sym}
use Rattle.iv_gateway.proofs.NewSubscriptions.{IsAlive-joined_by_Done, IsAlive-joined_by_Subscribed, IsAlive-joined_by_Refused}
use Rattle.iv_gateway.proofs.gateway.Gateway.join_opened.Goals as goal

pub returns-in_ok-join-in-Subscribed : goal.returns-in_ok-join-in-Subscribed
returns-in_ok-join-in-Subscribed c = λ g r b e. IsAlive-joined_by_Subscribed g c.args.client c.args.older c.in-Subscribed.new r _ (sym c.in-Subscribed.is ∙ e)
    (c.in_ok-join-in-Subscribed.ensures g b)

pub returns-in-Done : goal.returns-in-Done
returns-in-Done c = λ g r b e. IsAlive-joined_by_Done g c.args.client c.args.older r _ (sym c.in-Done.is ∙ e) b

pub returns-in-Refused : goal.returns-in-Refused
returns-in-Refused c = λ g r b e. IsAlive-joined_by_Refused g c.args.client c.args.older r _ (sym c.in-Refused.is ∙ e) b

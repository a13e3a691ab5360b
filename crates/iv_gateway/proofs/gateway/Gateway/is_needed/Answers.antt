use Rattle.std.proofs.Common.{rules}
use Rattle.iv_gateway.proofs.RoleSessions.{is_needed-no_role, is_needed-has_role}
use Rattle.iv_gateway.proofs.gateway.Gateway.is_needed.Goals as goal

pub returns-then-has_role : goal.returns-then-has_role
returns-then-has_role c = λ g b. is_needed-has_role g c.args.seat.now c.args.self.now.clients c.has_role.result b.clients (search rules) c.if-has_role.true

pub returns-else-has_role : goal.returns-else-has_role
returns-else-has_role c =
    λ g b. is_needed-no_role g c.args.seat.now c.args.self.now.clients c.args.self.now.feeds.items c.has_role.result c.has_feed.result b.clients
    b.feeds (search rules) c.if-has_role.false (search rules)

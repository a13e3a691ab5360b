use Rattle.std.proofs.Common.{arith, refl}
use Rattle.std.proofs.lemmas.Grind.{common_steps}
use Rattle.iv_host.proofs.Roles.{more_at-past, by_role-set}
use Rattle.iv_host.proofs.figures.count_at.Goals as goal

pub returns-in-None : goal.returns-in-None
returns-in-None c = more_at-past c.args.at _ (grind (arith, common_steps))

pub returns-in-Some : goal.returns-in-Some
returns-in-Some c = by_role-set c.args.at c.args.roles.now.items c.in-Some.one.now _ (grind (arith, common_steps)) c.in-Some.ensures.value refl c.raise.ensures

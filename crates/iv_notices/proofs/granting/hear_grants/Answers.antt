use Rattle.std.proofs.Common.{◌∙◌, map, sym}
use Rattle.iv_command.specs.Views.{line_of}
use Rattle.iv_gate.specs.Gate.{is_accepted, reply_in}
use Rattle.iv_notices.proofs.GrantTexts.{at_all-hearing_granted_none}
use Rattle.iv_notices.proofs.granting.hear_grants.Goals as goal

pub returns-then-not-is_accepted : goal.returns-then-not-is_accepted
returns-then-not-is_accepted c =
    at_all-hearing_granted_none (is_accepted (reply_in (map line_of c.args.lines.now))) c.args.engine.now.frame c.args.grants.now c.args.clients.now
    (sym c.is_accepted.ensures ∙ c.if-not-is_accepted.true)

use Rattle.std.proofs.Common.{◌∙◌, ap, sym}
use Rattle.iv_command.specs.Views.{line_of}
use Rattle.iv_clients.specs.Clients.{at_all}
use Rattle.iv_hall.specs.Hearing.{hearing_for}
use Rattle.iv_hall.proofs.TextsOfLines.{at_all-hearing_for, at_all-hearing_line_none}
use Rattle.iv_hall.proofs.hall.Hall.hear_line.Goals as goal

pub returns-in-None : goal.returns-in-None
returns-in-None c = at_all-hearing_line_none c.args.feeds.now (line_of c.args.line.now) c.args.self.now (sym c.feed_told.ensures ∙ c.in-None.is)

pub returns-in_ok-hear_feed-in-Some : goal.returns-in_ok-hear_feed-in-Some
returns-in_ok-hear_feed-in-Some c = c.in_ok-hear_feed-in-Some.ensures ∙ (ap (λ r.
    at_all (hearing_for c.in-Some.feed r (line_of c.args.line.now)) c.args.self.now) c.rel_read.ensures
    ∙ at_all-hearing_for c.args.feeds.now (line_of c.args.line.now) c.in-Some.feed c.args.self.now (sym c.feed_told.ensures ∙ c.in-Some.is))

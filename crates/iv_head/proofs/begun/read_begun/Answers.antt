use Rattle.std.proofs.Common.{◌+◌, length, ap, ◌∙◌}
use Rattle.std.specs.Prelude.{is_some}
use Rattle.std.specs.Int.{from_bool}
use Rattle.iv_head.specs.Begun.{standings_in}
use Rattle.iv_head.proofs.EntryLines.{begun_is, said_within}
use Rattle.iv_head.proofs.begun.read_begun.Goals as goal

pub returns-clause-within : goal.returns-clause-within
returns-clause-within c =
    said_within c.args.lines.now c.is_some-has_log.result (c.from.result + c.len.result) (c.is_some-has_log.ensures ∙ ap is_some c.in_ok-log.ensures)
    ((λ i. c.from.ensures i + (c.len.ensures ∙ c.in_ok-standings.standings.ok.0) i) ∙ ap (λ ss. from_bool c.is_some-has_log.result + length ss) (c.in_ok-standings.ensures ∙ ap standings_in c.behind_log.ensures))

pub returns-clause-read : goal.returns-clause-read
returns-clause-read c =
    begun_is c.args.lines.now c.in_ok-log.log c.is_some-has_log.result c.in_ok-standings.standings.items (c.from.result + c.len.result) c.in_ok-log.ensures c.is_some-has_log.ensures
    (c.in_ok-standings.ensures ∙ ap standings_in c.behind_log.ensures) (λ i. c.from.ensures i + (c.len.ensures ∙ c.in_ok-standings.standings.ok.0) i)

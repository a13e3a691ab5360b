use Rattle.std.proofs.Common.{◌∙◌, ap, length, map, sym}
use Rattle.std.specs.Prelude.{◌==◌}
use Rattle.std.specs.List.{list_all}
use Rattle.iv_clients.specs.Clients.{at_all}
use Rattle.iv_notices.specs.Newly.{Newly, hearing_newly, newly_in}
use Rattle.iv_notices.proofs.NewRights.{nobody_hears}
use Rattle.iv_notices.proofs.newly.hear_newly.Goals as goal

pub returns-then-are_empty : goal.returns-then-are_empty
returns-then-are_empty c =
    nobody_hears (map (newly_in c.args.engine.now.frame) c.args.before.now) c.args.clients.now
    (ap (list_all (λ (n : Newly). length n.text == 0)) (sym (c.deref.ensures.value ∙ c.in_ok-told.ensures)) ∙ (sym c.are_empty.ensures ∙ c.if-are_empty.true))

pub returns : goal.returns
returns c = c.in_ok-tell_all_newly.ensures ∙ ap (λ ns. at_all (hearing_newly ns) c.args.clients.now) (c.deref-2.ensures.value ∙ c.in_ok-told.ensures)

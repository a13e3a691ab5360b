use Rattle.std.proofs.Common.{◌∙◌, sym}
use Rattle.iv_arrivals.proofs.EnteredLines.{none_entered, step_entered}
use Rattle.iv_arrivals.proofs.entering.push_step.Goals as goal

pub returns-then-not-is_entered : goal.returns-then-not-is_entered
returns-then-not-is_entered c =
    none_entered c.args.asked.now c.args.accepted c.args.name.now c.args.position c.args.lines.now.items (sym c.is_entered.ensures ∙ c.if-not-is_entered.true)

pub returns : goal.returns
returns c =
    step_entered c.args.asked.now c.args.accepted c.args.name.now c.args.position c.args.lines.now.items c.push_request_part.new.lines.items
    c.push_name_part.new.lines.items c.push_position.new.lines.items (sym c.is_entered.ensures ∙ c.if-not-is_entered.false) c.in_ok-push_request_part.ensures
    c.in_ok-push_name_part.ensures c.in_ok-push_position.ensures

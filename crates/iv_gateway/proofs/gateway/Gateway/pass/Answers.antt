use Rattle.std.proofs.Common.{◌∙◌, ap, map}
use Rattle.iv_command.specs.Views.{act_of, line_of}
use Rattle.iv_gate.specs.Gate.{is_accepted, reply_in}
use Rattle.iv_gateway.proofs.JournalReplays.{IsPassed-step}
use Rattle.iv_gateway.proofs.gateway.Gateway.pass.Goals as goal

pub returns : goal.returns
returns c = λ g b.
    let run = c.in_ok-lines.ensures g b in
    IsPassed-step g (act_of c.args.act) _ _ (c.is_accepted.ensures
    ∙ (ap (λ ls. is_accepted (reply_in (map line_of ls))) c.deref.ensures.value ∙ ap (λ ls. is_accepted (reply_in ls)) run.lines)) run.gate

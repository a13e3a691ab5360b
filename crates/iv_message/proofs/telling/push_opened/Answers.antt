use Rattle.std.proofs.Common.{◌++◌, ◌∙◌, ap}
use Rattle.std.proofs.lemmas.Result.{on_ok_weaker}
use Rattle.serde_json.specs.Written.{has_float}
use Rattle.iv_lines.specs.Texts.{text_of}
use Rattle.iv_message.proofs.LineParts.{has_float-opened}
use Rattle.iv_message.proofs.telling.push_opened.Goals as goal

pub returns-in-Ok : goal.returns-in-Ok
returns-in-Ok c =
    let e = c.in-Ok.ensures in
    on_ok_weaker c.push_members.result (λ h. h (ap has_float e ∙ has_float-opened c.args.id.now c.args.own c.args.columns.now) ∙ ap (λ d. c.args.text.now.items ++ text_of d) e) c.push_members.ensures

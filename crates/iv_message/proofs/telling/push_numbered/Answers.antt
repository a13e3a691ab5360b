use Rattle.std.proofs.Common.{◌++◌, ◌∙◌, ap, refl}
use Rattle.std.proofs.lemmas.Result.{on_ok_weaker}
use Rattle.serde_json.specs.Data.{member, no_members}
use Rattle.serde_json.specs.Written.{has_float}
use Rattle.iv_lines.specs.Texts.{text_of}
use Rattle.iv_request.specs.Values.{natural}
use Rattle.iv_message.proofs.LineParts.{has_float-with_id}
use Rattle.iv_message.proofs.telling.push_numbered.Goals as goal

pub returns-in-Ok : goal.returns-in-Ok
returns-in-Ok c =
    let e = c.in-Ok.ensures in
    on_ok_weaker c.push_members.result (λ h. h (ap has_float e ∙ has_float-with_id c.args.id.now (member c.args.key.now (natural c.args.number) no_members) refl) ∙ ap (λ d. c.args.text.now.items ++ text_of d) e) c.push_members.ensures

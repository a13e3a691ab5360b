use Rattle.std.proofs.Common.{◌∙◌, ap}
use Rattle.std.proofs.lemmas.Result.{IfOk-weaker}
use Rattle.std.specs.Prelude.{codes}
use Rattle.serde_json.specs.Data.{object, put}
use Rattle.serde_json.specs.View.{members_view}
use Rattle.serde_json.specs.Written.{has_float}
use Rattle.iv_request.specs.Values.{natural}
use Rattle.iv_lines.specs.Texts.{text_of}
use Rattle.iv_lines.proofs.texts.write_fault.Goals as goal

pub returns-in-Ok : goal.returns-in-Ok
returns-in-Ok c =
    let e = ap object (c.in-Ok.ensures ∙ ap (λ v. put (codes "error") (natural c.args.number) (members_view v)) c.new-members.ensures.empty) in
    IfOk-weaker c.text_of.result _ _ (λ text h. h (ap has_float e) ∙ ap text_of e) c.text_of.ensures

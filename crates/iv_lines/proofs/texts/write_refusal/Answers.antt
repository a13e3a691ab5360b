use Rattle.std.proofs.Common.{◌∙◌, ap}
use Rattle.std.proofs.lemmas.Result.{IfOk-weaker}
use Rattle.serde_json.specs.Written.{has_float}
use Rattle.iv_command.specs.Views.{refusal_of}
use Rattle.iv_lines.specs.Texts.{text_of}
use Rattle.iv_lines.proofs.LineTexts.{has_float-refused}
use Rattle.iv_lines.proofs.texts.write_refusal.Goals as goal

pub returns-in-Ok : goal.returns-in-Ok
returns-in-Ok c = let e = c.in-Ok.ensures in IfOk-weaker c.text_of.result _ _ (λ text h. h (ap has_float e ∙ has_float-refused c.args.session (refusal_of c.args.refusal.now)) ∙ ap text_of e) c.text_of.ensures

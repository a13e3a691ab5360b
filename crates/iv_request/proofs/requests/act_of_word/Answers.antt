use Rattle.std.proofs.Common.{◌≡◌, Option, Some, None, option_map}
use Rattle.std.specs.Prelude.{IfSome, true}
use Rattle.serde_json.specs.Data.{Data}
use Rattle.iv_machine.specs.Well.{is_well_act}
use Rattle.iv_command.specs.Views.{act_of}
use Rattle.iv_command.specs.declared.command.Act.{Act}
use Rattle.iv_request.specs.Documents.{value_data}
use Rattle.iv_request.specs.Request.{act_for}
use Rattle.iv_request.specs.declared.forms.Word.{Word}
use Rattle.iv_request.proofs.Well.{is_well_act-act_for}
use Rattle.iv_request.proofs.requests.act_of_word.Goals as goal

well_if : (word : Word) (d : Data) (o : Option Act) → option_map act_of o ≡ act_for word d → IfSome o (λ a. is_well_act (act_of a) ≡ true)
well_if word d None h = tt
well_if word d (Some a) h = is_well_act-act_for word d (act_of a) h

pub returns-clause-well : goal.returns-clause-well
returns-clause-well c = well_if c.args.word (value_data c.args.value.now) c.in_ok-act.act c.in_ok-act.ensures

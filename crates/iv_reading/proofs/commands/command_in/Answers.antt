use Rattle.std.proofs.Common.{◌∙◌, arith}
use Rattle.serde_json.specs.Read.{read}
use Rattle.iv_command.specs.Views.{command_of}
use Rattle.iv_reading.proofs.Lines.{reading_of-not_IsUtf8, reading_of-IsUtf8, is_well_command-reading_by}
use Rattle.iv_reading.proofs.commands.command_in.Goals as goal

pub returns-in-Err-clause-bad_json : goal.returns-in-Err-clause-bad_json
returns-in-Err-clause-bad_json c _ = reading_of-not_IsUtf8 c.args.line.now c.in-Err.ensures.cases.0

pub returns-in_err-command-in-Ok-clause-bad_request : goal.returns-in_err-command-in-Ok-clause-bad_request
returns-in_err-command-in-Ok-clause-bad_request c =
    let same = reading_of-IsUtf8 c.args.line.now c.in-Ok.text.now c.in-Ok.ensures.cases.0 c.in-Ok.ensures.cases.1 in
    λ e. same ∙ c.in_err-command-in-Ok.ensures.bad_request (grind (arith, e))

pub returns-in_ok-command-in-Ok-clause-command : goal.returns-in_ok-command-in-Ok-clause-command
returns-in_ok-command-in-Ok-clause-command c =
    reading_of-IsUtf8 c.args.line.now c.in-Ok.text.now c.in-Ok.ensures.cases.0 c.in-Ok.ensures.cases.1 ∙ c.in_ok-command-in-Ok.ensures.command

pub returns-in_ok-command-in-Ok-clause-well : goal.returns-in_ok-command-in-Ok-clause-well
returns-in_ok-command-in-Ok-clause-well c = is_well_command-reading_by (read c.in-Ok.text.now) (command_of c.in_ok-command-in-Ok.command) c.in_ok-command-in-Ok.ensures.command

pub returns-in_ok-command-in-Ok-clause-given : goal.returns-in_ok-command-in-Ok-clause-given
returns-in_ok-command-in-Ok-clause-given c = record { well = returns-in_ok-command-in-Ok-clause-well c; texts = c.texts.ensures }

use Rattle.iv_request.proofs.CommandsOfValues.{request-command_data}
use Rattle.iv_request.proofs.laws.commands_are_asked.Goals as goal

pub returns : goal.returns
returns c = request-command_data

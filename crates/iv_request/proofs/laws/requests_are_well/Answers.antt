use Rattle.iv_request.proofs.Well.{is_well_command-request}
use Rattle.iv_request.proofs.laws.requests_are_well.Goals as goal

pub returns : goal.returns
returns c = is_well_command-request

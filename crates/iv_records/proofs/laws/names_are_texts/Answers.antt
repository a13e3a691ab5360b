use Rattle.iv_records.proofs.ClaimedNames.{claims_are_well, holders_are_text}
use Rattle.iv_records.proofs.laws.names_are_texts.Goals as goal

pub returns-clause-claims : goal.returns-clause-claims
returns-clause-claims c = claims_are_well

pub returns-clause-holders : goal.returns-clause-holders
returns-clause-holders c = holders_are_text

use Rattle.iv_once.proofs.Bounds.{le-blames, le-holders, HasToWait-after}
use Rattle.iv_once.proofs.NamesOnce.{IsSound-start}
use Rattle.iv_once.proofs.laws.names_are_bounded.Goals as goal

pub returns-clause-refusals : goal.returns-clause-refusals
returns-clause-refusals c = λ l epoch es holder. le-blames l epoch es holder (IsSound-start l epoch)

pub returns-clause-holders : goal.returns-clause-holders
returns-clause-holders c = λ l epoch es. le-holders l epoch es (IsSound-start l epoch)

pub returns-clause-waits : goal.returns-clause-waits
returns-clause-waits c = λ l epoch es a. HasToWait-after l epoch es a (IsSound-start l epoch)

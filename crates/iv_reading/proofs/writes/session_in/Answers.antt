use Rattle.std.proofs.Common.{le-leb, lt-ltb}
use Rattle.iv_reading.specs.Pulled.{natural_by}
use Rattle.iv_request.specs.Request.{is_session}
use Rattle.iv_request.proofs.Keys.{both_true}
use Rattle.iv_reading.proofs.TokensAndValues.{Pulls-passing}
use Rattle.iv_reading.proofs.writes.session_in.Goals as goal

pub returns-then-number-lt4294967296-clause-session : goal.returns-then-number-lt4294967296-clause-session
returns-then-number-lt4294967296-clause-session c =
    let n = c.in-Some.number in
    Pulls-passing 0 natural_by is_session c.args.reader.now n c.natural_in.new.reader c.in-Some.ensures.number
    (both_true _ _ (le-leb 1 n c.if-number-ge1.true) (lt-ltb n 4294967296 c.if-number-lt4294967296.true))

use Rattle.std.proofs.Common.{length}
use Rattle.serde_json.specs.Data.{no_members}
use Rattle.iv_reading.specs.Pulled.{IsWritten}
use Rattle.iv_reading.proofs.TokensAndValues.{Reaches}
use Rattle.iv_reading.proofs.writes.members_in.Given as goal

abbrev pub invariant-members : goal.invariant-members
invariant-members l = IsWritten l.initial.written no_members → Reaches 4 (IsWritten l.written) l.initial.reader l.reader

abbrev pub decreases-members : goal.decreases-members
decreases-members l = length l.reader

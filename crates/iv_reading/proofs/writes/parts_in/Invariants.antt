use Rattle.std.proofs.Common.{◌≤◌, length}
use Rattle.serde_json.specs.Data.{no_members}
use Rattle.iv_reading.specs.Pulled.{IsParts}
use Rattle.iv_reading.proofs.TokensAndValues.{Reaches}
use Rattle.iv_reading.proofs.writes.parts_in.Given as goal

abbrev pub invariant-members : goal.invariant-members
invariant-members l = (IsParts l.initial.parts no_members → Reaches 2 (IsParts l.parts) l.initial.reader l.reader) × (length l.reader ≤ length l.initial.reader)

abbrev pub decreases-members : goal.decreases-members
decreases-members l = length l.reader

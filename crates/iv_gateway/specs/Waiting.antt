-- For contracts of the code: how many bytes wait for the journal.
use Rattle.std.specs.Prelude.{ℕ}
use Rattle.iv_hall.specs.Waiting.{AreCounted, bytes_waiting}
use Rattle.iv_clients.specs.Kept.{kept_slots}
use Rattle.iv_gate.specs.Gate.{Gate}

-- what waits for it has no more bytes than were counted, unless that is the greatest number
abbrev pub WaitsWithin : Gate → ℕ → Type 0
WaitsWithin g counted = AreCounted (bytes_waiting (kept_slots g.clients)) counted

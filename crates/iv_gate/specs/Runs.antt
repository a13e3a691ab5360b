-- Whatever happens to a gateway, over restarts.
use Rattle.std.specs.Prelude.{◌≡◌, ◌≤◌, ℕ, List, [], take}
use Rattle.iv_records.specs.Journal.{journal_of}
use Rattle.iv_clients.specs.Tokens.{Token}
use Rattle.iv_journal.specs.Journal.{Line}
use Rattle.iv_gate.specs.Events.{Event, IsWell, next}
use Rattle.iv_gate.specs.Gate.{Gate, Head}
use Rattle.iv_gate.specs.Restoring.{Restores, gate_at_start}

-- what a crash leaves on disk: whole records, those that were kept and maybe more. Of a record that was being written nothing is read: a step
-- is whole or is not there
abbrev pub LeavesOnDisk : Gate → List Line → Type 0
LeavesOnDisk g lines = (n : ℕ) × (g.kept ≤ n) × (lines ≡ journal_of (take n g.entries))

-- a gateway begins from a journal; anything happens; it crashes or is let go, and begins again from what is on disk, maybe with other
-- tokens and numbers
pub data Runs (cap : ℕ) : Gate → Type 0 where
  begins : (tokens : List Token) (most : ℕ) (head : Head) (journal : List Line) (g : Gate)
      → Restores (gate_at_start cap tokens most head []) journal g → Runs cap g
  goes_on : (g : Gate) (e : Event) → IsWell e → Runs cap g → Runs cap (next g e)
  begins_again : (g : Gate) (disk : List Line) (tokens : List Token) (most : ℕ) (h : Gate) → Runs cap g → LeavesOnDisk g disk
      → Restores (gate_at_start cap tokens most g.head g.sent) disk h → Runs cap h

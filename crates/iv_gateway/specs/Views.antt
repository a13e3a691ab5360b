-- For contracts of the code: what its values are to the definitions.
use Rattle.std.specs.Prelude.{◌≡◌, ◌≤◌, ℕ, false, List, drop, length, Option, Some, None}
use Rattle.iv_access.specs.Rights.{Name}
use Rattle.iv_machine.specs.Act.{Act, Command, Line}
use Rattle.iv_machine.specs.Act as machine
use Rattle.iv_machine.specs.Machine.{step}
use Rattle.iv_store.specs.Engine.{IsBehind}
use Rattle.iv_records.specs.Journal.{Entry, journal_of}
use Rattle.iv_clients.specs.Kept.{kept_slots}
use Rattle.iv_journal.specs.Journal as journal
use Rattle.iv_once.specs.Views as once
use Rattle.iv_records.specs.Names.{limits}
use Rattle.iv_gate.specs.Arriving.{position, settled_at}
use Rattle.iv_gate.specs.Gate as gate
use Rattle.iv_gate.specs.Gate.{Gate, begun_for, known_at, names_of, seated, shape_text}
use Rattle.iv_gateway.specs.declared.gateway.Head.{Head}
use Rattle.iv_gateway.specs.declared.gateway.Gateway.{Gateway}
use Rattle.iv_gateway.specs.declared.subscribing.Opening.{Opening}
use Rattle.iv_gateway.specs.declared.subscribing.Opening.TheVariants as opening

-- so many of the entries are on disk, and the lines of the others are pending
pub record IsPending (kept : ℕ) (entries : List Entry) (pending : List journal.Line) : Type 0 where
  pub within : kept ≤ length entries
  pub lines : pending ≡ journal_of (drop kept entries)

-- what the journal says before its first entry; nothing is known of names but that
pub record IsHead (h : gate.Head) (x : Head) : Type 0 where
  pub names : once.names_of x.names ≡ record { limits = limits; known = known_at h; spent = λ holder. None }
  pub log : x.log ≡ h.log
  pub position : x.position ≡ h.position

-- the machine's state stands behind the engine, and all else is the same, but for what the code has no memory of
pub record IsAlive (g : Gate) (x : Gateway) : Type 0 where
  pub tokens : x.tokens.items ≡ g.tokens
  pub machine : IsBehind g.machine x.engine
  pub seats : x.seats.items ≡ g.seats
  pub feeds : x.feeds.items ≡ g.feeds
  pub clients : x.clients ≡ kept_slots g.clients
  pub names : once.names_of x.names ≡ names_of g
  pub log : x.log ≡ g.head.log
  pub leads : x.leads ≡ g.leads
  pub position : x.position ≡ position g
  pub settled : x.settled ≡ settled_at g
  pub forgiven : g.forgiven ≤ length g.entries
  pub pending : IsPending g.kept g.entries x.pending.items
  pub shape : x.shape.items ≡ shape_text g.entries

-- of a dead one nothing is known but that
pub record IsGate (g : Gate) (x : Gateway) : Type 0 where
  pub dead : x.dead ≡ g.dead
  pub alive : g.dead ≡ false → IsAlive g x

-- the machine has answered the command by the lines, and nobody has been told
pub record IsRun (g : Gate) (k : Command) (ls : List Line) (x : Gateway) : Type 0 where
  pub lines : ls ≡ (step g.machine k).lines
  pub gate : IsAlive (record g { machine = (step g.machine k).state }) x

-- a session was begun for the role, or none is
abbrev pub IsSeated : Gate → Name → Option ℕ → Gateway → Type 0
IsSeated g role None x = (begun_for g role ≡ None) × IsAlive g x
IsSeated g role (Some n) x = (begun_for g role ≡ Some n) × IsAlive (seated g n role) x

-- what is left of an accepted reply to a subscribe
abbrev pub opening_of : machine.Reply → Opening
opening_of machine.done = opening.Done
opening_of (machine.subscribed k) = opening.Subscribed k
opening_of (machine.refused r) = opening.Refused

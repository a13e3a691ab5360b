-- What the lines of a journal lead to.
use Rattle.std.specs.Prelude.{◌≡◌, ◌⊎◌, ◌<◌, ◌&&◌, ℕ, Bool, false, true, List, [], ◌∷◌, ◌++◌, length, nat_lt, replicate, map, unwrap_or, None, Some}
use Rattle.std.specs.List.{AllByRecursion}
use Rattle.iv_rows.specs.Options.{if_some}
use Rattle.iv_machine.specs.State.{State, start}
use Rattle.iv_clients.specs.Clients.{Shown}
use Rattle.iv_records.specs.Journal.{Entry, IsEntry, journal_of, names_in, requests_in}
use Rattle.iv_clients.specs.Tokens.{Token}
use Rattle.iv_journal.specs.Journal.{Line}
use Rattle.iv_steps.specs.Steps.{all_carried}
use Rattle.iv_gate.specs.Arriving.{fact_of, first_known, position}
use Rattle.iv_gate.specs.Gate.{Gate, Head, known_of}

-- a gateway with nobody, over a machine with nothing, in which `most` clients have a number, and whose journal says this at its head
abbrev pub gate_at_start : (cap : ℕ) → List Token → (most : ℕ) → Head → List Shown → Gate
gate_at_start cap tokens most head sent = record {
  tokens = tokens;
  machine = start cap;
  seats = [];
  feeds = [];
  clients = replicate most None;
  head = head;
  entries = [];
  kept = 0;
  forgiven = 0;
  leads = false;
  dead = false;
  sent = sent;
}

-- each step is after the last
abbrev pub are_rising : ℕ → List Entry → Bool
are_rising p [] = true
are_rising p (e ∷ es) = if_some e.position true (nat_lt p) && are_rising (unwrap_or e.position p) es

-- the entries lead a gateway that began on: the requests are accepted, in their order, no name may have an answer already, and positions rise
pub record LeadOn (g : Gate) (entries : List Entry) (h : Gate) : Type 0 where
  pub state : State
  pub well : AllByRecursion IsEntry entries
  pub accepted : all_carried (map fact_of (requests_in entries)) g.machine ≡ Some state
  pub names : first_known 1 (names_in entries) (known_of g) ≡ None
  pub steps : are_rising (position g) entries ≡ true
  pub gate : h ≡ record g { machine = state; entries = entries; kept = length entries; forgiven = length entries }

-- the lines of whole records lead a gateway that began to h. They are on disk as they were read: who starts the gateway cuts what came after
-- them, and syncs the file, before the first event
pub record Restores (g : Gate) (lines : List Line) (h : Gate) : Type 0 where
  pub all : lines ≡ journal_of h.entries
  pub leads : LeadOn g h.entries h

-- after entries that lead on, at this line of the journal, nothing is there that leads on
pub record IsDamagedAt (g : Gate) (lines : List Line) (place : ℕ) : Type 0 where
  pub entries : List Entry
  pub gate : Gate
  pub rest : List Line
  pub all : lines ≡ journal_of entries ++ rest
  pub leads : LeadOn g entries gate
  pub after : place ≡ length (journal_of entries)
  pub some : place < length lines
  pub bad : (e : Entry) (more : List Line) (h : Gate) → rest ≡ journal_of (e ∷ []) ++ more → LeadOn g (entries ++ e ∷ []) h → ⊥

-- each journal either restores, to one gateway, or is damaged, at one place
pub record IsDecided (g : Gate) (lines : List Line) : Type 0 where
  pub either : ((h : Gate) × Restores g lines h) ⊎ ((place : ℕ) × IsDamagedAt g lines place)
  pub one_gate : (h i : Gate) → Restores g lines h → Restores g lines i → h ≡ i
  pub one_place : (p q : ℕ) → IsDamagedAt g lines p → IsDamagedAt g lines q → p ≡ q
  pub not_both : (h : Gate) (place : ℕ) → Restores g lines h → IsDamagedAt g lines place → ⊥

-- For contracts of the code: where the lines of a journal lead it.
use Rattle.std.specs.Prelude.{◌≡◌, ℕ, Bool, true, false, List, [], ◌∷◌, ◌++◌, drop, is_some, length, nat_lt, not, Option, Some, None}
use Rattle.iv_rows.specs.Options.{if_some}
use Rattle.iv_machine.specs.State.{State}
use Rattle.iv_records.specs.Journal.{Entry, Request, journal_of, position_of}
use Rattle.iv_gate.specs.Arriving.{first_known, is_new}
use Rattle.iv_gate.specs.Gate.{Gate, known_of}
use Rattle.iv_gate.specs.Restoring.{LeadOn, Restores}
use Rattle.iv_journal.specs.Journal.{Line}
use Rattle.iv_once.specs.Names.{Named}
use Rattle.iv_gateway.specs.Views.{IsAlive, IsGate}
use Rattle.iv_gateway.specs.declared.gateway.Gateway.{Gateway}

-- nothing is in its journal
pub record IsNew (g : Gate) : Type 0 where
  pub entries : g.entries ≡ []
  pub kept : g.kept ≡ 0
  pub forgiven : g.forgiven ≡ 0

-- the journal leads the gateway there
pub record IsRestored (g : Gate) (journal : List Line) (x : Gateway) : Type 0 where
  pub now : Gate
  pub restores : Restores g journal now
  pub gate : IsGate now x

pub record HasReplayed (g : Gate) (journal : List Line) (x : Gateway) : Type 0 where
  pub now : Gate
  pub restores : Restores g journal now
  pub gate : IsAlive now x

-- with these entries on disk, and its machine in a state
abbrev pub behind : Gate → State → List Entry → Gate
behind g s es = record g { machine = s; entries = es; kept = length es; forgiven = 0 }

-- the entries have led it on; what was refused is not forgiven yet
pub record IsReplaying (g : Gate) (es : List Entry) (x : Gateway) : Type 0 where
  pub began : g.entries ≡ []
  pub state : State
  pub leads : LeadOn g es (record g { machine = state; entries = es; kept = length es; forgiven = length es })
  pub gate : IsAlive (behind g state es) x

-- the entry leads on after them, or does not
abbrev pub IsReplayed : Gate → List Entry → Entry → Bool → Gateway → Type 0
IsReplayed g es e true x = IsReplaying g (es ++ e ∷ []) x
IsReplayed g es e false x = (h : Gate) → LeadOn g (es ++ e ∷ []) h → ⊥

-- the first lines are the record of an entry that leads on
pub record IsRecordOf (g : Gate) (es : List Entry) (all : List Line) (n : ℕ) (x : Gateway) : Type 0 where
  pub entry : Entry
  pub lines : all ≡ journal_of (entry ∷ []) ++ drop n all
  pub count : n ≡ length (journal_of (entry ∷ []))
  pub gate : IsReplaying g (es ++ entry ∷ []) x

-- so it is, or no record that leads on stands there
abbrev pub IsRecordReplayed : Gate → List Entry → List Line → Option ℕ → Gateway → Type 0
IsRecordReplayed g es lines (Some count) x = IsRecordOf g es lines count x
IsRecordReplayed g es lines None x = (e : Entry) (more : List Line) (h : Gate) → lines ≡ journal_of (e ∷ []) ++ more → LeadOn g (es ++ e ∷ []) h → ⊥

-- ---- within an entry

abbrev pub part : List Request → List Named → Option ℕ → Entry
part qs ns p = record { requests = qs; names = ns; position = p }

-- it is after the other, if there is one
abbrev pub is_later : ℕ → Option ℕ → Bool
is_later q p = if_some p true (nat_lt q)

-- its position
abbrev pub IsStepReplayed : Gate → State → List Entry → Option ℕ → Bool → Gateway → Type 0
IsStepReplayed g s es p is x = (is ≡ is_later (position_of g.head.position es) p) × (is ≡ true → IsAlive (behind g s (es ++ part [] [] p ∷ [])) x)

-- the machine is led to a state, or to none
abbrev pub IsPassed : Gate → Option State → Bool → Gateway → Type 0
IsPassed g None is x = is ≡ false
IsPassed g (Some s) is x = (is ≡ true) × IsAlive (record g { machine = s }) x

-- a request more
abbrev pub with_request : Entry → Request → Entry
with_request e q = record e { requests = e.requests ++ q ∷ [] }

-- a name more
abbrev pub with_name : Entry → Named → Entry
with_name e n = record e { names = e.names ++ n ∷ [] }

-- if it is new
abbrev pub IsNameReplayed : Gate → State → List Entry → Entry → Named → Bool → Gateway → Type 0
IsNameReplayed g s es e n is x = (is ≡ is_new (known_of (behind g s (es ++ e ∷ []))) n.ask)
    × (is ≡ true → IsAlive (behind g s (es ++ with_name e n ∷ [])) x)

-- all are new, each at its turn
abbrev pub AreNamesReplayed : Gate → State → List Entry → List Request → List Named → Option ℕ → Bool → Gateway → Type 0
AreNamesReplayed g s es qs ns p is x = (is ≡ not (is_some (first_known 1 ns (known_of (behind g s es)))))
    × (is ≡ true → IsAlive (behind g s (es ++ part qs ns p ∷ [])) x)

-- What a change of rights makes of what a role reads.
use Rattle.std.specs.Prelude.{◌≡◌, ℕ, ◌≤◌, ◌==◌, Bool, true, false, List, [], get_or, map, slice_get, Option}
use Rattle.std.specs.Global.{Global}
use Rattle.std.specs.declared.rc.Rc.{Rc}
use Rattle.iv_rows.specs.Options.{if_some}
use Rattle.iv_readers.specs.Held.{HasMovedTo, no_circuit}
use Rattle.iv_zset.specs.Weights.{Weighed}
use Rattle.iv_circuit.specs.Circuits.{Running}
use Rattle.iv_circuit.specs.Nodes.{total_of}
use Rattle.iv_readers.specs.Readers.{RoleCircuit, moved_to}
use Rattle.iv_readers.specs.Rows.{IsBagDifference, shared_rows}
use Rattle.iv_readers.specs.declared.turns.Outcome.{Outcome}
use Rattle.iv_readers.specs.declared.turns.Outcome.TheVariants as code

-- ---- circuits

-- what a change of rights makes of what a role reads: the same circuit, which it does not concern; another one, or the same
-- as from now on, with the rows that its readers see more; none any more, for want of a privilege or for the limits
pub data Turn : Type 0 where
  Same : Turn
  Anew : Running → Option (Rc Weighed Global) → Turn
  Lost : Turn
  Beyond : Turn

-- ---- as the code has it

-- the reader at the place has a new circuit afterwards, or the one that it had
abbrev pub is_whole : (place : ℕ) → Outcome → Bool
is_whole i code.Same = true
is_whole i (code.Built c rows) = true
is_whole i (code.Joined twin rows) = twin.0 == i
is_whole i code.Lost = false
is_whole i code.Beyond = false

abbrev pub whole_at : List Outcome → (place : ℕ) → Bool
whole_at os i = if_some (slice_get os i) false (is_whole i)

-- the reader at the place comes to the circuit of the other
abbrev pub leads_to : (place other : ℕ) → Outcome → Bool
leads_to i j code.Same = false
leads_to i j (code.Built c rows) = i == j
leads_to i j (code.Joined twin rows) = twin.0 == j
leads_to i j code.Lost = false
leads_to i j code.Beyond = false

-- the circuit that is built in the outcome, or else this
abbrev pub built_or : Running → Outcome → Running
built_or c code.Same = c
built_or c (code.Built d rows) = d
built_or c (code.Joined twin rows) = c
built_or c code.Lost = c
built_or c code.Beyond = c

-- the circuit that the reader at the place had
abbrev pub circuit_before : List RoleCircuit → (place : ℕ) → Running
circuit_before ks i = if_some (slice_get ks i) no_circuit (λ k. k.circuit)

-- and the one that is built for it in these outcomes, or else the one that it had
abbrev pub circuit_after : List RoleCircuit → List Outcome → (place : ℕ) → Running
circuit_after ks os i = if_some (slice_get os i) (circuit_before ks i) (built_or (circuit_before ks i))

-- what an outcome makes of what a role reads
abbrev pub fate : List RoleCircuit → List Outcome → Outcome → Turn
fate ks os code.Same = Same
fate ks os (code.Built c rows) = Anew c rows
fate ks os (code.Joined twin rows) = Anew (circuit_after ks os twin.0) rows
fate ks os code.Lost = Lost
fate ks os code.Beyond = Beyond

abbrev pub fates : List RoleCircuit → List Outcome → List Turn
fates ks os = map (fate ks os) os

-- the rows that its readers see more and less
abbrev pub rows_by : Outcome → Weighed
rows_by code.Same = []
rows_by (code.Built c rows) = shared_rows rows
rows_by (code.Joined twin rows) = shared_rows rows
rows_by code.Lost = []
rows_by code.Beyond = []

-- a reader comes to the circuit of one before it that has a whole one, or stays with its own
abbrev pub IsJoinedAt : List Outcome → (place : ℕ) → Outcome → Type 0
IsJoinedAt os i code.Same = Unit {0}
IsJoinedAt os i (code.Built c rows) = Unit {0}
IsJoinedAt os i (code.Joined twin rows) = (twin.0 ≤ i) × (whole_at os twin.0 ≡ true)
IsJoinedAt os i code.Lost = Unit {0}
IsJoinedAt os i code.Beyond = Unit {0}

-- the new circuit, and what it shows more and less than the bag has
abbrev pub IsAnewBy : Weighed → Running → Outcome → Type 0
IsAnewBy before c code.Same = ⊥
IsAnewBy before c (code.Built new rows) = (new ≡ c) × IsBagDifference before (total_of c.node) (shared_rows rows)
IsAnewBy before c (code.Joined twin rows) = ⊥
IsAnewBy before c code.Lost = ⊥
IsAnewBy before c code.Beyond = ⊥

-- the reader at the place reads what the outcome leads it to
abbrev pub HasTurnedBy : List RoleCircuit → (place : ℕ) → Outcome → List RoleCircuit → Type 0
HasTurnedBy old i code.Same new = new ≡ old
HasTurnedBy old i (code.Built c rows) new = HasMovedTo old i c new
HasTurnedBy old i (code.Joined twin rows) new = (k : RoleCircuit) → k ≡ get_or old twin.0 k → HasMovedTo old i k.circuit new
HasTurnedBy old i code.Lost new = new ≡ old
HasTurnedBy old i code.Beyond new = new ≡ old

-- the change concerns it
abbrev pub is_other_turn : Outcome → Bool
is_other_turn code.Same = false
is_other_turn (code.Built c rows) = true
is_other_turn (code.Joined twin rows) = true
is_other_turn code.Lost = true
is_other_turn code.Beyond = true

-- ---- what follows for those who read

-- it does not stay as it is
abbrev pub is_other : Turn → Bool
is_other Same = false
is_other (Anew c rows) = true
is_other Lost = true
is_other Beyond = true

-- the role reads the circuit of the turn from now on
abbrev pub renewed_by : Turn → RoleCircuit → RoleCircuit
renewed_by Same k = k
renewed_by (Anew c rows) k = moved_to k.at c k
renewed_by Lost k = k
renewed_by Beyond k = k

-- at some place
abbrev pub IsRenewed : RoleCircuit → Turn → RoleCircuit → Type 0
IsRenewed k turn new = new ≡ renewed_by turn (record k { at = new.at })

-- What readers see more and less if rights or rows change, and which subscriptions end.
use Rattle.std.specs.Prelude.{◌≡◌, ℕ, ◌<◌, ◌≤◌, Bool, cond, true, false, not, List, [], ◌∷◌, ◌++◌, filter, flat_map, get_or, length, map, Option, None, Some, IfSome, is_some}
use Rattle.iv_access.specs.Rights.{Rights}
use Rattle.std.specs.List.{AllByRecursion}
use Rattle.iv_zset.specs.Limits.{Counts}
use Rattle.iv_zset.specs.Weights.{IsBag, Weighed}
use Rattle.iv_algebra.specs.Rows.{Cells}
use Rattle.iv_algebra.specs.Plans.{Lists}
use Rattle.iv_circuit.specs.Circuits.{HiddenRows, Running}
use Rattle.iv_circuit.specs.Nodes.{total_of}
use Rattle.iv_machine.specs.Act as machine
use Rattle.iv_machine.specs.Machine.{difference, ending, lines_told as machine_line}
use Rattle.iv_machine.specs.State.{Subscription, plan_at}
use Rattle.iv_machine.specs.declared.Cause.{Cause}
use Rattle.iv_machine.specs.declared.Cause.TheVariants as cause
use Rattle.iv_store.specs.Built.{IsBeyond, IsWider}
use Rattle.iv_readers.specs.Each.{Each}
use Rattle.iv_store.specs.Found.{beside_of, total_at}
use Rattle.iv_store.specs.Store.{IsCircuitFor, IsRoleCircuit, IsStored, Store, at, frame_of, is_read, place_of, role_reads, shown_rows, with_rights}
use Rattle.iv_readers.specs.Readers.{RoleCircuit, WereOpened}
use Rattle.iv_readers.specs.Rows.{IsBagDifference, shared_rows}
use Rattle.iv_store.specs.Rounds.{rounds_of}
use Rattle.iv_database.specs.Stands.{Stands}
use Rattle.iv_command.specs.Views.{line_of}
use Rattle.iv_command.specs.declared.answer.Answer.{Answer}
use Rattle.iv_command.specs.declared.command.Line.{Line}
use Rattle.iv_command.specs.declared.command.Reply.{Reply}
use Rattle.iv_command.specs.declared.command.Reply.TheVariants.{Ok}
use Rattle.iv_readers.specs.declared.turns.Outcome.{Outcome}
use Rattle.iv_readers.specs.declared.turns.Outcome.TheVariants as code
use Rattle.iv_readers.specs.Turning.{Turn, Same, Anew, whole_at, circuit_after, fate, IsJoinedAt, Lost, Beyond}

-- ---- circuits

-- it shows rows, each as often as it shows it, and was opened to whom it says
pub record WasShown (e : Store) (k : RoleCircuit) : Type 0 where
  pub known : k.rel < length e.catalog
  pub bag : IsBag (total_of k.circuit.node)
  pub opened : WereOpened k

-- it is that of what was shown before rights changed
pub record WasRead (e : Store) (k : RoleCircuit) : Type 0 where
  pub known : k.rel < length e.catalog
  pub bag : IsBag (total_of k.circuit.node)
  pub rights : Rights
  pub is : IsCircuitFor (with_rights rights e) k.role (plan_at e.catalog k.rel) k.circuit
  pub opened : WereOpened k

-- it is that of what is shown now, and its role may still read that
pub record IsStill (e : Store) (k : RoleCircuit) : Type 0 where
  pub is : IsCircuitFor e k.role (plan_at e.catalog k.rel) k.circuit
  pub reads : role_reads e k.role k.rel ≡ true

-- so it is with one that the change does not concern
abbrev pub IsOther : Store → RoleCircuit → (concerned : Bool) → Type 0
IsOther e k concerned = concerned ≡ false → IsStill e k

-- after a change of rights and before readers are told: each subscription has its circuit, which shows what it showed before
pub record AreWaiting (e : Store) (concerned : List Bool) : Type 0 where
  pub stored : IsStored e
  pub were : AllByRecursion (WasRead e) e.circuits
  pub others : Each (IsOther e) e.circuits concerned
  pub there : AllByRecursion (λ s. is_some (place_of e s) ≡ true) e.subscriptions

-- the same if `moved` tells that rows may have changed too
pub record AreWaitingFor (e : Store) (concerned : List Bool) (moved : Bool) : Type 0 where
  pub stored : IsStored e
  pub shown : AllByRecursion (WasShown e) e.circuits
  pub were : moved ≡ false → AllByRecursion (WasRead e) e.circuits
  pub others : Each (IsOther e) e.circuits concerned
  pub there : AllByRecursion (λ s. is_some (place_of e s) ≡ true) e.subscriptions

-- it is that of what was shown before rights changed, and its role may see no other row now than those that it saw and the hidden ones
abbrev pub IsNarrowed : Store → Option HiddenRows → RoleCircuit → Type 0
IsNarrowed e hidden k = IsWider e k.role hidden (plan_at e.catalog k.rel) k.circuit

-- its role may read it; the circuit is one of what is shown now, and the rows are what that shows more and less
pub record IsAnew (e : Store) (k : RoleCircuit) (c : Running) (rows : Weighed) : Type 0 where
  pub reads : role_reads e k.role k.rel ≡ true
  pub is : IsCircuitFor e k.role (plan_at e.catalog k.rel) c
  pub moves : IsBagDifference (total_of k.circuit.node) (total_of c.node) rows

-- its role may read it, and a new one would break the limits
pub record IsPast (e : Store) (k : RoleCircuit) : Type 0 where
  pub reads : role_reads e k.role k.rel ≡ true
  pub beyond : IsBeyond e k.role (plan_at e.catalog k.rel)

-- what a change of rights makes of it
abbrev pub IsTurn : Store → RoleCircuit → Turn → Type 0
IsTurn e k Same = IsStill e k
IsTurn e k (Anew c rows) = IsAnew e k c (shared_rows rows)
IsTurn e k Lost = role_reads e k.role k.rel ≡ false
IsTurn e k Beyond = IsPast e k

-- ---- as the code has it

-- of these outcomes, what becomes of the reader at a place
pub record IsTurnIn (e : Store) (os : List Outcome) (place : ℕ) (k : RoleCircuit) (o : Outcome) : Type 0 where
  pub joined : IsJoinedAt os place o
  pub is : IsTurn e k (fate e.circuits os o)

-- the outcomes so far, of the first of all readers
pub record AreTurns (e : Store) (os : List Outcome) : Type 0 where
  pub long : length os ≤ length e.circuits
  pub each : (i : ℕ) (k : RoleCircuit) (o : Outcome) → i < length os → k ≡ get_or e.circuits i k → o ≡ get_or os i o → IsTurnIn e os i k o

-- and the next one
abbrev pub IsTurnAt : Store → List Outcome → (place : ℕ) → Outcome → Type 0
IsTurnAt e os place o = (k : RoleCircuit) → k ≡ get_or e.circuits place k → IsTurnIn e (os ++ o ∷ []) place k o

-- what one reader's circuit, before, shows less than another's, afterwards
abbrev pub IsBetween : Store → List Outcome → (place like : ℕ) → Weighed → Type 0
IsBetween e os i j rows = IsBagDifference (total_at e i) (total_of (circuit_after e.circuits os j).node) rows

-- the circuit of the reader, after these outcomes, is one of the role, too
pub record IsTwinAfter (e : Store) (os : List Outcome) (role rel place : ℕ) : Type 0 where
  pub low : place < length os
  pub whole : whole_at os place ≡ true
  pub is : IsCircuitFor e role (plan_at e.catalog rel) (circuit_after e.circuits os place)

-- a circuit for the role and the relation is new, or would break the limits
abbrev pub IsRebuilt : Store → (role rel : ℕ) → Weighed → Outcome → Type 0
IsRebuilt e role rel before code.Same = ⊥
IsRebuilt e role rel before (code.Built c rows) = IsCircuitFor e role (plan_at e.catalog rel) c × IsBagDifference before (total_of c.node) (shared_rows rows)
IsRebuilt e role rel before (code.Joined twin rows) = ⊥
IsRebuilt e role rel before code.Lost = ⊥
IsRebuilt e role rel before code.Beyond = IsBeyond e role (plan_at e.catalog rel)

-- ---- lines

-- why the subscriptions that read it end; none if they stay open
abbrev pub cause_of : Turn → Option Cause
cause_of Same = None
cause_of (Anew c rows) = None
cause_of Lost = Some cause.Privilege
cause_of Beyond = Some cause.Limit

abbrev pub leaves_open : Turn → Bool
leaves_open turn = not (is_some (cause_of turn))

-- the line of a subscription that showed the rows: what it shows more and less, or the last, which takes all back
abbrev pub line_by_turn : Subscription → List Cells → Turn → List machine.Line
line_by_turn s showed Same = []
line_by_turn s showed (Anew c rows) = machine_line None s (shared_rows rows)
line_by_turn s showed Lost = machine_line (Some cause.Privilege) s (difference showed [])
line_by_turn s showed Beyond = machine_line (Some cause.Limit) s (difference showed [])

-- the last line of the subscription, which showed what the Z-set counts, after those before
abbrev pub IsEndedBy : Subscription → Weighed → Cause → (old new : List Line) → Type 0
IsEndedBy s showed why old new =
    (rows : List Cells) → Counts showed rows → map line_of new ≡ map line_of old ++ machine_line (Some why) s (difference rows [])

-- whether the subscription, which showed what the Z-set counts, stays open, and its line, after those before
pub record IsToldTurn (s : Subscription) (showed : Weighed) (turn : Turn) (stays : Bool) (old new : List Line) : Type 0 where
  pub left : stays ≡ leaves_open turn
  pub line : (rows : List Cells) → Counts showed rows → map line_of new ≡ map line_of old ++ line_by_turn s rows turn

-- ---- all subscriptions

-- the rows are those that the circuit of each shows
abbrev pub AreShowed : Store → (Subscription → List Cells) → Type 0
AreShowed e showed = AllByRecursion (λ s. IfSome (place_of e s) (λ place. Counts (total_at e place) (showed s))) e.subscriptions

-- the subscriptions that stay open, and the lines of all, each by what became of its circuit
pub record AreSettled (e : Store) (turns : List Turn) (kept : List Subscription) (lines : List Line) : Type 0 where
  pub left : kept ≡ filter (λ s. leaves_open (beside_of Same e turns s)) e.subscriptions
  pub told : (showed : Subscription → List Cells) → AreShowed e showed
      → map line_of lines ≡ flat_map (λ s. line_by_turn s (showed s) (beside_of Same e turns s)) e.subscriptions

-- nothing ends it
abbrev pub stays_open : Store → Lists → Subscription → Bool
stays_open e T s = not (is_some (ending (at e T) s))

-- the line of what it shows more and less; if it ends, the last, which takes all back
abbrev pub turned_by : Option Cause → Subscription → (old new : List Cells) → List machine.Line
turned_by None s old new = machine_line None s (difference old new)
turned_by (Some why) s old new = machine_line (Some why) s (difference old [])

abbrev pub turned_line : Store → Lists → Subscription → List Cells → List machine.Line
turned_line e T s rows = turned_by (ending (at e T) s) s rows (shown_rows e T s)

-- the subscriptions that nothing ends are left, each has its line, and the circuits are those that they read; those that the
-- change concerns have taken in no change yet
pub record AreReaders (e : Store) (concerned : List Bool) (reply : Reply) (lines : List Line) (new : Store) : Type 0 where
  pub done : reply ≡ Ok
  pub left : (T : Lists) → Stands T e.tables → new.subscriptions ≡ filter (stays_open e T) e.subscriptions
  pub told : (T : Lists) → Stands T e.tables → (showed : Subscription → List Cells) → AreShowed e showed
      → map line_of lines ≡ flat_map (λ s. turned_line e T s (showed s)) e.subscriptions
  pub circuits : AllByRecursion (IsRoleCircuit e) new.circuits
  pub there : AllByRecursion (λ s. is_some (place_of new s) ≡ true) new.subscriptions
  pub read : AllByRecursion (λ k. is_read (frame_of new) k ≡ true) new.circuits
  pub rounds : AllByRecursion (λ s. rounds_of new s ≡ cond (beside_of false e concerned s) 0 (rounds_of e s)) new.subscriptions
  pub state : new ≡ record e { subscriptions = new.subscriptions; circuits = new.circuits }

-- the answer has the lines
abbrev pub AreReadersTold : Store → (concerned : List Bool) → Answer → Store → Type 0
AreReadersTold e concerned a new = AreReaders e concerned a.reply a.changes.items new

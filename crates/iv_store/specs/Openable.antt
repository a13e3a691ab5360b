-- The relation that a subscription may be opened to.
use Rattle.std.specs.Prelude.{◌≡◌, ◌<◌, ◌-◌, ◌^◌, ℕ, true, List, [], ◌++◌, get_or, length, Option, None, Some, is_some, position, Result, Ok, Err}
use Rattle.std.specs.List.{AllByRecursion}
use Rattle.iv_rows.specs.Cell.{Cell}
use Rattle.iv_rows.specs.declared.schema.RelId.{RelId}
use Rattle.iv_access.specs.Rights.{Name}
use Rattle.iv_zset.specs.Limits.{Counts}
use Rattle.iv_zset.specs.Weights.{Weighed}
use Rattle.iv_machine.specs.Act as machine
use Rattle.iv_machine.specs.Act.{subscribe}
use Rattle.iv_machine.specs.Changing.{insert_subscription}
use Rattle.iv_machine.specs.Machine.{difference, lines_told as machine_line}
use Rattle.iv_machine.specs.Refusing.{frame_refusal}
use Rattle.iv_machine.specs.State.{Subscription, actor, is_open, missing_for, plan_at, rel_of}
use Rattle.iv_store.specs.Built.{IsBeyond}
use Rattle.iv_store.specs.Store.{IsCircuitFor, Store, frame_of}
use Rattle.iv_readers.specs.Readers.{RoleCircuit, is_for, opened_at}
use Rattle.iv_command.specs.Views.{refusal_of}
use Rattle.iv_command.specs.declared.stop.Stop.{Stop}
use Rattle.iv_command.specs.declared.stop.Stop.TheVariants.{Refused, Memory}

-- all tests pass that look at no row
pub record IsOpenable (e : Store) (n : ℕ) (name : Name) (rel : ℕ) : Type 0 where
  pub number : rel_of e.catalog name ≡ rel
  pub below : rel < length e.catalog
  pub opened : is_open (frame_of e) n ≡ true
  pub reads : missing_for (frame_of e) (actor (frame_of e) n) rel ≡ None
  pub more : e.last < 2 ^ 63 - 1
  pub passed : frame_refusal (frame_of e) n (subscribe name) ≡ None

-- the relation, or the refusal that tells the first test that fails, unless memory runs out
abbrev pub MayOpen : Store → ℕ → Name → Result RelId Stop → Type 0
MayOpen e n name (Ok rel) = IsOpenable e n name rel.0
MayOpen e n name (Err (Refused r)) = frame_refusal (frame_of e) n (subscribe name) ≡ Some (refusal_of r)
MayOpen e n name (Err Memory) = Unit {0}

-- the first line of a subscription, to all lists that the Z-set counts
abbrev pub AreFirstLines : Subscription → Weighed → List machine.Line → Type 0
AreFirstLines s showed lines = (rows : List (List Cell)) → Counts showed rows → lines ≡ machine_line None s (difference [] rows)

-- with the subscription, which has the last number given and reads the circuit at the place
abbrev pub with_subscription : Subscription → (place : ℕ) → Store → Store
with_subscription s place e = record e {
  subscriptions = insert_subscription s e.subscriptions;
  circuits = opened_at place s.number e.circuits;
  last = s.number;
}

-- a reader of the relation whose circuit is one of the role, too
pub record IsTwin (e : Store) (role rel place : ℕ) : Type 0 where
  pub low : place < length e.circuits
  pub is : (k : RoleCircuit) → k ≡ get_or e.circuits place k → IsCircuitFor e role (plan_at e.catalog rel) k.circuit

-- the role comes to a circuit of what the relation shows to it
pub record IsNewFor (e : Store) (role rel : ℕ) (k : RoleCircuit) : Type 0 where
  pub acts : k.role ≡ role
  pub shows : k.rel ≡ rel
  pub is : IsCircuitFor e role (plan_at e.catalog rel) k.circuit
  pub came : k.since ≡ k.circuit.rounds
  pub opened : k.opened ≡ []

-- the place of the first that is for the role and the relation: a new one after the others only if there was none
pub record HasReaderFor (e : Store) (role rel place : ℕ) (new : Store) : Type 0 where
  pub added : List RoleCircuit
  pub is : AllByRecursion (IsNewFor e role rel) added
  pub shared : is_some (position (is_for role rel) e.circuits) ≡ true → added ≡ []
  pub first : position (is_for role rel) new.circuits ≡ Some place
  pub state : new ≡ record e { circuits = e.circuits ++ added }

-- none if that would break the limits
abbrev pub IsReaderFor : Store → (role rel : ℕ) → Option ℕ → Store → Type 0
IsReaderFor e role rel None new = (new ≡ e) × IsBeyond e role (plan_at e.catalog rel)
IsReaderFor e role rel (Some place) new = HasReaderFor e role rel place new

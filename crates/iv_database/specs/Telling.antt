-- Why a change of rights is not done.
use Rattle.std.specs.Prelude.{◌≡◌, ℕ, List, Option, Some, None, Result, Ok, Err, true}
use Rattle.iv_rows.specs.Columns.{Column}
use Rattle.iv_bind.specs.Catalogs.{Table}
use Rattle.iv_access.specs.Faults.{add_relation_fault}
use Rattle.iv_access.specs.Rights.{Name}
use Rattle.iv_access.specs.declared.fault.AccessFault.{AccessFault}
use Rattle.iv_access.specs.declared.fault.AccessFault.TheVariants as fault
use Rattle.iv_machine.specs.Act.{Refusal, unknown_role, name_taken, not_administrator, not_owner, too_many, membership_loop}
use Rattle.iv_command.specs.Views.{refusal_of}
use Rattle.iv_command.specs.declared.stop.Stop.{Stop}
use Rattle.iv_command.specs.declared.stop.Stop.TheVariants.{Refused, Memory}
use Rattle.iv_database.specs.Database.{Database}
use Rattle.iv_database.specs.Next.{with_relation_of}

-- the refusal; want of memory is none
abbrev pub told : AccessFault → Name → Option Refusal
told fault.Role rel = Some unknown_role
told fault.Taken rel = Some name_taken
told fault.NotAdmin rel = Some not_administrator
told fault.NotOwner rel = Some (not_owner rel)
told fault.TooMany rel = Some too_many
told fault.Loop rel = Some membership_loop
told fault.Memory rel = None

-- the fault of a request that names the relation
abbrev pub IsStopOf : AccessFault → Name → Stop → Type 0
IsStopOf f rel (Refused r) = told f rel ≡ Some (refusal_of r)
IsStopOf f rel Memory = f ≡ fault.Memory

-- what the request is answered, if the change of rights has the result
abbrev pub IsTold : Result Unit AccessFault → Name → Result Unit Stop → Type 0
IsTold (Ok u) rel (Ok v) = Unit {0}
IsTold (Ok u) rel (Err s) = ⊥
IsTold (Err f) rel (Ok v) = ⊥
IsTold (Err f) rel (Err s) = IsStopOf f rel s

-- a table was added, or why not
abbrev pub IsAdded : Database → ℕ → (name owner : Name) → List Column → Result Unit Stop → Database → Type 0
IsAdded e acting name owner columns (Ok u) new =
    (add_relation_fault e.known acting name owner true ≡ None) × (new ≡ with_relation_of name owner (Table columns) e)
IsAdded e acting name owner columns (Err (Refused r)) new =
    (f : AccessFault) × (add_relation_fault e.known acting name owner true ≡ Some f) × (told f name ≡ Some (refusal_of r)) × (new ≡ e)
IsAdded e acting name owner columns (Err Memory) new = Unit {0}

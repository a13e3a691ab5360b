-- What a keeper is told of a step that is not taken.
use Rattle.std.specs.Prelude.{IfSome}
use Rattle.std.proofs.Common.{◌≡◌, ℕ, List, Option, Some, None, refl, subst, sym}
use Rattle.iv_journal.specs.Journal.{Line}
use Rattle.iv_gate.specs.Arriving.{Step, fault_of}
use Rattle.iv_gate.specs.Arriving as gate
use Rattle.iv_gate.specs.Gate.{Gate, Log}
use Rattle.iv_gateway.specs.Arriving.{IsFaultOf}
use Rattle.iv_gateway.specs.declared.arriving.StepFault.{StepFault}
use Rattle.iv_gateway.specs.declared.arriving.StepFault.TheVariants.{Dead, Gap, Led, Memory, NotAccepted, NotNew, OtherLog}
use Rattle.iv_arrivals.specs.Reads.{step_in}
use Rattle.iv_door.specs.Answers.{Fault, no_entry}
use Rattle.iv_running.specs.Running.{IsUntaken}
use Rattle.iv_following.specs.Following.{IsTold, IsToldOf, of_lines, of_step}

abbrev ToldBy : Log → (from to : ℕ) → Gate → Step → Fault → Type 0
ToldBy log from to g s f = (why : gate.Fault) × (fault_of g s ≡ Some why) × IsToldOf log from to why f

by_step : (log k : Log) (from to : ℕ) (T xs : List Line) (g : Gate) (s : Step) (o : Option Fault) → k ≡ log → xs ≡ T → step_in k from xs ≡ Some s
    → IfSome o (ToldBy log from to g s) → IfSome o (IsTold log from to T g)
by_step log k from to T xs g s None e f i h = tt
by_step log k from to T xs g s (Some x) e f i h =
    of_step s h.0 x (subst (λ (l : Log). step_in l from T ≡ Some s) e (subst (λ (z : List Line). step_in k from z ≡ Some s) f i)) h.1 h.2

pub told_step : (log k : Log) (from to : ℕ) (T xs : List Line) (g : Gate) (fault : StepFault) (o : Option Fault) → k ≡ log → xs ≡ T → IsUntaken k from xs g fault
    → ((s : Step) → IsFaultOf g s fault → IfSome o (λ f. (why : gate.Fault) × (fault_of g s ≡ Some why) × IsToldOf log from to why f)) → (fault ≡ Memory → o ≡ None)
    → IfSome o (IsTold log from to T g)
told_step log k from to T xs g Memory o e f u told none = subst (λ (z : Option Fault). IfSome z (IsTold log from to T g)) (sym (none refl)) tt
told_step log k from to T xs g Dead o e f u told none = by_step log k from to T xs g u.0 o e f u.1 (told u.0 u.2)
told_step log k from to T xs g Led o e f u told none = by_step log k from to T xs g u.0 o e f u.1 (told u.0 u.2)
told_step log k from to T xs g OtherLog o e f u told none = by_step log k from to T xs g u.0 o e f u.1 (told u.0 u.2)
told_step log k from to T xs g (Gap p) o e f u told none = by_step log k from to T xs g u.0 o e f u.1 (told u.0 u.2)
told_step log k from to T xs g (NotAccepted n why) o e f u told none = by_step log k from to T xs g u.0 o e f u.1 (told u.0 u.2)
told_step log k from to T xs g (NotNew n) o e f u told none = by_step log k from to T xs g u.0 o e f u.1 (told u.0 u.2)

pub told_lines : (log k : Log) (from to line : ℕ) (T xs : List Line) (g : Gate) → k ≡ log → xs ≡ T → step_in k from xs ≡ None → IsTold log from to T g (no_entry line to)
told_lines log k from to line T xs g e f i =
    of_lines line (subst (λ (l : Log). step_in l from T ≡ None) e (subst (λ (z : List Line). step_in k from z ≡ None) f i))

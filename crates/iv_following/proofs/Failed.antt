-- What a keeper is told of what is not taken, from one call to the next.
use Rattle.std.specs.Prelude.{◌≢◌, IfErr, IfSome}
use Rattle.std.proofs.Common.{◌≡◌, ℕ, Bool, false, List, Option, Some, None, Result, Ok, Err, refl, ap, sym, subst}
use Rattle.iv_records.specs.Journal.{record_of}
use Rattle.iv_gate.specs.Gate.{Log}
use Rattle.iv_desk.specs.Front.{Front}
use Rattle.iv_desk.specs.Desks.{IsDesk}
use Rattle.iv_desk.specs.declared.desk.Desk.{Desk}
use Rattle.iv_door.specs.Answers.{Fault}
use Rattle.iv_door.specs.Talk.{Act, Hears, Talk, acts, ended}
use Rattle.iv_door.specs.Views.{IsFailingBy, fault_of}
use Rattle.iv_door.specs.declared.answers.Fault.{Fault as FaultCode}
use Rattle.iv_door.specs.declared.answers.Fault.TheVariants as code
use Rattle.iv_running.specs.Running.{Leads}
use Rattle.iv_running.specs.declared.fault.Fault.{Fault as End}
use Rattle.iv_running.specs.declared.fault.Fault.TheVariants as ends
use Rattle.iv_following.specs.Following.{HeedsAll, House, IsTold}
use Rattle.iv_following.specs.Failing.{IsBroken, IsFailed, IsLineTold, IsUnheard, IsUnheeded, IsUntaken, cannot_be, no_memory, not_heeded}

-- nothing is told of want of memory alone
pub none_is_memory : (x : FaultCode) → (x ≡ code.Memory → ⊥) → fault_of x ≢ None
none_is_memory (code.TooLong line) not = λ h. cc
none_is_memory (code.NoLine line) not = λ h. cc
none_is_memory (code.WrongTime line) not = λ h. cc
none_is_memory code.NoLog not = λ h. cc
none_is_memory (code.OtherLog log) not = λ h. cc
none_is_memory code.NoRoom not = λ h. cc
none_is_memory (code.Gap to from position) not = λ h. cc
none_is_memory (code.NoEntry line to) not = λ h. cc
none_is_memory (code.NotAccepted entry to refusal) not = λ h. cc
none_is_memory (code.NotNew name to) not = λ h. cc
none_is_memory (code.NotDecided to kept told) not = λ h. cc
none_is_memory (code.DecidedHere to) not = λ h. cc
none_is_memory code.Memory not = λ h. not refl

pub failed_at_log : (o : Option Fault) (was now : List ℕ) → o ≢ None → ((f : Fault) → o ≡ Some f → IsLineTold f was now) → IsFailed ends.Log o was now
failed_at_log None was now not told = absurd (not refl)
failed_at_log (Some f) was now not told = told f refl

-- ---- a step

pub untaken_memory : {A : Type 0} (log : Option Log) (from to : ℕ) (texts : List (List ℕ)) (x : Desk) (was now : List ℕ) (r : Result A End)
    → IfErr r (λ f. f ≡ ends.Memory) → IfErr r (IsUntaken log from to texts x was now)
untaken_memory log from to texts x was now (Ok a) h = tt
untaken_memory log from to texts x was now (Err f) h = subst (IsUntaken log from to texts x was now) (sym h) tt

pub untaken_told : (log : Option Log) (l : Log) (from to : ℕ) (texts : List (List ℕ)) (x : Desk) (was now : List ℕ) (o : Option Fault) (end : End) → log ≡ Some l
    → ((d : Front) → IsDesk d x → d.gate.dead ≡ false → IfSome o (IsTold l from to (record_of texts) d.gate)) → IsFailed end o was now
    → IsUntaken log from to texts x was now end
untaken_told log l from to texts x was now (Some f) ends.Log e why told = record { followed = l; fault = f; is = e; why = why; told = told }
untaken_told log l from to texts x was now None ends.Log e why told = absurd told
untaken_told log l from to texts x was now o ends.Memory e why told = tt
untaken_told log l from to texts x was now o ends.Journal e why told = absurd told
untaken_told log l from to texts x was now o ends.Desk e why told = absurd told
untaken_told log l from to texts x was now o ends.System e why told = absurd told

pub unheeded_step : {A : Type 0} (log : Option Log) (from to : ℕ) (texts : List (List ℕ)) (x y : House) (was now : List ℕ) (r : Result A End)
    → Leads x.desk y.desk → y.may ≡ x.may → y.lead ≡ x.lead → IfErr r (IsUntaken log from to texts x.desk was now) → IfErr r (λ f. IsUnheeded log (ended from to texts) x was f y now)
unheeded_step log from to texts x y was now (Ok a) leads same led h = tt
unheeded_step log from to texts x y was now (Err f) leads same led h = (leads, (λ i. record y { may = same i; lead = led i }), h)

-- ---- lines

pub unheard_said : (log : Option Log) (t : Talk) (x : House) (was now : List ℕ) (f : Option Fault) (end : End) → IsFailingBy (Hears t) f → IsFailed end f was now
    → IsUnheard log t x was end x now
unheard_said log t x was now (Some f) ends.Log hears told = cannot_be f hears.0 now hears.1 told
unheard_said log t x was now None ends.Log hears told = absurd told
unheard_said log t x was now f ends.Memory hears told = no_memory now
unheard_said log t x was now f ends.Journal hears told = absurd told
unheard_said log t x was now f ends.Desk hears told = absurd told
unheard_said log t x was now f ends.System hears told = absurd told

-- lines were heeded, and one is not
pub breaks_here : (log now_log : Option Log) (t u : Talk) (x y z : House) (was now : List ℕ) (end : End) → now_log ≡ log → HeedsAll log t x u y
    → IsUnheard now_log u y was end z now → IsBroken log t x end z now
breaks_here log now_log t u x y z was now end e heeds breaks = record {
  talk = u;
  house = y;
  was = was;
  heeds = heeds;
  breaks = subst (λ (l : Option Log). IsUnheard l u y was end z now) e breaks;
}

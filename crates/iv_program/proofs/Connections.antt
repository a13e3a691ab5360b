-- Connections behind connections.
use Rattle.std.proofs.Common.{◌≡◌, ℕ, ◌+◌, List, [], ◌∷◌, ◌++◌, length, length-append, take, Bool, true, false, ◌||◌, Option, refl, ap, sym, subst, ◌∙◌}
use Rattle.std.proofs.Math.Seq.{take-length}
use Rattle.std.specs.Io.KnownBytes.{Appends}
use Rattle.std.specs.Prelude.{Result, Ok, Err, OnOk}
use Rattle.std.specs.List.{AllByRecursion}
use Rattle.iv_machine.specs.Act.{Command}
use Rattle.iv_machine.specs.Machine.{hung, run}
use Rattle.iv_machine.specs.Reached.{AreGiven, AreUnique, AreNumbersUnique}
use Rattle.iv_machine.specs.State.{Frame, State}
use Rattle.iv_engine.specs.Engine.{Engine, IsBehind, hung_up}
use Rattle.iv_wire.specs.Ran.{HasRun}
use Rattle.iv_program.specs.Serves.{HasServed, IsClosed, served}

served_behind : (s : State) (css dss : List (List Command)) → served (served s css) dss ≡ served s (css ++ dss)
served_behind s [] dss = refl
served_behind s (cs ∷ css) dss = served_behind (hung (run s cs).state) css dss

all_join : {X : Type 0} (P : X → Type 0) (xs ys : List X) → AllByRecursion P xs → AllByRecursion P ys → AllByRecursion P (xs ++ ys)
all_join P [] ys a b = b
all_join P (x ∷ xs) ys a b = (a.0, all_join P xs ys a.1 b)

pub none_served : (lines : ℕ) (s : State) (e : Engine) → IsBehind s e → HasServed lines 0 s e
none_served lines s e b = record { commands = []; count = refl; most = tt; given = tt; behind = b }

-- a run, and then all is hung up
pub HasServed-HasRun : (lines : ℕ) (s : State) (mid new : Engine) → HasRun lines s mid → ((t : State) → IsBehind t mid → IsBehind (hung t) new) → HasServed lines 1 s new
HasServed-HasRun lines s mid new h f = record { commands = h.commands ∷ []; count = refl; most = (h.most, tt); given = (h.given, tt); behind = f (run s h.commands).state h.behind }

pub HasServed-plus : (lines n m : ℕ) (s : State) (mid new : Engine) → HasServed lines n s mid → ((t : State) → IsBehind t mid → HasServed lines m t new) → HasServed lines (n + m) s new
HasServed-plus lines n m s mid new h f =
    let last = f (served s h.commands) h.behind in
    record {
      commands = h.commands ++ last.commands;
      count = length-append h.commands last.commands ∙ (λ i. h.count i + last.count i);
      most = all_join _ h.commands last.commands h.most last.most;
      given = all_join _ h.commands last.commands h.given last.given;
      behind = subst (λ (t : State). IsBehind t new) (served_behind s h.commands last.commands) last.behind;
    }

pub AreNumbersUnique-IsClosed : (f : Frame) → IsClosed f → AreNumbersUnique f
AreNumbersUnique-IsClosed f h = record {
  unique = subst AreUnique (sym h.subscriptions) tt;
  given = subst (AreGiven f.last) (sym h.subscriptions) tt;
}

-- ---- what was written

-- all of it is a front of it
pub Appends-take_of_all : (old new : Option (List ℕ)) (bytes : List ℕ) → Appends old new bytes → (n : ℕ) × Appends old new (take n bytes)
Appends-take_of_all old new bytes h = (length bytes, subst (Appends old new) (sym (take-length bytes)) h)

pub or-first_false : (a b new : Bool) → new ≡ (a || b) → a ≡ false → new ≡ b
or-first_false true b new e f = cc
or-first_false false b new e f = e

-- where a result is Ok, what holds of each state behind
pub OnOk-at_state : {T E : Type 0} (r : Result T E) (P Q : State → Type 0) → OnOk r ((s : State) → P s → Q s) → (s : State) → P s → OnOk r (Q s)
OnOk-at_state (Ok x) P Q h s p = h s p
OnOk-at_state (Err e) P Q h s p = tt

-- ---- hanging up

pub IsClosed-hung_up : (old new : Engine) → new ≡ hung_up old → IsClosed new.frame
IsClosed-hung_up old new e = record {
  sessions = ap (λ (x : Engine). x.frame.sessions) e;
  subscriptions = ap (λ (x : Engine). x.frame.subscriptions) e;
}

pub failed-hung_up : (old new : Engine) → (old.failed ≡ false → new ≡ hung_up old) → (old.failed ≡ true → new ≡ old) → new.failed ≡ old.failed
failed-hung_up old new f g = by old.failed refl
  where
    by : (b : Bool) → old.failed ≡ b → new.failed ≡ old.failed
    by true e = ap (λ (x : Engine). x.failed) (g e)
    by false e = ap (λ (x : Engine). x.failed) (f e)

-- Every open subscription may be read and is within the limits.
use Rattle.std.proofs.Common.{◌≡◌, ℕ, Bool, true, false, cond, not, ◌&&◌, List, [], ◌∷◌, Option, Some, None, refl}
use Rattle.std.specs.Prelude.{filter, is_some}
use Rattle.std.specs.List.{list_all, AllByRecursion}
use Rattle.iv_machine.specs.Act.{Act, write, Command, Refusal, limit, Entry}
use Rattle.iv_machine.specs.State.{State, Subscription, actor, missing_for, is_within}
use Rattle.iv_machine.specs.Refusing.{test, or_else, all_within, entries_present, refusal, frame_refusal, rows_refusal}
use Rattle.iv_machine.specs.Changing.{after_frame, after}
use Rattle.iv_machine.specs.Machine.{first_cause, ending, settled, outcome, step, run}
use Rattle.iv_machine.specs.Served.{AreServed}
use Rattle.iv_machine.specs.declared.Cause.{Cause}

none_is : (o : Option Cause) → is_some o ≡ false → o ≡ None
none_is None h = refl
none_is (Some c) h = cc

kept_served : (s : State) (b : Bool) (e : Subscription) (fs : List Subscription) → is_some (ending s e) ≡ b → AllByRecursion (λ f. ending s f ≡ None) fs → AllByRecursion (λ f. ending s f ≡ None) (cond (not b) (e ∷ fs) fs)
kept_served s true e fs h a = a
kept_served s false e fs h a = (none_is (ending s e) h, a)

filter_served : (s : State) (es : List Subscription) → AllByRecursion (λ f. ending s f ≡ None) (filter (λ e. not (is_some (ending s e))) es)
filter_served s [] = tt
filter_served s (e ∷ es) = kept_served s (is_some (ending s e)) e (filter (λ f. not (is_some (ending s f))) es) refl (filter_served s es)

-- ---- a write

pub or_else-None : (o p : Option Refusal) → or_else o p ≡ None → (o ≡ None) × (p ≡ None)
or_else-None None p h = (refl, h)
or_else-None (Some r) p h = cc

-- neither the tests that look at no row nor those that do refuse it
pub refusal-None : (s : State) (n : ℕ) (act : Act) → refusal s n act ≡ None → (frame_refusal s.frame n act ≡ None) × (rows_refusal s n act ≡ None)
refusal-None s n act h = or_else-None (frame_refusal s.frame n act) (rows_refusal s n act) h

pub test_not-None : (b : Bool) (r : Refusal) → test (not b) r ≡ None → b ≡ true
test_not-None true r h = refl
test_not-None false r h = cc

pub and-both_true : (b c : Bool) → (b && c) ≡ true → (b ≡ true) × (c ≡ true)
and-both_true true c h = (refl, h)
and-both_true false c h = cc

pub not_lacking : (l w : Bool) → first_cause l w ≡ None → l ≡ false
not_lacking true w h = cc
not_lacking false w h = refl

pub first_cause-None : (l w : Bool) → l ≡ false → w ≡ true → first_cause l w ≡ None
first_cause-None true w h k = cc
first_cause-None false true h k = refl
first_cause-None false false h k = cc

-- who lacks nothing before a write lacks nothing after it
write_served : (s : State) (n : ℕ) (es : List Entry) (fs : List Subscription) → AllByRecursion (λ f. ending s f ≡ None) fs → list_all (is_within (after s n (write es))) fs ≡ true → AllByRecursion (λ f. ending (after s n (write es)) f ≡ None) fs
write_served s n es [] a w = tt
write_served s n es (f ∷ fs) a w =
    let b = and-both_true (is_within (after s n (write es)) f) (list_all (is_within (after s n (write es))) fs) w in (
      first_cause-None (is_some (missing_for s.frame (actor s.frame f.session) f.rel)) (is_within (after s n (write es)) f) (not_lacking (is_some (missing_for s.frame (actor s.frame f.session) f.rel)) (is_within s f) a.0) b.0,
      write_served s n es fs a.1 b.1,
    )

all_served : (s : State) (n : ℕ) (es : List Entry) → AreServed s → refusal s n (write es) ≡ None → AllByRecursion (λ f. ending (after s n (write es)) f ≡ None) s.frame.subscriptions
all_served s n es a h =
    let r = (refusal-None s n (write es) h).1 in
    let l = (or_else-None (entries_present s.frame.catalog 1 es s.rows) _ r).1 in
    let t = (or_else-None (test (not (all_within (after s n (write es)))) limit) None l).0 in
    let w = test_not-None (all_within (after s n (write es))) limit t in
    write_served s n es s.frame.subscriptions a (and-both_true _ (list_all (is_within (after s n (write es))) s.frame.subscriptions) w).1

all_kept : (s : State) (fs : List Subscription) → AllByRecursion (λ f. ending s f ≡ None) fs → AllByRecursion (λ f. ending s f ≡ None) (filter (λ e. true) fs)
all_kept s [] a = tt
all_kept s (f ∷ fs) a = (a.0, all_kept s fs a.1)

pub AreServed-settled : (s : State) (n : ℕ) (act : Act) → AreServed s → refusal s n act ≡ None → AreServed (settled act (after s n act))
AreServed-settled s n (write es) a h = all_kept (after s n (write es)) s.frame.subscriptions (all_served s n es a h)
AreServed-settled s n act a h = filter_served (after s n act) (after_frame s.frame n act).subscriptions

outcome_served : (s : State) (c : Command) (o : Option Refusal) → refusal s c.session c.act ≡ o → AreServed s → AreServed (outcome s c o).state
outcome_served s c None h a = AreServed-settled s c.session c.act a h
outcome_served s c (Some r) h a = a

pub step_served : (s : State) (c : Command) → AreServed s → AreServed (step s c).state
step_served s c a = outcome_served s c (refusal s c.session c.act) refl a

pub run_served : (s : State) (cs : List Command) → AreServed s → AreServed (run s cs).state
run_served s [] a = a
run_served s (c ∷ cs) a = run_served (step s c).state cs (step_served s c a)

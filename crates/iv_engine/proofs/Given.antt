-- Facts that lines may give lead an engine behind which sound states stand to another.
use Rattle.std.proofs.Common.{◌≡◌, Bool, true, false, cond, List, [], ◌∷◌, Some, None, is_some, refl, subst}
use Rattle.std.specs.List.{All}
use Rattle.std.specs.Prelude.{option_and_then}
use Rattle.std.proofs.lemmas.List.Elements.{All-head, All-tail}
use Rattle.iv_machine.specs.Act as machine
use Rattle.iv_machine.specs.Act.{Act, begin, finish}
use Rattle.iv_machine.specs.Machine.{step}
use Rattle.iv_machine.specs.Refusing.{refusal}
use Rattle.iv_machine.specs.State.{State}
use Rattle.iv_machine.specs.Stored.{HasTexts}
use Rattle.iv_machine.specs.Well.{is_well_act}
use Rattle.iv_machine.proofs.SoundRuns.{IsSoundWhole, IsSoundWhole-step}
use Rattle.iv_steps.specs.Steps.{Fact, all_carried, carried, is_shared, passed, shared}
use Rattle.iv_steps.proofs.FactSteps.{option_and_then-Some}
use Rattle.iv_steps.proofs.StepOutcomes.{IsWhole-shared, steps_are_told, IsSoundState-IsWhole}
use Rattle.iv_store.specs.Engine.{Engine}
use Rattle.iv_engine.specs.Sound.{IsSoundEngine}
use Rattle.iv_engine.specs.Stepped.{IsGivenFact, TakesStep}
use Rattle.iv_engine.proofs.Carried.{is_well_act-is_well_fact, is_name-is_well_fact}
use Rattle.iv_engine.proofs.SoundStates.{IsSoundEngine-IsBehind, IsSoundWhole-of_engine}

passed_is : (act : Act) (s t : State) → passed act s ≡ Some t → (step s (record { session = 1; act = act })).state ≡ t
passed_is act s t h = by (is_some (refusal s 1 act)) h
  where
    by : (b : Bool) → cond b None (Some (step s (record { session = 1; act = act })).state) ≡ Some t → (step s (record { session = 1; act = act })).state ≡ t
    by true k = cc
    by false k = cc

act_stays : (act : Act) (s t : State) → is_well_act act ≡ true → HasTexts act → IsSoundWhole s → passed act s ≡ Some t → IsSoundWhole t
act_stays act s t w x k h = subst IsSoundWhole (passed_is act s t h) (IsSoundWhole-step s (record { session = 1; act = act }) (record { well = w; texts = x }) k)

fact_stays : (f : Fact) (s t : State) → IsGivenFact f → IsSoundWhole s → carried f s ≡ Some t → IsSoundWhole t
fact_stays f s t g k h = by (is_shared f.act) h
  where
    by : (b : Bool) → cond b (option_and_then (passed finish) (option_and_then (passed f.act) (passed (begin f.role) s))) None ≡ Some t → IsSoundWhole t
    by false p = cc
    by true p = option_and_then-Some (option_and_then (passed f.act) (passed (begin f.role) s)) (passed finish) t p (IsSoundWhole t) (λ y q r.
        option_and_then-Some (passed (begin f.role) s) (passed f.act) y q (IsSoundWhole t) (λ x a b.
        act_stays finish y t refl tt (act_stays f.act x y (is_well_act-is_well_fact f g.well) g.texts
        (act_stays (begin f.role) s x (is_name-is_well_fact f g.well) tt k a) b) r))

all_stay : (fs : List Fact) (s t : State) → All IsGivenFact fs → IsSoundWhole s → all_carried fs s ≡ Some t → IsSoundWhole t
all_stay [] s t g k h = let same : s ≡ t = cc in subst IsSoundWhole same k
all_stay (f ∷ fs) s t g k h = option_and_then-Some (carried f s) (all_carried fs) t h (IsSoundWhole t)
    (λ x p q. all_stay fs x t (All-tail IsGivenFact f fs g) (fact_stays f s x (All-head IsGivenFact f fs g) k p) q)

pub IsSoundEngine-TakesStep : (old new : Engine) (facts : List Fact) (lines : List machine.Line) → All IsGivenFact facts → TakesStep old facts lines new → IsSoundEngine old → IsSoundEngine new
IsSoundEngine-TakesStep old new facts lines g takes h =
    let s = h.state in
    let taken = takes s h.behind in
    let whole = IsSoundWhole-of_engine old h in
    let told = steps_are_told facts s taken.outcome whole.0 taken.is in
    let w = whole.1 in
    let nobody : IsSoundWhole (shared s) = (
      IsSoundState-IsWhole (shared s) (IsWhole-shared s whole.0),
      record { rights = w.rights; rise = w.rise; catalog = w.catalog; policies = w.policies; known = w.known; needs = w.needs },
    ) in
    let k = (all_stay facts (shared s) (shared taken.outcome.state) g nobody told.shared).1 in
    IsSoundEngine-IsBehind taken.outcome.state new taken.left (told.sound, record { rights = k.rights; rise = k.rise; catalog = k.catalog; policies = k.policies; known = k.known; needs = k.needs })

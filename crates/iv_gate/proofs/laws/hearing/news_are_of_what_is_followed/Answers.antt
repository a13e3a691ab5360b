use Rattle.iv_gate.proofs.FollowedNumbers.{EndsForCause-IsSoundGate, HearsFollowed-IsSoundGate}
use Rattle.iv_gate.proofs.SoundRuns.{AreEven-Runs, IsSoundGate-Runs}
use Rattle.iv_gate.proofs.SoundEvents.{IsSoundGate-next}
use Rattle.iv_gate.proofs.DifferenceTexts.{TellsApart-IsSoundGate}
use Rattle.iv_gate.proofs.EventLaws.{TellsDifference-TellsApart}
use Rattle.iv_gate.proofs.SoundCommands.{Sounds}
use Rattle.iv_gate.proofs.laws.hearing.news_are_of_what_is_followed.Goals as goal

pub returns-clause-hears : goal.returns-clause-hears
returns-clause-hears c =
    let opens = c.requests_open_what_they_name.ensures in
    let laws : Sounds = record { sound = c.steps_keep_sound.ensures.step; lasts = c.what_stands_lasts.ensures; ends = c.ends_are_told.ensures; begins = opens.session; subscribes = opens.subscription; told = c.steps_are_told.ensures } in
    let adds = c.lines_add_up.ensures in let start = c.steps_keep_sound.ensures.start in
    λ cap g e r. HearsFollowed-IsSoundGate adds laws g e (IsSoundGate-Runs adds start laws cap g r)

pub returns-clause-ends : goal.returns-clause-ends
returns-clause-ends c =
    let opens = c.requests_open_what_they_name.ensures in
    let laws : Sounds = record { sound = c.steps_keep_sound.ensures.step; lasts = c.what_stands_lasts.ensures; ends = c.ends_are_told.ensures; begins = opens.session; subscribes = opens.subscription; told = c.steps_are_told.ensures } in
    let adds = c.lines_add_up.ensures in let start = c.steps_keep_sound.ensures.start in
    λ cap g e r. EndsForCause-IsSoundGate laws g e (IsSoundGate-Runs adds start laws cap g r)

pub returns-clause-changes : goal.returns-clause-changes
returns-clause-changes c =
    let opens = c.requests_open_what_they_name.ensures in
    let laws : Sounds = record { sound = c.steps_keep_sound.ensures.step; lasts = c.what_stands_lasts.ensures; ends = c.ends_are_told.ensures; begins = opens.session; subscribes = opens.subscription; told = c.steps_are_told.ensures } in
    let adds = c.lines_add_up.ensures in let start = c.steps_keep_sound.ensures.start in let exact = c.differences_are_exact.ensures in
    λ cap g e r. let b = IsSoundGate-Runs adds start laws cap g r in
    TellsDifference-TellsApart g e (TellsApart-IsSoundGate adds laws exact.is exact.only g e b (IsSoundGate-next adds laws g e (AreEven-Runs cap g r) b))
    (EndsForCause-IsSoundGate laws g e b)

use Rattle.iv_gate.proofs.GrantsByEvents.{GrantsAreTrue-Runs}
use Rattle.iv_gate.proofs.GrantsByName.{GrantsAreTold-IsSoundGate, NewRightsAreTold-IsSoundGate}
use Rattle.iv_gate.proofs.SoundRuns.{IsSoundGate-Runs}
use Rattle.iv_gate.proofs.SoundCommands.{Sounds}
use Rattle.iv_gate.proofs.laws.hearing.grants_are_told.Goals as goal

pub returns-clause-has : goal.returns-clause-has
returns-clause-has c =
    let opens = c.requests_open_what_they_name.ensures in
    let laws : Sounds = record { sound = c.steps_keep_sound.ensures.step; lasts = c.what_stands_lasts.ensures; ends = c.ends_are_told.ensures; begins = opens.session; subscribes = opens.subscription; told = c.steps_are_told.ensures } in
    GrantsAreTrue-Runs c.lines_add_up.ensures c.steps_keep_sound.ensures.start laws c.grants_give_what_they_name.ensures c.requests_are_well.ensures

pub returns-clause-exact : goal.returns-clause-exact
returns-clause-exact c =
    let opens = c.requests_open_what_they_name.ensures in
    let laws : Sounds = record { sound = c.steps_keep_sound.ensures.step; lasts = c.what_stands_lasts.ensures; ends = c.ends_are_told.ensures; begins = opens.session; subscribes = opens.subscription; told = c.steps_are_told.ensures } in
    let adds = c.lines_add_up.ensures in let start = c.steps_keep_sound.ensures.start in
    λ cap g e r live. GrantsAreTold-IsSoundGate laws g e (IsSoundGate-Runs adds start laws cap g r) live

pub returns-clause-new : goal.returns-clause-new
returns-clause-new c =
    let opens = c.requests_open_what_they_name.ensures in
    let laws : Sounds = record { sound = c.steps_keep_sound.ensures.step; lasts = c.what_stands_lasts.ensures; ends = c.ends_are_told.ensures; begins = opens.session; subscribes = opens.subscription; told = c.steps_are_told.ensures } in
    let adds = c.lines_add_up.ensures in let start = c.steps_keep_sound.ensures.start in
    λ cap g s r. NewRightsAreTold-IsSoundGate laws g s (IsSoundGate-Runs adds start laws cap g r)

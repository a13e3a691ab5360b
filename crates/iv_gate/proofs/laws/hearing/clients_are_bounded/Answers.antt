use Rattle.iv_gate.proofs.ClientBounds.{IsBounded-Runs, le-next_last, length-next_clients}
use Rattle.iv_gate.proofs.SoundRuns.{IsSoundGate-Runs}
use Rattle.iv_gate.proofs.SoundCommands.{Sounds}
use Rattle.iv_gate.proofs.laws.hearing.clients_are_bounded.Goals as goal

pub returns-clause-bounded : goal.returns-clause-bounded
returns-clause-bounded c =
    let opens = c.requests_open_what_they_name.ensures in
    let laws : Sounds = record { sound = c.steps_keep_sound.ensures.step; lasts = c.what_stands_lasts.ensures; ends = c.ends_are_told.ensures; begins = opens.session; subscribes = opens.subscription; told = c.steps_are_told.ensures } in
    IsBounded-Runs c.lines_add_up.ensures c.steps_keep_sound.ensures.start laws

pub returns-clause-places : goal.returns-clause-places
returns-clause-places c = length-next_clients

pub returns-clause-last : goal.returns-clause-last
returns-clause-last c =
    let opens = c.requests_open_what_they_name.ensures in
    let laws : Sounds = record { sound = c.steps_keep_sound.ensures.step; lasts = c.what_stands_lasts.ensures; ends = c.ends_are_told.ensures; begins = opens.session; subscribes = opens.subscription; told = c.steps_are_told.ensures } in
    let adds = c.lines_add_up.ensures in let start = c.steps_keep_sound.ensures.start in
    λ cap g e r. le-next_last laws g e (IsSoundGate-Runs adds start laws cap g r)

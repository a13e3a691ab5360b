use Rattle.iv_gate.proofs.SoundRuns.{AreOver-Runs, SeesViews-Runs}
use Rattle.iv_gate.proofs.SoundCommands.{Sounds}
use Rattle.iv_gate.proofs.laws.clients_see_their_views.Goals as goal

pub returns-clause-views : goal.returns-clause-views
returns-clause-views c =
    let opens = c.requests_open_what_they_name.ensures in
    let laws : Sounds = record { sound = c.steps_keep_sound.ensures.step; lasts = c.what_stands_lasts.ensures; ends = c.ends_are_told.ensures; begins = opens.session; subscribes = opens.subscription; told = c.steps_are_told.ensures } in
    SeesViews-Runs c.lines_add_up.ensures c.steps_keep_sound.ensures.start laws

pub returns-clause-over : goal.returns-clause-over
returns-clause-over c =
    let opens = c.requests_open_what_they_name.ensures in
    let laws : Sounds = record { sound = c.steps_keep_sound.ensures.step; lasts = c.what_stands_lasts.ensures; ends = c.ends_are_told.ensures; begins = opens.session; subscribes = opens.subscription; told = c.steps_are_told.ensures } in
    AreOver-Runs c.lines_add_up.ensures c.steps_keep_sound.ensures.start laws

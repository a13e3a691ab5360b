use Rattle.iv_gate.proofs.ShapeTold.{ShapeIsTold-Runs, ShapeIsBounded-event}
use Rattle.iv_gate.proofs.ShapeRequests.{MakesShape-Runs}
use Rattle.iv_gate.proofs.SoundCommands.{Sounds}
use Rattle.iv_gate.proofs.laws.hearing.the_shape_is_told.Goals as goal

pub returns-clause-told : goal.returns-clause-told
returns-clause-told c =
    let opens = c.requests_open_what_they_name.ensures in
    let laws : Sounds = record { sound = c.steps_keep_sound.ensures.step; lasts = c.what_stands_lasts.ensures; ends = c.ends_are_told.ensures; begins = opens.session; subscribes = opens.subscription; told = c.steps_are_told.ensures } in
    ShapeIsTold-Runs c.lines_add_up.ensures c.steps_keep_sound.ensures.start laws

pub returns-clause-makes : goal.returns-clause-makes
returns-clause-makes c =
    let opens = c.requests_open_what_they_name.ensures in
    let laws : Sounds = record { sound = c.steps_keep_sound.ensures.step; lasts = c.what_stands_lasts.ensures; ends = c.ends_are_told.ensures; begins = opens.session; subscribes = opens.subscription; told = c.steps_are_told.ensures } in
    MakesShape-Runs c.lines_add_up.ensures c.steps_keep_sound.ensures.start laws

pub returns-clause-bounded : goal.returns-clause-bounded
returns-clause-bounded c = ShapeIsBounded-event

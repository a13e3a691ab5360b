use Rattle.iv_gate.proofs.TokensOfClients.{ActsByToken-Runs, LetsIn-Runs}
use Rattle.iv_gate.proofs.SoundCommands.{Sounds}
use Rattle.iv_gate.proofs.laws.hearing.tokens_open_roles.Goals as goal

pub returns-clause-acts : goal.returns-clause-acts
returns-clause-acts c =
    let opens = c.requests_open_what_they_name.ensures in
    let laws : Sounds = record { sound = c.steps_keep_sound.ensures.step; lasts = c.what_stands_lasts.ensures; ends = c.ends_are_told.ensures; begins = opens.session; subscribes = opens.subscription; told = c.steps_are_told.ensures } in
    ActsByToken-Runs c.lines_add_up.ensures c.steps_keep_sound.ensures.start laws

pub returns-clause-comes : goal.returns-clause-comes
returns-clause-comes c =
    let opens = c.requests_open_what_they_name.ensures in
    let laws : Sounds = record { sound = c.steps_keep_sound.ensures.step; lasts = c.what_stands_lasts.ensures; ends = c.ends_are_told.ensures; begins = opens.session; subscribes = opens.subscription; told = c.steps_are_told.ensures } in
    LetsIn-Runs c.lines_add_up.ensures c.steps_keep_sound.ensures.start laws

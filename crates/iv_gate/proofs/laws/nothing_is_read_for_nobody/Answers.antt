use Rattle.iv_gate.proofs.FollowedFeeds.{ReadsForClients-Runs}
use Rattle.iv_gate.proofs.SoundCommands.{Sounds}
use Rattle.iv_gate.proofs.laws.nothing_is_read_for_nobody.Goals as goal

pub returns : goal.returns
returns c =
    let opens = c.requests_open_what_they_name.ensures in
    let laws : Sounds = record { sound = c.steps_keep_sound.ensures.step; lasts = c.what_stands_lasts.ensures; ends = c.ends_are_told.ensures; begins = opens.session; subscribes = opens.subscription; told = c.steps_are_told.ensures } in
    ReadsForClients-Runs c.lines_add_up.ensures c.steps_keep_sound.ensures.start laws

use Rattle.std.proofs.Common.{◌<◌, length, option_map, arith, ◌∙◌, ap, set, sym}
use Rattle.std.proofs.lemmas.Grind.{common_steps}
use Rattle.std.proofs.lemmas.List.Edits.{map_over_more}
use Rattle.iv_clients.specs.Kept.{checking}
use Rattle.iv_hall.proofs.slots.check_all.Goals as goal

pub loop-slot-preserved : goal.loop-slot-preserved
loop-slot-preserved c =
    let lt : c.loop-slot.slot-index < length c.args.clients.now.items = grind (arith, common_steps, c.loop-slot.invariant) in
    ap (set c.loop-slot.slot-items c.loop-slot.slot-index) (c.check_slot.ensures ∙ ap (option_map (checking c.args.tokens.now)) (sym c.slot-item.is))
    ∙ map_over_more (option_map (checking c.args.tokens.now)) c.args.clients.now.items c.loop-slot.slot-items c.loop-slot.slot-index c.slot-item.result lt
    c.loop-slot.invariant c.slot-item.is

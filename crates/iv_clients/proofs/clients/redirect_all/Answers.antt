use Rattle.std.proofs.Common.{◌<◌, length, arith, ◌∙◌, ap, set, sym}
use Rattle.std.proofs.lemmas.Grind.{common_steps}
use Rattle.std.proofs.lemmas.List.Edits.{map_over_more}
use Rattle.iv_clients.specs.Clients.{moved_sub}
use Rattle.iv_clients.proofs.clients.redirect_all.Goals as goal

pub loop-sub-preserved : goal.loop-sub-preserved
loop-sub-preserved c =
    let lt : c.loop-sub.sub-index < length c.args.subs.now.items = grind (arith, common_steps, c.loop-sub.invariant) in
    ap (set c.loop-sub.sub-items c.loop-sub.sub-index) (c.redirect.ensures ∙ ap (moved_sub c.args.from c.args.to) (sym c.sub-item.is))
    ∙ map_over_more (moved_sub c.args.from c.args.to) c.args.subs.now.items c.loop-sub.sub-items c.loop-sub.sub-index c.sub-item.result lt c.loop-sub.invariant c.sub-item.is

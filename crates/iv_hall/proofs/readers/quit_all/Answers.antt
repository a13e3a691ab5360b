use Rattle.std.proofs.Common.{◌≡◌, ◌∙◌, length, take, ap, arith, subst}
use Rattle.std.proofs.Math.Seq.{take-length}
use Rattle.std.specs.Prelude.{◌==◌}
use Rattle.std.specs.List.{list_any}
use Rattle.iv_clients.specs.Clients.{Sub}
use Rattle.iv_hall.specs.Readers.{HasLeft}
use Rattle.iv_hall.proofs.FeedReaders.{HasLeft-next, HasLeft-none}
use Rattle.iv_hall.proofs.readers.quit_all.Goals as goal

pub loop-sub-init : goal.loop-sub-init
loop-sub-init c = HasLeft-none c.args.number c.args.readers.now.items

pub loop-sub-preserved : goal.loop-sub-preserved
loop-sub-preserved c = HasLeft-next c.args.number c.args.subs.now c.loop-sub.sub-index c.sub-item.result c.feed.result c.args.readers.now.items
    c.loop-sub.readers.items c.quit.new.readers.items c.loop-sub-test.true c.sub-item.is c.feed.ensures c.loop-sub.invariant c.quit.ensures

pub returns : goal.returns
returns c =
    let end : c.loop-sub.sub-index ≡ length c.args.subs.now = omega arith in
    subst (λ subs. HasLeft c.args.number (λ k. list_any (λ (s : Sub). k == s.feed) subs) c.args.readers.now.items c.loop-sub.readers.items)
    (ap (λ n. take n c.args.subs.now) end ∙ take-length c.args.subs.now) c.loop-sub.invariant

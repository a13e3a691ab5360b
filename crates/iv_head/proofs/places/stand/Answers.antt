use Rattle.iv_once.specs.Views.{names_of}
use Rattle.iv_head.proofs.Standings.{stood-take_next}
use Rattle.iv_head.proofs.places.stand.Goals as goal

pub loop-standing-preserved : goal.loop-standing-preserved
loop-standing-preserved c =
    stood-take_next (names_of c.args.names.now) (names_of c.loop-standing.names) (names_of c.stand_one.new.names) c.args.standings.now c.loop-standing.standing-index c.standing-item.result
    c.loop-standing-test.true c.standing-item.is c.loop-standing.invariant c.in_ok-stand_one.ensures

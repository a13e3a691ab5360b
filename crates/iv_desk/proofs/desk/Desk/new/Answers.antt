use Rattle.std.proofs.Common.{refl}
use Rattle.iv_desk.specs.Front.{front_at_start}
use Rattle.iv_desk.proofs.DeskStates.{IsDesk-IsBehind, IsBehind-front_at_start}
use Rattle.iv_desk.proofs.desk.Desk.new.Goals as goal

pub returns : goal.returns
returns c = λ g is a.
    IsDesk-IsBehind (front_at_start g c.args.most) _
    (IsBehind-front_at_start g c.args.most c.args.gateway c.in_ok-places.places.items is a c.in_ok-places.ensures) refl

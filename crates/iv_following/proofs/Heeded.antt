-- One more line is heard and heeded.
use Rattle.std.specs.Prelude.{OnOk}
use Rattle.std.proofs.Common.{◌≡◌, Bool, Option, Result, Ok, Err, subst}
use Rattle.iv_gate.specs.Gate.{Log}
use Rattle.iv_door.specs.Talk.{Talk}
use Rattle.iv_following.specs.Following.{HeedsAll, House, IsHeard, one_more}

pub heeds_on : (log now : Option Log) (t u v : Talk) (x y z : House) (is : Bool) → now ≡ log → HeedsAll log t x u y → IsHeard now is u v y z → HeedsAll log t x v z
heeds_on log now t u v x y z is e h k = one_more is u v y z h (subst (λ (l : Option Log). IsHeard l is u v y z) e k)

-- whatever a call answers
pub held : {A E : Type 0} (r : Result A E) (P : Type 0) → P → OnOk r P
held (Ok a) P h = h
held (Err e) P h = tt

use Rattle.std.proofs.Common.{subst}
use Rattle.iv_hall.specs.Waiting.{AreCounted, bytes_waiting}
use Rattle.iv_gateway.proofs.gateway.Gateway.waiting.Goals as goal

pub returns : goal.returns
returns c = λ g is lives. subst (λ z. AreCounted (bytes_waiting z) c.waiting.result) (is.alive lives).clients c.waiting.ensures

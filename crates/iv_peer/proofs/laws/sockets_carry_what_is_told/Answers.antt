use Rattle.iv_peer.proofs.SocketTraffic.{Carries-Lives, IsServer-Lives}
use Rattle.iv_peer.proofs.laws.sockets_carry_what_is_told.Goals as goal

pub returns-clause-carries : goal.returns-clause-carries
returns-clause-carries c = Carries-Lives

pub returns-clause-serves : goal.returns-clause-serves
returns-clause-serves c = IsServer-Lives

use Rattle.std.proofs.Common.{rules}
use Rattle.iv_peer.proofs.HeardFrames.{IsEnded-Text, IsEnded-Other}
use Rattle.iv_peer.proofs.peer.Peer.end_behind.Goals as goal

pub returns-in-Text : goal.returns-in-Text
returns-in-Text c = λ m is. IsEnded-Text m c.in-Text.text c.args.self.now (search rules)

pub returns-in-Other : goal.returns-in-Other
returns-in-Other c = λ m is. IsEnded-Other m c.args.self.now (search rules)

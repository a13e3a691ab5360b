use Rattle.std.proofs.Common.{◌∙◌, sym}
use Rattle.iv_gateway.proofs.HeardMessages.{IsAlive-said, IsAlive-said_unheard, IsSpeaker-speaker_in}
use Rattle.iv_gateway.proofs.gateway.Gateway.listen.Goals as goal

pub returns-in-None : goal.returns-in-None
returns-in-None c = λ g b.
    IsAlive-said_unheard g c.args.client c.args.text.now c.places.result.now _ (c.places.ensures ∙ b.clients) (sym c.in-None.is ∙ c.in_ok-speaker_at.ensures) b

pub returns-in_ok-hear_message-in-Some : goal.returns-in_ok-hear_message-in-Some
returns-in_ok-hear_message-in-Some c = λ g b.
    let w = IsSpeaker-speaker_in g c.args.client c.in-Some.speaker c.places.result.now (c.places.ensures ∙ b.clients)
    (sym c.in-Some.is ∙ c.in_ok-speaker_at.ensures) in
    IsAlive-said g c.args.client c.args.text.now c.in-Some.speaker _ w (c.in_ok-hear_message-in-Some.ensures g w.client b w.there w.same)

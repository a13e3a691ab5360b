use Rattle.std.proofs.Common.{◌∙◌, ap}
use Rattle.iv_clients.specs.Kept.{holding}
use Rattle.iv_hall.proofs.WaitingBytes.{CountsOn-holding}
use Rattle.iv_hall.proofs.hearing.Said.tell.Goals as goal

pub returns-clause-counted : goal.returns-clause-counted
returns-clause-counted c =
    CountsOn-holding c.args.self.now.text.items c.args.client.now c.hold.new.self c.args.self.now.waiting c.raised-self.result c.len.result
    (c.in_ok-hold.ensures ∙ ap (λ z. holding z c.args.client.now) c.deref.ensures.value) (c.len.ensures ∙ c.args.self.now.text.ok.0) c.raised-self.ensures

use Rattle.iv_tokens.specs.Web.{IsWeb}
use Rattle.iv_tokens.proofs.KnownAtSecond.{AreWeb-push}
use Rattle.iv_tokens.proofs.known_tokens.KnownTokens.judge.Goals as goal

pub invariant_of-self-in-Ok : goal.invariant_of-self-in-Ok
invariant_of-self-in-Ok c =
    let w : IsWeb c.deref-2.result.now c.in-Ok.one = rw c.in-Ok.is at c.in_ok-why.ensures.granted in
    rw c.in_ok-push-in-Ok.ensures.items (AreWeb-push _ _ _ c.self.invariant (rw c.deref-2.ensures.value at w))

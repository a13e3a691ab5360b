use Rattle.iv_tokens.proofs.KnownAtSecond.{AreWeb-remove}
use Rattle.iv_tokens.proofs.known_tokens.KnownTokens.forget.Goals as goal

pub invariant_of-self : goal.invariant_of-self
invariant_of-self c = rw c.remove.ensures.items (AreWeb-remove _ _ _ c.self.invariant)

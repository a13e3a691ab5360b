use Rattle.iv_tokens.proofs.KnownAtSecond.{All-IsKnown}
use Rattle.iv_tokens.proofs.known_tokens.KnownTokens.at.Goals as goal

pub returns-clause-known : goal.returns-clause-known
returns-clause-known c = All-IsKnown c.args.now c.args.self.now _ c.in_ok-tokens.tokens.items c.self.view_is c.self.invariant (rw (c.deref-2.ensures.value, c.deref-3.ensures.value) at c.in_ok-tokens.ensures)

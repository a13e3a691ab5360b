use Rattle.std.proofs.Common.{◌≡◌, ◌++◌, take}
use Rattle.iv_tokens.specs.Web.{web_at}
use Rattle.iv_tokens.proofs.known_tokens.push_web.Given as goal

abbrev pub invariant-loop-one : goal.invariant-loop-one
invariant-loop-one l = l.tokens.items ≡ l.fn.tokens.items ++ web_at l.now (take l.one-index l.web)

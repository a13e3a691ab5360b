use Rattle.std.proofs.Common.{◌≡◌, take}
use Rattle.iv_tokens.specs.Web.{web_at}
use Rattle.iv_tokens.proofs.known_tokens.are_web_alike.Given as goal

abbrev pub invariant-loop-one : goal.invariant-loop-one
invariant-loop-one l = web_at l.then (take l.one-index l.web) ≡ web_at l.now (take l.one-index l.web)

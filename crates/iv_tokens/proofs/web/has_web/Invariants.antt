use Rattle.std.proofs.Common.{◌≡◌, drop}
use Rattle.iv_clients.specs.Tokens.{has_digest}
use Rattle.iv_tokens.specs.Web.{web_tokens}
use Rattle.iv_tokens.proofs.web.has_web.Given as goal

abbrev pub invariant-loop-one : goal.invariant-loop-one
invariant-loop-one l = has_digest l.digest (web_tokens (drop l.one-index l.web)) ≡ has_digest l.digest (web_tokens l.web)

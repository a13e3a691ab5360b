use Rattle.std.proofs.Common.{◌≡◌, ◌-◌, drop, length, true}
use Rattle.iv_clients.specs.Tokens.{are_apart}
use Rattle.iv_tokens.specs.Apart.{HasDigestsOf}
use Rattle.iv_tokens.specs.Entries.{tokens_among}
use Rattle.iv_tokens.proofs.apart.are_apart.Given as goal

abbrev pub invariant-loop-back : goal.invariant-loop-back
invariant-loop-back l = let behind = tokens_among (drop (length l.entries - l.back) l.entries) in HasDigestsOf behind l.seen × (are_apart behind ≡ true)

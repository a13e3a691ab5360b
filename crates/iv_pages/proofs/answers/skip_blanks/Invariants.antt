use Rattle.std.proofs.Common.{◌≡◌, drop}
use Rattle.iv_pages.specs.Answer.{skip_blanks}
use Rattle.iv_pages.proofs.answers.skip_blanks.Given as goal

abbrev pub invariant-loop-at : goal.invariant-loop-at
invariant-loop-at l = skip_blanks (drop l.at l.text) ≡ skip_blanks l.text

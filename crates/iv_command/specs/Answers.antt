-- The lines of an answer, or of a refusal.
use Rattle.std.specs.Prelude.{◌≡◌, ℕ, List, [], ◌∷◌, Result, Ok, Err, map}
use Rattle.iv_machine.specs.Act as machine
use Rattle.iv_command.specs.Views.{line_of, refusal_of, reply_of}
use Rattle.iv_command.specs.declared.answer.Answer.{Answer}
use Rattle.iv_command.specs.declared.stop.Stop.{Stop}
use Rattle.iv_command.specs.declared.stop.Stop.TheVariants.{Refused, Memory}

-- the lines of an answer; none of those that are made may stand for want of memory
abbrev pub AreLinesOfAnswer : ℕ → Result Answer Stop → List machine.Line → Type 0
AreLinesOfAnswer n (Ok a) lines = lines ≡ machine.reply n (reply_of a.reply) ∷ map line_of a.changes.items
AreLinesOfAnswer n (Err (Refused r)) lines = lines ≡ machine.reply n (machine.refused (refusal_of r)) ∷ []
AreLinesOfAnswer n (Err Memory) lines = ⊥

-- What a role is told of bytes that a run answers.
use Rattle.std.specs.Prelude.{◌≡◌, ℕ, List, flat_map}
use Rattle.iv_machine.specs.Act.{Command}
use Rattle.iv_machine.specs.Learned.{LooksAlike, StayAlike, told_in}
use Rattle.iv_machine.specs.Sound.{IsSoundState}
use Rattle.iv_machine.specs.State.{State}
use Rattle.iv_lines.specs.Answer.{commands_of, heard}
use Rattle.iv_lines.specs.Texts.{line_text}

-- the commands among the first n lines of the bytes
abbrev pub commands_in : ℕ → List ℕ → List Command
commands_in n bytes = commands_of (heard n bytes).readings

-- of what they are answered, the lines that go to the role's sessions
abbrev pub text_for : (role : ℕ) → State → ℕ → List ℕ → List ℕ
text_for role s n bytes = flat_map line_text (told_in role s (commands_in n bytes))

-- if the states look alike to the role and the commands are answered alike, its sessions are sent the same bytes
abbrev pub BytesTellNothingElse : (role : ℕ) → (s t : State) → ℕ → List ℕ → Type 0
BytesTellNothingElse role s t n bytes = IsSoundState s → LooksAlike role s t → StayAlike role s t (commands_in n bytes)
    → text_for role s n bytes ≡ text_for role t n bytes

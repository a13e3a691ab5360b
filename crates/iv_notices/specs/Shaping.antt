-- For contracts of the code: who is told the shape, and what one hears who comes in.
use Rattle.std.specs.Prelude.{ℕ, ◌++◌, Bool, if◌then◌else◌, List, [], bytes_eq, codes}
use Rattle.iv_access.specs.Rights.{Name}
use Rattle.iv_message.specs.Told.{placed, settled, told_text, welcome}

-- the role is the administrators'
abbrev pub is_admin : Name → Bool
is_admin role = bytes_eq role (codes "admin")

-- what a client of the role is told as it comes in, by the text of the shape
abbrev pub greeting_text : Name → (at shape : List ℕ) → List ℕ
greeting_text role at shape = told_text (welcome role) ++ (told_text (placed at) ++ ((if is_admin role then shape else []) ++ told_text settled))

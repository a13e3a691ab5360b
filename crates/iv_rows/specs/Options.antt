-- A value that need not be there.
use Rattle.std.specs.Prelude.{Option, None, Some}

-- what is made of the value, or b if there is none
abbrev pub if_some : {A B : Type 0} → Option A → B → (A → B) → B
if_some None b f = b
if_some (Some a) b f = f a

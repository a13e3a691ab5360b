-- What is told is one line.
use Rattle.std.specs.Prelude.{◌≡◌, ◌++◌, ◌==◌, ℕ, Bool, true, not, List, [], ◌∷◌}
use Rattle.std.specs.List.{list_all}

-- no byte is a newline
abbrev pub is_clean : List ℕ → Bool
is_clean text = list_all (λ b. not (b == 10)) text

-- one newline, at the end
abbrev pub IsLine : List ℕ → Type 0
IsLine text = (front : List ℕ) × (text ≡ front ++ 10 ∷ []) × (is_clean front ≡ true)

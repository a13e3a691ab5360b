-- A line is told, and its newline.
use Rattle.std.proofs.Common.{◌≡◌, ℕ, List, [], ◌∷◌, ◌++◌, append_assoc, ap, ◌∙◌}

pub line_told : (was told now line : List ℕ) → told ≡ was ++ line → now ≡ told ++ 10 ∷ [] → now ≡ was ++ (line ++ 10 ∷ [])
line_told was told now line h k = k ∙ (ap (λ (z : List ℕ). z ++ 10 ∷ []) h ∙ append_assoc was line (10 ∷ []))

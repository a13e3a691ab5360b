-- Bytes, cut at a byte.
use Rattle.std.specs.Prelude.{ℕ, ◌==◌, if◌then◌else◌, List, [], ◌∷◌, Option, Some, None, option_map}

-- what comes before the first such byte, and after it
abbrev pub cut_at : ℕ → List ℕ → Option (List ℕ × List ℕ)
cut_at b [] = None
cut_at b (x ∷ xs) = if x == b then Some ([], xs) else option_map {U = List ℕ × List ℕ} (λ p. (x ∷ p.0, p.1)) (cut_at b xs)

abbrev pub front_of : List ℕ → Option (List ℕ × List ℕ) → List ℕ
front_of xs None = xs
front_of xs (Some p) = p.0

-- what comes before the first such byte: all, if there is none
abbrev pub before : ℕ → List ℕ → List ℕ
before b xs = front_of xs (cut_at b xs)

abbrev pub begun : ℕ → List (List ℕ) → List (List ℕ)
begun x [] = (x ∷ []) ∷ []
begun x (p ∷ ps) = (x ∷ p) ∷ ps

-- the parts between such bytes: one more than there are of them
abbrev pub parts : ℕ → List ℕ → List (List ℕ)
parts b [] = [] ∷ []
parts b (x ∷ xs) = if x == b then [] ∷ parts b xs else begun x (parts b xs)

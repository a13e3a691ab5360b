-- How two texts of one length differ.
use Rattle.std.specs.Prelude.{ℕ, List, [], ◌∷◌, bit_or, bit_xor}

-- the bits that differ anywhere, with those that were found, by one pass over all bytes
abbrev pub difference : ℕ → List ℕ → List ℕ → ℕ
difference found [] ys = found
difference found (x ∷ xs) [] = found
difference found (x ∷ xs) (y ∷ ys) = difference (bit_or found (bit_xor x y)) xs ys

-- Where texts are cut, and the bytes that digits of a digest are.
use Rattle.std.specs.Prelude.{ℕ, ◌==◌, ◌&&◌, not, Bool, if◌then◌else◌, List, [], ◌∷◌, bytes_eq, drop, length, take, Option, Some, None, option_map, option_and_then, Result, Ok, Err}
use Rattle.hex.specs.declared.error.FromHexError.{FromHexError}

-- what comes before the first such byte, and after it
abbrev pub cut_at : ℕ → List ℕ → Option (List ℕ × List ℕ)
cut_at b [] = None
cut_at b (x ∷ xs) = if x == b then Some ([], xs) else option_map {U = List ℕ × List ℕ} (λ p. (x ∷ p.0, p.1)) (cut_at b xs)

-- what follows a prefix
abbrev pub behind : List ℕ → List ℕ → Option (List ℕ)
behind prefix bytes = if bytes_eq (take (length prefix) bytes) prefix then Some (drop (length prefix) bytes) else None

-- what stands between a prefix and such a byte, and after that
abbrev pub between : List ℕ → ℕ → List ℕ → Option (List ℕ × List ℕ)
between prefix b text = option_and_then (cut_at b) (behind prefix text)

-- what stands before the first quotation mark that no backslash escapes, and after it
abbrev pub cut_quote : Bool → List ℕ → Option (List ℕ × List ℕ)
cut_quote escaped [] = None
cut_quote escaped (x ∷ xs) =
    if not escaped && (x == 34) then Some ([], xs) else option_map {U = List ℕ × List ℕ} (λ p. (x ∷ p.0, p.1)) (cut_quote (not escaped && (x == 92)) xs)

-- what digits of a digest are decoded to, if they are such
abbrev pub decoded : Result (List ℕ) FromHexError → Option (List ℕ)
decoded (Ok digest) = Some digest
decoded (Err e) = None

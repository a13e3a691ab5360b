-- What a cut leaves of the bytes that a disk has.
use Rattle.std.specs.Prelude.{ℕ, List, take, Option, option_map}

-- the first n of known bytes
abbrev pub first_known : ℕ → Option (List ℕ) → Option (List ℕ)
first_known n known = option_map (take n) known

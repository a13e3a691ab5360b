-- JSON in a token (RFC 7519, section 4; RFC 8259).
use Rattle.std.specs.Prelude.{ℕ, ◌+◌, ◌-◌, ◌*◌, ◌&&◌, if◌then◌else◌, List, [], ◌∷◌, nat_le, Option, Some, None, option_and_then}
use Rattle.std.specs.Char.{is_ascii_digit}
use Rattle.std.specs.Str.{is_utf8}
use Rattle.json.specs.Json.{Json, document}
use Rattle.json.specs.Find.{get, as_number, as_str}

-- the value that bytes of UTF-8 are
abbrev pub json_of : List ℕ → Option Json
json_of bytes = if is_utf8 bytes then document bytes else None

-- the text at a key; of a key that comes twice the last value counts
abbrev pub text_at : List ℕ → Json → Option (List ℕ)
text_at key j = option_and_then as_str (get key j)

-- the last second of the year 9999, in seconds since 1970
abbrev pub most_seconds : ℕ
most_seconds = 253402300799

-- the number of decimal digits after those of a number, up to that second
abbrev pub digits_from : ℕ → List ℕ → Option ℕ
digits_from n [] = Some n
digits_from n (b ∷ text) = if is_ascii_digit b && nat_le (n * 10 + (b - 48)) most_seconds then digits_from (n * 10 + (b - 48)) text else None

-- a whole number, with no sign, point or exponent
abbrev pub seconds_of : List ℕ → Option ℕ
seconds_of [] = None
seconds_of (b ∷ text) = digits_from 0 (b ∷ text)

abbrev pub seconds_at : List ℕ → Json → Option ℕ
seconds_at key j = option_and_then seconds_of (option_and_then as_number (get key j))

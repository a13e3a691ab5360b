-- The limits of texts.
use Rattle.std.specs.Prelude.{ℕ}

-- bytes of a text
abbrev pub text_bytes : ℕ
text_bytes = 4096

-- bytes of a word
abbrev pub word_bytes : ℕ
word_bytes = 63

-- words `not` and signs `(` that are open at once
abbrev pub nesting : ℕ
nesting = 32

-- sources of a query
abbrev pub sources : ℕ
sources = 8

-- A gateway's journal with an audit: after a head its lines, and with each request when it was written and who held the token.
use Rattle.std.specs.Prelude.{ℕ, ◌==◌, ◌||◌, Bool, true, if◌then◌else◌, List, [], ◌∷◌, ◌++◌, Option, None, Some, bytes_eq, codes, decimal, flat_map, map, nat_lt, take}
use Rattle.hex.specs.Hex.{encode_lower}
use Rattle.iv_journal.specs.Journal.{Line, head_of}

-- ---- notes

-- when a request was written, in seconds since 1970, and the name of who held the token: none if it has none
pub record Note : Type 0 where
  pub at : ℕ
  pub holder : List ℕ

-- no part of a JSON text as it is (RFC 8259, section 7): a control character, a quotation mark, a reverse solidus
abbrev pub is_escaped : ℕ → Bool
is_escaped b = nat_lt b 32 || ((b == 34) || (b == 92))

-- each by its number, so that no quotation mark is left
abbrev pub escaped_byte : ℕ → List ℕ
escaped_byte b = if is_escaped b then codes "\\u00" ++ encode_lower (b ∷ []) else b ∷ []

abbrev pub escaped : List ℕ → List ℕ
escaped name = flat_map escaped_byte name

-- what comes before a request: `"at":1764489600,"by":"Ann Lee",`
abbrev pub note_text : Note → List ℕ
note_text n = codes "\"at\":" ++ (decimal n.at ++ (codes ",\"by\":\"" ++ (escaped n.holder ++ codes "\",")))

-- it begins as a note does, which no line of a gateway does
abbrev pub is_noted : List ℕ → Bool
is_noted text = bytes_eq (take 5 text) (codes "\"at\":")

-- it is a request's: it begins with the role that made it
abbrev pub is_request : List ℕ → Bool
is_request text = bytes_eq (take 6 text) (codes "\"as\":\"")

-- ---- the journal

-- a line of the gateway, and its note: none if it is no request, or of a journal of the form before
pub record Written : Type 0 where
  pub note : Option Note
  pub line : Line

abbrev pub text_by : Option Note → List ℕ → List ℕ
text_by None text = text
text_by (Some n) text = note_text n ++ text

abbrev pub record_of : Written → Line
record_of w = record { is_last = w.line.is_last; text = text_by w.note w.line.text }

-- what the head says after the form and the epoch
abbrev pub version : List ℕ
version = codes "\"audit\":1}"

abbrev pub head_line : List ℕ → Line
head_line epoch = record { is_last = true; text = head_of epoch version }

abbrev pub audit_of : (epoch : List ℕ) → List Written → List Line
audit_of epoch ws = head_line epoch ∷ map record_of ws

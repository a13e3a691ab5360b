-- A journal as bytes: records of texts, one text a line, each line with a digest of all up to it.
use Rattle.std.specs.Prelude.{ℕ, ◌==◌, ◌&&◌, ◌||◌, not, Bool, true, false, List, [], ◌∷◌, ◌++◌, bytes_eq, codes, drop, length, nat_le, replicate, take}
use Rattle.std.specs.List.{list_any}
use Rattle.hex.specs.Hex.{encode_lower}
use Rattle.sha2.specs.Sha256.{sha256}

-- a text, and whether it is the last of its record: those before it are parts
pub record Line : Type 0 where
  pub is_last : Bool
  pub text : List ℕ

-- ---- lines

-- what a line begins with: a JSON object's brace, and a key that says which it is
abbrev pub mark : Bool → List ℕ
mark true = codes "{\"last\":\""
mark false = codes "{\"part\":\""

-- what a line's digest is of: the digest before it, the mark and the text
abbrev pub message_of : List ℕ → Line → List ℕ
message_of before l = before ++ (mark l.is_last ++ l.text)

-- SHA-256 (FIPS 180-4)
abbrev pub digest_of : List ℕ → Line → List ℕ
digest_of before l = sha256 (message_of before l)

-- the mark, the digest in 64 hexadecimal digits, and the text: a JSON object, if the text is one without its first brace
abbrev pub body_of : List ℕ → Line → List ℕ
body_of before l = mark l.is_last ++ (encode_lower (digest_of before l) ++ (codes "\"," ++ l.text))

abbrev pub bytes_of : List ℕ → List Line → List ℕ
bytes_of before [] = []
bytes_of before (l ∷ ls) = body_of before l ++ 10 ∷ bytes_of (digest_of before l) ls

-- the digest of the last of them
abbrev pub digest_behind : List ℕ → List Line → List ℕ
digest_behind before [] = before
digest_behind before (l ∷ ls) = digest_behind (digest_of before l) ls

-- in place of a digest before the first line
abbrev pub no_digest : List ℕ
no_digest = replicate 32 0

abbrev pub journal_of : List Line → List ℕ
journal_of ls = bytes_of no_digest ls

-- ---- texts

-- no newline, and no zero byte: file systems fill with zeros what was not written
abbrev pub is_plain : List ℕ → Bool
is_plain bytes = not (list_any (λ b. (b == 10) || (b == 0)) bytes)

abbrev pub most_text : ℕ
most_text = 131072

abbrev pub is_text : List ℕ → Bool
is_text text = is_plain text && nat_le (length text) most_text

-- the form of a journal
abbrev pub form : List ℕ
form = codes "\"journal\":1,\"epoch\":\""

-- the first text of a journal: its form, 32 digits that no other journal has, and what its owner says
abbrev pub head_of : List ℕ → List ℕ → List ℕ
head_of epoch more = form ++ (epoch ++ (codes "\"," ++ more))

abbrev pub is_head : List ℕ → Bool
is_head text = bytes_eq (take 21 text) form && bytes_eq (take 2 (drop 53 text)) (codes "\",")

abbrev pub has_head : List Line → Bool
has_head [] = true
has_head (l ∷ ls) = is_head l.text

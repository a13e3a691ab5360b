-- What any bytes are, read as a journal: whole records, and what follows them.
use Rattle.std.specs.Prelude.{◌≡◌, ℕ, ◌+◌, ◌&&◌, ◌||◌, Bool, true, false, if◌then◌else◌, List, [], ◌∷◌, ◌++◌, Option, None, Some}
use Rattle.std.specs.Prelude.{bytes_eq, length, nat_le, take}
use Rattle.std.specs.List.{AllByRecursion}
use Rattle.iv_journal.specs.Journal.{Line, body_of, digest_behind, has_head, is_plain, is_text, journal_of, mark, most_text, no_digest}

-- ---- records

abbrev pub before_whole : Line → List Line → List Line
before_whole l [] = if l.is_last then l ∷ [] else []
before_whole l (m ∷ ms) = l ∷ m ∷ ms

-- the lines of whole records: all up to the last that is the last of one
abbrev pub whole : List Line → List Line
whole [] = []
whole (l ∷ ls) = before_whole l (whole ls)

-- ---- what is no line

abbrev pub begins : List ℕ → List ℕ → Bool
begins rest front = bytes_eq (take (length front) rest) (take (length rest) front)

-- a line that was being written: it begins as one, has no end, no zero byte, and is not longer than the longest
abbrev pub is_torn : List ℕ → Bool
is_torn rest = (begins rest (mark true) || begins rest (mark false)) && (is_plain rest && nat_le (length rest) (75 + most_text))

-- no line after that digest begins the bytes
abbrev pub BeginsNoLine : List ℕ → List ℕ → Type 0
BeginsNoLine before bytes = (l : Line) (after : List ℕ) → is_text l.text ≡ true → bytes ≡ body_of before l ++ 10 ∷ after → ⊥

-- the bytes are these lines and a rest, which does not begin with a further line
pub record Begins (bytes : List ℕ) (ls : List Line) (rest : List ℕ) : Type 0 where
  pub all : bytes ≡ journal_of ls ++ rest
  pub texts : AllByRecursion (λ l. is_text l.text ≡ true) ls
  pub furthest : BeginsNoLine (digest_behind no_digest ls) rest

-- ---- readings

-- the lines of its whole records, and the byte where what belongs to no journal begins
pub record Reading : Type 0 where
  pub lines : List Line
  pub fault : Option ℕ

-- a first line of another form, or a rest that is not torn
abbrev pub fault_of : List Line → List ℕ → Option ℕ
fault_of ls rest = if has_head ls then (if is_torn rest then None else Some (length (journal_of ls))) else Some 0

-- Without a fault, what follows the whole records is cut: parts of a record that has no last line, and a torn line. A damaged newline
-- of the last line alone looks as a torn line does; a file that was cut after a whole record, as a shorter journal.
pub record IsReading (bytes : List ℕ) (r : Reading) : Type 0 where
  pub lines : List Line
  pub rest : List ℕ
  pub begins : Begins bytes lines rest
  pub whole : r.lines ≡ whole lines
  pub fault : r.fault ≡ fault_of lines rest

-- What is so of every journal, and of every bytes.
use Rattle.std.specs.Prelude.{◌≡◌, ◌⊎◌, ◌==◌, ℕ, suc, ◌<◌, ◌≤◌, true, false, List, ◌∷◌, ◌++◌, drop, length, take, None, Some}
use Rattle.std.specs.List.{AllByRecursion, list_any}
use Rattle.sha2.specs.Sha256.{sha256}
use Rattle.iv_journal.specs.Journal.{Line, body_of, bytes_of, digest_behind, has_head, is_text, journal_of, message_of, no_digest}
use Rattle.iv_journal.specs.Reading.{BeginsNoLine, IsReading, Reading, is_torn, whole}

-- any bytes have one reading
pub record HasOneReading (bytes : List ℕ) : Type 0 where
  pub reading : Reading
  pub is : IsReading bytes reading
  pub only : (r : Reading) → IsReading bytes r → r ≡ reading

-- what belongs to no journal: a first line of another form, or after lines neither a further one nor a torn one
abbrev pub IsDamage : List Line → List ℕ → ℕ → Type 0
IsDamage ls rest byte = ((byte ≡ 0) × (has_head ls ≡ false))
    ⊎ ((byte ≡ length (journal_of ls)) × (is_torn rest ≡ false) × BeginsNoLine (digest_behind no_digest ls) rest)

-- the bytes are the lines that are read, parts of a record without its last line, and a rest: it is torn, or damage at the byte of the fault
pub record IsTold (bytes : List ℕ) (r : Reading) : Type 0 where
  pub parts : List Line
  pub rest : List ℕ
  pub all : bytes ≡ journal_of (r.lines ++ parts) ++ rest
  pub texts : AllByRecursion (λ l. is_text l.text ≡ true) (r.lines ++ parts)
  pub unfinished : AllByRecursion (λ l. l.is_last ≡ false) parts
  pub torn : r.fault ≡ None → is_torn rest ≡ true
  pub damaged : (byte : ℕ) → r.fault ≡ Some byte → IsDamage (r.lines ++ parts) rest byte

-- after as many bytes of a line is its text, and one newline ends it
pub record HasItsText (before : List ℕ) (l : Line) : Type 0 where
  pub text : drop 75 (body_of before l) ≡ l.text
  pub one : is_text l.text ≡ true → list_any (λ b. b == 10) (body_of before l) ≡ false

-- lines with a head, each with a text
pub record IsJournal (ls : List Line) : Type 0 where
  pub head : has_head ls ≡ true
  pub texts : AllByRecursion (λ l. is_text l.text ≡ true) ls

-- of a journal that has these bytes left: the lines that are all within them, without those of an unfinished record, and no fault
pub record IsCut (ls : List Line) (left : ℕ) (r : Reading) : Type 0 where
  pub count : ℕ
  pub within : length (journal_of (take count ls)) ≤ left
  pub most : count < length ls → left < length (journal_of (take (suc count) ls))
  pub lines : r.lines ≡ whole (take count ls)
  pub faultless : r.fault ≡ None

abbrev pub CutsAreFronts : Type 0
CutsAreFronts = (ls : List Line) (left : ℕ) (r : Reading) → IsJournal ls → IsReading (take left (journal_of ls)) r → IsCut ls left r

-- lines after lines are written from the digest where these end
pub record GoesOn (ls ms : List Line) : Type 0 where
  pub bytes : journal_of (ls ++ ms) ≡ journal_of ls ++ bytes_of (digest_behind no_digest ls) ms
  pub digest : digest_behind no_digest (ls ++ ms) ≡ digest_behind (digest_behind no_digest ls) ms

-- a line's digest is of these bytes
pub record IsDigested (ls : List Line) (bytes : List ℕ) : Type 0 where
  pub before : List Line
  pub line : Line
  pub after : List Line
  pub lines : ls ≡ before ++ line ∷ after
  pub message : bytes ≡ message_of (digest_behind no_digest before) line

-- two messages have one digest
pub record Collide (ls ms : List Line) : Type 0 where
  pub one : List ℕ
  pub other : List ℕ
  pub of_one : IsDigested ls one
  pub of_other : IsDigested ms other
  pub differ : one ≡ other → ⊥
  pub digests : sha256 one ≡ sha256 other

-- a message has the digest that comes before the first line
pub record IsZero (ls : List Line) : Type 0 where
  pub of_zero : List ℕ
  pub is : IsDigested ls of_zero
  pub digest : sha256 of_zero ≡ no_digest

-- the last digest tells all lines: two journals have one only if they are the same, or messages of theirs collide. So lines of which one was
-- lost, doubled, exchanged or taken from another journal have no digest that their next line goes on from
abbrev pub DigestsTell : Type 0
DigestsTell = (ls ms : List Line) → digest_behind no_digest ls ≡ digest_behind no_digest ms
    → (ls ≡ ms) ⊎ Collide ls ms ⊎ IsZero ls ⊎ IsZero ms

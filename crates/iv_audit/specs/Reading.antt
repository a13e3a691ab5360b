-- Which lines of a journal are the gateway's.
use Rattle.std.specs.Prelude.{◌≡◌, ◌⊎◌, ℕ, ◌+◌, ◌==◌, Bool, true, false, if◌then◌else◌, List, [], ◌∷◌, ◌++◌, Option, None, Some, bytes_eq, drop, length, map, option_map, take}
use Rattle.std.specs.List.{AllByRecursion, list_any, sum_by}
use Rattle.iv_journal.specs.Journal.{Line, journal_of, is_text, mark}
use Rattle.iv_journal.specs.Reading.{IsReading, Reading}
use Rattle.iv_journal.specs.Ends.{AreEnded}
use Rattle.iv_audit.specs.Audit.{is_noted, version}
use Rattle.iv_audit.specs.declared.reading.Audit.{Audit}
use Rattle.iv_audit.specs.declared.reading.Plain.{Plain}

-- what follows the first of that byte
abbrev pub behind_first : ℕ → List ℕ → List ℕ
behind_first b [] = []
behind_first b (x ∷ xs) = if x == b then xs else behind_first b xs

-- a text without its note
abbrev pub text_in : List ℕ → List ℕ
text_in text = if is_noted text then drop 1 (behind_first 34 (drop 5 (behind_first 34 (drop 5 text)))) else text

abbrev pub line_in : Line → Line
line_in l = record { is_last = l.is_last; text = text_in l.text }

-- the gateway's lines among those of a journal: all after the head, without notes
abbrev pub given_in : List Line → List Line
given_in ls = map line_in (drop 1 ls)

-- the head says that the texts may have notes
abbrev pub is_audit : List Line → Bool
is_audit [] = true
is_audit (l ∷ ls) = bytes_eq (drop 55 l.text) version

-- the digits of the head
abbrev pub epoch_of : List Line → Option (List ℕ)
epoch_of [] = None
epoch_of (l ∷ ls) = Some (take 32 (drop 21 l.text))

-- the bytes of each line that has its end, without the end
abbrev pub ended_lines : (line bytes : List ℕ) → List (List ℕ)
ended_lines line [] = []
ended_lines line (b ∷ bytes) = if b == 10 then line ∷ ended_lines [] bytes else ended_lines (line ++ b ∷ []) bytes

-- a line of a journal, by its bytes: without its mark and its digest
abbrev pub line_of : List ℕ → Line
line_of body = record { is_last = bytes_eq (take 9 body) (mark true); text = drop 75 body }

-- the gateway's lines among those that bytes have
abbrev pub lines_in : List ℕ → List Line
lines_in bytes = given_in (map line_of (ended_lines [] bytes))

-- the last byte ends a line
abbrev pub ends_line : List ℕ → Bool
ends_line [] = false
ends_line (b ∷ []) = b == 10
ends_line (b ∷ c ∷ bytes) = ends_line (c ∷ bytes)

-- ---- what is read

-- the bytes are a journal of this form, whose whole records end there, and have these lines of the gateway
pub record IsAudit (bytes : List ℕ) (a : Audit) : Type 0 where
  pub lines : List Line
  pub reading : IsReading bytes (record { lines = lines; fault = None })
  pub form : is_audit lines ≡ true
  pub epoch : option_map (λ e. e.now) a.epoch ≡ epoch_of lines
  pub ended : AreEnded lines a.end
  pub texts : AllByRecursion (λ l. is_text l.text ≡ true) lines
  pub front : take a.end.length bytes ≡ journal_of lines
  pub given : a.lines.items ≡ given_in lines

-- they are damaged at this byte, or are a journal of another form
pub record IsDamaged (bytes : List ℕ) (place : ℕ) : Type 0 where
  pub reading : Reading
  pub is : IsReading bytes reading
  pub why : (reading.fault ≡ Some place) ⊎ ((place ≡ 0) × (is_audit reading.lines ≡ false))

-- ---- the form before

-- an object without its first brace; nothing if it begins with none
abbrev pub plain_text : List ℕ → List ℕ
plain_text [] = []
plain_text (b ∷ line) = if b == 123 then line else []

-- each line is an object
abbrev pub plain_line : List ℕ → Line
plain_line line = record { is_last = true; text = plain_text line }

-- these are its lines, which have so many bytes with their ends, and after them is none that has its end
pub record IsPlain (bytes : List ℕ) (p : Plain) : Type 0 where
  pub lines : p.lines.items ≡ map plain_line (ended_lines [] bytes)
  pub rest : list_any (λ b. b == 10) (drop p.length bytes) ≡ false
  pub length : p.length ≡ sum_by (λ line. length line + 1) (ended_lines [] bytes)

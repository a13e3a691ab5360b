-- What is so of every journal with an audit.
use Rattle.std.specs.Prelude.{◌≡◌, ℕ, ◌≤◌, ◌<◌, ◌^◌, true, false, List, [], ◌∷◌, ◌++◌, Option, None, IfSome, length, map, take}
use Rattle.std.specs.List.{AllByRecursion}
use Rattle.iv_journal.specs.Journal.{Line, digest_behind, is_text, journal_of, no_digest}
use Rattle.iv_journal.specs.Reading.{IsReading, Reading, whole}
use Rattle.iv_audit.specs.Audit.{Written, audit_of, head_line, is_noted, record_of}
use Rattle.iv_audit.specs.Reading.{ends_line, given_in, line_in, lines_in}
use Rattle.iv_audit.specs.Writing.{GoesOnWith}
use Rattle.iv_audit.specs.declared.writing.Share.{Share}

-- a line with a second that a clock tells, short enough to be a text
pub record IsWritten (w : Written) : Type 0 where
  pub line : is_noted w.line.text ≡ false
  pub text : is_text (record_of w).text ≡ true
  pub at : IfSome w.note (λ n. n.at < 2 ^ 64)

-- 32 digits, which make a text of the head
pub record IsHead (epoch : List ℕ) : Type 0 where
  pub digits : length epoch ≡ 32
  pub text : is_text (head_line epoch).text ≡ true

-- whatever the holder's name is: it ends no note, and begins no line
abbrev pub TextsKeepLines : Type 0
TextsKeepLines = (w : Written) → IsWritten w → line_in (record_of w) ≡ w.line

abbrev pub given : List Written → List Line
given ws = map (λ w. w.line) ws

-- of a journal that has these bytes left: the gateway's first lines, of whole records, of all that are whole within them, and no fault
pub record IsFront (epoch : List ℕ) (ws : List Written) (left : ℕ) (r : Reading) : Type 0 where
  pub count : ℕ
  pub lines : given_in r.lines ≡ whole (take count (given ws))
  pub all : (n : ℕ) → n ≤ length ws → length (journal_of (audit_of epoch (take n ws))) ≤ left → n ≤ count
  pub faultless : r.fault ≡ None

abbrev pub CutsAreFronts : Type 0
CutsAreFronts = (epoch : List ℕ) (ws : List Written) (left : ℕ) (r : Reading) → IsHead epoch → AllByRecursion IsWritten ws
    → IsReading (take left (journal_of (audit_of epoch ws))) r → IsFront epoch ws left r

-- the gateway's lines among those of a journal are those after its head
abbrev pub BytesHaveLines : Type 0
BytesHaveLines = (ls : List Line) → AllByRecursion (λ l. is_text l.text ≡ true) ls → lines_in (journal_of ls) ≡ given_in ls

-- after whole lines comes what a writer makes of these lines of the gateway: the gateway's lines go on by them; if only the first bytes of it
-- are there, by the first of them
pub record IsLonger (before : List ℕ) (given : List Line) (out : List ℕ) : Type 0 where
  pub whole : lines_in (before ++ out) ≡ lines_in before ++ given
  pub torn : (n : ℕ) → (m : ℕ) × (m ≤ length given) × (lines_in (before ++ take n out) ≡ lines_in before ++ take m given)
  pub ended : ends_line (before ++ out) ≡ true

abbrev pub BytesGoOn : Type 0
BytesGoOn = (before : List ℕ) (at : Option ℕ) (shares : List Share) (given : List Line) (digest after out : List ℕ) → ends_line before ≡ true
    → IfSome at (λ t. t < 2 ^ 64) → GoesOnWith at shares given digest after [] out → IsLonger before given out

-- after a journal that has a head it makes the longer journal
pub record IsLongerJournal (ls : List Line) (after out : List ℕ) : Type 0 where
  pub more : List Line
  pub journal : journal_of ls ++ out ≡ journal_of (ls ++ more)
  pub digest : after ≡ digest_behind no_digest (ls ++ more)
  pub texts : AllByRecursion (λ l. is_text l.text ≡ true) (ls ++ more)

abbrev pub JournalsGoOn : Type 0
JournalsGoOn = (ls : List Line) (at : Option ℕ) (shares : List Share) (given : List Line) (after out : List ℕ)
    → AllByRecursion (λ l. is_text l.text ≡ true) ls → GoesOnWith at shares given (digest_behind no_digest ls) after [] out → IsLongerJournal ls after out

pub record GoOn : Type 0 where
  pub bytes : BytesGoOn
  pub journals : JournalsGoOn
  pub ended : (head : Line) (ls : List Line) → ends_line (journal_of (head ∷ ls)) ≡ true

-- For contracts of the code: what is written of a gateway's lines, and whose they are.
use Rattle.std.specs.Prelude.{◌≡◌, ℕ, ◌+◌, true, false, if◌then◌else◌, List, [], ◌∷◌, ◌++◌, Option, None, map, nat_lt, option_map, string_bytes}
use Rattle.std.specs.List.{AllByRecursion}
use Rattle.iv_journal.specs.Journal.{Line, bytes_of, digest_behind, is_text, journal_of}
use Rattle.iv_audit.specs.Audit.{Note, Written, head_line, is_noted, is_request, record_of}
use Rattle.iv_audit.specs.Reading.{lines_in}
use Rattle.iv_audit.specs.declared.writing.Share.{Share}

-- who held the token of line n: shares tell up to which line they are of one holder
abbrev pub holder_at : List Share → ℕ → List ℕ
holder_at [] n = []
holder_at (s ∷ ss) n = if nat_lt n s.end then string_bytes s.holder else holder_at ss n

-- a request has a note, if there is a second
abbrev pub note_by : Option ℕ → (holder text : List ℕ) → Option Note
note_by at holder text = if is_request text then option_map (λ t. record { at = t; holder = holder }) at else None

-- lines with their notes; the first one is line n
abbrev pub noted_from : (at : Option ℕ) (shares : List Share) (n : ℕ) → List Line → List Written
noted_from at shares n [] = []
noted_from at shares n (l ∷ ls) = record { note = note_by at (holder_at shares n) l.text; line = l } ∷ noted_from at shares (n + 1) ls

-- a line was appended, which leads from one digest to another
pub record IsPushed (line : Line) (before after was now : List ℕ) : Type 0 where
  pub bytes : now ≡ was ++ bytes_of before (line ∷ [])
  pub digest : after ≡ digest_behind before (line ∷ [])
  pub is : is_text line.text ≡ true

-- lines were, each with its note
pub record GoesOnBy (ws : List Written) (before after was now : List ℕ) : Type 0 where
  pub bytes : now ≡ was ++ bytes_of before (map record_of ws)
  pub digest : after ≡ digest_behind before (map record_of ws)
  pub texts : AllByRecursion (λ (w : Written). is_text (record_of w).text ≡ true) ws

-- a gateway's lines were, none of which begins as a note does
pub record GoesOnWith (at : Option ℕ) (shares : List Share) (lines : List Line) (before after was now : List ℕ) : Type 0 where
  pub are : AllByRecursion (λ l. is_noted l.text ≡ false) lines
  pub goes : GoesOnBy (noted_from at shares 0 lines) before after was now

-- a journal of these lines
pub record IsAnew (epoch : List ℕ) (lines : List Line) (now : List ℕ) : Type 0 where
  pub journal : now ≡ journal_of (head_line epoch ∷ lines)
  pub same : lines_in now ≡ lines

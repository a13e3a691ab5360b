-- What a disk keeps of what a gateway gave its journal.
use Rattle.std.specs.Prelude.{◌≡◌, ℕ, Bool, true, List, [], ◌∷◌, Option, None, Some, option_map}
use Rattle.std.specs.List.{AllByRecursion}
use Rattle.std.specs.Io.KnownBytes.{Appends}
use Rattle.iv_journal.specs.Journal.{Line, digest_behind, is_text, journal_of, no_digest}
use Rattle.iv_audit.specs.Reading.{ends_line, lines_in}
use Rattle.iv_audit.specs.Writing.{GoesOnWith}
use Rattle.iv_audit.specs.declared.writing.Share.{Share}

-- the gateway's lines among those of a disk
abbrev pub given_to : Option (List ℕ) → Option (List Line)
given_to held = option_map lines_in held

-- a journal of a head and more, whose last digest is this
pub record IsJournalTo (digest bytes : List ℕ) : Type 0 where
  pub head : Line
  pub lines : List Line
  pub journal : bytes ≡ journal_of (head ∷ lines)
  pub ends : digest ≡ digest_behind no_digest (head ∷ lines)
  pub texts : AllByRecursion (λ l. is_text l.text ≡ true) (head ∷ lines)

-- its last byte ends a line, if it tells its bytes
abbrev pub is_whole : Option (List ℕ) → Bool
is_whole None = true
is_whole (Some bytes) = ends_line bytes

-- it goes on by the lines that were given, each request with a note of the second and of its holder
pub record GoesOnNoted (second : ℕ) (shares : List Share) (given : List Line) (before after : List ℕ) (old new : Option (List ℕ)) : Type 0 where
  pub text : List ℕ
  pub records : GoesOnWith (Some second) shares given before after [] text
  pub appended : Appends old new text

-- Where lines end, as the code has it.
use Rattle.std.specs.Prelude.{◌≡◌, List, length}
use Rattle.iv_journal.specs.Journal.{Line, digest_behind, journal_of, no_digest}
use Rattle.iv_journal.specs.declared.reading.End.{End}

pub record AreEnded (ls : List Line) (end : End) : Type 0 where
  pub lines : end.lines ≡ length ls
  pub length : end.length ≡ length (journal_of ls)
  pub digest : end.digest ≡ digest_behind no_digest ls

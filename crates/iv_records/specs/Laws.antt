-- What is so of every journal as texts, and of names.
use Rattle.std.specs.Prelude.{◌≡◌, ℕ, List, ◌++◌, Some, true}
use Rattle.std.specs.Str.{is_utf8}
use Rattle.iv_rows.specs.Names.{is_name}
use Rattle.iv_journal.specs.Journal.{Line}
use Rattle.iv_records.specs.Journal.{Entry, IsEntry, claim_said, record_of, texts_of}
use Rattle.iv_records.specs.Names.{Claim, holder_of, is_count, is_epoch, is_random}
use Rattle.iv_records.specs.Parsed.{record_in}

-- ---- the journal

-- lines begin with the record of an entry
pub record Begins (ls : List Line) (e : Entry) (rest : List Line) : Type 0 where
  pub entry : IsEntry e
  pub lines : ls ≡ record_of (texts_of e) ++ rest

-- what is read is what was written, and what was written is read
abbrev pub ReadsBack : Type 0
ReadsBack = (ls : List Line) (e : Entry) (rest : List Line)
    → (record_in ls ≡ Some (e, rest) → Begins ls e rest) × (Begins ls e rest → record_in ls ≡ Some (e, rest))

-- ---- names

-- a name and a place as the journal has them
pub record IsClaim (k : Claim) : Type 0 where
  pub name : is_random k.name ≡ true
  pub epoch : is_epoch k.at.epoch ≡ true
  pub count : is_count k.at.count ≡ true

-- what a client says by a name is such a claim
abbrev pub ClaimsAreWell : Type 0
ClaimsAreWell = (text : List ℕ) (k : Claim) → claim_said text ≡ Some k → IsClaim k

-- whose names are is text
abbrev pub HoldersAreText : Type 0
HoldersAreText = (role user : List ℕ) → is_name role ≡ true → is_utf8 (holder_of role user) ≡ true

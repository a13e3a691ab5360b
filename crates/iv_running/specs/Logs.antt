-- What a journal says of the log that it follows, and what is recalled of it.
use Rattle.std.specs.Prelude.{◌≡◌, ℕ, ◌==◌, if◌then◌else◌, List, [], ◌∷◌, ◌++◌, flat_map, length, None, Some}
use Rattle.std.specs.List.{AllByRecursion}
use Rattle.iv_rows.specs.Options.{if_some}
use Rattle.iv_journal.specs.Journal.{Line}
use Rattle.iv_journal.specs.Reading.{IsReading}
use Rattle.iv_audit.specs.Audit.{is_request}
use Rattle.iv_audit.specs.Reading.{given_in, lines_in}
use Rattle.iv_head.specs.Begun.{Begun, begun_in, lines_of, log_in}
use Rattle.iv_clients.specs.Tokens.{Token}
use Rattle.iv_host.specs.Beginning.{head_with}
use Rattle.iv_desk.specs.declared.desk.Desk.{Desk}
use Rattle.iv_running.specs.Running.{IsBack}
use Rattle.iv_records.specs.Journal.{Entry, IsEntry, Request, journal_of, request_text, requests_in}
use Rattle.iv_running.specs.declared.logs.Follows.{Follows}
use Rattle.iv_running.specs.declared.logs.Follows.TheVariants.{Itself, Log, Nothing}

-- the gateway's lines in the whole records of a journal of these bytes
pub record HasLines (bytes : List ℕ) (given : List Line) : Type 0 where
  pub lines : List Line
  pub reading : IsReading bytes (record { lines = lines; fault = None })
  pub are : given ≡ given_in lines

-- a desk is where the journal that bytes are leads, with what that says before its first entry at its head
pub record IsComeBack (cap : ℕ) (tokens : List Token) (bytes : List ℕ) (x : Desk) : Type 0 where
  pub given : List Line
  pub lines : HasLines bytes given
  pub epoch : List ℕ
  pub back : IsBack cap tokens (head_with epoch (begun_in given).0) (begun_in given).1 x

-- they follow the log that the first of them says; else nothing, if there is none, or themselves
abbrev pub follows_of : List Line → Follows
follows_of ls = if_some (log_in ls) (if length ls == 0 then Nothing else Itself) (λ f. Log f)

-- a log from its beginning on
abbrev pub from_start : (name epoch : List ℕ) → Begun
from_start name epoch = record { log = Some (record { name = name; epoch = epoch; position = 0 }); standings = [] }

-- bytes of a journal that follows the log from its beginning on, and has nothing else
abbrev pub BeginsLog : (name epoch bytes : List ℕ) → Type 0
BeginsLog name epoch bytes = begun_in (lines_in bytes) ≡ (from_start name epoch, [])

-- ---- what is recalled

-- a text of a journal as a line of its own, if it is a request
abbrev pub recalled_by : List ℕ → List ℕ
recalled_by text = if is_request text then 123 ∷ (text ++ 10 ∷ []) else []

-- the requests that lines have, as objects of JSON, each with a newline
abbrev pub recalled_in : List Line → List ℕ
recalled_in ls = flat_map (λ l. recalled_by l.text) ls

abbrev pub request_line : Request → List ℕ
request_line q = 123 ∷ (request_text q ++ 10 ∷ [])

-- of a journal these are the requests of its entries, in their order, and nothing else, whatever it says before them
abbrev pub RecallsRequests : Type 0
RecallsRequests = (b : Begun) (es : List Entry) → recalled_in (lines_of b ++ journal_of es) ≡ flat_map request_line (requests_in es)

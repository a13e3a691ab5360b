-- What a journal says between its head and its first entry.
use Rattle.std.specs.Prelude.{◌≡◌, ℕ, ◌&&◌, true, false, if◌then◌else◌, List, [], ◌∷◌, ◌++◌, bytes_eq, codes, decimal, drop, length, map, Option, None, IfSome, is_some, option_and_then, option_map}
use Rattle.std.specs.List.{AllByRecursion}
use Rattle.std.specs.Str.{is_utf8}
use Rattle.serde_json.specs.Data.{string}
use Rattle.serde_json.specs.Written.{compact_text}
use Rattle.iv_rows.specs.Options.{if_some}
use Rattle.iv_request.specs.Request.{passing}
use Rattle.iv_journal.specs.Journal.{Line}
use Rattle.iv_once.specs.Names.{Known, Place, begun}
use Rattle.iv_records.specs.Journal.{Entry, IsEntry, journal_of}
use Rattle.iv_records.specs.Cuts.{behind, between, cut_at, cut_quote}
use Rattle.iv_records.specs.Names.{count_in, is_count, is_epoch, place_text}
use Rattle.iv_records.specs.Parsed.{string_in}

-- where names of a holder stand: the epoch, and how many came before those that follow
pub record Standing : Type 0 where
  pub holder : List ℕ
  pub at : Place

-- a log that is followed, by its name and epoch, and where it stood
pub record Followed : Type 0 where
  pub name : List ℕ
  pub epoch : List ℕ
  pub position : ℕ

pub record Begun : Type 0 where
  pub log : Option Followed
  pub standings : List Standing

-- ---- lines

-- JSON objects without their first brace
abbrev pub standing_text : Standing → List ℕ
standing_text s = codes "\"holder\":" ++ (compact_text (string s.holder) ++ (codes ",\"at\":\"" ++ (place_text s.at ++ codes "\"}")))

abbrev pub log_text : Followed → List ℕ
log_text f = codes "\"log\":" ++ (compact_text (string f.name) ++ (codes ",\"epoch\":\"" ++ (f.epoch ++ (codes "\",\"step\":" ++ (decimal f.position ++ codes "}")))))

-- each is a record of its own
abbrev pub line : List ℕ → Line
line text = record { is_last = true; text = text }

abbrev pub lines_of : Begun → List Line
lines_of b = if_some b.log [] (λ f. line (log_text f) ∷ []) ++ map (λ s. line (standing_text s)) b.standings

-- ---- what is read

abbrev pub epoch_in : List ℕ → Option (List ℕ)
epoch_in text = passing is_epoch text

abbrev pub place_by : List ℕ × List ℕ → Option Place
place_by p = option_and_then (λ epoch. option_map (λ count. record { epoch = epoch; count = count }) (count_in p.1)) (epoch_in p.0)

-- `EPOCH.COUNT`
abbrev pub place_in : List ℕ → Option Place
place_in text = option_and_then place_by (cut_at 46 text)

-- what a member says between quotation marks, and what follows these
abbrev pub member_in : List ℕ → List ℕ → Option (List ℕ × List ℕ)
member_in key text = option_and_then (cut_quote false) (behind key text)

abbrev pub standing_with : (holder : List ℕ) → List ℕ × List ℕ → Option Standing
standing_with holder p = option_and_then (λ at. option_map (λ h. record { holder = h; at = at }) (string_in holder)) (place_in p.0)

abbrev pub standing_parts : List ℕ × List ℕ → Option Standing
standing_parts p = option_and_then (standing_with p.0) (between (codes ",\"at\":\"") 34 p.1)

abbrev pub said_standing : List ℕ → Option Standing
said_standing text = option_and_then standing_parts (member_in (codes "\"holder\":\"") text)

-- it is read if it is written so
abbrev pub standing_in : List ℕ → Option Standing
standing_in text = option_and_then (passing (λ s. bytes_eq (standing_text s) text)) (said_standing text)

abbrev pub log_with : (name epoch : List ℕ) → List ℕ × List ℕ → Option Followed
log_with name epoch p =
    option_and_then (λ e. option_and_then (λ position. option_map (λ n. record { name = n; epoch = e; position = position }) (string_in name)) (count_in p.0)) (epoch_in epoch)

abbrev pub log_behind : (name : List ℕ) → List ℕ × List ℕ → Option Followed
log_behind name e = option_and_then (log_with name e.0) (between (codes ",\"step\":") 125 e.1)

abbrev pub log_parts : List ℕ × List ℕ → Option Followed
log_parts n = option_and_then (log_behind n.0) (between (codes ",\"epoch\":\"") 34 n.1)

abbrev pub said_log : List ℕ → Option Followed
said_log text = option_and_then log_parts (member_in (codes "\"log\":\"") text)

abbrev pub followed_in : List ℕ → Option Followed
followed_in text = option_and_then (passing (λ f. bytes_eq (log_text f) text)) (said_log text)

-- where names stand that the first lines say, as far as they do
abbrev pub standings_in : List Line → List Standing
standings_in [] = []
standings_in (l ∷ ls) = if l.is_last then if_some (standing_in l.text) [] (λ s. s ∷ standings_in ls) else []

abbrev pub log_in : List Line → Option Followed
log_in [] = None
log_in (l ∷ ls) = if l.is_last then followed_in l.text else None

-- what lines say before the first entry, and the lines after that
abbrev pub begun_in : List Line → Begun × List Line
begun_in ls = let log = log_in ls in let rest = if is_some log then drop 1 ls else ls in let standings = standings_in rest in
    (record { log = log; standings = standings }, drop (length standings) rest)

-- ---- the law

-- holders and names are text, epochs have 32 digits, and numbers 64 bits
abbrev pub IsStanding : Standing → Type 0
IsStanding s = (is_utf8 s.holder && (is_epoch s.at.epoch && is_count s.at.count)) ≡ true

abbrev pub IsFollowed : Followed → Type 0
IsFollowed f = (is_utf8 f.name && (is_epoch f.epoch && is_count f.position)) ≡ true

pub record IsBegun (b : Begun) : Type 0 where
  pub log : IfSome b.log IsFollowed
  pub standings : AllByRecursion IsStanding b.standings

-- no line says where names stand, or which log is followed
abbrev pub SaysNothing : List Line → Type 0
SaysNothing ls = (log_in ls ≡ None) × (standings_in ls ≡ [])

-- it is read back, whatever follows that says nothing of it, as entries do; and what is read was written so
pub record IsReadBack : Type 0 where
  pub back : (b : Begun) (ls : List Line) → IsBegun b → SaysNothing ls → begun_in (lines_of b ++ ls) ≡ (b, ls)
  pub entries : (es : List Entry) → AllByRecursion IsEntry es → SaysNothing (journal_of es)
  pub written : (ls : List Line) → ls ≡ lines_of (begun_in ls).0 ++ (begun_in ls).1

-- ---- what is known of names

abbrev pub stood : Known → List Standing → Known
stood k [] = k
stood k (s ∷ ss) = stood (begun k s.holder s.at.epoch s.at.count) ss

-- What a keeper of a log says to a gateway that follows it: lines, byte for byte.
use Rattle.std.specs.Prelude.{ℕ, ◌==◌, ◌&&◌, ◌||◌, not, Bool, true, List, ◌∷◌, ◌++◌, bytes_eq, codes, decimal, length, nat_le, nat_lt, take}
use Rattle.std.specs.List.{list_all}
use Rattle.iv_records.specs.Journal.{position_text}
use Rattle.iv_records.specs.Names.{is_count, is_epoch}

-- a log by its name, and which beginning of it
pub record Log : Type 0 where
  pub name : List ℕ
  pub epoch : List ℕ

-- it begins a log, or goes on with one; asks what is held; brings a text of the step that is under way, or ends that step, from one position to
-- another; says that clients may come in, or that nobody may; that the gateway leads from here on; and up to where it has what that decided
pub data Said : Type 0 where
  begins : Log → Said
  goes_on : Log → Said
  recalls : Said
  brings : (text : List ℕ) → Said
  ends : (from to : ℕ) → Said
  opens : Said
  shuts : Said
  leads : Said
  keeps : (position : ℕ) → Said

-- ---- lines

abbrev pub log_line : (front : List ℕ) → Log → List ℕ
log_line front l = front ++ (l.name ++ (codes "\",\"epoch\":\"" ++ (l.epoch ++ codes "\"}")))

abbrev pub line_of : Said → List ℕ
line_of (begins l) = log_line (codes "{\"begin\":\"") l
line_of (goes_on l) = log_line (codes "{\"go_on\":\"") l
line_of recalls = codes "{\"recall\":true}"
line_of (brings text) = 123 ∷ text
line_of (ends from to) = codes "{\"from\":" ++ (decimal from ++ 44 ∷ position_text to)
line_of opens = codes "{\"open\":true}"
line_of shuts = codes "{\"open\":false}"
line_of leads = codes "{\"lead\":true}"
line_of (keeps position) = codes "{\"kept\":" ++ (decimal position ++ codes "}")

-- ---- which are well

-- a character that JSON has between quotation marks as it is (RFC 8259, section 7), of ASCII
abbrev pub is_letter : ℕ → Bool
is_letter b = (nat_le 32 b && nat_lt b 127) && not ((b == 34) || (b == 92))

abbrev pub is_name : List ℕ → Bool
is_name name = (nat_le 1 (length name) && nat_le (length name) 128) && list_all is_letter name

abbrev pub has_form : Log → Bool
has_form l = is_name l.name && is_epoch l.epoch

-- it begins as a request in a journal does, or as a name
abbrev pub is_brought : List ℕ → Bool
is_brought text = bytes_eq (take 6 text) (codes "\"as\":\"") || bytes_eq (take 8 text) (codes "\"once\":\"")

abbrev pub is_well : Said → Bool
is_well (begins l) = has_form l
is_well (goes_on l) = has_form l
is_well (brings text) = is_brought text
is_well (ends from to) = is_count from && is_count to
is_well (keeps position) = is_count position
is_well _ = true

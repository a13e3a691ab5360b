-- For contracts of the code: what texts of the journal, and its records, are read as.
use Rattle.std.specs.Prelude.{ℕ, ◌-◌, ◌==◌, ◌&&◌, not, Bool, true, false, if◌then◌else◌, List, [], ◌∷◌, ◌++◌, bytes_eq, codes, drop, length, take, Option, Some, None, is_some, option_map, option_and_then}
use Rattle.std.specs.Str.{is_utf8}
use Rattle.hex.specs.Hex.{decode_sized}
use Rattle.serde_json.specs.Find.{as_str}
use Rattle.iv_rows.specs.Names.{is_name}
use Rattle.iv_rows.specs.Options.{if_some}
use Rattle.iv_access.specs.Rights.{Name}
use Rattle.iv_request.specs.Reading.{value_of}
use Rattle.iv_request.specs.Request.{passing}
use Rattle.iv_machine.specs.Act.{Act}
use Rattle.iv_message.specs.Message.{Message, request, message_of}
use Rattle.iv_journal.specs.Journal.{Line}
use Rattle.iv_once.specs.Names.{Named}
use Rattle.iv_records.specs.Journal.{Entry, Request, has_newline, is_digest, is_shared, name_text, position_text}
use Rattle.iv_records.specs.Names.{Spelled, count_in, is_epoch, is_random, spelled_in}
use Rattle.iv_records.specs.Cuts.{behind, between, cut_at, cut_quote, decoded}

-- the text of a request
abbrev pub text_of_request : Name → List ℕ → List ℕ
text_of_request role line = codes "\"as\":\"" ++ (role ++ (codes "\"," ++ drop 1 line))

-- the role of a text, and the message after it without its brace
abbrev pub request_parts : List ℕ → Option (List ℕ × List ℕ)
request_parts text =
    option_and_then (λ rest.
    option_and_then (λ (p : List ℕ × List ℕ). option_map {U = List ℕ × List ℕ} (λ text. (p.0, text)) (behind (codes ",") p.1)) (cut_at 34 rest))
    (behind (codes "\"as\":\"") text)

abbrev pub named_request : List ℕ × List ℕ → Option (Name × List ℕ)
named_request p = if is_name p.0 then Some (p.0, 123 ∷ p.1) else None

-- the role and the message of a text that is a request
abbrev pub request_in : List ℕ → Option (Name × List ℕ)
request_in text = option_and_then named_request (request_parts text)

-- the act of a request without an id
abbrev pub act_plain : Message → Option Act
act_plain (request None act) = Some act
act_plain m = None

abbrev pub is_asked : Request → Bool
is_asked q = is_shared q.act && not (has_newline q.line)

-- the request of a role, by its line
abbrev pub request_by : Name → List ℕ → Option Request
request_by role line = option_and_then (λ act. passing is_asked (record { role = role; line = line; act = act })) (act_plain (message_of line))

-- the request of a text
abbrev pub request_read : List ℕ → Option Request
request_read text = option_and_then (λ (p : Name × List ℕ). request_by p.0 p.1) (request_in text)

-- ---- names

-- the text that a JSON string has between its quotation marks
abbrev pub string_in : List ℕ → Option (List ℕ)
string_in text = option_and_then (passing is_utf8) (option_and_then as_str (value_of (34 ∷ (text ++ 34 ∷ []))))

abbrev pub digest_of_32 : List ℕ → Option (List ℕ)
digest_of_32 digits = option_and_then (passing is_digest) (decoded (decode_sized digits 32))

abbrev pub but_last : List ℕ → List ℕ
but_last text = take (length text - 1) text

-- an answer on a line, without the brace after it
abbrev pub is_answer : List ℕ → Bool
is_answer text = not (has_newline text)

abbrev pub answer_in : List ℕ → Option (List ℕ)
answer_in text = passing is_answer (but_last text)

-- whose it is, as JSON has it between quotation marks; the digits of its digest; whether it was refused; and its answer with the brace after it
pub record NameParts : Type 0 where
  pub holder : List ℕ
  pub digits : List ℕ
  pub refused : Bool
  pub answer : List ℕ

abbrev pub answered_in : List ℕ → Option (Bool × List ℕ)
answered_in text = if_some (behind (codes ",\"refused\":") text)
    (option_map {U = Bool × List ℕ} (λ rest. (false, rest)) (behind (codes ",\"done\":") text)) (λ rest. Some (true, rest))

abbrev pub behind_digest : (holder : List ℕ) → List ℕ × List ℕ → Option NameParts
behind_digest holder d =
    option_map {U = NameParts} (λ (a : Bool × List ℕ). record { holder = holder; digits = d.0; refused = a.0; answer = a.1 }) (answered_in d.1)

abbrev pub behind_holder : List ℕ × List ℕ → Option NameParts
behind_holder h = option_and_then (behind_digest h.0) (between (codes ",\"digest\":\"") 34 h.1)

abbrev pub name_parts : List ℕ → Option NameParts
name_parts text = option_and_then behind_holder (option_and_then (cut_quote false) (behind (codes "\"by\":\"") text))

abbrev pub named_of : (refused : Bool) → (name epoch answer digest : Option (List ℕ)) → (count : Option ℕ) → (holder : Option (List ℕ)) → Option Named
named_of refused (Some name) (Some epoch) (Some answer) (Some digest) (Some count) (Some holder) = Some (record {
  ask = record { holder = holder; name = name; at = record { epoch = epoch; count = count }; digest = digest };
  refused = refused;
  answer = answer;
})
named_of refused _ _ _ _ _ _ = None

abbrev pub named_by : Spelled → NameParts → Option Named
named_by s p =
    named_of p.refused (passing is_random s.name) (passing is_epoch s.epoch) (answer_in p.answer) (digest_of_32 p.digits)
    (count_in s.digits) (string_in p.holder)

abbrev pub named_in : Spelled → Option Named
named_in s = option_and_then (named_by s) (name_parts s.rest)

-- the name of a text, which is written as names are
abbrev pub name_in : List ℕ → Option Named
name_in text = option_and_then (passing (λ e. bytes_eq (name_text e) text)) (option_and_then named_in (spelled_in text))

-- ---- steps

abbrev pub count_first : List ℕ × List ℕ → Option ℕ
count_first d = count_in d.0

abbrev pub position_in : List ℕ → Option ℕ
position_in text = option_and_then (passing (λ p. bytes_eq (position_text p) text)) (option_and_then count_first (between (codes "\"step\":") 125 text))

-- what a text of the journal is
pub data Text : Type 0 where
  of_request : Request → Text
  of_name : Named → Text
  of_position : ℕ → Text

abbrev pub name_or_position : List ℕ → Option Text
name_or_position text = if_some (name_in text) (option_map of_position (position_in text)) (λ e. Some (of_name e))

abbrev pub text_in : List ℕ → Option Text
text_in text = if_some (request_read text) (name_or_position text) (λ q. Some (of_request q))

-- one text more of an entry that has no position yet: first come requests, then names, then the position
abbrev pub added : Entry → Text → Option Entry
added e (of_request q) = if length e.names == 0 then Some (record { requests = e.requests ++ q ∷ []; names = e.names; position = e.position }) else None
added e (of_name n) = Some (record { requests = e.requests; names = e.names ++ n ∷ []; position = e.position })
added e (of_position p) = Some (record { requests = e.requests; names = e.names; position = Some p })

abbrev pub with_text : Entry → Text → Option Entry
with_text e t = if is_some e.position then None else added e t

-- the rest of a record of which an entry is what was read, and the lines after it
abbrev pub record_from : Entry → List Line → Option (Entry × List Line)
record_from e [] = None
record_from e (l ∷ ls) =
    option_and_then (λ t. option_and_then (λ f. if l.is_last then Some (f, ls) else record_from f ls) (with_text e t)) (text_in l.text)

abbrev pub no_entry : Entry
no_entry = record { requests = []; names = []; position = None }

-- the entry of the first record, and the lines after it
abbrev pub record_in : List Line → Option (Entry × List Line)
record_in ls = record_from no_entry ls

abbrev pub part : List ℕ → Line
part text = record { is_last = false; text = text }

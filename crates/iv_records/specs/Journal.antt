-- The journal: what was accepted of what changes what is shared, with who made it, by which name, and in which step.
use Rattle.std.specs.Prelude.{◌≡◌, ◌≢◌, ℕ, ◌==◌, ◌&&◌, ◌||◌, Bool, true, false, if◌then◌else◌, List, [], ◌∷◌, ◌++◌, drop, map, filter, flat_map, length, bytes_eq, codes, decimal, nat_lt, Option, Some, None, option_map, option_and_then, unwrap_or}
use Rattle.std.specs.List.{AllByRecursion, list_all, list_any}
use Rattle.std.specs.Str.{is_utf8}
use Rattle.hex.specs.Hex.{encode_lower}
use Rattle.serde_json.specs.Data.{Data, string}
use Rattle.serde_json.specs.Written.{compact_text}
use Rattle.iv_rows.specs.Names.{is_name}
use Rattle.iv_rows.specs.Options.{if_some}
use Rattle.iv_access.specs.Rights.{Name}
use Rattle.iv_machine.specs.Act.{Act, write}
use Rattle.iv_request.specs.Reading.{value_of}
use Rattle.iv_message.specs.Message.{Message, no_json, too_long, no_object, no_request, request, wrong, id_in, message_of, on_one_line}
use Rattle.iv_message.specs.Told.{Told, made}
use Rattle.iv_journal.specs.Journal.{Line}
use Rattle.iv_once.specs.Names.{Named}
pub use Rattle.iv_steps.specs.Steps.{is_shared}
use Rattle.iv_records.specs.Names.{Claim, claim_in, is_count, is_epoch, is_random, place_text}
use Rattle.iv_records.specs.Cuts.{behind, cut_at}

-- ---- messages

-- bytes of a message: its entry, and the request with any session in front, are lines that viewd reads
abbrev pub most_said : ℕ
most_said = 65463

abbrev pub is_blank : ℕ → Bool
is_blank b = (b == 32) || ((b == 9) || (b == 13))

-- without the blanks in front
abbrev pub unindented : List ℕ → List ℕ
unindented [] = []
unindented (b ∷ text) = if is_blank b then unindented text else b ∷ text

-- a message's id, and the rest of it: an id is the first member, `{"id":7,` and the rest, so that the rest is as it was sent
abbrev pub Parts : Type 0
Parts = Option Data × List ℕ

abbrev pub with_brace : List ℕ → Data → Parts
with_brace rest id = (Some id, 123 ∷ rest)

abbrev pub id_in_front : List ℕ → Option Parts
id_in_front line = option_and_then (λ (p : List ℕ × List ℕ). option_map {U = Parts} (with_brace p.1) (option_and_then id_in (value_of p.0)))
    (option_and_then (cut_at 44) (behind (codes "{\"id\":") line))

abbrev pub parts_of : List ℕ → Parts
parts_of line = unwrap_or (id_in_front line) (None, line)

-- a message's id, and the rest of it
abbrev pub id_parts : List ℕ → Parts
id_parts text = parts_of (unindented (on_one_line text))

-- the name of a message, which follows its id, and the rest
abbrev pub named_parts : List ℕ → Option Claim × List ℕ
named_parts text = if_some (claim_in (id_parts text).1) (None, (id_parts text).1) (λ p. (Some p.0, p.1))

abbrev pub claim_said : List ℕ → Option Claim
claim_said text = (named_parts text).0

-- the line of a message, without its id and its name
abbrev pub line_said : List ℕ → List ℕ
line_said text = (named_parts text).1

abbrev pub begins_object : List ℕ → Bool
begins_object [] = false
begins_object (b ∷ text) = b == 123

abbrev pub first_id : Option Data → Option Data → Option Data
first_id None id = id
first_id (Some id) other = Some id

-- an id elsewhere is wrong
abbrev pub with_front : Option Data → Message → Message
with_front front (request None act) = request front act
with_front front (request (Some id) act) = no_request (first_id front (Some id)) (wrong (codes "id") None)
with_front front (no_request id why) = no_request (first_id front id) why
with_front front m = m

-- no request begins otherwise than with its brace
abbrev pub not_request : Message → Message
not_request no_json = no_json
not_request _ = no_object

-- what a client says by a line with this id in front
abbrev pub said_in : Parts → Message
said_in p = if begins_object p.1 then with_front p.0 (message_of p.1) else not_request (message_of p.1)

-- what a client says
abbrev pub said_by : List ℕ → Message
said_by text = if nat_lt most_said (length text) then too_long else said_in ((id_parts text).0, line_said text)

-- ---- entries

-- it makes the shape of what is shared: it changes that, and writes no rows
abbrev pub is_shape : Act → Bool
is_shape (write entries) = false
is_shape act = is_shared act

-- a request: the role that made it, its line, and what it asks
pub record Request : Type 0 where
  pub role : Name
  pub line : List ℕ
  pub act : Act

-- what the journal has at once: requests that changed what is shared, in their order; the names that have an answer by it; and, of a step of
-- the log that is followed, its position. A request of a client is one entry, with its name if it has one, and a step is one entry
pub record Entry : Type 0 where
  pub requests : List Request
  pub names : List Named
  pub position : Option ℕ

abbrev pub requests_in : List Entry → List Request
requests_in es = flat_map (λ e. e.requests) es

abbrev pub names_in : List Entry → List Named
names_in es = flat_map (λ e. e.names) es

-- the position of the last step; before the first one p
abbrev pub position_of : ℕ → List Entry → ℕ
position_of p [] = p
position_of p (e ∷ es) = position_of (unwrap_or e.position p) es

-- what tells of the shape that entries make: each request that makes it, in order
abbrev pub shape_of : List Entry → List Told
shape_of es = map (λ q. made q.role q.line) (filter (λ q. is_shape q.act) (requests_in es))

-- what of it is for a client of the role: all for an administrator, and nothing for anyone else
abbrev pub shape_for : Name → List Entry → List Told
shape_for role es = if bytes_eq role (codes "admin") then shape_of es else []

-- ---- lines

-- JSON objects without their first brace, as lines of a journal have them
abbrev pub request_text : Request → List ℕ
request_text q = codes "\"as\":\"" ++ (q.role ++ (codes "\"," ++ drop 1 q.line))

abbrev pub answer_key : Bool → List ℕ
answer_key true = codes "\",\"refused\":"
answer_key false = codes "\",\"done\":"

-- the answer stands in it as it was given
abbrev pub name_text : Named → List ℕ
name_text e = codes "\"once\":\"" ++ (e.ask.name ++ (codes "\",\"at\":\"" ++ (place_text e.ask.at ++ (codes "\",\"by\":"
    ++ (compact_text (string e.ask.holder) ++ (codes ",\"digest\":\"" ++ (encode_lower e.ask.digest ++ (answer_key e.refused ++ (e.answer ++ codes "}")))))))))

abbrev pub position_text : ℕ → List ℕ
position_text p = codes "\"step\":" ++ (decimal p ++ codes "}")

abbrev pub texts_of : Entry → List (List ℕ)
texts_of e = map request_text e.requests ++ (map name_text e.names ++ if_some e.position [] (λ p. position_text p ∷ []))

-- the lines of one record: all but the last are parts
abbrev pub record_of : List (List ℕ) → List Line
record_of [] = []
record_of (t ∷ []) = record { is_last = true; text = t } ∷ []
record_of (t ∷ u ∷ ts) = record { is_last = false; text = t } ∷ record_of (u ∷ ts)

abbrev pub journal_of : List Entry → List Line
journal_of es = flat_map (λ e. record_of (texts_of e)) es

abbrev pub has_newline : List ℕ → Bool
has_newline text = list_any (λ b. b == 10) text

-- its line is a message that asks its act, without an id; the act is shared, and the role has a name
pub record IsRequest (q : Request) : Type 0 where
  pub role : is_name q.role ≡ true
  pub shared : is_shared q.act ≡ true
  pub brace : begins_object q.line ≡ true
  pub line : has_newline q.line ≡ false
  pub asks : message_of q.line ≡ request None q.act

abbrev pub is_digest : List ℕ → Bool
is_digest digest = (length digest == 32) && list_all (λ b. nat_lt b 256) digest

-- a name as clients say one, a holder as text, and an answer on a line
pub record IsNamed (e : Named) : Type 0 where
  pub name : is_random e.ask.name ≡ true
  pub epoch : is_epoch e.ask.at.epoch ≡ true
  pub count : is_count e.ask.at.count ≡ true
  pub holder : is_utf8 e.ask.holder ≡ true
  pub digest : is_digest e.ask.digest ≡ true
  pub line : has_newline e.answer ≡ false

pub record IsEntry (e : Entry) : Type 0 where
  pub requests : AllByRecursion IsRequest e.requests
  pub names : AllByRecursion IsNamed e.names
  pub position : if_some e.position true is_count ≡ true
  pub some : texts_of e ≢ []

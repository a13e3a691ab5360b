-- What a client is told, and its text: JSON with keys in the order of their bytes, compact but for a request as it was written, and a newline.
use Rattle.std.specs.Prelude.{ℕ, ℤ, Bool, true, false, List, [], ◌++◌, map, codes, Option, Some, None}
use Rattle.iv_rows.specs.Cell.{Cell}
use Rattle.iv_rows.specs.Columns.{Column}
use Rattle.iv_access.specs.Rights.{Name}
use Rattle.iv_machine.specs.Act.{Reply}
use Rattle.iv_machine.specs.declared.Cause.{Cause}
use Rattle.serde_json.specs.Data.{Data, string, boolean, array, object, Members, no_members, member, put}
use Rattle.serde_json.specs.View.{items_of}
use Rattle.serde_json.specs.Written.{compact_text}
use Rattle.iv_command.specs.RowTexts.{rows_data}
use Rattle.iv_request.specs.Asked.{column_data}
use Rattle.iv_request.specs.Values.{natural}
use Rattle.iv_lines.specs.Texts.{cause_text, fault_data, reply_members, text_of}
use Rattle.iv_message.specs.Message.{Why, missing, unknown, wrong, on_one_line}

-- `welcome` comes first, with the number of the protocol; `own` is the client's own number of a subscription, and `rel` the relation that
-- it asked for; `line` is a request, as a client of the role wrote it. `placed` tells where the names of the client's holder are; `answered`
-- the answer to a request with a name, whether that is told again, and where the names are after it; `undecided` that nobody says whether
-- the request was done; `denied` that it was not
pub data Told : Type 0 where
  welcome : (role : Name) → Told
  replied : (id : Option Data) → Reply → Told
  opened : (id : Option Data) → (own : ℕ) → List Column → Told
  fault : (number : ℕ) → Told
  unasked : (id : Option Data) → Why → Told
  changed : (own : ℕ) → (rows : List (List Cell × ℤ)) → Told
  over : (own : ℕ) → (rel : Name) → Cause → (rows : List (List Cell × ℤ)) → Told
  settled : Told
  granted : (rel : Name) → Told
  made : (role : Name) → (line : List ℕ) → Told
  alive : Told
  placed : (at : List ℕ) → Told
  answered : (id : Option Data) → (again : Bool) → (at answer : List ℕ) → Told
  undecided : (id : Option Data) → (number : ℕ) → Told
  denied : (id : Option Data) → (number : ℕ) → Told

-- the id that the client gave comes in, in the order of keys
abbrev pub with_id : Option Data → Members → Data
with_id None ms = object ms
with_id (Some id) ms = object (put (codes "id") id ms)

abbrev pub opened_members : ℕ → List Column → Members
opened_members own columns =
    member (codes "columns") (array (items_of (map column_data columns)))
    (member (codes "ok") (boolean true)
    (member (codes "sub") (natural own) no_members))

-- refusal 2, with the word for its reason
abbrev pub reason_members : List ℕ → List ℕ → Members
reason_members word key = member (codes "error") (natural 2) (member (codes "key") (string key) (member (codes "why") (string word) no_members))

abbrev pub why_members : Why → Members
why_members (missing key) = reason_members (codes "missing") key
why_members (unknown key) = reason_members (codes "unknown") key
why_members (wrong key None) = reason_members (codes "wrong") key
why_members (wrong key (Some entry)) = member (codes "entry") (natural entry) (reason_members (codes "wrong") key)

abbrev pub changed_data : ℕ → List (List Cell × ℤ) → Data
changed_data own rows = object (member (codes "changes") (rows_data rows) (member (codes "sub") (natural own) no_members))

abbrev pub over_data : ℕ → Name → Cause → List (List Cell × ℤ) → Data
over_data own rel cause rows = object (
    member (codes "changes") (rows_data rows)
    (member (codes "ended") (string (cause_text cause))
    (member (codes "on") (string rel)
    (member (codes "sub") (natural own) no_members))))

-- who made a request, and the request
abbrev pub made_text : Name → List ℕ → List ℕ
made_text role line = codes "{\"as\":" ++ (compact_text (string role) ++ (codes ",\"made\":" ++ (on_one_line line ++ codes "}\n")))

-- the number of what clients say and are told; another says that a client has to be changed
abbrev pub protocol : ℕ
protocol = 1

-- how many names of each holder are kept
abbrev pub most_names : ℕ
most_names = 64

abbrev pub again_text : Bool → List ℕ
again_text true = codes "{\"again\":true,\"answer\":"
again_text false = codes "{\"answer\":"

abbrev pub id_text : Option Data → List ℕ
id_text None = []
id_text (Some id) = codes ",\"id\":" ++ compact_text id

-- the answer stands in it as it was first given
abbrev pub answered_text : Option Data → Bool → List ℕ → List ℕ → List ℕ
answered_text id again at answer =
    again_text again ++ (on_one_line answer ++ (codes ",\"at\":" ++ (compact_text (string at) ++ (id_text id ++ codes "}\n"))))

-- a reply is viewd's, but for the session
abbrev pub told_text : Told → List ℕ
told_text (welcome role) = text_of (object (member (codes "protocol") (natural protocol) (member (codes "role") (string role) no_members)))
told_text (replied id r) = text_of (with_id id (reply_members r))
told_text (opened id own columns) = text_of (with_id id (opened_members own columns))
told_text (fault number) = text_of (fault_data number)
told_text (unasked id why) = text_of (with_id id (why_members why))
told_text (changed own rows) = text_of (changed_data own rows)
told_text (over own rel cause rows) = text_of (over_data own rel cause rows)
told_text settled = text_of (object (member (codes "settled") (boolean true) no_members))
told_text (granted rel) = text_of (object (member (codes "granted") (string rel) no_members))
told_text (made role line) = made_text role line
told_text alive = text_of (object (member (codes "alive") (boolean true) no_members))
told_text (placed at) = text_of (object (member (codes "at") (string at) (member (codes "names") (natural most_names) no_members)))
told_text (answered id again at answer) = answered_text id again at answer
told_text (undecided id number) = text_of (with_id id (member (codes "undecided") (natural number) no_members))
told_text (denied id number) = text_of (with_id id (member (codes "error") (natural number) no_members))

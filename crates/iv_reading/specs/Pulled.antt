-- What is read token by token: of the tokens `ts` the first are a value, and `rest` is after it. A value may have so many levels of arrays
-- and objects as are left where it is read: these are at most a number named `levels`.
use Rattle.std.specs.Prelude.{if◌then◌else◌, bytes_eq, string_bytes, option_and_then, ◌≡◌, ◌≤◌, ◌∷◌, ◌++◌, ℕ, Bool, true, false, List, [], length, Option, Some, None, MatchOption, option_map, codes}
use Rattle.json.specs.Token.{Token}
use Rattle.json.specs.Json.{Json, Items, item, Members, member, parse_map, read_key, items, members, value}
use Rattle.serde_json.specs.Data.{Data, object, put}
use Rattle.serde_json.specs.Data as serde_json
use Rattle.serde_json.specs.Find.{as_number, as_str, as_u64}
use Rattle.iv_rows.specs.Names.{is_name}
use Rattle.iv_machine.specs.Act.{Op, Entry, insert, delete}
use Rattle.iv_machine.specs.Parts.{is_between}
use Rattle.iv_command.specs.Entries.{op_of, copies_of}
use Rattle.iv_request.specs.Documents.{data_of, items_of, members_of, fits, items_fit, members_fit}
use Rattle.iv_request.specs.Forms.{has, has_only}
use Rattle.iv_request.specs.Request.{passing, each, list_of, name_at, text_at, row_of, update_of, op_at, does_at, copies_at, entry_of, entries_at, is_session, session_of}
use Rattle.iv_reading.specs.declared.writes.Parts.{Parts}
use Rattle.iv_reading.specs.declared.writes.Written.{Written}

-- ---- a value

-- j is next
pub record IsNext (levels : ℕ) (ts : List Token) (j : Json) (rest : List Token) : Type 0 where
  pub read : (depth : ℕ) → levels ≤ depth → value depth ts ≡ Some (j, rest)
  pub fit : fits j ≡ true

-- a value is next that is x by f
abbrev pub Pulls : {X : Type 0} → ℕ → (Data → Option X) → List Token → X → List Token → Type 0
Pulls levels f ts x rest = (j : Json) × IsNext levels ts j rest × (f (data_of j) ≡ Some x)

-- ---- the items of an array

abbrev pub items_after : List Json → Items → Items
items_after [] more = more
items_after (j ∷ js) more = item j (items_after js more)

-- from `first` on the items were read that are xs by f, and at `ts` more may come
pub record HasRead {X : Type 0} (levels : ℕ) (f : Data → Option X) (first : List Token) (xs : List X) (ts : List Token) : Type 0 where
  pub turns : ℕ
  pub done : List Json
  pub enough : length ts ≤ turns
  pub read : (depth : ℕ) → levels ≤ depth → items (value depth) (length first) first ≡ parse_map (items_after done) (items (value depth) turns ts)
  pub fit : (more : Items) → items_fit (items_after done more) ≡ items_fit more
  pub made : (more : Items) → each f (items_of (items_after done more)) ≡ option_map (λ ys. xs ++ ys) (each f (items_of more))

-- ---- the members of an object

abbrev pub members_after : List (List ℕ × Json) → Members → Members
members_after [] more = more
members_after (m ∷ ms) more = member m.0 m.1 (members_after ms more)

-- from `first` on the members `found` were read, and at `ts` more may come
pub record HasFound (levels : ℕ) (first : List Token) (found : serde_json.Members) (ts : List Token) : Type 0 where
  pub turns : ℕ
  pub done : List (List ℕ × Json)
  pub enough : length ts ≤ turns
  pub read : (depth : ℕ) → levels ≤ depth → members (value depth) (length first) first ≡ parse_map (members_after done) (members (value depth) turns ts)
  pub fit : (more : Members) → members_fit (members_after done more) ≡ members_fit more
  pub made : (more : Members) → members_of (members_after done more) serde_json.no_members ≡ members_of more found

-- ---- what members make

-- no key of what an entry does is there
pub record DoesNothing (d : Data) : Type 0 where
  pub insert : has (codes "insert") d ≡ false
  pub delete : has (codes "delete") d ≡ false
  pub update : has (codes "update") d ≡ false
  pub only : has_only (codes "on" ∷ codes "copies" ∷ []) d ≡ true

-- the entry does this, and no other key of the kind is there
pub record Does (d : Data) (op : Op) : Type 0 where
  pub is : op_at d ≡ Some op
  pub only : has_only (codes "on" ∷ does_at d ∷ codes "copies" ∷ []) d ≡ true

-- the members so far make these parts of an entry
pub record MakesParts (d : Data) (rel : Option (List ℕ)) (op : Option Op) (copies : ℕ) : Type 0 where
  pub named : name_at (codes "on") d ≡ rel
  pub does : MatchOption op (DoesNothing d) (Does d)
  pub copied : copies_at d ≡ Some copies

-- the members so far make these parts of a write
pub record MakesWrite (d : Data) (is_write : Bool) (session : Option ℕ) (entries : Option (List Entry)) : Type 0 where
  pub word : is_write ≡ true → text_at (codes "do") d ≡ Some (codes "write")
  pub asks : session_of d ≡ session
  pub writes : entries_at d ≡ entries
  pub only : has_only (codes "do" ∷ codes "session" ∷ codes "entries" ∷ []) d ≡ true

-- the name that a value is
abbrev pub name_of : Data → Option (List ℕ)
name_of d = option_and_then (passing is_name) (as_str d)

-- what an entry does by the value at this key
abbrev pub op_by : List ℕ → Data → Option Op
op_by key d =
    if bytes_eq key (codes "insert") then option_map insert (row_of d)
    else if bytes_eq key (codes "delete") then option_map delete (row_of d)
    else if bytes_eq key (codes "update") then update_of d
    else None

-- 1 to 1,000 entries
abbrev pub entries_by : Data → Option (List Entry)
entries_by d = option_and_then (passing (λ es. is_between 1 1000 (length es))) (list_of entry_of d)

abbrev pub natural_by : Data → Option ℕ
natural_by d = option_and_then as_u64 (as_number d)

abbrev pub session_by : Data → Option ℕ
session_by d = option_and_then (passing is_session) (natural_by d)

-- ---- what is read of an object

-- the value of a key is next, and with it the members are P
abbrev pub Adds : ℕ → List ℕ → serde_json.Members → (serde_json.Members → Type 0) → List Token → List Token → Type 0
Adds levels key found P ts rest = (j : Json) × IsNext levels ts j rest × P (put key (data_of j) found)

-- the members from here to the end of their object are P
abbrev pub Closes : ℕ → (serde_json.Members → Type 0) → List Token → List Token → Type 0
Closes levels P ts rest = (found : serde_json.Members) × (last : List Token) × HasFound levels ts found last × (read_key last ≡ Some (None, rest)) × P found

abbrev pub IsParts : Parts → serde_json.Members → Type 0
IsParts p found = MakesParts (object found) (option_map string_bytes p.rel) (option_map op_of p.op) (copies_of p.copies)

abbrev pub IsWritten : Written → serde_json.Members → Type 0
IsWritten w found = MakesWrite (object found) w.is_write w.session (option_map (λ es. es.items) w.entries)

-- What a gateway answers a keeper: lines, byte for byte, without their newlines.
use Rattle.std.specs.Prelude.{ℕ, List, [], ◌++◌, codes, decimal, Option}
use Rattle.iv_rows.specs.Options.{if_some}
use Rattle.iv_door.specs.Said.{Log}

-- the log that it follows, and up to where that is on disk
pub record Held : Type 0 where
  pub log : Log
  pub position : ℕ

-- why it takes nothing more of a keeper; lines are those of the keeper, from 1 on, and so are the lines, requests and names of a step
pub data Fault : Type 0 where
  too_long : (line : ℕ) → Fault
  no_line : (line : ℕ) → Fault
  wrong_time : (line : ℕ) → Fault
  no_log : Fault
  other_log : (followed : Log) → Fault
  no_room : Fault
  gap : (to from position : ℕ) → Fault
  no_entry : (line to : ℕ) → Fault
  not_accepted : (entry to refusal : ℕ) → Fault
  not_new : (name to : ℕ) → Fault
  not_decided : (kept from to : ℕ) → Fault
  decided_here : (to : ℕ) → Fault

-- ---- words

abbrev pub words_of : Fault → List ℕ
words_of (too_long line) = codes "line " ++ (decimal line ++ codes " is too long")
words_of (no_line line) = codes "line " ++ (decimal line ++ codes " is none that a keeper says")
words_of (wrong_time line) = codes "line " ++ (decimal line ++ codes " comes at the wrong time")
words_of no_log = codes "no log is followed yet: begin one"
words_of (other_log l) = codes "the log " ++ (l.name ++ (codes " of epoch " ++ (l.epoch ++ codes " is followed here: another one needs a new journal file")))
words_of no_room = codes "a step is too long"
words_of (gap to from position) =
    codes "step " ++ (decimal to ++ (codes " is from " ++ (decimal from ++ (codes ", and the position is " ++ decimal position))))
words_of (no_entry line to) = codes "line " ++ (decimal line ++ (codes " of step " ++ (decimal to ++ codes " is no entry")))
words_of (not_accepted entry to refusal) =
    codes "entry " ++ (decimal entry ++ (codes " of step " ++ (decimal to ++ (codes " is refused by " ++ decimal refusal))))
words_of (not_new name to) = codes "name " ++ (decimal name ++ (codes " of step " ++ (decimal to ++ codes " may have an answer already")))
words_of (not_decided kept from to) = codes "kept " ++ (decimal kept ++ (codes " is not from " ++ (decimal from ++ (codes " to " ++ decimal to))))
words_of (decided_here to) = codes "step " ++ (decimal to ++ codes " is brought, and the gateway leads")

-- ---- lines

abbrev pub fault_line : Fault → List ℕ
fault_line f = codes "{\"fault\":\"" ++ (words_of f ++ codes "\"}")

abbrev pub held_text : Held → List ℕ
held_text h = codes ",\"log\":\"" ++ (h.log.name ++ (codes "\",\"epoch\":\"" ++ (h.log.epoch ++ (codes "\",\"position\":" ++ decimal h.position))))

-- the first line: how many rows a table may have, and what is held
abbrev pub hello : (rows : ℕ) → Option Held → List ℕ
hello rows held = codes "{\"door\":1,\"rows\":" ++ (decimal rows ++ (if_some held [] held_text ++ codes "}"))

abbrev pub on_disk : (position : ℕ) → List ℕ
on_disk position = codes "{\"on_disk\":" ++ (decimal position ++ codes "}")

-- it decides from a position on, which it has on disk
abbrev pub leads : (position : ℕ) → List ℕ
leads position = codes "{\"leads\":" ++ (decimal position ++ codes "}")

abbrev pub recalled : (position : ℕ) → List ℕ
recalled position = codes "{\"recalled\":" ++ (decimal position ++ codes "}")

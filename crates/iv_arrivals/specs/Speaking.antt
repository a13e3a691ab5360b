-- For contracts of the code: what it knows of a client whose message is heard, and of what that asks.
use Rattle.std.specs.Prelude.{ℕ, List, if◌then◌else◌, length, Option, Some, None, option_and_then, option_map}
use Rattle.serde_json.specs.Data.{Data}
use Rattle.iv_access.specs.Rights.{Name}
use Rattle.iv_machine.specs.Act.{Act}
use Rattle.iv_message.specs.Seen.{id_data}
use Rattle.iv_message.specs.declared.message.Id.{Id}
use Rattle.iv_records.specs.Journal.{Request}
use Rattle.iv_clients.specs.Kept.{Kept, may_ask}

-- its role, who holds its token, how many of its numbers are open, and the bytes that others have brought it
pub record Speaking : Type 0 where
  pub role : Name
  pub user : List ℕ
  pub subs : ℕ
  pub brought : ℕ

abbrev pub speaking : Kept → Speaking
speaking k = record { role = k.role; user = k.user; subs = length k.subs; brought = k.brought }

-- whose message is heard now
abbrev pub speaker_in : Option Kept → Option Speaking
speaker_in o = option_and_then (λ k. if may_ask k then Some (speaking k) else None) o

-- who asks by which id and line
pub record Asking : Type 0 where
  pub client : ℕ
  pub id : Option Id
  pub role : Name
  pub line : List ℕ

abbrev pub asked_id : Asking → Option Data
asked_id a = option_map id_data a.id

abbrev pub request_of : Asking → Act → Request
request_of a act = record { role = a.role; line = a.line; act = act }

-- What happens to a gateway.
use Rattle.std.specs.Prelude.{◌≡◌, ◌≤◌, ℕ, true, if◌then◌else◌, List, [], ◌∷◌, ◌++◌, length, is_some, option_and_then}
use Rattle.std.specs.List.{AllByRecursion, list_all}
use Rattle.serde_json.specs.Find.{as_object}
use Rattle.iv_rows.specs.Options.{if_some}
use Rattle.iv_clients.specs.Clients.{at_all, at_client, beating, checked, client_at, handing, released}
use Rattle.iv_records.specs.Journal.{IsEntry, most_said, texts_of}
use Rattle.iv_clients.specs.Tokens.{Token}
use Rattle.iv_journal.specs.Journal.{is_text}
use Rattle.iv_once.specs.Names.{Named}
use Rattle.iv_request.specs.Reading.{value_of}
use Rattle.iv_gate.specs.Arriving.{Step, entry_of, takes}
use Rattle.iv_gate.specs.Gate.{Gate, came, said, went}

-- a token is presented for number m; client m sends a message, and goes; other tokens are known from now on; all are told that the line is
-- alive; the journal has all entries on disk (nothing happens between its write and that); what client m may be sent is handed to its
-- socket; a step of the log comes; the gateway leads the log from now on; names that were refused are forgiven; a call failed
pub data Event : Type 0 where
  presented : (m : ℕ) → (token : List ℕ) → Event
  message : (m : ℕ) → (text : List ℕ) → Event
  gone : (m : ℕ) → Event
  known : (tokens : List Token) → Event
  ticked : Event
  synced : Event
  handed : (m : ℕ) → Event
  arrived : (s : Step) → Event
  led : Event
  forgave : Event
  failed : Event

-- an answer is a JSON object, and fits a line
pub record IsAnswerText (e : Named) : Type 0 where
  pub object : is_some (option_and_then as_object (value_of e.answer)) ≡ true
  pub short : length e.answer ≤ most_said

-- a step has requests and names as the journal has them, and texts that its disk takes: who reads the log sees to that
abbrev pub IsWell : Event → Type 0
IsWell (arrived s) = IsEntry (entry_of s) × AllByRecursion IsAnswerText s.names × (list_all is_text (texts_of (entry_of s)) ≡ true)
IsWell e = Unit {0}

abbrev pub knowing : Gate → List Token → Gate
knowing g tokens = record g { tokens = tokens; clients = at_all (checked tokens) g.clients }

abbrev pub ticking : Gate → Gate
ticking g = record g { clients = at_all (beating g.entries) g.clients }

abbrev pub on_disk : Gate → Gate
on_disk g = record g { kept = length g.entries; clients = at_all released g.clients }

-- what a client might see when it was told is handed to it, even if it may not see it any more
abbrev pub hands : Gate → ℕ → Gate
hands g m = record g { clients = at_client m handing g.clients; sent = g.sent ++ if_some (client_at g.clients m) [] (λ c. c.sendable) }

-- if it follows one
abbrev pub leading : Gate → Gate
leading g = record g { leads = is_some g.head.log }

abbrev pub happens : Gate → Event → Gate
happens g (presented m token) = came g m token
happens g (message m text) = said g m text
happens g (gone m) = went g m
happens g (known tokens) = knowing g tokens
happens g ticked = ticking g
happens g synced = on_disk g
happens g (handed m) = hands g m
happens g (arrived s) = takes g s
happens g led = leading g
happens g forgave = record g { forgiven = length g.entries }
happens g failed = record g { dead = true }

-- nothing happens to one that is dead
abbrev pub next : Gate → Event → Gate
next g e = if g.dead then g else happens g e

abbrev pub after : Gate → List Event → Gate
after g [] = g
after g (e ∷ es) = after (next g e) es

-- Steps of the log that is followed: which are taken, and what is told of one.
use Rattle.std.specs.Prelude.{◌≡◌, ℕ, ◌+◌, ◌==◌, ◌&&◌, not, Bool, false, true, if◌then◌else◌, List, [], ◌∷◌, ◌++◌, map, filter, bytes_eq, nat_le, nat_lt}
use Rattle.std.specs.Prelude.{take, Option, Some, None, is_some, option_map}
use Rattle.std.specs.List.{list_any}
use Rattle.iv_rows.specs.Options.{if_some}
use Rattle.iv_access.specs.Rights.{Name}
use Rattle.iv_machine.specs.Act.{Refusal}
use Rattle.iv_machine.specs.Machine.{Outcome}
use Rattle.iv_machine.specs.State.{Frame}
use Rattle.iv_message.specs.Told.{granted}
use Rattle.iv_clients.specs.Clients.{own_lines}
use Rattle.iv_records.specs.Journal.{Entry, Request, position_of}
use Rattle.iv_records.specs.Names.{limits}
use Rattle.iv_once.specs.Names as once
use Rattle.iv_once.specs.Names.{Ask, Known, Named, learned, named}
use Rattle.iv_steps.specs.Steps.{Fact, first_refused, shared, stepped}
use Rattle.iv_gate.specs.Gate.{Gate, Log, each_privilege, entered, has_on, informs, known_of, settles, went_on}

-- a step: which log it is of, from which position to which it leads, what was done there, and the names that have an answer by it
pub record Step : Type 0 where
  pub log : Log
  pub from : ℕ
  pub to : ℕ
  pub requests : List Request
  pub names : List Named

-- why one is not taken: the gateway decides the log itself; it is of another log; it does not begin at the position; a request of it is refused; a
-- name of it may have an answer already. Requests and names count from 1
pub data Fault : Type 0 where
  decided_here : Fault
  other_log : Fault
  gap : (position : ℕ) → Fault
  not_accepted : (request : ℕ) → Refusal → Fault
  not_new : (name : ℕ) → Fault

abbrev pub is_log : Log → Log → Bool
is_log a b = bytes_eq a.name b.name && bytes_eq a.epoch b.epoch

abbrev pub fact_of : Request → Fact
fact_of q = record { role = q.role; act = q.act }

-- where the log stands
abbrev pub position : Gate → ℕ
position g = position_of g.head.position g.entries

-- up to where the journal has it on disk: what the source of the log is told
abbrev pub settled_at : Gate → ℕ
settled_at g = position_of g.head.position (take g.kept g.entries)

-- each entry is one position further than the one before it
abbrev pub AreNext : ℕ → List Entry → Type 0
AreNext p [] = Unit {0}
AreNext p (e ∷ es) = (e.position ≡ Some (p + 1)) × AreNext (p + 1) es

-- it has no answer yet
abbrev pub is_new : Known → Ask → Bool
is_new k a = once.is_new limits k a

abbrev pub first_known : ℕ → List Named → Known → Option Fault
first_known n [] k = None
first_known n (e ∷ es) k = if is_new k e.ask then first_known (n + 1) es (learned limits (named e) k) else Some (not_new n)

-- it was taken already
abbrev pub was_taken : Gate → Step → Bool
was_taken g s = if_some g.head.log false (is_log s.log) && nat_le s.to (position g)

abbrev pub fault_of : Gate → Step → Option Fault
fault_of g s =
    if g.leads then Some decided_here else (
    if was_taken g s then None else (
    if not (if_some g.head.log false (is_log s.log)) then Some other_log else (
    if not ((s.from == position g) && nat_lt s.from s.to) then Some (gap (position g)) else (
    if_some (first_known 1 s.names (known_of g))
    (option_map (λ p. not_accepted p.0 p.1) (first_refused 1 (map fact_of s.requests) (shared g.machine))) Some))))

-- what the journal is to have of it
abbrev pub entry_of : Step → Entry
entry_of s = record { requests = s.requests; names = s.names; position = Some s.to }

-- the role has some privilege on the relation after it that it had not before
abbrev pub gains : Frame → Frame → Name → Name → Bool
gains before after role rel = list_any (λ p. has_on after role p rel && not (has_on before role p rel)) each_privilege

-- the relations on which it has one
abbrev pub newly : Frame → Frame → Name → List Name
newly before after role = filter (gains before after role) (map (λ e. e.name) after.catalog)

-- it is carried out whole: each client is told once what differs, also of what it may read from now on and of the shape, and that this is all
abbrev pub landed : Gate → Entry → Outcome → Gate
landed g e o = settles (informs (went_on (entered g (e ∷ [])) o
    (λ c. own_lines g.feeds o.lines c.subs ++ map granted (newly g.machine.frame o.state.frame c.role))) (e ∷ []))

-- a step is taken, or was taken before and changes nothing, or the gateway is dead
abbrev pub takes : Gate → Step → Gate
takes g s = if is_some (fault_of g s) then record g { dead = true } else (
    if was_taken g s then g else if_some (stepped (map fact_of s.requests) g.machine) g (landed g (entry_of s)))

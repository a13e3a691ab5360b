-- For contracts of the code: the step that lines are.
use Rattle.std.specs.Prelude.{ℕ, ◌==◌, ◌&&◌, Bool, if◌then◌else◌, List, length, nat_le, Option, None, is_some, option_and_then, option_map}
use Rattle.std.specs.List.{list_all}
use Rattle.serde_json.specs.Find.{as_object}
use Rattle.iv_records.specs.Journal.{Entry, most_said}
use Rattle.iv_records.specs.Parsed.{record_in}
use Rattle.iv_journal.specs.Journal.{Line, is_text}
use Rattle.iv_once.specs.Names.{Named}
use Rattle.iv_request.specs.Reading.{value_of}
use Rattle.iv_gate.specs.Arriving.{Step}
use Rattle.iv_gate.specs.Gate.{Log}

-- clients can be told the answer
abbrev pub is_answer : Named → Bool
is_answer e = nat_le (length e.answer) most_said && is_some (option_and_then as_object (value_of e.answer))

-- what is done between two positions, if the entry has one
abbrev pub step_of : Log → ℕ → Entry → Option Step
step_of log from e = option_map (λ to. record { log = log; from = from; to = to; requests = e.requests; names = e.names }) e.position

-- nothing is behind the record, and clients can be told its answers
abbrev pub is_whole : Entry × List Line → Bool
is_whole p = (length p.1 == 0) && list_all is_answer p.0.names

-- the lines are one record of a step, of texts that a journal holds and answers that clients can be told
abbrev pub step_in : Log → ℕ → List Line → Option Step
step_in log from ls = if list_all (λ l. is_text l.text) ls
    then option_and_then (λ p. if is_whole p then step_of log from p.0 else None) (record_in ls) else None

-- A line that is read: the command that it asks for, or none.
use Rattle.std.specs.Prelude.{ℕ, List, if◌then◌else◌, Option, Some, None}
use Rattle.std.specs.Str.{is_utf8}
use Rattle.iv_machine.specs.Act.{Command}
use Rattle.serde_json.specs.Data.{Data}
use Rattle.serde_json.specs.Read.{read}
use Rattle.iv_request.specs.Request.{request}

-- what a line is: a command, or none, which is answered by this number
pub data Reading : Type 0 where
  faulty : ℕ → Reading
  asked : Command → Reading

-- no JSON; a JSON value that is no request
abbrev pub bad_json : Reading
bad_json = faulty 1

abbrev pub bad_request : Reading
bad_request = faulty 2

-- a line that is no UTF-8 is no JSON
abbrev pub value_of : List ℕ → Option Data
value_of line = if is_utf8 line then read line else None

abbrev pub asked_by : Option Command → Reading
asked_by None = bad_request
asked_by (Some c) = asked c

abbrev pub reading_by : Option Data → Reading
reading_by None = bad_json
reading_by (Some d) = asked_by (request d)

abbrev pub reading_of : List ℕ → Reading
reading_of line = reading_by (value_of line)

-- What messages of the code are to the definitions.
use Rattle.std.specs.Prelude.{string_bytes, option_map, Result, Ok, Err}
use Rattle.iv_machine.specs.Act as machine
use Rattle.serde_json.specs.Data.{Data, string}
use Rattle.iv_command.specs.RowTexts.{whole}
use Rattle.iv_command.specs.Views.{act_of}
use Rattle.iv_command.specs.declared.command.Act.{Act}
use Rattle.iv_request.specs.Values.{natural}
use Rattle.iv_message.specs.Message as message
use Rattle.iv_message.specs.declared.message.Id.{Id}
use Rattle.iv_message.specs.declared.message.Id.TheVariants as id
use Rattle.iv_message.specs.declared.message.Why.{Why}
use Rattle.iv_message.specs.declared.message.Why.TheVariants as why
use Rattle.iv_message.specs.declared.message.Message.{Message}
use Rattle.iv_message.specs.declared.message.Message.TheVariants as said

abbrev pub id_data : Id → Data
id_data (id.Natural n) = natural n
id_data (id.Whole z) = whole z
id_data (id.Text t) = string (string_bytes t)

abbrev pub why_of : Why → message.Why
why_of (why.Missing key) = message.missing (string_bytes key)
why_of (why.Unknown key) = message.unknown (string_bytes key)
why_of (why.Wrong key entry) = message.wrong (string_bytes key) entry

abbrev pub asked_of : Result Act Why → Result machine.Act message.Why
asked_of (Ok act) = Ok (act_of act)
asked_of (Err w) = Err (why_of w)

abbrev pub said_of : Message → message.Message
said_of said.NoJson = message.no_json
said_of said.TooLong = message.too_long
said_of said.NoObject = message.no_object
said_of (said.NoRequest i w) = message.no_request (option_map id_data i) (why_of w)
said_of (said.Request i act) = message.request (option_map id_data i) (act_of act)

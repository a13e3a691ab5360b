-- What values of the code are to the definitions.
use Rattle.iv_records.specs.Parsed as parsed
use Rattle.iv_records.specs.declared.records.Text.{Text}
use Rattle.iv_records.specs.declared.records.Text.TheVariants as code

abbrev pub text_of : Text → parsed.Text
text_of (code.Request q) = parsed.of_request q
text_of (code.Name e) = parsed.of_name e
text_of (code.Position p) = parsed.of_position p

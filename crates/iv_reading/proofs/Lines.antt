-- What a line is, by its text and its value.
use Rattle.std.proofs.Common.{◌≡◌, ℕ, List, Option, Some, None, option_and_then, ap, ◌∙◌, sym, refl}
use Rattle.std.specs.Prelude.{IsUtf8, true}
use Rattle.serde_json.specs.Data.{Data}
use Rattle.serde_json.specs.Read.{read}
use Rattle.iv_machine.specs.Act.{Command}
use Rattle.iv_machine.specs.Well.{is_well_command}
use Rattle.iv_request.specs.Reading.{bad_json, asked, asked_by, reading_by, reading_of}
use Rattle.iv_request.specs.Request.{request}
use Rattle.iv_request.proofs.LinesAsValues.{value_of-not_IsUtf8, value_of-IsUtf8}
use Rattle.iv_request.proofs.Well.{is_well_command-of_request}

pub reading_of-not_IsUtf8 : (line : List ℕ) → (IsUtf8 line → ⊥) → reading_of line ≡ bad_json
reading_of-not_IsUtf8 line h = ap reading_by (sym (value_of-not_IsUtf8 line h))

pub reading_of-IsUtf8 : (line text : List ℕ) → text ≡ line → IsUtf8 line → reading_of line ≡ reading_by (read text)
reading_of-IsUtf8 line text e u = ap reading_by (sym (value_of-IsUtf8 line text (read text) e u refl))

-- the value of the text is the request c
pub reading_by-request : (o : Option Data) (c : Command) → option_and_then request o ≡ Some c → reading_by o ≡ asked c
reading_by-request None c e = cc
reading_by-request (Some d) c e = ap asked_by e

pub is_well_command-reading_by : (o : Option Data) (c : Command) → reading_by o ≡ asked c → is_well_command c ≡ true
is_well_command-reading_by None c e = cc
is_well_command-reading_by (Some d) c e = by_request (request d) refl e
  where
    by_request : (r : Option Command) → request d ≡ r → asked_by r ≡ asked c → is_well_command c ≡ true
    by_request None a b = cc
    by_request (Some k) a b =
        let same : k ≡ c = cc in
        is_well_command-of_request d c (sym (a ∙ ap Some same))

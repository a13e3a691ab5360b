use Rattle.std.proofs.Common.{◌≡◌, Option, option_map, refl, subst}
use Rattle.std.specs.Prelude.{IfOk}
use Rattle.serde_json.specs.Data.{Data}
use Rattle.serde_json.specs.Read.{read}
use Rattle.iv_request.specs.Documents.{value_data}
use Rattle.iv_request.proofs.LinesAsValues.{value_of-not_IsUtf8, value_of-IsUtf8}
use Rattle.iv_request.proofs.requests.read_value.Goals as goal

pub returns-in-Err : goal.returns-in-Err
returns-in-Err c = value_of-not_IsUtf8 c.args.line.now c.in-Err.ensures.cases.0

pub returns-in-Ok : goal.returns-in-Ok
returns-in-Ok c =
    let text = c.in-Ok.text.now in
    subst (λ (x : Option Data). IfOk c.read.result (λ found. option_map value_data found ≡ x))
    (value_of-IsUtf8 c.args.line.now text (read text) c.in-Ok.ensures.cases.0 c.in-Ok.ensures.cases.1 refl) c.read.ensures

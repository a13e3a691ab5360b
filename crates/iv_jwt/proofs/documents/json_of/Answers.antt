use Rattle.iv_jwt.proofs.Values.{json_of-not_IsUtf8, json_of-IsUtf8}
use Rattle.iv_jwt.proofs.documents.json_of.Goals as goal

pub returns-in-Err : goal.returns-in-Err
returns-in-Err c = json_of-not_IsUtf8 c.args.bytes.now c.in-Err.ensures.cases.0

pub returns-in-Ok-parse : goal.returns-in-Ok-parse
returns-in-Ok-parse c = json_of-IsUtf8 c.args.bytes.now c.in-Ok.text.now _ c.in-Ok.ensures.cases.0 c.in-Ok.ensures.cases.1 c.in-Ok-parse.ensures.ok

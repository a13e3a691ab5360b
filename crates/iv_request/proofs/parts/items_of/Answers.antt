use Rattle.std.proofs.Common.{◌∙◌, sym, ap}
use Rattle.json.specs.Value.{value_view}
use Rattle.json.proofs.Trees.{view-Array}
use Rattle.serde_json.specs.Find.{as_array}
use Rattle.iv_request.specs.Documents.{data_of}
use Rattle.iv_request.proofs.parts.items_of.Goals as goal

pub returns-in-Array : goal.returns-in-Array
returns-in-Array c = ap (λ j. as_array (data_of j)) (sym (ap value_view c.in-Array.is ∙ view-Array c.in-Array.items))

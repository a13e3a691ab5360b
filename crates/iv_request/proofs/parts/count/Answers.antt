use Rattle.std.proofs.Common.{◌∙◌, sym, ap}
use Rattle.json.specs.Value.{value_view}
use Rattle.json.proofs.Trees.{view-Array}
use Rattle.iv_request.specs.Documents.{data_of}
use Rattle.iv_request.specs.Request.{count}
use Rattle.iv_request.proofs.BorrowedValues.{items_len-vec_len}
use Rattle.iv_request.proofs.parts.count.Goals as goal

pub returns-in-Array : goal.returns-in-Array
returns-in-Array c = items_len-vec_len c.in-Array.items c.len.result c.len.ensures ∙ ap (λ j. count (data_of j)) (sym (ap value_view c.in-Array.is ∙ view-Array c.in-Array.items))

use Rattle.std.proofs.Common.{◌∙◌, length, is_some, ap}
use Rattle.std.specs.Prelude.{◌&&◌, nat_le, option_and_then}
use Rattle.serde_json.specs.Find.{as_object}
use Rattle.iv_records.specs.Journal.{most_said}
use Rattle.iv_request.specs.Reading.{value_of}
use Rattle.iv_arrivals.specs.Reads.{is_answer}
use Rattle.iv_arrivals.proofs.steps.is_answer.Goals as goal

pub returns : goal.returns
returns c =
    c.in_ok-is.ensures
    ∙ ((λ i. nat_le (length (c.deref.ensures.value i)) most_said && is_some (option_and_then as_object (value_of (c.deref.ensures.value i))))
    ∙ ap is_answer c.name.view_is)

use Rattle.std.proofs.Common.{rules}
use Rattle.iv_request.specs.Documents.{value_data}
use Rattle.iv_request.specs.Names.{form_seen}
use Rattle.iv_message.proofs.Meaning.{keys_fault-None}
use Rattle.iv_message.proofs.reasons.keys_fault.Goals as goal

pub returns-then-has_only : goal.returns-then-has_only
returns-then-has_only c = keys_fault-None (form_seen c.args.form.now) (value_data c.args.value.now) (search rules) (search rules) (search rules)

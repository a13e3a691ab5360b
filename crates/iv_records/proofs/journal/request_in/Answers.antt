use Rattle.std.proofs.Common.{rules}
use Rattle.iv_records.proofs.PartsAsText.{request_in-not_IsUtf8}
use Rattle.iv_records.proofs.journal.request_in.Goals as goal

pub returns-in_default-from_utf8-clause-entry : goal.returns-in_default-from_utf8-clause-entry
returns-in_default-from_utf8-clause-entry c = request_in-not_IsUtf8 c.args.line.now (c.in-Some.role.now, c.in-Some.rest.now) (search rules) c.in_default-from_utf8.ensures.cases.0

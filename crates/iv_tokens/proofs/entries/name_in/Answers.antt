use Rattle.std.proofs.Common.{sym, ◌∙◌}
use Rattle.iv_tokens.proofs.HolderNames.{is_holder-is_plain, is_holder-not_IsUtf8}
use Rattle.iv_tokens.proofs.entries.name_in.Goals as goal

pub returns-in-Ok : goal.returns-in-Ok
returns-in-Ok c = is_holder-is_plain c.args.name.now c.in-Ok.text.now c.in-Ok.ensures.cases.0 c.in-Ok.ensures.cases.1 (sym c.are_plain.ensures ∙ c.if-not-are_plain.false) (sym c.is_short.ensures ∙ c.if-not-is_short.false)

pub returns-in-Err : goal.returns-in-Err
returns-in-Err c = is_holder-not_IsUtf8 c.args.name.now c.in-Err.ensures.cases.0

use Rattle.std.proofs.Common.{Option, Some, None, option_map, string_bytes, subst}
use Rattle.std.proofs.lemmas.Str.{IsUtf8-string_bytes}
use Rattle.std.specs.Prelude.{String, IfSome}
use Rattle.std.specs.Str.{IsUtf8}
use Rattle.iv_machine.specs.Act.{PolicyText}
use Rattle.iv_command.proofs.shape.policy_texts.Goals as goal

is_text : {Z : Type 0} (o : Option (String Z)) → IfSome (option_map string_bytes o) IsUtf8
is_text None = tt
is_text (Some text) = IsUtf8-string_bytes text

pub returns : goal.returns
returns c = subst (λ (p : PolicyText). IfSome p.using_text IsUtf8 × IfSome p.check_text IsUtf8) c.policy.view_is (is_text c.policy.inside.using_text, is_text c.policy.inside.check_text)

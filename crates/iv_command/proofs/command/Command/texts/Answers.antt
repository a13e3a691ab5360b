use Rattle.std.proofs.Common.{◌≡◌, refl}
use Rattle.std.proofs.lemmas.Str.{IsUtf8-string_bytes}
use Rattle.iv_machine.specs.Stored.{HasTexts}
use Rattle.iv_command.specs.Views.{act_of}
use Rattle.iv_command.specs.declared.command.Act.{Act}
use Rattle.iv_command.specs.declared.command.Act.TheVariants.{CreatePolicy, CreateView}
use Rattle.iv_command.specs.declared.command.PolicyText.{PolicyText}
use Rattle.iv_command.proofs.command.Command.texts.Goals as goal

-- of a request that is no new policy
texts_of : (act : Act) → ((p : PolicyText) → act ≡ CreatePolicy p → ⊥) → HasTexts (act_of act)
texts_of (CreateView name owner query) other = IsUtf8-string_bytes query
texts_of (CreatePolicy p) other = absurd (other p refl)
texts_of _ other = tt

pub returns-in_default : goal.returns-in_default
returns-in_default c = texts_of c.args.self.now.act c.in_default.not-CreatePolicy

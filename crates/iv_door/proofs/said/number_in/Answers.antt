use Rattle.std.proofs.Common.{◌≡◌, ◌∙◌, ℕ, Ok, ap, subst, sym}
use Rattle.std.specs.Prelude.{Result, decimal}
use Rattle.std.specs.Str.{IsUtf8}
use Rattle.std.specs.Cmp.Lexicographic.{other_text}
use Rattle.std.proofs.lemmas.Fmt.{IsAscii-decimal, parse-decimal}
use Rattle.std.proofs.lemmas.Str.{IsUtf8-from_ascii}
use Rattle.iv_door.proofs.said.number_in.Goals as goal

same_number : {E : Type 0} (a b : ℕ) → ◌≡◌ {A = Result ℕ E} (Ok a) (Ok b) → a ≡ b
same_number a b h = cc

pub returns-in_default-clause-none : goal.returns-in_default-clause-none
returns-in_default-clause-none c = λ _ n l h. c.in_default.ensures.cases.0 (subst IsUtf8 h (IsUtf8-from_ascii (decimal n) (IsAscii-decimal n l)))

pub returns-in_default-parse-clause-none : goal.returns-in_default-parse-clause-none
returns-in_default-parse-clause-none c = λ _ n l h. c.in_default-parse.not-Ok n
    (c.in_default-parse.is ∙ parse-decimal 64 n c.in-Ok.text.now _ l l (c.in-Ok.ensures.cases.0 ∙ sym h) c.in_default-parse.ensures.value.0)

pub returns-else-is-clause-none : goal.returns-else-is-clause-none
returns-else-is-clause-none c = λ _ n l h.
    let same = same_number c.in-Ok-parse.number n
    (sym c.in-Ok-parse.is ∙ parse-decimal 64 n c.in-Ok.text.now c.parse.result l l (c.in-Ok.ensures.cases.0 ∙ sym h) c.parse.ensures.value.0) in
    other_text c.as_bytes.result.now c.args.digits.now c.if-is.ensures (c.as_bytes.ensures.value ∙ (c.format.ensures.text ∙ (ap decimal same ∙ h)))

use Rattle.std.proofs.Common.{◌≡◌, ◌∙◌, ◌∷◌, Some, ap, sym}
use Rattle.std.specs.Prelude.{codes}
use Rattle.std.proofs.lemmas.Slice.Eq.{bytes_eq-Decides}
use Rattle.json.specs.Reads.{token_of}
use Rattle.serde_json.specs.Find.{as_str}
use Rattle.iv_reading.proofs.TokensAndValues.{Pulls-same_tokens, Pulls-string}
use Rattle.iv_reading.proofs.writes.is_write_next.Goals as goal

pub returns-in-Some-String-clause-word : goal.returns-in-Some-String-clause-word
returns-in-Some-String-clause-word c h =
    let text : c.in-Some-String.text.now ≡ codes "write" = (bytes_eq-Decides _ _).0 (sym c.eq.ensures ∙ h) in
    Pulls-same_tokens 0 as_str _ _ _ _ (c.in-Some-String.ensures.value ∙ ap (λ k. token_of k ∷ c.next.new.self) c.in-Some-String.field-0-is) (Pulls-string as_str c.in-Some-String.text.now c.next.new.self _ (ap Some text))

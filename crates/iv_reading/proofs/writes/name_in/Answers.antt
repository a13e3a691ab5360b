use Rattle.std.proofs.Common.{◌∙◌, ◌∷◌, cond, Some, None, ap, sym}
use Rattle.json.specs.Reads.{token_of}
use Rattle.iv_reading.specs.Pulled.{name_of}
use Rattle.iv_reading.proofs.TokensAndValues.{Pulls-same_tokens, Pulls-string}
use Rattle.iv_reading.proofs.writes.name_in.Goals as goal

pub returns-in_ok-from_str-in-Some-String-clause-name : goal.returns-in_ok-from_str-in-Some-String-clause-name
returns-in_ok-from_str-in-Some-String-clause-name c =
    Pulls-same_tokens 0 name_of _ _ _ _ (c.in-Some-String.ensures.value ∙ ap (λ k. token_of k ∷ c.next.new.self) c.in-Some-String.field-0-is) (Pulls-string name_of c.in-Some-String.text.now c.next.new.self _ (ap (λ b. cond b (Some c.in-Some-String.text.now) None) (sym c.name_ok.ensures ∙ c.if-name_ok.true) ∙ ap Some (sym c.in_ok-from_str-in-Some-String.ensures.ok)))

use Rattle.std.proofs.Common.{◌∙◌, ◌∷◌, ap}
use Rattle.json.specs.Reads.{token_of}
use Rattle.iv_reading.proofs.TokensAndValues.{Pulls-natural_by}
use Rattle.iv_reading.proofs.writes.natural_in.Goals as goal

pub returns-in-Some-Number-clause-number : goal.returns-in-Some-Number-clause-number
returns-in-Some-Number-clause-number c = Pulls-natural_by c.in-Some-Number.text.now c.natural_of.result c.next.new.self c.args.reader.now (c.in-Some-Number.ensures.value ∙ ap (λ k. token_of k ∷ c.next.new.self) c.in-Some-Number.field-0-is) c.natural_of.ensures

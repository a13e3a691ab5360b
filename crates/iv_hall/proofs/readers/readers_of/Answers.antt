use Rattle.std.proofs.Common.{◌∙◌, [], Bor, ap, option_map, sym}
use Rattle.iv_rows.specs.Options.{if_some}
use Rattle.iv_hall.specs.Readers.{Readers}
use Rattle.iv_hall.proofs.FeedReaders.{IsDistinct-none}
use Rattle.iv_hall.proofs.readers.readers_of.Goals as goal

pub returns-in-None-clause-numbers : goal.returns-in-None-clause-numbers
returns-in-None-clause-numbers c =
    ap (λ o. if_some (option_map (λ (r : Bor Readers). r.now) o) [] (λ (r : Readers). r.numbers)) (sym c.in-None.is)
    ∙ ap (λ o. if_some o [] (λ (r : Readers). r.numbers)) c.those_of.ensures

pub returns-in-None-clause-once : goal.returns-in-None-clause-once
returns-in-None-clause-once c = IsDistinct-none

pub returns-in-Some-clause-numbers : goal.returns-in-Some-clause-numbers
returns-in-Some-clause-numbers c =
    c.numbers.ensures.numbers
    ∙ (ap (λ o. if_some (option_map (λ (r : Bor Readers). r.now) o) [] (λ (r : Readers). r.numbers)) (sym c.in-Some.is)
    ∙ ap (λ o. if_some o [] (λ (r : Readers). r.numbers)) c.those_of.ensures)

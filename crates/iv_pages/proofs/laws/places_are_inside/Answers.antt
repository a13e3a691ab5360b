use Rattle.iv_pages.proofs.Literal.{plain_named}
use Rattle.iv_pages.proofs.PathSegments.{places_inside}
use Rattle.iv_pages.proofs.laws.places_are_inside.Goals as goal

pub returns-clause-inside : goal.returns-clause-inside
returns-clause-inside c = places_inside

pub returns-clause-named : goal.returns-clause-named
returns-clause-named c = plain_named

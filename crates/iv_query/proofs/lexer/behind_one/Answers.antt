use Rattle.std.proofs.lemmas.Str.{IsCharBoundary-after_ascii}
use Rattle.iv_query.proofs.lexer.behind_one.Goals as goal

pub range_from-requires : goal.range_from-requires
range_from-requires c = λ _. IsCharBoundary-after_ascii c.args.text.now 0 c.utf8.text c.requires.there c.requires.ascii

use Rattle.std.proofs.Common.{length}
use denote.Shadow.{shadow}
use denote.Text.{Utf8}
use Rattle.iv_query.specs.Tokens.{toks}
use Rattle.iv_query.proofs.Lexes.{Before}
use Rattle.iv_query.proofs.lexer.lexed.Given as goal

abbrev pub invariant-loop-rest : goal.invariant-loop-rest
invariant-loop-rest l = record { before : Before l.text (toks l.list.items) l.rest; text : shadow (Utf8 l.rest) }

abbrev pub decreases-loop-rest : goal.decreases-loop-rest
decreases-loop-rest l = length l.rest

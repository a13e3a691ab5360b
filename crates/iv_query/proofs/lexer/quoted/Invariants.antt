use Rattle.std.proofs.Common.{length, string_bytes}
use denote.Text.{Utf8}
use denote.Shadow.{shadow}
use Rattle.iv_query.proofs.Quotes.{Joins}
use Rattle.iv_query.proofs.lexer.quoted.Given as goal

abbrev pub invariant-loop-value : goal.invariant-loop-value
invariant-loop-value l = record { joins : Joins l.text (string_bytes l.value) l.rest; text : shadow (Utf8 l.rest) }

abbrev pub decreases-loop-value : goal.decreases-loop-value
decreases-loop-value l = length l.rest

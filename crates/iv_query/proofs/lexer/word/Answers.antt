use Rattle.std.proofs.Common.{sym, ap, subst, ◌∙◌}
use Rattle.std.specs.List.{prefix_len}
use Rattle.std.specs.Str.{IsCharBoundary}
use Rattle.iv_query.specs.Lexing.{is_word_byte}
use Rattle.iv_query.proofs.Bytes.{IsCharBoundary-prefix_len, lt-is_word_byte}
use Rattle.iv_query.proofs.lexer.word.Goals as goal

pub split_at-requires : goal.split_at-requires
split_at-requires c = subst (IsCharBoundary c.args.text.now) (sym (c.word_len-n.ensures ∙ ap (prefix_len is_word_byte) c.as_bytes.ensures.value)) (IsCharBoundary-prefix_len is_word_byte lt-is_word_byte c.args.text.now c.utf8.text)

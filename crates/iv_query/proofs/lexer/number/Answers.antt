use Rattle.std.proofs.Common.{List, ℕ, take, drop, sym, ap, subst, ◌∙◌}
use Rattle.std.specs.Char.{is_ascii_digit}
use Rattle.std.specs.Int.{w64}
use Rattle.std.specs.List.{prefix_len}
use Rattle.std.specs.Str.{IsCharBoundary}
use Rattle.std.specs.Str.Parse.{ParsesSigned}
use Rattle.iv_query.specs.Lexing.{starts_letter}
use Rattle.iv_query.proofs.Bytes.{IsCharBoundary-prefix_len}
use Rattle.iv_query.proofs.Numbers.{lt-is_ascii_digit, number_at-Nothing}
use Rattle.iv_query.proofs.lexer.number.Goals as goal

pub split_at-requires : goal.split_at-requires
split_at-requires c = subst (IsCharBoundary c.args.text.now) (sym (c.digits_len-n.ensures ∙ ap (prefix_len is_ascii_digit) c.as_bytes.ensures.value)) (IsCharBoundary-prefix_len is_ascii_digit lt-is_ascii_digit c.args.text.now c.utf8.text)

pub returns-in-Err : goal.returns-in-Err
returns-in-Err c =
    let n = c.digits_len-n.ensures ∙ ap (prefix_len is_ascii_digit) c.as_bytes.ensures.value in
    let front = c.split_at.ensures.front ∙ ap (λ k. take k c.args.text.now) n in
    let back = c.split_at.ensures.back ∙ ap (λ k. drop k c.args.text.now) n in
    let l = ap starts_letter (sym (c.as_bytes-2.ensures.value ∙ back)) ∙ sym c.starts_letter.ensures ∙ c.if-starts_letter.false in
    let parse = rw c.in-Err.is at (subst (λ (p : List ℕ). ParsesSigned w64 10 p c.parse.result) front c.parse.ensures.value.0) in
    number_at-Nothing c.args.text.now c.in-Err.field-0 c.requires l parse

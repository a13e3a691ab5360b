use Rattle.std.proofs.Common.{◌≡◌, refl, ℕ, ◌+◌, List, take, drop, sym, ap, subst, ◌∙◌, add-one, arith}
use Rattle.std.specs.Char.{is_ascii_digit}
use Rattle.std.specs.Int.{w64}
use Rattle.std.specs.List.{prefix_len}
use Rattle.std.specs.Str.{IsCharBoundary}
use Rattle.std.specs.Str.Parse.{ParsesSigned}
use Rattle.std.proofs.lemmas.List.Sums.{prefix_len-le-length}
use Rattle.iv_query.specs.Lexing.{starts_letter}
use Rattle.iv_query.proofs.Numbers.{negative_at-Nothing, IsCharBoundary-minus}
use Rattle.iv_query.proofs.lexer.negative.Goals as goal

pub overflow_add-n : goal.overflow_add-n
overflow_add-n c = omega (arith, prefix_len-le-length is_ascii_digit c.as_bytes.result.now)

pub split_at-requires : goal.split_at-requires
split_at-requires c =
    let n = c.digits_len-n.ensures ∙ ap (prefix_len is_ascii_digit) c.as_bytes.ensures.value in
    subst (λ (k : ℕ). IsCharBoundary c.args.text.now (k + 1)) (sym n) (IsCharBoundary-minus c.args.text.now c.args.behind.now c.requires.whole c.utf8.behind)

pub returns-in-Err : goal.returns-in-Err
returns-in-Err c =
    let n = c.digits_len-n.ensures ∙ ap (prefix_len is_ascii_digit) c.as_bytes.ensures.value in
    let front = c.split_at.ensures.front ∙ ap (λ k. take (k + 1) c.args.text.now) n in
    let back = c.split_at.ensures.back ∙ ap (λ k. drop (k + 1) c.args.text.now) n in
    let behind : drop (prefix_len is_ascii_digit c.args.behind.now + 1) c.args.text.now ≡ drop (prefix_len is_ascii_digit c.args.behind.now) c.args.behind.now = rw (c.requires.whole, add-one) refl in
    let l = ap starts_letter (sym (c.as_bytes-2.ensures.value ∙ back ∙ behind)) ∙ sym c.starts_letter.ensures ∙ c.if-starts_letter.false in
    let parse = rw c.in-Err.is at (subst (λ (p : List ℕ). ParsesSigned w64 10 p c.parse.result) front c.parse.ensures.value.0) in
    negative_at-Nothing c.args.text.now c.args.behind.now c.in-Err.field-0 c.requires.whole c.requires.digits l parse

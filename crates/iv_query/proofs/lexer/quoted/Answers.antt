use Rattle.std.proofs.Common.{ℕ, take, drop, string_bytes, sym, ap, subst, ◌∙◌}
use Rattle.std.specs.List.{prefix_len}
use Rattle.std.specs.Str.{IsCharBoundary}
use Rattle.iv_query.specs.Lexing.{is_plain}
use Rattle.iv_query.proofs.Quotes.{IsCharBoundary-plain, quoted-unclosed, quoted-closed, Joins-more, IsUtf8-after_quote}
use Rattle.iv_query.proofs.lexer.quoted.Goals as goal

pub split_at-requires : goal.split_at-requires
split_at-requires c =
    let n = c.plain_len.ensures ∙ ap (prefix_len is_plain) c.as_bytes.ensures.value in
    subst (IsCharBoundary c.loop-value.rest.now) (sym n) (IsCharBoundary-plain c.loop-value.rest.now c.loop-value.invariant.text)

pub returns-in_default : goal.returns-in_default
returns-in_default c =
    let n = c.plain_len.ensures ∙ ap (prefix_len is_plain) c.as_bytes.ensures.value in
    let front = c.split_at.ensures.front ∙ ap (λ (k : ℕ). take k c.loop-value.rest.now) n in
    let back = c.split_at.ensures.back ∙ ap (λ (k : ℕ). drop k c.loop-value.rest.now) n in
    sym (quoted-unclosed c.args.text.now (string_bytes c.loop-value.value) c.loop-value.rest.now c.split_at.result.0.now c.split_at.result.1.now front back (sym c.in_default.ensures) c.loop-value.invariant.joins)

pub returns-in_default-after_quote : goal.returns-in_default-after_quote
returns-in_default-after_quote c =
    let n = c.plain_len.ensures ∙ ap (prefix_len is_plain) c.as_bytes.ensures.value in
    let front = c.split_at.ensures.front ∙ ap (λ (k : ℕ). take k c.loop-value.rest.now) n in
    let back = c.split_at.ensures.back ∙ ap (λ (k : ℕ). drop k c.loop-value.rest.now) n in
    rw c.in_ok-push_str.ensures.bytes
    (sym (quoted-closed c.args.text.now (string_bytes c.loop-value.value) c.loop-value.rest.now c.split_at.result.0.now c.split_at.result.1.now c.in-Some.behind.now front back (sym c.in-Some.ensures) (sym c.in_default-after_quote.ensures) c.loop-value.invariant.joins))

pub loop-value-preserved : goal.loop-value-preserved
loop-value-preserved c =
    let n = c.plain_len.ensures ∙ ap (prefix_len is_plain) c.as_bytes.ensures.value in
    let front = c.split_at.ensures.front ∙ ap (λ (k : ℕ). take k c.loop-value.rest.now) n in
    let back = c.split_at.ensures.back ∙ ap (λ (k : ℕ). drop k c.loop-value.rest.now) n in
    record {
      joins =
          rw (c.in_ok-push_str-2.ensures.bytes, c.in_ok-push_str.ensures.bytes)
          (Joins-more c.args.text.now (string_bytes c.loop-value.value) c.loop-value.rest.now c.split_at.result.0.now c.split_at.result.1.now c.in-Some.behind.now c.in-Some-after_quote.next.now front back (sym c.in-Some.ensures) (sym c.in-Some-after_quote.ensures) c.loop-value.invariant.joins);
      text = IsUtf8-after_quote c.loop-value.rest.now c.split_at.result.1.now c.in-Some.behind.now c.in-Some-after_quote.next.now back (sym c.in-Some.ensures) (sym c.in-Some-after_quote.ensures) c.loop-value.invariant.text;
    }

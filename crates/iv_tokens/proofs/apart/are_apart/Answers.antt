use Rattle.std.proofs.Common.{rules, arith, ◌≡◌, ◌<◌, ◌∙◌, ◌-◌, suc, List, ◌∷◌, drop, length, sym, drop-cons}
use Rattle.iv_tokens.specs.Entries.{Entry}
use Rattle.iv_tokens.proofs.Digests.{are_apart-has_key}
use Rattle.iv_tokens.proofs.apart.are_apart.Goals as goal

pub returns-then-not-branch : goal.returns-then-not-branch
returns-then-not-branch c =
    let es : List Entry = c.args.entries.now in
    let back = c.loop-back.back in
    let x : Entry = c.index-entries-entries.result in
    let n = length es - 1 - back in
    let low : back < length es = search rules in
    let within : n < length es = omega (arith, low) in
    let next : suc n ≡ length es - back = omega (arith, low) in
    let cut : drop n es ≡ x ∷ drop (length es - back) es =
    drop-cons es n x within ∙ (λ i. sym c.index-entries-entries.is i ∷ drop (next i) es) in
    let here : c.deref.result.now ≡ x.token.digest = search rules in
    are_apart-has_key n es (drop (length es - back) es) x c.loop-back.seen c.deref.result.now c.in_ok-note.field-0 cut here c.loop-back.invariant.0 c.in_ok-note.ensures.new c.if-not-branch.true

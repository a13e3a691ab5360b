use Rattle.std.proofs.Common.{sym, ap, ◌∙◌, arith, rules, Some, ◌≡◌, ◌-ℤ◌, to_z, of_z, w64, pos, neg_ℤ}
use Rattle.serde_json.specs.Find.{of_integer}
use Rattle.iv_request.proofs.Digits.{number_from-negative}
use Rattle.iv_request.proofs.documents.negative_of.Goals as goal

pub returns-then-n-gt0 : goal.returns-then-n-gt0
returns-then-n-gt0 c =
    let is = c.in-Some.ensures.number in
    let read = number_from-negative c.args.bytes.now is.0.0 is.0.1 (omega (arith, is.1, c.if-n-gt0.true)) in
    let cast : to_z w64 (of_z w64 (pos 0 -ℤ to_z w64 c.in-Some.n)) ≡ neg_ℤ (pos c.in-Some.n) = search (rules, c.in-Some.ensures.below) in
    ap Some c.from.ensures ∙ ap (λ z. Some (of_integer z)) (cast ∙ ap (λ n. neg_ℤ (pos n)) is.1) ∙ sym read

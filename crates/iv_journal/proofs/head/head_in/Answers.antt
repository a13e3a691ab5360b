use Rattle.std.proofs.Common.{◌≡◌, ◌∙◌, ap, sym, length, take, drop}
use Rattle.iv_journal.specs.Journal.{head_of}
use Rattle.iv_journal.proofs.Fronts.{length-is_head, head_of-is_head}
use Rattle.iv_journal.proofs.head.head_in.Goals as goal

pub returns-then-is_head-clause-some : goal.returns-then-is_head-clause-some
returns-then-is_head-clause-some c =
    let text = c.args.text.now in
    let h = sym c.is_head.ensures ∙ c.if-is_head.true in
    let e : c.front.result.now ≡ take 32 (drop 21 c.args.text.now) = c.front.ensures ∙ ap (take 32) c.behind.ensures in
    (head_of-is_head text h ∙ (λ i. head_of (sym e i) (sym c.behind-then-is_head.ensures i)), ap length e ∙ length-is_head text h)

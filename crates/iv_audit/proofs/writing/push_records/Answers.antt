use Rattle.std.proofs.Common.{◌≡◌, ◌+◌, ◌∷◌, drop, drop_of_length-le, refl, ap, ◌∙◌, sym, arith}
use Rattle.std.proofs.lemmas.List.{at_drop_more}
use Rattle.iv_audit.proofs.JournalLines.{GoesOnWith-IsDone, IsDone-next}
use Rattle.iv_audit.proofs.writing.push_records.Goals as goal

pub loop-place-preserved : goal.loop-place-preserved
loop-place-preserved c =
    let lines = c.args.lines.now in
    let place = c.loop-place.place in
    let line = c.index-lines-place.result in
    let split : drop place lines ≡ line ∷ drop (place + 1) lines =
    at_drop_more (λ z. z) lines place line (omega arith) ∙ ap (λ z. z ∷ drop (place + 1) lines) (sym c.index-lines-place.is) in
    IsDone-next c.args.at c.args.shares.now c.loop-place.left.now c.behind_line-left.result.now lines (drop place lines) (drop (place + 1) lines) place _ _ _ _ _ _ line _ c.holder_at.result.now
    c.loop-place.invariant split c.in_ok-push_noted.ensures.line c.behind_line-left.ensures c.holder_at.ensures refl c.in_ok-push_noted.ensures.pushed

pub returns : goal.returns
returns c =
    let lines = c.args.lines.now in
    let place = c.loop-place.place in
    GoesOnWith-IsDone c.args.at c.args.shares.now c.loop-place.left.now lines (drop place lines) place _ _ _ _ c.loop-place.invariant (drop_of_length-le lines (omega arith))

use Rattle.std.proofs.Common.{◌++◌, ◌∙◌, [], ◌∷◌, ap, append_assoc, map, sym, take}
use Rattle.std.proofs.lemmas.List.{map_more}
use Rattle.iv_journal.specs.Journal.{Line}
use Rattle.iv_head.specs.Begun.{Standing, line, standing_text}
use Rattle.iv_head.proofs.begun.push_standings.Goals as goal

abbrev line_of : Standing → Line
line_of s = line (standing_text s)

pub loop-standing-preserved : goal.loop-standing-preserved
loop-standing-preserved c =
    let xs = c.args.standings.now in
    let i = c.loop-standing.standing-index in
    let s = c.standing-item.result in
    let before = map line_of (take i xs) in
    c.in_ok-push_standing_line.ensures
    ∙ (ap (λ z. z ++ line_of s ∷ []) c.loop-standing.invariant
    ∙ (append_assoc c.args.lines.now.items before (line_of s ∷ [])
    ∙ ap (λ z. c.args.lines.now.items ++ z) (ap (λ y. before ++ line_of y ∷ []) c.standing-item.is ∙ sym (map_more line_of xs i s c.loop-standing-test.true))))

use Rattle.std.proofs.Common.{◌++◌, ◌∙◌, List, [], ◌∷◌, ap, append_assoc, map, sym, take}
use Rattle.std.proofs.lemmas.List.{map_more}
use Rattle.iv_journal.specs.Journal.{Line}
use Rattle.iv_once.specs.Names.{Named}
use Rattle.iv_records.specs.Journal.{name_text}
use Rattle.iv_records.specs.Parsed.{part}
use Rattle.iv_records.proofs.records.push_names.Goals as goal

abbrev part_of : Named → Line
part_of n = part (name_text n)

pub loop-name-preserved : goal.loop-name-preserved
loop-name-preserved c =
    let xs = c.args.names.now in
    let i = c.loop-name.name-index in
    let n = c.name-item.result in
    let before = map part_of (take i xs) in
    c.in_ok-push_name_line.ensures
    ∙ (ap (λ z. z ++ part_of n ∷ []) c.loop-name.invariant
    ∙ (append_assoc c.args.lines.now.items before (part_of n ∷ [])
    ∙ ap (λ z. c.args.lines.now.items ++ z) (ap (λ y. before ++ part_of y ∷ []) c.name-item.is ∙ sym (map_more part_of xs i n c.loop-name-test.true))))

use Rattle.std.proofs.Common.{◌∙◌, sym, ap}
use Rattle.iv_command.specs.RowTexts.{rows_text}
use Rattle.iv_command.specs.Views.{line_of}
use Rattle.iv_command.specs.declared.command.Line.{Line}
use Rattle.iv_lines.specs.Parts.{change_behind, ended_text, session_part}
use Rattle.iv_lines.specs.Texts.{line_text}
use Rattle.iv_lines.proofs.LineParts.{OnOk-append_same, change_behind-change_text, change_text-line_text, ended_text-line_text}
use Rattle.iv_lines.proofs.answers.push_line.Goals as goal

pub returns-in_ok-name-in-Change-clause-text : goal.returns-in_ok-name-in-Change-clause-text
returns-in_ok-name-in-Change-clause-text c =
    let n = c.in-Change.session in
    let k = c.in-Change.sub in
    let part = c.deref.ensures.value ∙ c.in_ok-name-in-Change.ensures.text in
    let rows = c.text.ensures ∙ ap rows_text c.deref-in-Change.ensures in
    OnOk-append_same c.push_change.result c.args.text.now.items _ _ c.push_change.new.text.items c.push_change.ensures
    (ap (λ v. change_behind v k c.text.result.now) part ∙ (ap (change_behind (session_part n) k) rows
    ∙ (change_behind-change_text n k (rows_text c.in-Change.rows.value) ∙ (change_text-line_text n k c.in-Change.rows.value
    ∙ ap (λ (l : Line). line_text (line_of l)) (sym c.in-Change.is)))))

pub returns-in-Ended-clause-text : goal.returns-in-Ended-clause-text
returns-in-Ended-clause-text c =
    let n = c.in-Ended.session in
    let k = c.in-Ended.sub in
    OnOk-append_same c.push_ended.result c.args.text.now.items _ _ c.push_ended.new.text.items c.push_ended.ensures
    (ap (ended_text n k c.in-Ended.cause) c.text-in-Ended.ensures ∙ (ended_text-line_text n k c.in-Ended.cause c.in-Ended.rows ∙ ap (λ (l : Line). line_text (line_of l)) (sym c.in-Ended.is)))

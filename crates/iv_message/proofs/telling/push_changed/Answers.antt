use Rattle.std.proofs.Common.{◌++◌, ◌∙◌, ap}
use Rattle.std.specs.Prelude.{codes}
use Rattle.iv_message.specs.Parts.{own_text}
use Rattle.iv_message.proofs.LineParts.{append-three, told_text-changed}
use Rattle.iv_message.proofs.telling.push_changed.Goals as goal

pub returns : goal.returns
returns c = λ es e.
    let t = c.args.text.now.items in
    append-three t (codes "{\"changes\":") c.args.rows.now (own_text c.args.own)
    c.extend_from_slice.new.self.items c.extend_from_slice-2.new.self.items c.push_own.new.text.items
    c.in_ok-extend_from_slice.ensures.items c.in_ok-extend_from_slice-2.ensures.items c.in_ok-push_own.ensures
    ∙ ap (λ v. t ++ (codes "{\"changes\":" ++ (v ++ own_text c.args.own))) e
    ∙ ap (λ v. t ++ v) (told_text-changed c.args.own es)

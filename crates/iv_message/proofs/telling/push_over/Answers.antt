use Rattle.std.proofs.Common.{◌++◌, ◌∙◌, ap}
use Rattle.std.specs.Prelude.{codes}
use Rattle.serde_json.specs.Data.{string}
use Rattle.serde_json.specs.Written.{compact_text}
use Rattle.iv_message.specs.Parts.{cause_key, own_text}
use Rattle.iv_message.proofs.LineParts.{append-four, told_text-over}
use Rattle.iv_message.proofs.telling.push_over.Goals as goal

pub returns : goal.returns
returns c = λ es e.
    let t = c.args.text.now.items in
    let why = cause_key c.args.cause ++ compact_text (string c.args.rel.now) in
    append-four t (codes "{\"changes\":") c.args.rows.now why (own_text c.args.own)
    c.extend_from_slice.new.self.items c.extend_from_slice-2.new.self.items c.push_cause.new.text.items c.push_own.new.text.items
    c.in_ok-extend_from_slice.ensures.items c.in_ok-extend_from_slice-2.ensures.items c.in_ok-push_cause.ensures c.in_ok-push_own.ensures
    ∙ ap (λ v. t ++ (codes "{\"changes\":" ++ (v ++ (why ++ own_text c.args.own)))) e
    ∙ ap (λ v. t ++ v) (told_text-over c.args.own c.args.rel.now c.args.cause es)

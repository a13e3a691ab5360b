use Rattle.std.proofs.Common.{◌≡◌, ◌∙◌, ◌++◌, ap, append_assoc, codes}
use Rattle.iv_journal.specs.Journal.{form, head_of, is_head}
use Rattle.iv_journal.proofs.Fronts.{is_head-head_of}
use Rattle.iv_journal.proofs.head.head_text.Goals as goal

pub returns-clause-head : goal.returns-clause-head
returns-clause-head c =
    let epoch = c.args.epoch.now in
    let more = c.args.more.now in
    let e : c.extend_from_slice-4.new.self.items ≡ head_of c.args.epoch.now c.args.more.now =
    c.in_ok-extend_from_slice-4.ensures.items
    ∙ (ap (λ z. z ++ more) (c.in_ok-extend_from_slice-3.ensures.items
    ∙ ap (λ z. z ++ codes "\",") (c.in_ok-extend_from_slice-2.ensures.items
    ∙ ap (λ z. z ++ epoch) (c.in_ok-extend_from_slice.ensures.items ∙ ap (λ z. z ++ form) c.new-text.ensures.items)))
    ∙ (append_assoc (form ++ epoch) (codes "\",") more ∙ append_assoc form epoch (codes "\"," ++ more))) in
    ap is_head e ∙ is_head-head_of epoch more c.told-epoch

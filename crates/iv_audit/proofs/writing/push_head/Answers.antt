use Rattle.std.proofs.Common.{◌≡◌, true, ap, ◌∙◌, subst}
use Rattle.std.specs.Prelude.{OnOk}
use Rattle.iv_journal.specs.Journal.{Line}
use Rattle.iv_audit.specs.Audit.{head_line}
use Rattle.iv_audit.specs.Writing.{IsPushed}
use Rattle.iv_audit.proofs.writing.push_head.Goals as goal

pub returns : goal.returns
returns c =
    let same : record { is_last = true; text = c.deref.result.now } ≡ head_line c.args.epoch.now =
    ap (λ t. record { is_last = true; text = t }) (c.deref.ensures.value ∙ c.in_ok-text.ensures.text) in
    subst (λ (l : Line). OnOk c.push_line.result (IsPushed l c.args.chain.now c.push_line.new.chain c.args.out.now.items c.push_line.new.out.items)) same c.push_line.ensures

use Rattle.std.proofs.Common.{◌≡◌, ◌∙◌, ◌++◌, None, ap, map, subst, sym}
use Rattle.std.specs.Prelude.{OnOk}
use Rattle.iv_zset.specs.Weights.{Weighed}
use Rattle.iv_machine.specs.Machine.{lines_told as machine_line}
use Rattle.iv_readers.specs.Rows.{shared_rows}
use Rattle.iv_command.specs.Views.{line_of}
use Rattle.iv_store.proofs.SubscriptionLines.{append-no_lines}
use Rattle.iv_store.proofs.lines.push_rows.Goals as goal

pub returns-in_ok-clone-in-Some : goal.returns-in_ok-clone-in-Some
returns-in_ok-clone-in-Some c =
    subst (λ (es : Weighed). OnOk c.push_shared.result (map line_of c.push_shared.new.lines.items ≡ map line_of c.args.lines.now.items ++ machine_line None c.args.subscription.now es))
    (c.in_ok-clone-in-Some.ensures.cases ∙ sym (ap shared_rows c.in-Some.is)) c.push_shared.ensures

pub returns-in-None : goal.returns-in-None
returns-in-None c = sym (append-no_lines (map line_of c.args.lines.now.items)) ∙ ap (λ (es : Weighed). map line_of c.args.lines.now.items ++ machine_line None c.args.subscription.now es) (sym (ap shared_rows c.in-None.is))

use Rattle.iv_host.specs.Beginning.{head_with}
use Rattle.iv_running.proofs.LogJournals.{back_by}
use Rattle.iv_running.proofs.opening.led.Goals as goal

pub returns-in-Ok-clause-runs : goal.returns-in-Ok-clause-runs
returns-in-Ok-clause-runs c =
    let head = head_with c.as_str.result.now c.in_ok-begun.begun in
    c.in-Ok.ensures.runs c.args.settings.now.rows c.args.tokens.items head (c.in_ok-desk.ensures head c.in_ok-head.ensures)

pub returns-in-Ok-clause-back : goal.returns-in-Ok-clause-back
returns-in-Ok-clause-back c =
    let epoch = c.as_str.result.now in
    let head = head_with epoch c.in_ok-begun.begun in
    let back = c.in-Ok.ensures.back c.args.settings.now.rows c.args.tokens.items head (c.in_ok-desk.ensures head c.in_ok-head.ensures) in (
      epoch,
      back_by c.args.settings.now.rows c.args.tokens.items epoch c.in_ok-begun.begun c.in_ok-begun.said c.deref.result.now c.args.audit.now.lines.items
          c.deref-2.result.now c.behind-entries.result.now c.lead.new.desk c.in_ok-begun.ensures c.deref.ensures.value c.deref-2.ensures.value c.behind-entries.ensures back,
    )

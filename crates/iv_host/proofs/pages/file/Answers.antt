use Rattle.std.proofs.Common.{◌∙◌, sym}
use Rattle.iv_pages.specs.Seen.{asked_by}
use Rattle.iv_host.proofs.PageAnswers.{IsFile-NotFound, IsFile-head, IsFile-whole}
use Rattle.iv_host.proofs.pages.file.Goals as goal

pub returns-then-not-follows : goal.returns-then-not-follows
returns-then-not-follows c =
    IsFile-head (asked_by c.args.ask.now) c.args.place.now c.kind_of-kind.result.now c.deref.result.now _ c.args.found.now.size c.args.found.now.changed
    c.kind_of-kind.ensures (c.deref.ensures.value ∙ c.in_ok-tag.ensures)
    (sym c.in_ok-head.ensures.follows ∙ c.if-not-follows.true) c.in_ok-head.ensures.head

pub returns-in-Ok : goal.returns-in-Ok
returns-in-Ok c =
    IsFile-whole (asked_by c.args.ask.now) c.args.place.now c.kind_of-kind.result.now c.deref-in-Ok.result.now c.deref-in-Ok-2.result.now _
    c.args.found.now.size c.args.found.now.changed
    c.kind_of-kind.ensures (c.deref-in-Ok.ensures.value ∙ c.in_ok-tag.ensures) c.in_ok-page-in-Ok.ensures

pub returns : goal.returns
returns c = IsFile-NotFound (asked_by c.args.ask.now) c.args.place.now _ c.args.found.now.size c.args.found.now.changed c.in_ok-missing-in-Err.ensures

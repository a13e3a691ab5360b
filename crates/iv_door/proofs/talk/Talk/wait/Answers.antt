use Rattle.std.proofs.Common.{◌<◌, ◌≤◌, ◌∙◌, ◌+◌, ap, length, subst, sym}
use Rattle.iv_door.specs.Answers.{too_long}
use Rattle.iv_door.specs.Talk.{Hears, fails, no_end, not_yet}
use Rattle.iv_door.proofs.talk.Talk.wait.Goals as goal

pub returns-then-unread-le-MOST_LINE-clause-heard : goal.returns-then-unread-le-MOST_LINE-clause-heard
returns-then-unread-le-MOST_LINE-clause-heard c = not_yet c.requires (subst (λ z. length z ≤ 130816) c.unread.ensures c.if-unread-le-MOST_LINE.true)

pub returns-in-Some-clause-fault : goal.returns-in-Some-clause-fault
returns-in-Some-clause-fault c = (
  c.args.self.now,
  subst (λ n. Hears c.args.self.now (fails (too_long n), c.args.self.now)) (sym (c.in-Some.ensures.1 ∙ ap (λ t. t.lines + 1) c.self.view_is))
      (no_end c.requires (subst (λ z. 130816 < length z) c.unread.ensures c.if-unread-le-MOST_LINE.false)),
)

use Rattle.std.proofs.Common.{ℕ, Global, Vec}
use Rattle.iv_following.proofs.StepLines.{lines_pushed}
use Rattle.iv_following.proofs.steps.lines_of.Goals as goal

pub loop-at-preserved : goal.loop-at-preserved
loop-at-preserved c =
    lines_pushed (λ (v : Vec ℕ Global). v.items) c.args.texts.now c.loop-at.at c.saturating_sub-last.result c.loop-at.lines.items c.push.new.self.items
    c.deref.result.now c.index-texts-at.result c.loop-at-test.true c.saturating_sub-last.ensures c.index-texts-at.is c.deref.ensures.value
    c.in_ok-push.ensures.items c.loop-at.invariant

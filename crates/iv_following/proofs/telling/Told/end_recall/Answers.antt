use Rattle.iv_following.proofs.ToldLines.{line_told}
use Rattle.iv_following.proofs.telling.Told.end_recall.Goals as goal

pub returns : goal.returns
returns c = line_told _ _ _ _ c.in_ok-push_recalled.ensures c.in_ok-push.ensures.items

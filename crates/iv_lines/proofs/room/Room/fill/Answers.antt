use Rattle.std.proofs.Common.{arith}
use Rattle.iv_lines.proofs.Ahead.{drop-none_filled, ahead_empty, Keeps-prepend_known_ok, Keeps-prepend_known_err}
use Rattle.iv_lines.proofs.Moments.{ReadsAt-prepend_known}
use Rattle.iv_lines.proofs.room.Room.fill.Goals as goal

pub returns-then-self-clause-end : goal.returns-then-self-clause-end
returns-then-self-clause-end g c = λ e. let same = ahead_empty c.args.self.now.bytes c.args.self.now.at c.args.self.now.filled (omega arith) (omega arith) e in absurd (omega arith)

pub returns-clause-ok : goal.returns-clause-ok
returns-clause-ok g c = Keeps-prepend_known_ok c.refill.result _ _ _ (drop-none_filled c.args.self.now.bytes c.args.self.now.at c.args.self.now.filled (omega arith)) c.refill.ensures.ok

pub returns-clause-err : goal.returns-clause-err
returns-clause-err g c = Keeps-prepend_known_err c.refill.result _ _ _ (drop-none_filled c.args.self.now.bytes c.args.self.now.at c.args.self.now.filled (omega arith)) c.refill.ensures.err

pub returns-clause-moment : goal.returns-clause-moment
returns-clause-moment g c = ReadsAt-prepend_known _ _ _ _ _ _ (drop-none_filled c.args.self.now.bytes c.args.self.now.at c.args.self.now.filled (omega arith)) c.refill.ensures.moment

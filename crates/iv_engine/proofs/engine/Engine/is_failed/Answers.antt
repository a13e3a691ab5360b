use Rattle.std.proofs.Common.{subst}
use Rattle.iv_store.specs.Engine.{HasRoundsOfOpen}
use Rattle.iv_engine.proofs.RoundNumbers.{HasRoundsOfOpen-shown_by}
use Rattle.iv_engine.proofs.engine.Engine.is_failed.Goals as goal

pub returns-clause-rounds : goal.returns-clause-rounds
returns-clause-rounds c = λ off. subst HasRoundsOfOpen c.self.view_is (HasRoundsOfOpen-shown_by c.self.inside.store c.self.inside.failed (c.self.invariant off).stored.numbers)

use Rattle.std.proofs.Common.{sym, subst}
use Rattle.iv_store.specs.Store.{IsSoundStore}
use Rattle.iv_store.proofs.Sound.{IsSoundStore-kept_at_start}
use Rattle.iv_store.proofs.store.Store.new.Goals as goal

pub returns-clause-sound : goal.returns-clause-sound
returns-clause-sound c = subst IsSoundStore (λ i. record {
  cap = (sym c.in_ok-new.ensures i).cap;
  known = (sym c.in_ok-new.ensures i).known;
  catalog = (sym c.in_ok-new.ensures i).catalog;
  sessions = (sym c.in_ok-new.ensures i).sessions;
  subscriptions = sym c.new-2.ensures.items i;
  circuits = sym c.new-3.ensures i;
  last = 0;
  tables = (sym c.in_ok-new.ensures i).tables;
}) (IsSoundStore-kept_at_start c.args.cap c.requires)

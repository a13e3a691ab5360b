use Rattle.std.proofs.Common.{◌≡◌, ◌++◌, take, drop}
use Rattle.iv_machine.specs.State.{Subscription}
use Rattle.iv_machine.specs.Changing.{insert_subscription}
use Rattle.iv_store.proofs.subscriptions.place_of.Given as goal

abbrev pub invariant-loop-place : goal.invariant-loop-place
invariant-loop-place l = (e : Subscription) → e.session ≡ l.session → insert_subscription e l.subscriptions ≡ take l.place l.subscriptions ++ insert_subscription e (drop l.place l.subscriptions)

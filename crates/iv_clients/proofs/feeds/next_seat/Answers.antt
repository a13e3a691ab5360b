use Rattle.std.proofs.Common.{◌∙◌, ap, sym, not}
use Rattle.iv_clients.specs.Feeds.{is_begun}
use Rattle.iv_clients.proofs.FirstNumber.{find-count_to_next, find-count_to_none, find-count_to_all}
use Rattle.iv_clients.proofs.feeds.next_seat.Goals as goal

pub returns-then-not-is_begun : goal.returns-then-not-is_begun
returns-then-not-is_begun c = find-count_to_next (λ n. not (is_begun c.args.seats.now n)) 255 c.loop-place.place c.loop-place-test.true c.loop-place.invariant (ap not (sym c.is_begun.ensures ∙ c.if-not-is_begun.true))

pub loop-place-preserved : goal.loop-place-preserved
loop-place-preserved c = find-count_to_none (λ n. not (is_begun c.args.seats.now n)) c.loop-place.place c.loop-place.invariant (ap not (sym c.is_begun.ensures ∙ c.if-not-is_begun.false))

pub returns : goal.returns
returns c = find-count_to_all (λ n. not (is_begun c.args.seats.now n)) 255 c.loop-place.place c.loop-place-test.false c.loop-place.auto.place-end c.loop-place.invariant

use Rattle.std.proofs.Common.{◌≡◌, ◌∙◌, ℕ, ap, filter, not, rules}
use Rattle.std.specs.Prelude.{◌==◌}
use Rattle.std.proofs.lemmas.Fn.{filter_same}
use Rattle.iv_hall.proofs.FeedReaders.{IsDistinct-filter}
use Rattle.iv_hall.proofs.readers.Readers.remove.Goals as goal

pub invariant_of-self : goal.invariant_of-self
invariant_of-self c =
    let left : c.retain.new.self.items ≡ filter {X = ℕ} (λ m. not (c.args.number == m)) c.self.inside.numbers.items =
    filter_same _ _ _ (λ x b f' k. search rules) _ _ c.retain.ensures.filtered in
    rw left (IsDistinct-filter (λ m. not (c.args.number == m)) c.self.inside.numbers.items c.self.invariant)

pub returns : goal.returns
returns c =
    let left : c.retain.new.self.items ≡ filter {X = ℕ} (λ m. not (c.args.number == m)) c.self.inside.numbers.items =
    filter_same _ _ _ (λ x b f' k. search rules) _ _ c.retain.ensures.filtered in
    ap (λ z. record { feed = c.self.inside.feed; numbers = z }) left ∙ ap (λ r.
    record { feed = r.feed; numbers = filter {X = ℕ} (λ m. not (c.args.number == m)) r.numbers }) c.self.view_is

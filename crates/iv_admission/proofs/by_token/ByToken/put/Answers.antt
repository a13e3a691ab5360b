use Rattle.std.proofs.Common.{rules, ◌≡◌, Some, None, refl, ap, ◌∙◌}
use Rattle.iv_admission.specs.ByToken.{with_count}
use Rattle.iv_admission.proofs.TokenCounts.{with_count-UpdatesBy}
use Rattle.iv_admission.proofs.by_token.ByToken.put.Goals as goal

pub returns-then-count-eq0 : goal.returns-then-count-eq0
returns-then-count-eq0 c =
    let none : 0 ≡ c.args.count = search rules in
    with_count-UpdatesBy c.args.digest.now c.args.count None c.args.self.now.counts c.remove.new.self none c.remove.ensures.updates

pub returns : goal.returns
returns c = λ q.
    let key : c.extend_from_slice.new.self.items ≡ c.args.digest.now = search rules in
    with_count-UpdatesBy c.extend_from_slice.new.self.items c.args.count (Some c.args.count) c.args.self.now.counts c.insert.new.self refl c.in_ok-insert.ensures.updates q
    ∙ ap (λ z. with_count z c.args.count c.args.self.now.counts q) key

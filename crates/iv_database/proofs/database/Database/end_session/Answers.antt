use Rattle.std.proofs.Common.{◌≡◌, ◌==◌, ◌∙◌, ap, rules}
use Rattle.std.specs.Prelude.{filter, not}
use Rattle.std.proofs.lemmas.Fn.{filter_same}
use Rattle.iv_machine.specs.State.{Session}
use Rattle.iv_database.specs.Database.{without_session}
use Rattle.iv_database.proofs.database.Database.end_session.Goals as goal

pub returns : goal.returns
returns c =
    let x = c.self.inside in
    let n = c.args.session in
    let after : c.retain.new.self.items ≡ filter (λ (s : Session). not (n == s.number)) x.sessions.items = filter_same _ (λ (s : Session). not (n == s.number)) _ (λ s b f' k. search rules) x.sessions.items c.retain.new.self.items c.retain.ensures.filtered in
    (λ i. record { cap = x.cap; known = x.access; catalog = x.catalog; sessions = after i; tables = x.tables }) ∙ ap (without_session n) c.self.view_is

use Rattle.std.proofs.Common.{Bor, List, ◌≡◌, ◌∙◌, ap, map, rules, sym}
use Rattle.std.specs.Prelude.{string_bytes}
use Rattle.iv_access.specs.Rights.{Name}
use Rattle.iv_engine.specs.Known.{relations_with}
use Rattle.iv_notices.specs.Newly.{held_in}
use Rattle.iv_notices.proofs.newly.readable_to.Goals as goal

pub returns-in_ok-role-in-Ok-clause-readable : goal.returns-in_ok-role-in-Ok-clause-readable
returns-in_ok-role-in-Ok-clause-readable c =
    let f = c.args.engine.now.frame in
    let role : string_bytes c.in_ok-role-in-Ok.role ≡ c.args.role.now = search rules in
    c.in_ok-rels-in-Ok.ensures
    ∙ (ap (λ (ns : List (Bor Name)). map (held_in f c.args.role.now) (map (λ n. n.now) ns)) c.deref.ensures.value
    ∙ (ap (map (held_in f c.args.role.now)) (c.in-Ok.ensures c.requires) ∙ ap (λ r. map (held_in f r) (relations_with f r)) (sym role)))

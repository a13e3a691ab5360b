use Rattle.std.proofs.Common.{ap, sym, ◌∙◌, bytes_eq, string_bytes, arith}
use Rattle.iv_access.specs.Access.{relation_of}
use Rattle.iv_access.specs.Stored.{relation_at}
use Rattle.iv_access.proofs.RelationCounts.{length-le-128}
use Rattle.iv_roles.proofs.Lists.{position-map}
use Rattle.iv_access.proofs.relations.Relations.number.Goals as goal

pub overflow_cast-result : goal.overflow_cast-result
overflow_cast-result c =
    let within = c.in-Some.ensures.within in
    let most = length-le-128 c.self.inside.kinds.entries c.self.invariant.0 c.self.invariant.1 in
    omega (arith, within, most)

pub returns-in-Some : goal.returns-in-Some
returns-in-Some c =
    let name = c.args.name.now in
    let entries = c.self.inside.kinds.entries in
    c.in-Some.ensures.index
    ∙ position-map (λ k. bytes_eq name (string_bytes k)) (λ e. e.0) entries
    ∙ sym (position-map (λ r. bytes_eq name r.name) relation_at entries)
    ∙ ap (λ rs. relation_of rs name) c.self.view_is

pub returns-in-None : goal.returns-in-None
returns-in-None c =
    let name = c.args.name.now in
    let entries = c.self.inside.kinds.entries in
    c.in-None.ensures.index
    ∙ position-map (λ k. bytes_eq name (string_bytes k)) (λ e. e.0) entries
    ∙ sym (position-map (λ r. bytes_eq name r.name) relation_at entries)
    ∙ ap (λ rs. relation_of rs name) c.self.view_is

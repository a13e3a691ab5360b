use Rattle.std.proofs.Common.{◌≡◌, ◌∙◌, [], refl, ap}
use Rattle.std.specs.Prelude.{option_map, string_bytes, unwrap_or}
use Rattle.iv_access.specs.Access.{relation_name}
use Rattle.iv_machine.specs.State.{name_of}
use Rattle.iv_database.specs.Database.{Database}
use Rattle.iv_database.proofs.ReaderNeeds.{name_is, name_or_none, ok_as}
use Rattle.iv_database.proofs.database.Database.name_of.Goals as goal

pub returns : goal.returns
returns c =
    let e = c.args.self.now in
    let k = c.args.rel.0 in
    let found : option_map (λ n. n.now) c.relation_name.result ≡ relation_name e.known.relations k = c.relation_name.ensures ∙ ap (λ (v : Database). relation_name v.known.relations k) c.self.view_is in
    let is : c.unwrap_or.result.now ≡ unwrap_or (option_map (λ n. n.now) c.relation_name.result) [] = name_or_none c.relation_name.result _ c.unwrap_or.result refl c.unwrap_or.ensures in
    ok_as string_bytes c.from_str.result c.unwrap_or.result.now (name_of e.catalog k) c.from_str.ensures.ok (is ∙ ap (λ o. unwrap_or o []) found ∙ name_is e k c.requires)

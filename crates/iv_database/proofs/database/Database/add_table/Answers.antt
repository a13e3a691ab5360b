use Rattle.std.proofs.Common.{◌≡◌, ◌∙◌, None, ap, length, subst, true}
use Rattle.std.specs.Prelude.{string_bytes}
use Rattle.iv_access.specs.Rights.{Name}
use Rattle.iv_bind.specs.Catalogs.{named, numbered}
use Rattle.iv_access.specs.Faults.{add_relation_fault}
use Rattle.iv_database.specs.Database.{Database}
use Rattle.iv_database.proofs.TablesOfCatalog.{free_table}
use Rattle.iv_algebra.specs.Contents.{table_of}
use Rattle.iv_database.proofs.RightsRefusals.{named-add_relation_fault, numbered-length}
use Rattle.iv_database.proofs.database.Database.add_table.Goals as goal

pub add_table-requires-clause-name : goal.add_table-requires-clause-name
add_table-requires-clause-name c =
    let name = string_bytes c.args.name in
    (λ i. named (c.self.view_is i).catalog (c.as_str-2.ensures.value i))
    ∙ named-add_relation_fault c.args.self.now c.requires.stored c.args.acting.0 name c.args.owner.now
    (subst (λ (v : Database). add_relation_fault v.known c.args.acting.0 name c.args.owner.now true ≡ None) c.self.view_is
    (subst (λ (n : Name). add_relation_fault c.self.inside.access c.args.acting.0 n c.args.owner.now true ≡ None) c.as_str.ensures.value c.in-Ok.ensures.ok_when))

pub add_table-requires-clause-number : goal.add_table-requires-clause-number
add_table-requires-clause-number c =
    ap (λ (v : Database). numbered v.catalog c.in-Ok.rel.0) c.self.view_is
    ∙ numbered-length c.args.self.now c.requires.stored c.in-Ok.rel.0 (c.in-Ok.ensures.number ∙ ap (λ (v : Database). length v.known.relations) c.self.view_is)

pub add_table-requires-2 : goal.add_table-requires-2
add_table-requires-2 c =
    let e = c.args.self.now in
    let k = c.in-Ok.rel.0 in
    ap (λ (v : Database). table_of v.tables k) c.self.view_is
    ∙ free_table e c.requires.stored k (numbered-length e c.requires.stored k (c.in-Ok.ensures.number ∙ ap (λ (v : Database). length v.known.relations) c.self.view_is))

use Rattle.std.proofs.Common.{◌≡◌, ◌∙◌, List, Some, map, refl, sym, ap}
use Rattle.std.specs.Prelude.{option_map}
use Rattle.iv_rows.specs.declared.schema.RelId.{RelId}
use Rattle.iv_access.specs.Privileges.{first_missing, has}
use Rattle.iv_access.specs.declared.privilege.Privilege.TheVariants.{Select}
use Rattle.iv_bind.specs.Catalogs.{bound_of, view_of}
use Rattle.iv_database.specs.Database.{Database}
use Rattle.iv_access.specs.Privileges.{select_from}
use Rattle.iv_database.proofs.ReaderNeeds.{lacks_none, lacks_own, lacks_reached}
use Rattle.iv_database.proofs.database.Database.missing_for.Goals as goal

pub returns-then-not-has : goal.returns-then-not-has
returns-then-not-has c = lacks_own c.args.self.now c.requires.stored c.args.role.0 c.args.rel.0 c.requires.below
    (sym (c.has.ensures ∙ ap (λ (v : Database). has v.known.rights c.args.role.0 Select c.args.rel.0) c.self.view_is) ∙ c.if-not-has.true)

pub returns-in-Some : goal.returns-in-Some
returns-in-Some c =
    let e = c.args.self.now in
    let role = c.args.role.0 in
    let rel = c.args.rel.0 in
    let query = c.in-Some.query.now in
    let view : view_of e.catalog rel ≡ Some (bound_of query) = ap (λ (v : Database). view_of v.catalog rel) (sym c.self.view_is) ∙ sym c.in-Some.ensures.found in
    lacks_reached e c.requires.stored role rel c.requires.below (bound_of query) query.needs.items (option_map select_from c.first_unread.result)
    (sym (c.has.ensures ∙ ap (λ (v : Database). has v.known.rights role Select rel) c.self.view_is) ∙ c.if-not-has.false) view refl
    (c.first_unread.ensures ∙ ap (λ (v : Database). first_missing v.known.rights role (map select_from c.deref.result.now)) c.self.view_is ∙ ap (λ (rs : List RelId). first_missing e.known.rights role (map select_from rs)) c.deref.ensures.value)

pub returns-in-None : goal.returns-in-None
returns-in-None c =
    let e = c.args.self.now in
    let rel = c.args.rel.0 in
    lacks_none e c.requires.stored c.args.role.0 rel c.requires.below
    (sym (c.has.ensures ∙ ap (λ (v : Database). has v.known.rights c.args.role.0 Select rel) c.self.view_is) ∙ c.if-not-has.false)
    (ap (λ (v : Database). view_of v.catalog rel) (sym c.self.view_is) ∙ sym c.in-None.ensures.found)

use Rattle.std.proofs.Common.{◌≡◌, ◌∙◌, ap, sym, true}
use Rattle.std.specs.Prelude.{is_some}
use Rattle.iv_access.specs.Access.{relation_of}
use Rattle.iv_access.specs.Privileges.{role_of}
use Rattle.iv_bind.specs.Catalogs.{named}
use Rattle.iv_database.specs.Database.{Database}
use Rattle.iv_database.proofs.NewView.{is_some-same, name_taken}
use Rattle.iv_database.proofs.RightsRefusals.{named_known, None-not_some, unknown}
use Rattle.iv_database.proofs.database.Database.creator.Goals as goal

pub returns-then-is_some : goal.returns-then-is_some
returns-then-is_some c =
    let e = c.args.self.now in
    let name = c.args.name.now in
    let owner = c.args.owner.now in
    let known : is_some (role_of e.known.rights owner) ≡ true = is_some-same (λ r. r.0) c.role.result (role_of e.known.rights owner) (c.role.ensures ∙ ap (λ (v : Database). role_of v.known.rights owner) c.self.view_is) ∙ c.if-is_none.ensures in
    let taken : is_some (named e.catalog name) ≡ true = sym (named_known e c.requires name)
    ∙ is_some-same (λ r. r.0) c.relation.result (relation_of e.known.relations name) (c.relation.ensures ∙ ap (λ (v : Database). relation_of v.known.relations name) c.self.view_is) ∙ sym c.if-is_some.ensures in
    λ more. name_taken e c.args.session name owner more c.in-Some.acting.0 c.in-Some.ensures (sym c.if-not-is_admin.ensures) known taken

pub returns : goal.returns
returns c =
    let e = c.args.self.now in
    let name = c.args.name.now in
    let owner = c.args.owner.now in
    record {
      acts = c.in-Some.ensures;
      admin = sym c.if-not-is_admin.ensures;
      known = is_some-same (λ r. r.0) c.role.result (role_of e.known.rights owner) (c.role.ensures ∙ ap (λ (v : Database). role_of v.known.rights owner) c.self.view_is) ∙ c.if-is_none.ensures;
      free = unknown e c.requires name (None-not_some (relation_of e.known.relations name)
          (is_some-same (λ r. r.0) c.relation.result (relation_of e.known.relations name) (c.relation.ensures ∙ ap (λ (v : Database). relation_of v.known.relations name) c.self.view_is) ∙ sym c.if-is_some.ensures));
    }

use Rattle.std.proofs.Common.{◌∙◌, ap}
use Rattle.iv_access.specs.Access.{relation_of}
use Rattle.iv_database.specs.Database.{Database}
use Rattle.iv_database.proofs.RightsRefusals.{table_columns_are, table_known, table_name, table_number, table_below}
use Rattle.iv_database.proofs.database.Database.relation.Goals as goal

pub returns-clause-known : goal.returns-clause-known
returns-clause-known c = table_known c.args.self.now c.requires c.args.name.now c.relation.result (c.relation.ensures ∙ ap (λ (v : Database). relation_of v.known.relations c.args.name.now) c.self.view_is)

pub returns-clause-number : goal.returns-clause-number
returns-clause-number c = table_number c.args.self.now c.requires c.args.name.now c.relation.result (c.relation.ensures ∙ ap (λ (v : Database). relation_of v.known.relations c.args.name.now) c.self.view_is)

pub returns-clause-below : goal.returns-clause-below
returns-clause-below c = table_below c.args.self.now c.requires c.args.name.now c.relation.result (c.relation.ensures ∙ ap (λ (v : Database). relation_of v.known.relations c.args.name.now) c.self.view_is)

pub returns-clause-name : goal.returns-clause-name
returns-clause-name c = table_name c.args.self.now c.requires c.args.name.now c.relation.result (c.relation.ensures ∙ ap (λ (v : Database). relation_of v.known.relations c.args.name.now) c.self.view_is)

pub returns-clause-columns : goal.returns-clause-columns
returns-clause-columns c = table_columns_are c.args.self.now c.requires c.args.name.now c.relation.result (c.relation.ensures ∙ ap (λ (v : Database). relation_of v.known.relations c.args.name.now) c.self.view_is)

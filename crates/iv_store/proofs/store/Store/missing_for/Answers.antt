use Rattle.std.proofs.Common.{◌∙◌, ap, subst, sym}
use Rattle.iv_machine.specs.State.{missing_for}
use Rattle.iv_database.specs.Database as database
use Rattle.iv_database.specs.Database.{IsDatabase}
use Rattle.iv_store.specs.Store.{Store, database_of}
use Rattle.iv_store.proofs.store.Store.missing_for.Goals as goal

pub missing_for-requires-clause-stored : goal.missing_for-requires-clause-stored
missing_for-requires-clause-stored c = subst (λ (v : Store). IsDatabase (database_of v)) (sym c.self.view_is) c.requires.stored.database

pub returns : goal.returns
returns c = c.missing_for.ensures ∙ ap (λ (v : Store). missing_for (database.frame_of (database_of v)) c.args.role.0 c.args.rel.0) c.self.view_is

use Rattle.std.specs.Prelude.{string_bytes}
use Rattle.iv_database.proofs.RightsRefusals.{IsDone-IsAdded}
use Rattle.iv_database.proofs.database.Database.create_table.Goals as goal

pub returns-clause-done : goal.returns-clause-done
returns-clause-done c = IsDone-IsAdded c.args.self.now c.add_table.new.self c.args.session c.in-Some.acting.0 (string_bytes c.args.name) c.args.owner.now c.args.columns.items c.add_table.result c.requires.stored c.in-Some.ensures c.add_table.ensures.added

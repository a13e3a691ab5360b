-- What is kept after a request that concerns the database alone.
use Rattle.std.specs.Prelude.{ℕ}
use Rattle.iv_machine.specs.Act.{Act}
use Rattle.iv_database.specs.Next.{database_after}
use Rattle.iv_store.specs.Store.{Store, database_of, with_database}

abbrev pub kept_after : Store → ℕ → Act → Store
kept_after e n act = with_database (database_after (database_of e) n act) e

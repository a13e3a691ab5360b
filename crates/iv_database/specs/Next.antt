-- The database after a request that writes no row.
use Rattle.std.specs.Prelude.{◌≡◌, ℕ, List, [], ◌∷◌, ◌++◌, length, Some, None, Result, Ok, Err, option_map}
use Rattle.iv_rows.specs.Columns.{kinds_of}
use Rattle.iv_algebra.specs.declared.tables.Table.{Table}
use Rattle.iv_bind.specs.Catalogs as catalogs
use Rattle.iv_bind.specs.Catalogs.{Held, extended, table_in}
use Rattle.iv_access.specs.Changing.{with_relation}
use Rattle.iv_access.specs.Access.{Relation, role_number}
use Rattle.iv_access.specs.Rights.{Name}
use Rattle.iv_machine.specs.Act.{Act, create_table, create_view}
use Rattle.iv_machine.specs.Refusing.{frame_refusal}
use Rattle.iv_machine.specs.Changing.{after_catalog, after_rights, after_sessions}
use Rattle.iv_database.specs.Database.{Database, frame_of}
use Rattle.iv_command.specs.Views.{refusal_of}
use Rattle.iv_command.specs.declared.stop.Stop.{Stop}
use Rattle.iv_command.specs.declared.stop.Stop.TheVariants.{Refused, Memory}

-- a new table has no row, and a view has none of its own
abbrev pub with_table : Held → ℕ → List Table → List Table
with_table (catalogs.Table columns) rel tables = tables ++ record { rel = record { 0 = rel }; schema = columns; rows = [] } ∷ []
with_table (catalogs.View answer) rel tables = tables

-- with a relation more, after the others: its owner is granted everything, and it has no row
abbrev pub with_relation_of : (name owner : Name) → Held → Database → Database
with_relation_of name owner held e = record e {
  known = record {
    relations = e.known.relations ++ record { name = name; kinds = option_map kinds_of (table_in held) } ∷ [];
    rights = with_relation (role_number e.known.rights owner) e.known.rights;
  };
  catalog = extended e.catalog name (length e.catalog) held;
  tables = with_table held (length e.catalog) e.tables;
}

-- ---- after a request

abbrev pub relations_after : List Relation → Act → List Relation
relations_after relations (create_table name owner columns) = relations ++ record { name = name; kinds = Some (kinds_of columns) } ∷ []
relations_after relations (create_view name owner query) = relations ++ record { name = name; kinds = None } ∷ []
relations_after relations _ = relations

abbrev pub tables_after : Database → Act → List Table
tables_after e (create_table name owner columns) = with_table (catalogs.Table columns) (length e.catalog) e.tables
tables_after e _ = e.tables

abbrev pub database_after : Database → ℕ → Act → Database
database_after d n act = record {
  cap = d.cap;
  known = record { relations = relations_after d.known.relations act; rights = after_rights (frame_of d) act };
  catalog = after_catalog (frame_of d) act;
  sessions = after_sessions (frame_of d) n act;
  tables = tables_after d act;
}

-- it is done; or the refusal tells the first test that fails, of those that look at no row, and nothing has changed; nothing is
-- said if memory runs out
abbrev pub IsDone : Database → ℕ → Act → Result Unit Stop → Database → Type 0
IsDone d n act (Ok u) new = (frame_refusal (frame_of d) n act ≡ None) × (new ≡ database_after d n act)
IsDone d n act (Err (Refused r)) new = (frame_refusal (frame_of d) n act ≡ Some (refusal_of r)) × (new ≡ d)
IsDone d n act (Err Memory) new = Unit {0}

-- How the logic stores what the database holds, so that a contract may speak of it.
use Rattle.std.specs.Prelude.{ℕ, List, refl}
use Rattle.std.specs.Coded.{Coded, code_by, coded_ℕ, coded_ℤ, coded_list, coded×}
use Rattle.iv_zset.specs.Weights.{Weighed}
use Rattle.iv_rows.specs.Columns.{Column}
use Rattle.iv_algebra.specs.Codes.{cell_code}
use Rattle.iv_algebra.specs.declared.tables.Table.{Table}
use Rattle.iv_bind.specs.Catalogs.{CatalogEntry}
use Rattle.iv_bind.specs.Codes.{column_code, entries_code}
use Rattle.iv_access.specs.Codes.{known_code}
use Rattle.iv_access.specs.Access.{Access}
use Rattle.iv_machine.specs.State.{Session}
use Rattle.iv_database.specs.Database.{Database}

abbrev pub session_code : Coded Session
session_code = code_by (ℕ × ℕ) (coded× coded_ℕ coded_ℕ) (λ s. (s.number, s.role)) (λ p. record { number = p.0; role = p.1 }) (λ _. refl)

abbrev pub sessions_code : Coded (List Session)
sessions_code = coded_list session_code

abbrev pub weighed_code : Coded Weighed
weighed_code = coded_list (coded× (coded_list cell_code) coded_ℤ)

abbrev pub table_code : Coded Table
table_code =
    code_by (ℕ × (List Column × Weighed)) (coded× coded_ℕ (coded× (coded_list column_code) weighed_code))
    (λ t. (t.rel.0, (t.schema, t.rows))) (λ p. record { rel = record { 0 = p.0 }; schema = p.1.0; rows = p.1.1 }) (λ _. refl)

abbrev pub database_code : Coded Database
database_code =
    code_by ((ℕ × (Access × List CatalogEntry)) × (List Session × List Table))
    (coded× (coded× coded_ℕ (coded× known_code entries_code)) (coded× (coded_list session_code) (coded_list table_code)))
    (λ d. ((d.cap, (d.known, d.catalog)), (d.sessions, d.tables)))
    (λ p. record { cap = p.0.0; known = p.0.1.0; catalog = p.0.1.1; sessions = p.1.0; tables = p.1.1 }) (λ _. refl)

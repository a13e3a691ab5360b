-- How the logic stores what the engine keeps, so that a contract may speak of it.
use Rattle.std.specs.Prelude.{ℕ, Bool, List, refl}
use Rattle.std.specs.Coded.{Coded, code_by, coded_ℕ, coded_bool, coded_list, coded×}
use Rattle.iv_algebra.specs.declared.tables.Table.{Table}
use Rattle.iv_bind.specs.Catalogs.{CatalogEntry}
use Rattle.iv_bind.specs.Codes.{entries_code}
use Rattle.iv_access.specs.Codes.{known_code, rights_code}
use Rattle.iv_access.specs.Access.{Access}
use Rattle.iv_access.specs.Rights.{Rights}
use Rattle.iv_machine.specs.State.{Frame, Session, Subscription}
use Rattle.iv_database.specs.Codes.{session_code, table_code}
use Rattle.iv_store.specs.Store.{Store}
use Rattle.iv_readers.specs.Readers.{RoleCircuit}
use Rattle.iv_store.specs.Engine.{Engine}
use Rattle.iv_readers.specs.Codes.{role_circuit_code}

abbrev pub subscription_code : Coded Subscription
subscription_code =
    code_by (ℕ × (ℕ × ℕ)) (coded× coded_ℕ (coded× coded_ℕ coded_ℕ)) (λ s. (s.session, (s.number, s.rel)))
    (λ p. record { session = p.0; number = p.1.0; rel = p.1.1 }) (λ _. refl)

abbrev pub frame_code : Coded Frame
frame_code =
    code_by ((ℕ × Rights) × ((List CatalogEntry × List Session) × (List Subscription × ℕ)))
    (coded× (coded× coded_ℕ rights_code) (coded× (coded× entries_code (coded_list session_code)) (coded× (coded_list subscription_code) coded_ℕ)))
    (λ f. ((f.cap, f.rights), ((f.catalog, f.sessions), (f.subscriptions, f.last))))
    (λ p. record { cap = p.0.0; rights = p.0.1; catalog = p.1.0.0; sessions = p.1.0.1; subscriptions = p.1.1.0; last = p.1.1.1 }) (λ _. refl)

abbrev pub kept_code : Coded Store
kept_code =
    code_by ((ℕ × (Access × List CatalogEntry)) × ((List Session × (List Subscription × List RoleCircuit)) × (ℕ × List Table)))
    (coded× (coded× coded_ℕ (coded× known_code entries_code))
    (coded× (coded× (coded_list session_code) (coded× (coded_list subscription_code) (coded_list role_circuit_code)))
    (coded× coded_ℕ (coded_list table_code))))
    (λ e. ((e.cap, (e.known, e.catalog)), ((e.sessions, (e.subscriptions, e.circuits)), (e.last, e.tables))))
    (λ p. record {
      cap = p.0.0;
      known = p.0.1.0;
      catalog = p.0.1.1;
      sessions = p.1.0.0;
      subscriptions = p.1.0.1.0;
      circuits = p.1.0.1.1;
      last = p.1.1.0;
      tables = p.1.1.1;
    }) (λ _. refl)

abbrev pub seen_code : Coded Engine
seen_code =
    code_by ((Frame × List Table) × (List (ℕ × ℕ) × Bool))
    (coded× (coded× frame_code (coded_list table_code)) (coded× (coded_list (coded× coded_ℕ coded_ℕ)) coded_bool))
    (λ e. ((e.frame, e.tables), (e.rounds, e.failed))) (λ p. record { frame = p.0.0; tables = p.0.1; rounds = p.1.0; failed = p.1.1 }) (λ _. refl)

-- `Store`: what the engine keeps, and the machine's frame that it stands for.
use Rattle.std.specs.Prelude.{◌≡◌, ℕ, ◌<◌, ◌==◌, ◌&&◌, Bool, true, not, List, Option, filter, length, is_some, position}
use Rattle.std.specs.List.{All, AllByRecursion, list_any}
use Rattle.iv_algebra.specs.declared.tables.Table.{Table}
use Rattle.iv_algebra.specs.Plans.{Lists}
use Rattle.iv_algebra.specs.Shapes.{Shape}
use Rattle.iv_rows.specs.Cell.{Cell}
use Rattle.iv_bind.specs.Catalogs.{CatalogEntry}
use Rattle.iv_access.specs.Access.{Access}
use Rattle.iv_access.specs.Policies.{allowed, may_see}
use Rattle.iv_access.specs.Rights.{Rights}
use Rattle.iv_circuit.specs.Circuits.{AreScans, Running}
use Rattle.iv_circuit.specs.Keeping.{StandsOn}
use Rattle.iv_circuit.specs.Nodes.{plan_of, scans_of}
use Rattle.iv_machine.specs.State.{Frame, State, Session, Subscription, actor, is_open, is_within_for, missing_for, plan_at, view_for}
use Rattle.iv_machine.specs.Reached.{AreNumbersUnique}
use Rattle.iv_database.specs.Database.{Database, IsDatabase, session_acts_as, kinds_at}
use Rattle.iv_database.specs.Stands.{Stands}
use Rattle.iv_readers.specs.Readers.{RoleCircuit, WereOpened, is_for}

-- what the database holds, with the subscriptions, their circuits and the last number that was given
pub record Store : Type 0 where
  pub cap : ℕ
  pub known : Access
  pub catalog : List CatalogEntry
  pub sessions : List Session
  pub subscriptions : List Subscription
  pub circuits : List RoleCircuit
  pub last : ℕ
  pub tables : List Table

-- its database
abbrev pub database_of : Store → Database
database_of e = record { cap = e.cap; known = e.known; catalog = e.catalog; sessions = e.sessions; tables = e.tables }

-- the database with these
abbrev pub store_of : Database → List Subscription → List RoleCircuit → (last : ℕ) → Store
store_of d ss ks last = record {
  cap = d.cap;
  known = d.known;
  catalog = d.catalog;
  sessions = d.sessions;
  subscriptions = ss;
  circuits = ks;
  last = last;
  tables = d.tables;
}

-- with another database
abbrev pub with_database : Database → Store → Store
with_database d e = store_of d e.subscriptions e.circuits e.last

-- with other rights
abbrev pub with_rights : Rights → Store → Store
with_rights r e = record e { known = record { relations = e.known.relations; rights = r } }

abbrev pub frame_of : Store → Frame
frame_of e = record { cap = e.cap; rights = e.known.rights; catalog = e.catalog; sessions = e.sessions; subscriptions = e.subscriptions; last = e.last }

-- the state with these lists of rows
abbrev pub at : Store → Lists → State
at e T = record { frame = frame_of e; rows = T }

-- its session is open, and its relation is known
pub record IsOpen (e : Store) (s : Subscription) : Type 0 where
  pub session : is_open (frame_of e) s.session ≡ true
  pub known : s.rel < length e.catalog

-- the role may select from the relation, and from each that it reaches
abbrev pub role_reads : Store → (role rel : ℕ) → Bool
role_reads e role rel = not (is_some (missing_for (frame_of e) role rel))

-- its reader may select from each relation that it needs
abbrev pub may_read : Store → Subscription → Bool
may_read e s = role_reads e (actor (frame_of e) s.session) s.rel

-- the limits hold at each node of what the relation shows to the role
abbrev pub IsWithinFor : Store → (role rel : ℕ) → Type 0
IsWithinFor e role rel = (T : Lists) → Stands T e.tables → is_within_for (at e T) role rel ≡ true

-- the limits hold at each node of what it shows
abbrev pub IsWithin : Store → Subscription → Type 0
IsWithin e s = IsWithinFor e (actor (frame_of e) s.session) s.rel

-- the rows that a subscription shows
abbrev pub shown_rows : Store → Lists → Subscription → List (List Cell)
shown_rows e T s = view_for (at e T) (actor (frame_of e) s.session) s.rel

-- of a subscription to a table, the rows of the table that its reader may see
abbrev pub table_rows : Store → Lists → Subscription → List (List Cell)
table_rows e T s = filter (may_see e.known.rights (actor (frame_of e) s.session) s.rel) (T s.rel)

-- the machine reaches the frame, and the database is one
pub record IsStored (e : Store) : Type 0 where
  pub numbers : AreNumbersUnique (frame_of e)
  pub database : IsDatabase (database_of e)
  pub shows : AllByRecursion (IsOpen e) e.subscriptions

-- the circuit of the plan for the role: over each table that it scans is what the role may see of it, and it has taken
-- in all rows of the tables, within the engine's own row limit
pub record IsCircuitFor (e : Store) (role : ℕ) (p : Shape) (c : Running) : Type 0 where
  pub cap : c.cap ≡ e.cap
  pub plan : plan_of c.node ≡ p
  pub known : All (λ t. t.table < length e.catalog) (scans_of c.node)
  pub scans : AreScans (kinds_at e.catalog) e.known.rights role c.node
  pub stands : (T : Lists) → Stands T e.tables → StandsOn c.cap c.node (allowed e.known.rights role T)

-- the circuit of what the subscription shows
abbrev pub IsCircuitOf : Store → Subscription → Running → Type 0
IsCircuitOf e s c = IsCircuitFor e (actor (frame_of e) s.session) (plan_at e.catalog s.rel) c

-- the circuit of what the relation shows to the role
pub record IsRoleCircuit (e : Store) (k : RoleCircuit) : Type 0 where
  pub known : k.rel < length e.catalog
  pub is : IsCircuitFor e k.role (plan_at e.catalog k.rel) k.circuit
  pub opened : WereOpened k

-- ---- which circuit a subscription reads

-- the place of the first that is for the subscription
abbrev pub place_of : Store → Subscription → Option ℕ
place_of e s = position (is_for (actor (frame_of e) s.session) s.rel) e.circuits

-- the subscription is of the role and to the relation
abbrev pub is_read_through : Frame → (role rel : ℕ) → Subscription → Bool
is_read_through f role rel s = (s.rel == rel) && session_acts_as f s.session role

-- some open subscription is
abbrev pub is_read_by : Frame → (role rel : ℕ) → Bool
is_read_by f role rel = list_any (is_read_through f role rel) f.subscriptions

-- some open subscription reads it
abbrev pub is_read : Frame → RoleCircuit → Bool
is_read f k = is_read_by f k.role k.rel

-- ---- what holds between requests

-- and of each open subscription the reader may select from all that it needs, the limits hold, and its circuit is there;
-- each circuit is that of its relation and role, and is read
pub record IsSoundStore (e : Store) : Type 0 where
  pub stored : IsStored e
  pub served : AllByRecursion (λ s. may_read e s ≡ true) e.subscriptions
  pub within : AllByRecursion (IsWithin e) e.subscriptions
  pub circuits : AllByRecursion (IsRoleCircuit e) e.circuits
  pub there : AllByRecursion (λ s. is_some (place_of e s) ≡ true) e.subscriptions
  pub read : AllByRecursion (λ k. is_read (frame_of e) k ≡ true) e.circuits

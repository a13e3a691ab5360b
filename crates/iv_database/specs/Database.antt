-- What the database holds, and the machine's frame that it stands for.
use Rattle.std.specs.Prelude.{◌≡◌, ℕ, ◌<◌, ◌≤◌, ◌==◌, Bool, false, List, [], Option, None, Some, filter, length, map, not, option_map}
use Rattle.std.specs.List.{AllByRecursion}
use Rattle.iv_rows.specs.Columns.{Column, kinds_of}
use Rattle.iv_rows.specs.RowLimit.{IsRowLimit}
use Rattle.iv_zset.specs.Weights.{Weighed, IsBag, IsZSet}
use Rattle.iv_algebra.specs.Contents.{AreOf, heads_of, rows_of}
use Rattle.iv_algebra.specs.Fits.{Heads}
use Rattle.iv_algebra.specs.Plans.{Lists}
use Rattle.iv_algebra.specs.declared.tables.Table.{Table}
use Rattle.iv_bind.specs.Catalogs.{CatalogEntry, schema_of, table_in}
use Rattle.iv_rows.specs.Options.{if_some}
use Rattle.iv_access.specs.Access.{Access, Relation, access_at_start}
use Rattle.iv_access.specs.Rights.{Rights}
use Rattle.iv_machine.specs.State.{Frame, Session, State, session_of}
use Rattle.iv_machine.specs.Numbered.{AreNumbered}

-- the relations are in the catalog at their numbers, and the tables among them have their rows; `cap` is the greatest
-- number of different rows of a table, and of a node of a circuit
pub record Database : Type 0 where
  pub cap : ℕ
  pub known : Access
  pub catalog : List CatalogEntry
  pub sessions : List Session
  pub tables : List Table

-- one role, `admin`, and nothing else
abbrev pub at_start : (cap : ℕ) → Database
at_start cap = record { cap = cap; known = access_at_start; catalog = []; sessions = []; tables = [] }

-- the kinds of each table's columns, by its number; none of what is no table
abbrev pub kinds_at : List CatalogEntry → Heads
kinds_at catalog n = option_map kinds_of (schema_of catalog n)

-- with other rights
abbrev pub with_rights : Rights → Database → Database
with_rights r d = record d { known = record { relations = d.known.relations; rights = r } }

-- what Access knows of a relation: a table's kinds are those of its columns
abbrev pub relation_in : CatalogEntry → Relation
relation_in x = record { name = x.name; kinds = option_map kinds_of (table_in x.held) }

-- the frame, in which nothing is subscribed to
abbrev pub frame_of : Database → Frame
frame_of d = record { cap = d.cap; rights = d.known.rights; catalog = d.catalog; sessions = d.sessions; subscriptions = []; last = 0 }

-- the state with these lists of rows
abbrev pub at : Database → Lists → State
at d T = record { frame = frame_of d; rows = T }

-- the session is open, and acts for the role
abbrev pub session_acts_as : Frame → (session role : ℕ) → Bool
session_acts_as f n role = if_some (session_of f.sessions n) false (λ s. s.role == role)

-- without the session
abbrev pub without_session : (session : ℕ) → Database → Database
without_session n d = record d { sessions = filter (λ s. not (n == s.number)) d.sessions }

-- a table's rows are of the kinds of its columns, and what is no table has no row
abbrev pub HoldsKinds : Option (List Column) → Weighed → Type 0
HoldsKinds None rows = rows ≡ []
HoldsKinds (Some columns) rows = AreOf (kinds_of columns) rows

-- sessions act for roles that are there; each relation has its place as its number, and a guard; each table has its
-- kinds, and no more rows than there may be, of these kinds, none with a weight below 0
pub record IsDatabase (d : Database) : Type 0 where
  pub roles : AllByRecursion (λ s. s.role < length d.known.rights.roles) d.sessions
  pub numbered : AreNumbered 0 d.catalog
  pub relations : d.known.relations ≡ map relation_in d.catalog
  pub guards : length d.known.rights.guards ≡ length d.catalog
  pub tables : (t : ℕ) → heads_of d.tables t ≡ kinds_at d.catalog t
  pub zsets : (t : ℕ) → IsZSet (rows_of d.tables t)
  pub positive : (t : ℕ) → IsBag (rows_of d.tables t)
  pub kinds : (t : ℕ) → HoldsKinds (schema_of d.catalog t) (rows_of d.tables t)
  pub limit : IsRowLimit d.cap
  pub small : (t : ℕ) → length (rows_of d.tables t) ≤ d.cap

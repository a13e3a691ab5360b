-- The state of the machine, and what a subscription shows.
-- Read the records, and then `shown` at the end. Rows are whole lists, with no weights and no kept totals. Roles and relations have numbers, their places
-- in lists; of what is not there a number is told that nothing has. `n` is a session, `k` a subscription, `e` an element of a list; `rel` is the name or
-- the number of a relation, by its type.
use Rattle.std.specs.Prelude.{ℕ, ◌==◌, Bool, List, [], map, length, find, Option, None, option_map, is_some, unwrap_or}
use Rattle.std.specs.List.{list_any}
use Rattle.iv_rows.specs.Cell.{Cell}
use Rattle.iv_rows.specs.Columns.{Column}
use Rattle.iv_algebra.specs.Evaluation.{eval, plan_within}
use Rattle.iv_algebra.specs.Plans.{Lists}
use Rattle.iv_algebra.specs.Shapes.{Shape, Scan}
use Rattle.iv_bind.specs.Catalogs.{CatalogEntry, named, numbered, plan_of, reached_by, table_in}
use Rattle.iv_rows.specs.Options.{if_some}
use Rattle.iv_access.specs.declared.privilege.Privilege.{Privilege}
use Rattle.iv_access.specs.declared.privilege.Privilege.TheVariants.{Select}
use Rattle.iv_access.specs.Rights.{Name, Rights}
use Rattle.iv_access.specs.Rights as rights
use Rattle.iv_access.specs.Privileges.{first_missing}
use Rattle.iv_access.specs.Policies.{allowed}

pub record Session : Type 0 where
  pub number : ℕ
  pub role : ℕ

pub record Subscription : Type 0 where
  pub session : ℕ
  pub number : ℕ
  pub rel : ℕ

-- All but the rows. `cap` is the greatest number of different rows in a table and at a node; `catalog` has tables with
-- their columns and views with their plans, by name and number; `subscriptions` has the order of the lines: by session,
-- then by number; `last` is the last number given.
pub record Frame : Type 0 where
  pub cap : ℕ
  pub rights : Rights
  pub catalog : List CatalogEntry
  pub sessions : List Session
  pub subscriptions : List Subscription
  pub last : ℕ

-- `rows` has each table's rows, by its number
pub record State : Type 0 where
  pub frame : Frame
  pub rows : Lists

-- no relation, no session, and one role
abbrev pub start_frame : ℕ → Frame
start_frame cap = record { cap = cap; rights = rights.rights_at_start; catalog = []; sessions = []; subscriptions = []; last = 0 }

abbrev pub start : ℕ → State
start cap = record { frame = start_frame cap; rows = λ _. [] }

-- ---- relations

-- the next relation's number, which no relation has
abbrev pub next_rel : List CatalogEntry → ℕ
next_rel catalog = length catalog

-- the number of the relation of a name; of none if there is none
abbrev pub rel_of : List CatalogEntry → Name → ℕ
rel_of catalog name = if_some (named catalog name) (next_rel catalog) (λ e. e.rel)

abbrev pub name_of : List CatalogEntry → ℕ → Name
name_of catalog rel = if_some (numbered catalog rel) [] (λ e. e.name)

-- the columns of the table of a name; none of a view
abbrev pub table_columns : List CatalogEntry → Name → Option (List Column)
table_columns catalog name = if_some (named catalog name) None (λ e. table_in e.held)

abbrev pub columns_at : List CatalogEntry → Name → List Column
columns_at catalog name = unwrap_or (table_columns catalog name) []

-- a table is scanned; a view is its plan
abbrev pub plan_at : List CatalogEntry → ℕ → Shape
plan_at catalog rel = if_some (numbered catalog rel) (Scan rel) (λ e. plan_of e.rel e.held)

-- the relation, and all that it reaches
abbrev pub needs_at : List CatalogEntry → ℕ → List ℕ
needs_at catalog rel = if_some (numbered catalog rel) [] (λ e. reached_by e.rel e.held)

-- ---- sessions and subscriptions

abbrev pub session_of : List Session → ℕ → Option Session
session_of sessions n = find (λ e. n == e.number) sessions

abbrev pub is_open : Frame → ℕ → Bool
is_open f n = is_some (session_of f.sessions n)

-- the acting role; of a session that is not open a number that no role has
abbrev pub actor : Frame → ℕ → ℕ
actor f n = unwrap_or (option_map (λ e. e.role) (session_of f.sessions n)) (length f.rights.roles)

abbrev pub subscription_of : List Subscription → ℕ → Option Subscription
subscription_of es k = find (λ e. k == e.number) es

-- some open subscription has the number
abbrev pub is_open_number : Frame → ℕ → Bool
is_open_number f k = list_any (λ e. k == e.number) f.subscriptions

-- ---- views

-- what a role sees of a relation: the relation's plan over the rows that the role may see (PostgreSQL 16, CREATE VIEW:
-- security_invoker)
abbrev pub view_for : State → (role rel : ℕ) → List (List Cell)
view_for s role rel = eval (plan_at s.frame.catalog rel) (allowed s.frame.rights role s.rows)

-- the limits hold at each node of it
abbrev pub is_within_for : State → (role rel : ℕ) → Bool
is_within_for s role rel = plan_within s.frame.cap (plan_at s.frame.catalog rel) (allowed s.frame.rights role s.rows)

-- the first relation that the role may not select from, of those that it needs
abbrev pub missing_for : Frame → (role rel : ℕ) → Option (Privilege × ℕ)
missing_for f role rel = first_missing f.rights role (map (λ r. (Select, r)) (needs_at f.catalog rel))

-- what a subscription shows
abbrev pub view_shown : State → Subscription → List (List Cell)
view_shown s e = view_for s (actor s.frame e.session) e.rel

abbrev pub is_within : State → Subscription → Bool
is_within s e = is_within_for s (actor s.frame e.session) e.rel

-- the rows that subscription k shows: none if it is not open
abbrev pub shown : State → ℕ → List (List Cell)
shown s k = if_some (subscription_of s.frame.subscriptions k) [] (view_shown s)

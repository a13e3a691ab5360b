-- What every state has that the machine reaches from the start.
use Rattle.std.specs.Prelude.{◌≡◌, ℕ, ◌==◌, ◌<◌, true, List, [], length, map, bytes_eq, Option, Some, None, is_some}
use Rattle.std.specs.List.{All, AllPass, IsDistinct}
use Rattle.iv_rows.specs.Cell.{Cell}
use Rattle.iv_rows.specs.Columns.{Column, accepts, kinds_of}
use Rattle.iv_zset.specs.Limits.{within}
use Rattle.iv_algebra.specs.Shapes.{scans}
use Rattle.iv_bind.specs.Catalogs.{AreAmong, CatalogEntry, numbered, plan_of, reached_by, schema_of}
use Rattle.iv_machine.specs.Lines.{AreInOrder}
use Rattle.iv_machine.specs.Numbered.{IsNumbered}
use Rattle.iv_machine.specs.Reached.{AreNumbersUnique}
use Rattle.iv_machine.specs.Served.{AreServed}
use Rattle.iv_machine.specs.State.{State, Frame, Subscription, actor, is_open, missing_for}

-- no role, no relation and no session is named twice
pub record AreNamesDistinct (f : Frame) : Type 0 where
  pub roles : IsDistinct bytes_eq f.rights.roles
  pub relations : IsDistinct bytes_eq (map (λ e. e.name) f.catalog)
  pub sessions : IsDistinct (λ m n. m == n) (map (λ e. e.number) f.sessions)

-- its session is open, its relation is known, and the session's role has select on all that it needs
pub record MayRead (f : Frame) (e : Subscription) : Type 0 where
  pub session : is_open f e.session ≡ true
  pub relation : is_some (numbered f.catalog e.rel) ≡ true
  pub select : missing_for f (actor f e.session) e.rel ≡ None

-- a table's rows have the kinds of its columns; what is no table has no row
abbrev pub HasKinds : Option (List Column) → List (List Cell) → Type 0
HasKinds None rows = rows ≡ []
HasKinds (Some columns) rows = AllPass (accepts (kinds_of columns)) rows

-- what reading the relation scans is among what it needs
abbrev pub ScansNeeds : CatalogEntry → Type 0
ScansNeeds e = AreAmong (scans (plan_of e.rel e.held)) (reached_by e.rel e.held)

-- Subscriptions have the order of the lines and numbers of their own, and each may be read and is within the limits; names
-- are distinct; relations are numbered by their places and scan what they need; sessions act for roles that are there; each table is within the
-- limits, and its rows have its columns' kinds.
pub record IsSoundState (s : State) : Type 0 where
  pub numbers : AreNumbersUnique s.frame
  pub ordered : AreInOrder s.frame.subscriptions
  pub readers : All (MayRead s.frame) s.frame.subscriptions
  pub served : AreServed s
  pub names : AreNamesDistinct s.frame
  pub numbered : IsNumbered s.frame
  pub scanned : All ScansNeeds s.frame.catalog
  pub roles : All (λ e. e.role < length s.frame.rights.roles) s.frame.sessions
  pub limits : (t : ℕ) → within s.frame.cap (s.rows t) ≡ true
  pub kinds : (t : ℕ) → HasKinds (schema_of s.frame.catalog t) (s.rows t)

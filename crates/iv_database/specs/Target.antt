-- The relation that a request is made on, and the role that makes it.
use Rattle.std.specs.Prelude.{◌≡◌, ℕ, ◌<◌, not, true, List, ◌∷◌, length, Option, Some, option_map, is_some, Result, Ok, Err}
use Rattle.iv_rows.specs.declared.schema.RelId.{RelId}
use Rattle.iv_bind.specs.Catalogs.{named, schema_of}
use Rattle.iv_access.specs.Rights.{Name}
use Rattle.iv_roles.specs.declared.role.RoleId.{RoleId}
use Rattle.iv_machine.specs.Act.{Refusal, no_session}
use Rattle.iv_machine.specs.Refusing.{first, known_relation, or_else, test}
use Rattle.iv_machine.specs.State.{Frame, is_open, rel_of, session_of, table_columns}
use Rattle.iv_database.specs.Database.{Database, frame_of}
use Rattle.iv_command.specs.Views.{refusal_of}
use Rattle.iv_command.specs.declared.stop.Stop.{Stop}
use Rattle.iv_command.specs.declared.stop.Stop.TheVariants.{Refused, Memory}

-- the tests that all requests on a relation begin with, and more
abbrev pub target_tests : Frame → ℕ → Name → List (Option Refusal) → Option Refusal
target_tests f n name more = or_else (test (not (is_open f n)) no_session) (first (known_relation f name ∷ more))

-- the role acts in the session, and the relation has the name
pub record IsTarget (e : Database) (n : ℕ) (name : Name) (role rel : ℕ) : Type 0 where
  pub acts : Some role ≡ option_map (λ s. s.role) (session_of e.sessions n)
  pub known : is_some (named e.catalog name) ≡ true
  pub number : rel_of e.catalog name ≡ rel
  pub columns : table_columns e.catalog name ≡ schema_of e.catalog rel
  pub below : rel < length e.catalog

-- the role and the relation, or the refusal that tells the first test that fails, whatever tests follow
abbrev pub IsActingOn : Database → ℕ → Name → Result (RoleId × RelId) Stop → Type 0
IsActingOn e n name (Ok x) = IsTarget e n name x.0.0 x.1.0
IsActingOn e n name (Err (Refused r)) = (more : List (Option Refusal)) → target_tests (frame_of e) n name more ≡ Some (refusal_of r)
IsActingOn e n name (Err Memory) = Unit {0}

-- A new view: the tests of its names and of its text, and what is kept with it.
use Rattle.std.specs.Prelude.{◌≡◌, ℕ, Bool, not, nat_le, true, false, List, ◌∷◌, Option, Some, None, option_map, is_some, Result, Ok, Err}
use Rattle.iv_bind.specs.BoundTexts.{TextFault}
use Rattle.iv_bind.specs.Catalogs.{BoundQuery, View, bound_of, named}
use Rattle.iv_bind.specs.declared.bound.Bound.{Bound}
use Rattle.iv_roles.specs.Roles.{is_admin}
use Rattle.iv_access.specs.Privileges.{role_of}
use Rattle.iv_access.specs.Rights.{Name}
use Rattle.iv_roles.specs.declared.role.RoleId.{RoleId}
use Rattle.iv_machine.specs.Act.{Refusal, no_session, too_many}
use Rattle.iv_machine.specs.Refusing.{administrator, bad_text, first, free_relation, known_role, or_else, test, views}
use Rattle.iv_machine.specs.State.{Frame, actor, is_open, session_of}
use Rattle.iv_database.specs.Database.{Database, frame_of}
use Rattle.iv_database.specs.Next.{with_relation_of}
use Rattle.iv_command.specs.Views.{refusal_of}
use Rattle.iv_command.specs.declared.stop.Stop.{Stop}
use Rattle.iv_command.specs.declared.stop.Stop.TheVariants.{Refused, Memory}

-- the plan of a text, or the refusal that tells its first fault, unless memory runs out
abbrev pub IsBoundView : Result BoundQuery TextFault → Result Bound Stop → Type 0
IsBoundView bound (Ok b) = bound ≡ Ok (bound_of b)
IsBoundView bound (Err (Refused r)) = bad_text bound ≡ Some (refusal_of r)
IsBoundView bound (Err Memory) = Unit {0}

-- the tests of the session and of the names, and more
abbrev pub creator_tests : Frame → ℕ → (name owner : Name) → List (Option Refusal) → Option Refusal
creator_tests f n name owner more = or_else (test (not (is_open f n)) no_session)
    (first (administrator (actor f n) ∷ known_role f owner ∷ free_relation f name ∷ more))

-- the role of the session may add a relation of the name, with the owner
pub record MayAdd (e : Database) (n : ℕ) (name owner : Name) (acting : RoleId) : Type 0 where
  pub acts : Some acting.0 ≡ option_map (λ s. s.role) (session_of e.sessions n)
  pub admin : is_admin acting.0 ≡ true
  pub known : is_some (role_of e.known.rights owner) ≡ true
  pub free : named e.catalog name ≡ None

-- it may, or the refusal that tells the first test that fails, whatever tests follow
abbrev pub IsCreator : Database → ℕ → (name owner : Name) → Result RoleId Stop → Type 0
IsCreator e n name owner (Ok acting) = MayAdd e n name owner acting
IsCreator e n name owner (Err (Refused r)) = (more : List (Option Refusal)) → creator_tests (frame_of e) n name owner more ≡ Some (refusal_of r)
IsCreator e n name owner (Err Memory) = Unit {0}

-- there may be another view
abbrev pub has_view_room : Database → Bool
has_view_room e = not (nat_le 64 (views (frame_of e)))

-- the view is added; or there may be no other, and nothing has changed
abbrev pub IsViewAdded : Database → (name owner : Name) → BoundQuery → Result Unit Stop → Database → Type 0
IsViewAdded e name owner a (Ok u) new = (has_view_room e ≡ true) × (new ≡ with_relation_of name owner (View a) e)
IsViewAdded e name owner a (Err (Refused r)) new = (has_view_room e ≡ false) × (refusal_of r ≡ too_many) × (new ≡ e)
IsViewAdded e name owner a (Err Memory) new = Unit {0}

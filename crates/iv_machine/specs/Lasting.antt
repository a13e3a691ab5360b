-- What lasts after a command: roles, relations, sessions, subscriptions and their numbers; and what a command opens.
use Rattle.std.specs.Prelude.{◌≡◌, ◌≢◌, ◌⊎◌, ℕ, ◌==◌, ◌+◌, ◌≤◌, ℤ, Bool, true, false, List, Contains, Some, None, is_some}
use Rattle.std.specs.List.{list_any}
use Rattle.iv_rows.specs.Cell.{Cell}
use Rattle.iv_bind.specs.Catalogs.{CatalogEntry, named}
use Rattle.iv_access.specs.Privileges.{role_of}
use Rattle.iv_access.specs.Rights.{Name}
use Rattle.iv_machine.specs.Act.{Act, begin, finish, subscribe, Command, Line, ended}
use Rattle.iv_machine.specs.Changing.{opened_by}
use Rattle.iv_machine.specs.Held.{closed_in}
use Rattle.iv_machine.specs.Machine.{step}
use Rattle.iv_machine.specs.Refusing.{refusal}
use Rattle.iv_machine.specs.State.{State, Frame, Session, Subscription, session_of, subscription_of}
use Rattle.iv_machine.specs.declared.Cause.{Cause}

-- ---- what lasts

-- the request begins or finishes a session
abbrev pub changes_sessions : Act → Bool
changes_sessions (begin role) = true
changes_sessions finish = true
changes_sessions _ = false

-- From one frame to the next a role keeps its number, a relation its number and what it holds, and a session its role, if the
-- command does not finish it. Only `begin` and `finish` change sessions. The last number given does not fall.
pub record Lasts (c : Command) (old new : Frame) : Type 0 where
  pub roles : (name : Name) (role : ℕ) → role_of old.rights name ≡ Some role → role_of new.rights name ≡ Some role
  pub relations : (name : Name) (e : CatalogEntry) → named old.catalog name ≡ Some e → named new.catalog name ≡ Some e
  pub sessions : (n : ℕ) (e : Session) → c ≢ record { session = n; act = finish } → session_of old.sessions n ≡ Some e
      → session_of new.sessions n ≡ Some e
  pub all_sessions : changes_sessions c.act ≡ false → new.sessions ≡ old.sessions
  pub last : old.last ≤ new.last

-- ---- subscriptions

-- one of the lines tells session n that its subscription k has ended
pub record IsToldEnd (n k : ℕ) (lines : List Line) : Type 0 where
  pub why : Cause
  pub rows : List (List Cell × ℤ)
  pub line : Contains lines (ended n k why rows)

-- A subscription that its reader does not close is as it was, or its session is told its end. One that its reader closes, and one
-- whose end is told, is open no more.
pub record EndsAreTold (s : State) (c : Command) : Type 0 where
  pub stands : (k : ℕ) (e : Subscription) → list_any (λ j. k == j) (closed_in s c (refusal s c.session c.act)) ≡ false
      → subscription_of s.frame.subscriptions k ≡ Some e
      → (subscription_of (step s c).state.frame.subscriptions k ≡ Some e) ⊎ IsToldEnd e.session k (step s c).lines
  pub closed : (k : ℕ) → list_any (λ j. k == j) (closed_in s c (refusal s c.session c.act)) ≡ true
      → subscription_of (step s c).state.frame.subscriptions k ≡ None
  pub told : (n k : ℕ) → IsToldEnd n k (step s c).lines → subscription_of (step s c).state.frame.subscriptions k ≡ None

-- ---- what is opened

-- session n is open after the command, in the role of the name
pub record OpensSession (n : ℕ) (name : Name) (old new : Frame) : Type 0 where
  pub role : ℕ
  pub known : role_of old.rights name ≡ Some role
  pub opened : session_of new.sessions n ≡ Some (record { number = n; role = role })

-- the next number is given to a subscription of session n to the relation of the name
pub record OpensSubscription (n : ℕ) (name : Name) (old new : Frame) : Type 0 where
  pub known : is_some (named old.catalog name) ≡ true
  pub opened : subscription_of new.subscriptions (old.last + 1) ≡ Some (opened_by old n name)
  pub last : new.last ≡ old.last + 1

-- an accepted `begin` and an accepted `subscribe` open what they name
abbrev pub BeginOpens : State → ℕ → Name → Type 0
BeginOpens s n role = refusal s n (begin role) ≡ None
    → OpensSession n role s.frame (step s (record { session = n; act = begin role })).state.frame

abbrev pub SubscribeOpens : State → ℕ → Name → Type 0
SubscribeOpens s n rel = refusal s n (subscribe rel) ≡ None
    → OpensSubscription n rel s.frame (step s (record { session = n; act = subscribe rel })).state.frame

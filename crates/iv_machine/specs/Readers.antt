-- Who is sent the lines of a command, and which rows they show.
use Rattle.std.specs.Prelude.{◌≡◌, ◌⊎◌, ℕ, ◌<◌, ℤ, Bool, true, false, List, [], ◌∷◌, Some}
use Rattle.std.specs.List.{All}
use Rattle.iv_rows.specs.Cell.{Cell}
use Rattle.iv_zset.specs.Limits.{copies}
use Rattle.iv_algebra.specs.Counting.{SameCopies, SameTables}
use Rattle.iv_algebra.specs.Plans.{Lists}
use Rattle.iv_algebra.specs.Shapes.{Scan}
use Rattle.iv_access.specs.Policies.{may_see, allowed}
use Rattle.iv_machine.specs.Act.{Act, Command, Line, reply, change, ended, Refusal, no_such_row, limit, refused}
use Rattle.iv_machine.specs.Machine.{difference, step}
use Rattle.iv_machine.specs.Refusing.{has_subscription, refusal}
use Rattle.iv_machine.specs.Sound.{MayRead}
use Rattle.iv_machine.specs.State.{State, Frame, Subscription, actor, is_within_for, plan_at, shown, subscription_of, view_for}

-- the subscription is open, of this session, and may be read
pub record IsReader (f : Frame) (n k : ℕ) : Type 0 where
  pub subscription : Subscription
  pub found : subscription_of f.subscriptions k ≡ Some subscription
  pub session : subscription.session ≡ n
  pub reads : MayRead f subscription

-- a change goes to the session of a subscription that may be read now, a last line to the one that it was open in
abbrev pub GoesToReader : (old new : Frame) → Line → Type 0
GoesToReader old new (reply n r) = Unit {0}
GoesToReader old new (change n k rows) = IsReader new n k
GoesToReader old new (ended n k why rows) = has_subscription old n k ≡ true

-- ---- the rows of a change

-- the row is in table t, and the role may see it
pub record IsAllowed (s : State) (role t : ℕ) (row : List Cell) : Type 0 where
  pub there : 0 < copies row (s.rows t)
  pub seen : may_see s.frame.rights role t row ≡ true

-- subscription k showed the row before, or the role may see it now
abbrev pub IsKnownRow : (old new : State) → (k role t : ℕ) → List Cell → Type 0
IsKnownRow old new k role t row = (0 < copies row (shown old k)) ⊎ IsAllowed new role t row

-- if the subscription is to table t, each row is one that it showed before, or that its reader may see now
abbrev pub AreKnownRows : (old new : State) → ℕ → List (List Cell × ℤ) → Type 0
AreKnownRows old new k rows = (e : Subscription) (t : ℕ) → subscription_of new.frame.subscriptions k ≡ Some e
    → plan_at new.frame.catalog e.rel ≡ Scan t → All (λ p. IsKnownRow old new k (actor new.frame e.session) t p.0) rows

-- a change has such rows; a last line takes back all that the subscription showed
abbrev pub ShowsKnownRows : (old new : State) → Line → Type 0
ShowsKnownRows old new (reply n r) = Unit {0}
ShowsKnownRows old new (change n k rows) = AreKnownRows old new k rows
ShowsKnownRows old new (ended n k why rows) = rows ≡ difference (shown old k) []

-- ---- refusals

-- the first line of the command is the refusal r, for session n
abbrev pub Refuses : State → Command → ℕ → Refusal → List Line → Type 0
Refuses s c n r later = (step s c).lines ≡ reply n (refused r) ∷ later

-- the table's rows, or the limits, decide the refusal
abbrev pub looks_at_rows : Refusal → Bool
looks_at_rows (no_such_row entry) = true
looks_at_rows limit = true
looks_at_rows _ = false

-- a command that is refused so over some rows is refused so over others
abbrev pub IsRefusedAlike : Frame → Refusal → Type 0
IsRefusedAlike f r = (S T : Lists) (n : ℕ) (act : Act) → refusal (record { frame = f; rows = S }) n act ≡ Some r
    → refusal (record { frame = f; rows = T }) n act ≡ Some r

-- if the role may see the same rows of each table, each as often, it sees the same rows of the relation, each as often, and
-- its limits hold alike
pub record SeesAlike (f : Frame) (role rel : ℕ) : Type 0 where
  pub rows : (S T : Lists) → SameTables (allowed f.rights role S) (allowed f.rights role T)
      → SameCopies (view_for (record { frame = f; rows = S }) role rel) (view_for (record { frame = f; rows = T }) role rel)
  pub limits : (S T : Lists) → SameTables (allowed f.rights role S) (allowed f.rights role T)
      → is_within_for (record { frame = f; rows = S }) role rel ≡ is_within_for (record { frame = f; rows = T }) role rel

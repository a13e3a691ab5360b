-- What a request makes of the rounds of the subscriptions that are open afterwards.
use Rattle.std.specs.Prelude.{◌≡◌, ℕ, ◌+◌, ◌==◌, Bool, true, cond, List, [], ◌∷◌}
use Rattle.std.specs.List.{AllByRecursion, list_any}
use Rattle.iv_zset.specs.Weights.{SameZ}
use Rattle.iv_algebra.specs.Contents.{rows_of}
use Rattle.iv_algebra.specs.Shapes.{scans}
use Rattle.iv_algebra.specs.declared.tables.Table.{Table}
use Rattle.iv_bind.specs.Catalogs.{CatalogEntry}
use Rattle.iv_access.specs.Laws.{ReachesAlike}
use Rattle.iv_machine.specs.Act.{Act, Command, Line, Refusal, refused, reply, begin, finish, create_role, create_table, create_view, grant, revoke, grant_role, revoke_role, row_security, create_policy, drop_policy, write, subscribe, unsubscribe}
use Rattle.iv_machine.specs.State.{actor, plan_at, rel_of}
use Rattle.iv_store.specs.Rounds.{beside_number}
use Rattle.iv_store.specs.Engine.{Engine}

-- what the relation shows is read from the table
abbrev pub scans_at : List CatalogEntry → (rel table : ℕ) → Bool
scans_at catalog rel table = list_any (λ t. t == table) (scans (plan_at catalog rel))

-- the table has as many copies of each row as it had
abbrev pub HasSameCounts : (old new : List Table) → (table : ℕ) → Type 0
HasSameCounts old new t = SameZ (rows_of new t) (rows_of old t)

-- one round more exactly if the counts of a table have changed that the relation scans
pub record IsCounted (old new : Engine) (rel was now : ℕ) : Type 0 where
  pub changed : (t : ℕ) → scans_at old.frame.catalog rel t ≡ true → (HasSameCounts old.tables new.tables t → ⊥) → now ≡ was + 1
  pub same : ((t : ℕ) → scans_at old.frame.catalog rel t ≡ true → HasSameCounts old.tables new.tables t) → now ≡ was

-- none any more if the relation scans the table of the name
abbrev pub IsRebuilt : Engine → (name : List ℕ) → (rel was now : ℕ) → Type 0
IsRebuilt old name rel was now = now ≡ cond (scans_at old.frame.catalog rel (rel_of old.frame.catalog name)) 0 was

-- none any more if the role reaches other roles than before, and as many if it reaches the same
pub record IsRebuiltByReach (old new : Engine) (role was now : ℕ) : Type 0 where
  pub changed : (ReachesAlike old.frame.rights new.frame.rights.members role → ⊥) → now ≡ 0
  pub same : ReachesAlike old.frame.rights new.frame.rights.members role → now ≡ was

-- what an accepted request makes of the rounds of a subscription of the role to the relation
abbrev pub TurnsRounds : (old new : Engine) → Act → (role rel was now : ℕ) → Type 0
TurnsRounds old new (begin name) role rel was now = now ≡ was
TurnsRounds old new finish role rel was now = now ≡ was
TurnsRounds old new (create_role name) role rel was now = now ≡ was
TurnsRounds old new (create_table name owner columns) role rel was now = now ≡ was
TurnsRounds old new (create_view name owner query) role rel was now = now ≡ was
TurnsRounds old new (grant name privileges to) role rel was now = now ≡ was
TurnsRounds old new (revoke name privileges to) role rel was now = now ≡ was
TurnsRounds old new (grant_role group to) role rel was now = IsRebuiltByReach old new role was now
TurnsRounds old new (revoke_role group to) role rel was now = IsRebuiltByReach old new role was now
TurnsRounds old new (row_security name enable force) role rel was now = IsRebuilt old name rel was now
TurnsRounds old new (create_policy p) role rel was now = IsRebuilt old p.rel rel was now
TurnsRounds old new (drop_policy name policy) role rel was now = IsRebuilt old name rel was now
TurnsRounds old new (write es) role rel was now = IsCounted old new rel was now
TurnsRounds old new (subscribe name) role rel was now = now ≡ was
TurnsRounds old new (unsubscribe number) role rel was now = now ≡ was

-- how many changes the circuit of the subscription of this number has taken in
abbrev pub rounds_at : Engine → (number : ℕ) → ℕ
rounds_at seen number = beside_number number seen.rounds

-- that of each subscription that is open afterwards; a new one had none
abbrev pub AreCounted : Engine → Act → Engine → Type 0
AreCounted old act new =
    AllByRecursion (λ s. TurnsRounds old new act (actor new.frame s.session) s.rel (rounds_at old s.number) (rounds_at new s.number)) new.frame.subscriptions

-- if the one line is no refusal
abbrev pub AreCountedWhereAccepted : Engine → Command → List Line → Engine → Type 0
AreCountedWhereAccepted old c lines new = ((n : ℕ) (r : Refusal) → lines ≡ reply n (refused r) ∷ [] → ⊥) → AreCounted old c.act new

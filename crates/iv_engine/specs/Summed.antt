-- What writes have changed of tables while facts were carried out.
use Rattle.std.specs.Prelude.{◌≡◌, ◌==◌, ◌++◌, ◌⊎◌, ℕ, false, List, []}
use Rattle.std.specs.List.{list_any}
use Rattle.iv_zset.specs.Weights.{IsZSet, SameZ}
use Rattle.iv_algebra.specs.Contents.{rows_of}
use Rattle.iv_circuit.specs.Changing.{Given}
use Rattle.iv_circuit.specs.Deltas.{change_in}
use Rattle.iv_database.specs.Database.{IsDatabase}
use Rattle.iv_store.specs.Aside.{all_concerned}
use Rattle.iv_store.specs.Followed.{HaveFollowed, IsSomeBroken}
use Rattle.iv_store.specs.Store.{Store, database_of}
use Rattle.iv_store.specs.Turned.{AreReaders}
use Rattle.iv_command.specs.declared.command.Line.{Line}
use Rattle.iv_command.specs.declared.command.Reply.TheVariants.{Ok}
use Rattle.iv_engine.specs.declared.sums.Sums.{Sums}

-- rights and relations are those of the store before, and the rows of each table are those of before with what is given for it; nothing is given
-- for other tables than these
pub record AreWritten (before : Store) (given : Given) (tables : List ℕ) (now : Store) : Type 0 where
  pub cap : now.cap ≡ before.cap
  pub rights : now.known.rights ≡ before.known.rights
  pub catalog : now.catalog ≡ before.catalog
  pub zsets : (t : ℕ) → IsZSet (given t)
  pub sums : (t : ℕ) → SameZ (rows_of now.tables t) (given t ++ rows_of before.tables t)
  pub others : (t : ℕ) → list_any (λ s. t == s) tables ≡ false → given t ≡ []

-- so it is while writes alone were carried out
abbrev pub AreSumsOf : Store → Sums → Store → Type 0
AreSumsOf before s now = s.others ≡ false → AreWritten before (change_in s.deltas) s.tables.items now

-- they are sums since some store
pub record AreSumsSince (s : Sums) (now : Store) : Type 0 where
  pub before : Store
  pub stored : IsDatabase (database_of before)
  pub are : AreSumsOf before s now

-- the readers of the store were looked at, since more was carried out than writes or a circuit would not be within the limits
pub record AreLookedAt (e : Store) (s : Sums) (lines : List Line) (new : Store) : Type 0 where
  pub readers : AreReaders e (all_concerned e) Ok lines new
  pub why : s.others ≡ false → IsSomeBroken e (change_in s.deltas)

-- or the circuits have taken the sums of writes in
abbrev pub AreTold : Store → Sums → List Line → Store → Type 0
AreTold e s lines new = AreLookedAt e s lines new ⊎ ((s.others ≡ false) × HaveFollowed e (change_in s.deltas) lines new)

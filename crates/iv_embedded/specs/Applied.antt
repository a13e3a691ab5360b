-- What a list of commands makes of the engine, command by command.
use Rattle.std.specs.Prelude.{◌≡◌, List, [], ◌∷◌, ◌++◌}
use Rattle.iv_machine.specs.Act.{Command, Line}
use Rattle.iv_store.specs.Counting.{AreCountedWhereAccepted}
use Rattle.iv_store.specs.Engine.{AreLinesOf, ChangesWhereAccepted, HasKnownRows, IsLeftBy, Engine}

-- a command, as one `apply` answers it
pub record IsApplied (old : Engine) (c : Command) (said : List Line) (new : Engine) : Type 0 where
  pub lines : AreLinesOf old c said
  pub state : IsLeftBy old c new
  pub known_rows : HasKnownRows old c said
  pub refused : ChangesWhereAccepted old said new
  pub rounds : AreCountedWhereAccepted old c said new

-- the commands in their order, each on what the one before it left, and their lines one after another
abbrev pub AreApplied : Engine → List Command → List Line → Engine → Type 0
AreApplied old [] lines new = (lines ≡ []) × (new ≡ old)
AreApplied old (c ∷ cs) lines new =
    (first : List Line) × (others : List Line) × (between : Engine)
    × (lines ≡ first ++ others) × IsApplied old c first between × AreApplied between cs others new

-- What connections do to the engine, and what serving them tells.
use Rattle.std.specs.Prelude.{◌≡◌, ℕ, ◌≤◌, ◌<◌, Bool, true, false, List, [], ◌∷◌, length, Result, Ok, Err, ⊤}
use Rattle.std.specs.List.{All, AllByRecursion}
use Rattle.iv_machine.specs.Act.{Command}
use Rattle.iv_machine.specs.Machine.{hung, run}
use Rattle.iv_machine.specs.State.{Frame, State}
use Rattle.iv_machine.specs.Stored.{IsGiven}
use Rattle.iv_engine.specs.Engine.{Engine, IsBehind}
use Rattle.iv_program.specs.declared.serving.ServeFault.{ServeFault}
use Rattle.iv_program.specs.declared.serving.ServeFault.TheVariants.{Network, Memory, Failed}

-- the commands of one connection after another; after each connection all sessions and subscriptions are closed
abbrev pub served : State → List (List Command) → State
served s [] = s
served s (commands ∷ more) = served (hung (run s commands).state) more

-- so many connections were answered, each with commands that lines may give, no more than lines, and the machine's state
-- then stands behind the engine
pub record HasServed (lines connections : ℕ) (before : State) (now : Engine) : Type 0 where
  pub commands : List (List Command)
  pub count : length commands ≡ connections
  pub most : AllByRecursion (λ cs. length cs ≤ lines) commands
  pub given : AllByRecursion (All IsGiven) commands
  pub behind : IsBehind (served before commands) now

-- all connections were answered, or as many as came before the network failed
abbrev pub Serves : (lines connections : ℕ) → State → Engine → Result (Unit {0}) ServeFault → Type 0
Serves lines connections before now (Ok _) = HasServed lines connections before now
Serves lines connections before now (Err Network) = (k : ℕ) × (k < connections) × HasServed lines k before now
Serves lines connections before now (Err Memory) = ⊤
Serves lines connections before now (Err Failed) = ⊤

-- no session and no subscription is open
pub record IsClosed (f : Frame) : Type 0 where
  pub sessions : f.sessions ≡ []
  pub subscriptions : f.subscriptions ≡ []

abbrev pub is_memory : Result (Unit {0}) ServeFault → Bool
is_memory (Ok _) = false
is_memory (Err Network) = false
is_memory (Err Memory) = true
is_memory (Err Failed) = false

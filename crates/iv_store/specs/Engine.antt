-- What contracts see of an engine, and the machine's states that stand behind it.
use Rattle.std.specs.Prelude.{◌≡◌, ◌==◌, ℕ, Bool, List, [], ◌∷◌}
use Rattle.std.specs.List.{All, list_any}
use Rattle.std.specs.List.Sorted.{IsStrictlySortedBy}
use Rattle.std.specs.Map.{keys_of}
use Rattle.std.specs.Ordering.{nat_cmp}
use Rattle.iv_algebra.specs.declared.tables.Table.{Table}
use Rattle.iv_machine.specs.Act.{Command, Line, Refusal, refused, reply}
use Rattle.iv_machine.specs.Machine.{run, step}
use Rattle.iv_machine.specs.Reached.{LinesAddUp}
use Rattle.iv_machine.specs.Readers.{ShowsKnownRows}
use Rattle.iv_machine.specs.State.{Frame, State, is_open_number}
use Rattle.iv_database.specs.Stands.{Stands}

-- all but the rows, the tables with their rows, how many changes the circuit of each open subscription has taken in, by
-- the numbers of the subscriptions, and whether the engine has failed
pub record Engine : Type 0 where
  pub frame : Frame
  pub tables : List Table
  pub rounds : List (ℕ × ℕ)
  pub failed : Bool

-- its rounds are those of the open subscriptions, by rising number
pub record HasRoundsOfOpen (e : Engine) : Type 0 where
  pub rising : IsStrictlySortedBy nat_cmp (keys_of e.rounds)
  pub those : (n : ℕ) → list_any (λ x. n == x.0) e.rounds ≡ is_open_number e.frame n

-- all sessions and subscriptions are closed
abbrev pub hung_up : Engine → Engine
hung_up e = record e { frame = record e.frame { sessions = []; subscriptions = [] }; rounds = [] }

-- the state is the engine's, but for the order of rows in its lists
pub record IsBehind (s : State) (e : Engine) : Type 0 where
  pub frame : s.frame ≡ e.frame
  pub rows : Stands s.rows e.tables

-- the rows of a subscription to a table are known: a change has rows that it showed before or that its reader may see
-- now, and a last line takes back all that it showed
abbrev pub HasKnownRows : Engine → Command → List Line → Type 0
HasKnownRows e c lines = (s : State) → IsBehind s e → All (ShowsKnownRows s (step s c).state) lines

-- in each state behind the engine these are the lines of the command
abbrev pub AreLinesOf : Engine → Command → List Line → Type 0
AreLinesOf e c lines = (s : State) → IsBehind s e → lines ≡ (step s c).lines

-- and behind what is left stands the state that it leaves
abbrev pub IsLeftBy : Engine → Command → Engine → Type 0
IsLeftBy e c new = (s : State) → IsBehind s e → IsBehind (step s c).state new

-- the same of commands in their order
abbrev pub AreLinesOfAll : Engine → List Command → List Line → Type 0
AreLinesOfAll e cs lines = (s : State) → IsBehind s e → lines ≡ (run s cs).lines

abbrev pub IsLeftByAll : Engine → List Command → Engine → Type 0
IsLeftByAll e cs new = (s : State) → IsBehind s e → IsBehind (run s cs).state new

-- if the one line is a refusal nothing has changed
abbrev pub ChangesWhereAccepted : {A : Type 0} → A → List Line → A → Type 0
ChangesWhereAccepted old lines new = (n : ℕ) (r : Refusal) → lines ≡ reply n (refused r) ∷ [] → new ≡ old

-- for each subscription that its reader did not close the lines add up to what it shows after the commands, minus what
-- it showed before
abbrev pub LinesAddUpBehind : Engine → List Command → List Line → Type 0
LinesAddUpBehind e cs lines = (s : State) → IsBehind s e → LinesAddUp s cs lines

-- What the program does, by what it is asked to do.
use Rattle.std.specs.Prelude.{ℕ, ◌∷◌, ◌++◌, List, [], Option, Result, Ok, Err, codes, decimal, take, IfSome, ⊤}
use Rattle.std.specs.Io.KnownBytes.{Appends}
use Rattle.iv_machine.specs.State.{start}
use Rattle.iv_engine.specs.Engine.{Engine}
use Rattle.iv_wire.specs.Endings.{Run}
use Rattle.iv_lines.specs.Moments.{Moment}
use Rattle.iv_wire.specs.Sums.{HasWritten}
use Rattle.iv_wire.specs.Turns.{IsInTurn}
use Rattle.iv_program.specs.Replays.{Replays}
use Rattle.iv_arguments.specs.declared.asked.Settings.{Settings}
use Rattle.iv_arguments.specs.declared.asked.Settings.TheVariants.{Replay, Serve}
use Rattle.iv_arguments.specs.declared.fault.Fault.{Fault}
use Rattle.iv_arguments.specs.declared.fault.Fault.TheVariants.{Read, Random}

-- the line that says where the program listens
abbrev pub listening : ℕ → List ℕ
listening port = codes "listening on 127.0.0.1:" ++ decimal port ++ 10 ∷ []

-- the bytes that the reader had and has left, and those that the writer had taken and has taken now
pub record Ends : Type 0 where
  pub given : Option (List ℕ)
  pub left : Option (List ℕ)
  pub taken : Option (List ℕ)
  pub written : Option (List ℕ)

-- a run from these ends to the engine
abbrev pub run_of : ℕ → Ends → Engine → Run
run_of lines e now = record { lines = lines; given = e.given; left = e.left; taken = e.taken; written = e.written; now = now }

-- a front of the line was written, and all of it if all connections were served
abbrev pub Listens : ℕ → (taken written : Option (List ℕ)) → Result (Unit {0}) Fault → Type 0
Listens port taken written (Ok _) = Appends taken written (listening port)
Listens port taken written (Err Read) = ⊥
Listens port taken written (Err Random) = ⊥
Listens port taken written (Err f) = (n : ℕ) × Appends taken written (take n (listening port))

-- lines of the reader are answered on the writer, with so many rows at most, or those of connections are answered, and the
-- writer tells the port
abbrev pub Does : Settings → Ends → Result (Unit {0}) Fault → Type 0
Does (Replay lines rows) e result = (now : Engine) × Replays rows (run_of lines e now) result
Does (Serve port connections lines rows) e result = Listens port e.taken e.written result

-- if lines of the reader are answered and the reader tells its bytes, the lines that were written add up, for each
-- subscription that its reader did not close, to what it shows
abbrev pub LinesAddUp : Settings → Ends → Type 0
LinesAddUp (Replay lines rows) e = (now : Engine) × IfSome e.given (λ _. HasWritten (start rows) (run_of lines e now))
LinesAddUp (Serve port connections lines rows) e = ⊤

-- the reader is read in its turn; if those of connections are answered it is not read
abbrev pub IsTurnOf : Settings → (given taken : Option (List ℕ)) → Moment → Type 0
IsTurnOf (Replay lines rows) given taken m = IsInTurn lines (start rows) given taken m
IsTurnOf (Serve port connections lines rows) given taken m = ⊥

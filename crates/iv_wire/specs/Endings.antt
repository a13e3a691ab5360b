-- What is written at each ending of a run, and the machine's state behind the engine.
use Rattle.std.specs.Prelude.{◌≡◌, ◌≤◌, ◌<◌, ◌+◌, ℕ, List, take, length, Option, Some, None, ⊤, Result, Ok, Err}
use Rattle.std.specs.Io.KnownBytes.{Appends}
use Rattle.iv_machine.specs.State.{State}
use Rattle.iv_engine.specs.Engine.{Engine, IsBehind}
use Rattle.iv_lines.specs.declared.lines.End.{End}
use Rattle.iv_lines.specs.declared.lines.End.TheVariants.{Lines}
use Rattle.iv_lines.specs.declared.lines.RunFault.{RunFault}
use Rattle.iv_lines.specs.declared.lines.RunFault.TheVariants.{Read, Write, Memory, Failed}
use Rattle.iv_lines.specs.Answer.{Answer, answer}
use Rattle.iv_lines.specs.Reads.{BeginsLine}

-- what a run was asked for and given, and what it leaves: how many lines at most; the bytes that the reader had, and has
-- left; the bytes that the writer had taken, and has taken now; and the engine
pub record Run : Type 0 where
  pub lines : ℕ
  pub given : Option (List ℕ)
  pub left : Option (List ℕ)
  pub taken : Option (List ℕ)
  pub written : Option (List ℕ)
  pub now : Engine

-- k lines were there, and their answers were written
abbrev pub HasAnswered : State → List ℕ → ℕ → Run → Type 0
HasAnswered s bytes k r = let a = answer k s bytes in (a.end ≡ Lines) × Appends r.taken r.written a.text

-- the answer is written whole, and its state stands behind the engine
abbrev pub IsWhole : Answer → End → Run → Type 0
IsWhole a end r = Appends r.taken r.written a.text × IsBehind a.state r.now × (end ≡ a.end)

-- what is left begins a line cut short, after those that were answered
abbrev pub StopsBehind : Answer → Option (List ℕ) → Run → Type 0
StopsBehind a None r = ⊥
StopsBehind a (Some left) r = IsBehind a.state r.now × BeginsLine a.rest left

-- the line after k others is applied, and a front of the answers was written, which has those to the k lines whole
abbrev pub StopsWriting : State → List ℕ → ℕ → Run → Type 0
StopsWriting s bytes k r =
    let a = answer k s bytes in let b = answer (k + 1) s bytes in
    (a.end ≡ Lines) × IsBehind b.state r.now × ((n : ℕ) × (length a.text ≤ n) × Appends r.taken r.written (take n b.text))

-- how a run over these bytes ends
abbrev pub Ends : State → List ℕ → Run → Result End RunFault → Type 0
Ends s bytes r (Ok end) = IsWhole (answer r.lines s bytes) end r
Ends s bytes r (Err Read) = (k : ℕ) × (k < r.lines) × HasAnswered s bytes k r × StopsBehind (answer k s bytes) r.left r
Ends s bytes r (Err Write) = (k : ℕ) × (k < r.lines) × StopsWriting s bytes k r
Ends s bytes r (Err Memory) = (k : ℕ) × (k < r.lines) × HasAnswered s bytes k r
Ends s bytes r (Err Failed) = ⊤

-- if the reader tells the bytes that it has left
abbrev pub Answers : State → Option (List ℕ) → Run → Result End RunFault → Type 0
Answers s None r result = ⊤
Answers s (Some bytes) r result = Ends s bytes r result

abbrev pub IsAnswered : State → Run → Result End RunFault → Type 0
IsAnswered s r result = Answers s r.given r result

-- What private functions promise of an answer: its lines, and what is kept afterwards.
use Rattle.std.specs.Prelude.{◌≡◌, ℕ, List, [], map, flat_map, Some, None, Result, Ok, Err, false}
use Rattle.iv_algebra.specs.Plans.{Lists}
use Rattle.iv_machine.specs.Act as machine
use Rattle.iv_machine.specs.State.{Subscription}
use Rattle.iv_machine.specs.Refusing.{refusal}
use Rattle.iv_machine.specs.Changing.{after}
use Rattle.iv_machine.specs.Machine.{reply_to, changes, settled, lines_told as machine_line, difference, step}
use Rattle.iv_store.specs.Counting.{AreCounted, AreCountedWhereAccepted}
use Rattle.iv_store.specs.Store.{Store, IsSoundStore, frame_of, at, shown_rows}
use Rattle.iv_store.specs.Rounds.{rounds}
use Rattle.iv_store.specs.Engine.{Engine, IsBehind}
use Rattle.iv_database.specs.Stands.{Stands}
use Rattle.iv_command.specs.Views.{refusal_of, reply_of, line_of}
use Rattle.iv_command.specs.declared.command.Refusal.{Refusal}
use Rattle.iv_command.specs.declared.command.Reply.TheVariants as said
use Rattle.iv_command.specs.declared.answer.Answer.{Answer}
use Rattle.iv_command.specs.declared.stop.Stop.{Stop}
use Rattle.iv_command.specs.declared.stop.Stop.TheVariants.{Refused, Memory}

-- what the engine shows of itself while it has not failed
abbrev pub seen : Store → Engine
seen e = record { frame = frame_of e; tables = e.tables; rounds = rounds e; failed = false }

-- the lines that the machine sends for an accepted request in the state with the lists T
abbrev pub sent : Store → Lists → ℕ → machine.Act → List machine.Line
sent e T n act = let changed = after (at e T) n act in changes act (at e T) changed (settled act changed)

-- the machine accepts the request in the state with the lists T, and gives the answer
abbrev pub IsAnswer : Store → Lists → ℕ → machine.Act → Answer → Type 0
IsAnswer e T n act a =
    (refusal (at e T) n act ≡ None) × (reply_of a.reply ≡ reply_to (frame_of e) act) × (map line_of a.changes.items ≡ sent e T n act)

-- an accepted request, for all lists behind e: new is what the machine leaves, and it counts the rounds of each subscription
pub record IsAccepted (e : Store) (n : ℕ) (act : machine.Act) (a : Answer) (new : Store) : Type 0 where
  pub answer : (T : Lists) → Stands T e.tables → IsAnswer e T n act a
  pub left : (T : Lists) → Stands T e.tables → IsBehind (settled act (after (at e T) n act)) (seen new)
  pub accepts : (r : machine.Refusal) → reply_of a.reply ≡ machine.refused r → ⊥
  pub rounds : AreCounted (seen e) act (seen new)
  pub sound : IsSoundStore new

-- a refused one, for all lists behind e: nothing has changed
pub record IsRefused (e : Store) (n : ℕ) (act : machine.Act) (r : Refusal) (new : Store) : Type 0 where
  pub told : (T : Lists) → Stands T e.tables → refusal (at e T) n act ≡ Some (refusal_of r)
  pub kept : new ≡ e

-- one step of the machine from e to new; nothing is said if memory runs out
abbrev pub IsStep : Store → ℕ → machine.Act → Result Answer Stop → Store → Type 0
IsStep e n act (Ok a) new = IsAccepted e n act a new
IsStep e n act (Err (Refused r)) new = IsRefused e n act r new
IsStep e n act (Err Memory) new = Unit {0}

-- the answer of a request that shows nothing, which has the result
abbrev pub IsPlain : Result Unit Stop → Result Answer Stop → Type 0
IsPlain (Ok u) (Ok a) = (a.reply ≡ said.Ok) × (a.changes.items ≡ [])
IsPlain (Ok u) (Err s) = ⊥
IsPlain (Err s) (Ok a) = ⊥
IsPlain (Err s) (Err t) = t ≡ s

-- the line of a subscription from what it shows of the lists T to what it shows, afterwards, of the lists U
abbrev pub change_line : Store → Store → Lists → Lists → Subscription → List machine.Line
change_line old new T U s = machine_line None s (difference (shown_rows old T s) (shown_rows new U s))

-- the same if rows alone have changed
abbrev pub moved_line : Store → Lists → Lists → Subscription → List machine.Line
moved_line e T U s = change_line e e T U s

-- the lines of subscriptions that were open before
abbrev pub moved_lines : Store → Lists → Lists → List Subscription → List machine.Line
moved_lines e T U es = flat_map (moved_line e T U) es

-- the lines of a step of the machine, for all lists behind e
abbrev pub IsSaid : Store → machine.Command → List machine.Line → Type 0
IsSaid e c lines = (T : Lists) → Stands T e.tables → lines ≡ (step (at e T) c).lines

-- what such a step leaves
abbrev pub IsNext : Store → machine.Command → Store → Type 0
IsNext e c new = (T : Lists) → Stands T e.tables → IsBehind (step (at e T) c).state (seen new)

-- what it makes of the rounds of subscriptions, if it is accepted
abbrev pub IsCountedBy : Store → machine.Command → List machine.Line → Store → Type 0
IsCountedBy e c lines new = AreCountedWhereAccepted (seen e) c lines (seen new)

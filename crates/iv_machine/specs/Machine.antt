-- One step of the machine, and a run of it.
-- Read it from the end: `run` is one `step` after another; a step is the first test that fails (`refusal`), or else what the command changes (`after`)
-- without the subscriptions that end by it (`settled`). Changes have no rule by request: a line is what a subscription shows afterwards, minus what it
-- showed before. `old`, `changed` and `new` are the states before a command, with its change, and without those that ended; `e` is a subscription.
use Rattle.std.specs.Prelude.{◌+◌, Bool, true, false, not, List, [], ◌∷◌, ◌++◌, map, filter, flat_map, ℤ, pos, ◌-ℤ◌, Option, Some, None, is_some}
use Rattle.std.specs.Ordering.{int_eq}
use Rattle.std.specs.declared.cmp.Ordering.{Ordering}
use Rattle.std.specs.declared.cmp.Ordering.TheVariants.{Less, Equal, Greater}
use Rattle.iv_rows.specs.Cell.{Cell}
use Rattle.iv_rows.specs.Order.{row_cmp}
use Rattle.iv_zset.specs.Limits.{copies}
use Rattle.iv_machine.specs.Act.{Act, subscribe, write, Command, Refusal, Reply, done, subscribed, refused, Line, reply, change, ended}
use Rattle.iv_machine.specs.State.{State, Frame, Subscription, actor, missing_for, is_within, shown}
use Rattle.iv_machine.specs.Refusing.{refusal}
use Rattle.iv_machine.specs.Changing.{after}
use Rattle.iv_machine.specs.declared.Cause.{Cause}
use Rattle.iv_machine.specs.declared.Cause.TheVariants as cause

-- ---- the difference of two lists of rows

abbrev pub place_row : Ordering → List Cell → List Cell → List (List Cell) → List (List Cell) → List (List Cell)
place_row Less r s rows placed = r ∷ s ∷ rows
place_row Equal r s rows placed = s ∷ rows
place_row Greater r s rows placed = s ∷ placed

-- at its place, if it does not stand yet
abbrev pub insert_row : List Cell → List (List Cell) → List (List Cell)
insert_row r [] = r ∷ []
insert_row r (s ∷ rows) = place_row (row_cmp r s) r s rows (insert_row r rows)

-- the rows that occur, in rising order, each once
abbrev pub rising_rows : List (List Cell) → List (List Cell)
rising_rows [] = []
rising_rows (r ∷ rows) = insert_row r (rising_rows rows)

-- how many copies more after than before
abbrev pub weight : List (List Cell) → List (List Cell) → List Cell → ℤ
weight before after q = pos (copies q after) -ℤ pos (copies q before)

abbrev pub weighted : List (List Cell) → List (List Cell) → List Cell → List Cell × ℤ
weighted before after r = (r, weight before after r)

abbrev pub is_change : List Cell × ℤ → Bool
is_change p = not (int_eq p.1 (pos 0))

-- after minus before: the rows in rising order, each once, with its weight, which is not 0
abbrev pub difference : List (List Cell) → List (List Cell) → List (List Cell × ℤ)
difference before after = filter is_change (map (weighted before after) (rising_rows (before ++ after)))

-- ---- which subscriptions an accepted command ends

abbrev pub first_cause : (lacks fits : Bool) → Option Cause
first_cause true fits = Some cause.Privilege
first_cause false false = Some cause.Limit
first_cause false true = None

-- a privilege that it needs is missing, or else its view is not within the limits
abbrev pub ending : State → Subscription → Option Cause
ending s e = first_cause (is_some (missing_for s.frame (actor s.frame e.session) e.rel)) (is_within s e)

-- a write ends none; it is refused if a view would not be within the limits
abbrev pub ending_by : Act → State → Subscription → Option Cause
ending_by (write entries) s e = None
ending_by _ s e = ending s e

-- without the subscriptions that end
abbrev pub settled : Act → State → State
settled act s = record s { frame = record s.frame { subscriptions = filter (λ e. not (is_some (ending_by act s e))) s.frame.subscriptions } }

-- ---- the lines of an accepted command

abbrev pub reply_to : Frame → Act → Reply
reply_to f (subscribe rel) = subscribed (f.last + 1)
reply_to f _ = done

-- a last line if the subscription ends, also with no row; else no line if nothing changes
abbrev pub lines_told : Option Cause → Subscription → List (List Cell × ℤ) → List Line
lines_told (Some why) e rows = ended e.session e.number why rows ∷ []
lines_told None e [] = []
lines_told None e (p ∷ ps) = change e.session e.number (p ∷ ps) ∷ []

-- what it shows afterwards, minus what it showed before
abbrev pub line_for : State → State → (Subscription → Option Cause) → Subscription → List Line
line_for old new ends e = lines_told (ends e) e (difference (shown old e.number) (shown new e.number))

-- for each subscription that was open before or is new, and that its reader did not close
abbrev pub changes : Act → State → State → State → List Line
changes act old changed new = flat_map (line_for old new (ending_by act changed)) changed.frame.subscriptions

-- ---- one command, and many

pub record Outcome : Type 0 where
  pub state : State
  pub lines : List Line

-- from the state before, what the command changes, and what is left of that
abbrev pub accepted : Command → State → State → State → Outcome
accepted c old changed new = record { state = new; lines = reply c.session (reply_to old.frame c.act) ∷ changes c.act old changed new }

-- a refusal leaves the state and is the one line
abbrev pub outcome : State → Command → Option Refusal → Outcome
outcome s c (Some r) = record { state = s; lines = reply c.session (refused r) ∷ [] }
outcome s c None = accepted c s (after s c.session c.act) (settled c.act (after s c.session c.act))

abbrev pub step : State → Command → Outcome
step s c = outcome s c (refusal s c.session c.act)

abbrev pub run : State → List Command → Outcome
run s [] = record { state = s; lines = [] }
run s (c ∷ cs) = let one = step s c in let rest = run one.state cs in record { state = rest.state; lines = one.lines ++ rest.lines }

-- all sessions and subscriptions are closed, without a line
abbrev pub hung : State → State
hung s = record s { frame = record s.frame { sessions = []; subscriptions = [] } }

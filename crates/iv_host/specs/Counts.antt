-- What the program counts of its connections, and when it may write a line of its log.
use Rattle.std.specs.Prelude.{ℕ, ◌+◌, ◌-◌, ◌^◌, ◌==◌, if◌then◌else◌, min}
use Rattle.iv_host.specs.declared.counts.Counts.{Counts}
use Rattle.iv_host.specs.declared.counts.Why.{Why}
use Rattle.iv_host.specs.declared.counts.Why.TheVariants.{Closed, Late, Stuck, Told, Answered}

-- a count stops at the greatest number
abbrev pub raised : (count by : ℕ) → ℕ
raised count by = min (count + by) (2 ^ 64 - 1)

-- an end is counted once, by its cause; that of an answer is none of a client's
abbrev pub ended : Why → Counts → Counts
ended Closed c = record c { closed = raised c.closed 1 }
ended Late c = record c { late = raised c.late 1 }
ended Stuck c = record c { stuck = raised c.stuck 1 }
ended Told c = record c { told = raised c.told 1 }
ended Answered c = c

-- lines of the log in a second, at most
abbrev pub most_lines : ℕ
most_lines = 20

-- how many lines a second had, if the last one that was written to is another or the same
abbrev pub lines_at : (second last lines : ℕ) → ℕ
lines_at second last lines = if second == last then lines else 0

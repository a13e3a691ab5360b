use Rattle.std.proofs.Common.{◌≡◌, ◌∙◌, cond, false, is_some, map, None, not, option_map, Option, Some, true, ap, refl}
use Rattle.std.specs.Prelude.{◌==◌, ◌&&◌, nat_lt}
use Rattle.iv_rows.specs.Options.{if_some}
use Rattle.iv_steps.specs.Steps.{first_refused, shared, stepped}
use Rattle.iv_gate.specs.Arriving.{Fault, Step, decided_here, entry_of, fact_of, first_known, gap, was_taken, is_log, landed, not_accepted, other_log, position, takes}
use Rattle.iv_gate.specs.Gate.{Gate, known_of}
use Rattle.iv_gate.specs.Worked.{reads_notes, taken_before}
use Rattle.iv_gate.proofs.laws.examples.steps_follow_their_log.Goals as goal

-- the fault of a step that was not taken yet
abbrev fault_then : Gate → Step → Option Fault
fault_then g s =
    cond (not (if_some g.head.log false (is_log s.log))) (Some other_log)
    (cond (not ((s.from == position g) && nat_lt s.from s.to)) (Some (gap (position g)))
    (if_some (first_known 1 s.names (known_of g)) (option_map (λ p. not_accepted p.0 p.1) (first_refused 1 (map fact_of s.requests) (shared g.machine))) Some))

-- whatever the gateway that follows is, a step that was taken changes nothing
takes-was_taken : (g : Gate) (s : Step) → g.leads ≡ false → was_taken g s ≡ true → takes g s ≡ g
takes-was_taken g s l h =
    ap (λ b. cond (is_some (cond b (Some decided_here) (cond (was_taken g s) None (fault_then g s)))) (record g { dead = true })
    (cond (was_taken g s) g (if_some (stepped (map fact_of s.requests) g.machine) g (landed g (entry_of s))))) l
    ∙ ap (λ b. cond (is_some (cond b None (fault_then g s))) (record g { dead = true }) (cond b g (if_some (stepped (map fact_of s.requests) g.machine) g (landed g (entry_of s))))) h

pub returns-clause-again : goal.returns-clause-again
returns-clause-again c = takes-was_taken reads_notes taken_before refl refl

pub returns-clause-gap : goal.returns-clause-gap
returns-clause-gap c = refl

pub returns-clause-foreign : goal.returns-clause-foreign
returns-clause-foreign c = refl

pub returns-clause-refused : goal.returns-clause-refused
returns-clause-refused c = refl

pub returns-clause-dead : goal.returns-clause-dead
returns-clause-dead c = refl

pub returns-clause-position : goal.returns-clause-position
returns-clause-position c = refl

pub returns-clause-denied : goal.returns-clause-denied
returns-clause-denied c = refl

-- Worked examples of steps: what others decided is told once, by the state after it.
use Rattle.std.specs.Prelude.{◌≡◌, ℕ, pos, negsuc, List, [], ◌∷◌, Option, Some, option_map}
use Rattle.iv_access.specs.declared.privilege.Privilege.TheVariants.{Insert, Select}
use Rattle.iv_access.specs.Rights.{Name}
use Rattle.iv_machine.specs.Act.{Act, Refusal, begin, grant, revoke, missing_privilege, unknown_role, Line, change, ended}
use Rattle.iv_machine.specs.declared.Cause.TheVariants as cause
use Rattle.iv_steps.specs.Steps.{Fact, first_refused, shared, stepped}
use Rattle.tests_machine.specs.Worked.{admin, ann, first, notes, of_ann, of_x, put, take}

abbrev pub by : Name → Act → Fact
by role act = record { role = role; act = act }

-- after `first` these facts, taken as one step, are told by these lines; None if one of them is refused
abbrev pub Tells : List Fact → Option (List Line) → Type 0
Tells facts lines = option_map (λ o. o.lines) (stepped facts first) ≡ lines

-- and of these the first that is refused there has the place, from 1, and the refusal
abbrev pub Refuses : List Fact → Option (ℕ × Refusal) → Type 0
Refuses facts why = first_refused 1 facts (shared first) ≡ why

abbrev pub may_read : Act
may_read = grant notes (Select ∷ []) (Some ann)

abbrev pub may_not_read : Act
may_not_read = revoke notes (Select ∷ []) (Some ann)

-- the right is taken and given again
abbrev pub taken_and_given : List Fact
taken_and_given = by admin may_not_read ∷ by admin may_read ∷ []

-- a row is added and deleted
abbrev pub in_and_out : List Fact
in_and_out = by admin (put notes (of_x 2)) ∷ by admin (take notes (of_x 2)) ∷ []

-- two rows come, one after the other
abbrev pub two_rows : List Fact
two_rows = by admin (put notes (of_x 3)) ∷ by admin (put notes (of_x 2)) ∷ []

abbrev pub both_rows : List Line
both_rows = change 2 1 ((of_x 2, pos 1) ∷ (of_x 3, pos 1) ∷ []) ∷ []

-- a row comes, and then the right is taken: of the row nothing is told
abbrev pub row_then_revoke : List Fact
row_then_revoke = by admin (put notes (of_x 2)) ∷ by admin may_not_read ∷ []

-- the right is taken while a row is there, which is deleted before it is given again
abbrev pub hidden_row : List Fact
hidden_row = by admin may_not_read ∷ by admin (put notes (of_x 2)) ∷ by admin (take notes (of_x 2)) ∷ by admin may_read ∷ []

abbrev pub end_of_ann : List Line
end_of_ann = ended 2 1 cause.Privilege ((of_ann 1, negsuc 0) ∷ []) ∷ []

-- ann may not write
abbrev pub without_right : List Fact
without_right = by admin (put notes (of_x 2)) ∷ by ann (put notes (of_x 3)) ∷ []

abbrev pub second_lacks_insert : Option (ℕ × Refusal)
second_lacks_insert = Some (2, missing_privilege Insert notes)

-- no role has the name
abbrev pub of_nobody : List Fact
of_nobody = by notes may_read ∷ []

abbrev pub first_has_no_role : Option (ℕ × Refusal)
first_has_no_role = Some (1, unknown_role)

-- no fact begins a session
abbrev pub of_session : List Fact
of_session = by admin (begin admin) ∷ []

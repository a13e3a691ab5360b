-- Worked examples with many copies of a row. How many they are is a variable, since a list of all of them is too long to compute.
use Rattle.std.specs.Prelude.{ℕ, pos, [], ◌∷◌, codes, Some}
use Rattle.iv_access.specs.declared.privilege.Privilege.TheVariants.{Select}
use Rattle.iv_machine.specs.Act.{begin, create_table, create_view, grant, write, insert, delete, limit, change}
use Rattle.tests_machine.specs.OfViews.{sums, sums_text, group_of}
use Rattle.iv_machine.specs.State.{State, start}
use Rattle.tests_machine.specs.Worked.{Steps, admin, after_steps, ann, asks, column, fails, first, least_cap, many, notes, of_x, opens, put, texts}

-- notes is empty, and there is no subscription
abbrev pub unread : State
unread = after_steps (start least_cap) (
    asks 1 (begin admin) []
    ∷ asks 1 (create_table notes admin (column (codes "id") ∷ texts (codes "who") ∷ [])) []
    ∷ [])

-- after `unread`: a row has as many copies as it may have
abbrev pub copies_limit : ℕ → Steps
copies_limit c = asks 1 (write (many c notes (insert (of_x 1)) ∷ [])) [] ∷ fails 1 (put notes (of_x 1)) limit ∷ []

-- after `unread`: no view has a sum
abbrev pub no_sums : ℕ → Steps
no_sums c = asks 1 (write (many c notes (insert (of_x 2)) ∷ [])) [] ∷ []

-- the sums of notes are subscribed
abbrev pub summed : State
summed = after_steps first (
    asks 1 (create_view sums admin sums_text) []
    ∷ asks 1 (grant sums (Select ∷ []) (Some ann)) []
    ∷ opens 2 sums 2 (change 2 2 ((group_of 1 1, pos 1) ∷ []) ∷ [])
    ∷ [])

-- after `summed`: a sum is too large
abbrev pub sums_limit : ℕ → Steps
sums_limit c = fails 1 (write (many c notes (insert (of_x 2)) ∷ [])) limit ∷ []

-- after `first`: what a batch adds, the same batch takes away
abbrev pub batch : ℕ → Steps
batch c = asks 1 (write (
    many c notes (insert (of_x 8))
    ∷ many c notes (insert (of_x 8))
    ∷ many c notes (delete (of_x 8))
    ∷ many c notes (delete (of_x 8))
    ∷ [])) [] ∷ []

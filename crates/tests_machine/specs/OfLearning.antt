-- Worked examples of what a role learns: pairs of states that look alike to ann but for one premise, and what she is told.
use Rattle.std.specs.Prelude.{◌≡◌, ◌==◌, ◌++◌, cond, pos, negsuc, true, false, List, [], ◌∷◌, codes, Some, None}
use Rattle.iv_access.specs.declared.policy.PolicyCommand.TheVariants as command
use Rattle.iv_access.specs.declared.privilege.Privilege.TheVariants.{Select, Insert}
use Rattle.iv_access.specs.Policies.{allowed}
use Rattle.iv_access.specs.Privileges.{has}
use Rattle.iv_machine.specs.declared.Cause.TheVariants as cause
use Rattle.iv_machine.specs.Act.{Act, create_policy, grant, revoke, row_security, subscribe, unsubscribe, Command, Line, change, done, ended, limit, refused, reply, subscribed}
use Rattle.iv_machine.specs.Learned.{subscriptions_of, told}
use Rattle.iv_machine.specs.Machine.{step}
use Rattle.iv_machine.specs.Refusing.{refusal}
use Rattle.iv_machine.specs.State.{State, start}
use Rattle.tests_machine.specs.Worked.{Row, after_steps, ann, asks, before_first, first, notes, of_ann, of_bob, opened, policy, put, secured, true_text}

-- ---- words

-- ann is role 1, and notes is table 0
abbrev pub seen : State → List Row
seen s = allowed s.frame.rights 1 s.rows 0

abbrev pub Sees : State → List Row → Type 0
Sees s rows = seen s ≡ rows

abbrev pub IsAccepted : State → Command → Type 0
IsAccepted s c = refusal s c.session c.act ≡ None

abbrev pub left_by : State → Command → State
left_by s c = (step s c).state

-- what ann's sessions are sent of a command
abbrev pub IsTold : State → Command → List Line → Type 0
IsTold s c ls = told 1 s c ≡ ls

abbrev pub by_admin : Act → Command
by_admin act = record { session = 1; act = act }

abbrev pub by_ann : Act → Command
by_ann act = record { session = 2; act = act }

-- both states

abbrev pub BothSee : (s t : State) → List Row → Type 0
BothSee s t rows = Sees s rows × Sees t rows

abbrev pub BothAccept : (s t : State) → Command → Type 0
BothAccept s t c = IsAccepted s c × IsAccepted t c

-- ann is told these lines of the command in the first, and those in the second
abbrev pub Differ : (s t : State) → Command → (lines others : List Line) → Type 0
Differ s t c lines others = IsTold s c lines × IsTold t c others

-- ---- pairs of states

-- the state, if notes has these rows
abbrev pub holding : State → List Row → State
holding s rows = record s { rows = λ table. cond (table == 0) rows [] }

-- `secured`, with a further note, which ann may not see
abbrev pub hidden : State
hidden = holding secured (of_ann 1 ∷ of_bob 5 ∷ [])

-- another note than in `first`
abbrev pub other : State
other = after_steps before_first (asks 1 (put notes (of_ann 2)) (change 2 1 ((of_ann 2, pos 1) ∷ []) ∷ []) ∷ [])

-- `first`, if ann has closed her subscription
abbrev pub closed : State
closed = after_steps first (asks 2 (unsubscribe 1) [] ∷ [])

-- notes holds one row, and ann may add notes, but sees none
abbrev pub narrow : State
narrow = after_steps (start 1) (
    opened ++
    asks 1 (row_security notes true false) []
    ∷ asks 1 (grant notes (Insert ∷ []) (Some ann)) []
    ∷ asks 1 (create_policy (record (policy notes (codes "add") []) { command = command.Insert; using_text = None; check_text = Some true_text })) []
    ∷ [])

-- the same, with its one row
abbrev pub full : State
full = holding narrow (of_bob 5 ∷ [])

-- ---- commands

abbrev pub adds : Command
adds = by_ann (put notes (of_bob 7))

abbrev pub puts : Command
puts = by_admin (put notes (of_ann 3))

abbrev pub revokes : Command
revokes = by_admin (revoke notes (Select ∷ []) (Some ann))

abbrev pub shows_all : Command
shows_all = by_admin (row_security notes false false)

abbrev pub reads_again : Command
reads_again = by_ann (subscribe notes)

-- ---- one premise less

-- not one frame
abbrev pub WithoutFrame : Type 0
WithoutFrame =
    BothSee first closed (of_ann 1 ∷ [])
    × BothAccept first closed puts
    × BothSee (left_by first puts) (left_by closed puts) (of_ann 1 ∷ of_ann 3 ∷ [])
    × Differ first closed puts (change 2 1 ((of_ann 3, pos 1) ∷ []) ∷ []) []

-- ann sees other rows before, and has no select afterwards
abbrev pub WithoutBefore : Type 0
WithoutBefore =
    (first.frame ≡ other.frame)
    × BothAccept first other revokes
    × (has (left_by first revokes).frame.rights 1 Select 0 ≡ false)
    × Differ first other revokes
    (ended 2 1 cause.Privilege ((of_ann 1, negsuc 0) ∷ []) ∷ [])
    (ended 2 1 cause.Privilege ((of_ann 2, negsuc 0) ∷ []) ∷ [])

-- ann sees other rows afterwards
abbrev pub WithoutLater : Type 0
WithoutLater =
    (hidden.frame ≡ secured.frame)
    × BothSee hidden secured (of_ann 1 ∷ [])
    × BothAccept hidden secured shows_all
    × Differ hidden secured shows_all (change 2 1 ((of_bob 5, pos 1) ∷ []) ∷ []) []

-- one refuses for a limit what the other accepts
abbrev pub WithoutAnswer : Type 0
WithoutAnswer =
    (full.frame ≡ narrow.frame)
    × BothSee full narrow []
    × BothSee (left_by full adds) (left_by narrow adds) []
    × Differ full narrow adds (reply 2 (refused limit) ∷ []) (reply 2 done ∷ [])

-- ---- news

-- ann sees other rows, with the same subscriptions
abbrev pub RowsAreNews : Type 0
RowsAreNews = (subscriptions_of 1 first.frame ≡ subscriptions_of 1 (left_by first puts).frame) × IsTold first puts (change 2 1 ((of_ann 3, pos 1) ∷ []) ∷ [])

-- ann has one subscription more, and sees the same rows
abbrev pub SubscriptionsAreNews : Type 0
SubscriptionsAreNews =
    BothSee first (left_by first reads_again) (of_ann 1 ∷ [])
    × IsTold first reads_again (reply 2 (subscribed 2) ∷ change 2 2 ((of_ann 1, pos 1) ∷ []) ∷ [])

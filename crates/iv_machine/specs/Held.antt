-- What the reader of a subscription has been sent, added up, and which subscriptions their readers closed.
use Rattle.std.specs.Prelude.{ℕ, ◌==◌, List, [], ◌∷◌, ◌++◌, map, ℤ, pos, ◌+ℤ◌, cond, Option, Some, None}
use Rattle.std.specs.List.{filter}
use Rattle.iv_rows.specs.Cell.{Cell}
use Rattle.iv_zset.specs.Weights.{weight_of}
use Rattle.iv_machine.specs.Act.{Act, finish, unsubscribe, Command, Refusal, Line, reply, change, ended}
use Rattle.iv_machine.specs.State.{State, Frame}
use Rattle.iv_machine.specs.Refusing.{refusal}
use Rattle.iv_machine.specs.Machine.{step}

-- what one line adds for subscription k at the row q
abbrev pub line_weight : ℕ → List Cell → Line → ℤ
line_weight k q (reply n r) = pos 0
line_weight k q (change n j rows) = cond (k == j) (weight_of rows q) (pos 0)
line_weight k q (ended n j why rows) = cond (k == j) (weight_of rows q) (pos 0)

-- the sum of the weights of q in all lines of subscription k
abbrev pub held : ℕ → List Cell → List Line → ℤ
held k q [] = pos 0
held k q (l ∷ ls) = line_weight k q l +ℤ held k q ls

-- the subscriptions that an accepted command closes
abbrev pub closed_by : Frame → ℕ → Act → List ℕ
closed_by f n finish = map (λ e. e.number) (filter (λ e. n == e.session) f.subscriptions)
closed_by f n (unsubscribe k) = k ∷ []
closed_by f n _ = []

abbrev pub closed_in : State → Command → Option Refusal → List ℕ
closed_in s c (Some r) = []
closed_in s c None = closed_by s.frame c.session c.act

-- the subscriptions that their readers close in the course of the commands
abbrev pub closed : State → List Command → List ℕ
closed s [] = []
closed s (c ∷ cs) = closed_in s c (refusal s c.session c.act) ++ closed (step s c).state cs

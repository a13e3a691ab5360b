-- Examples that are worked out: of each holder two entries are kept, one may be refused, and two holders may have names.
use Rattle.std.specs.Prelude.{ℕ, true, false, List, [], ◌∷◌, map, codes}
use Rattle.iv_once.specs.Names.{Limits, Ask}
use Rattle.iv_once.specs.Runs.{Answer, Event, asks, synced, crashed, compacted, restored, forgiven, after, start}

abbrev pub few : Limits
few = record { names = 2; refusals = 1; holders = 2 }

abbrev pub by : List ℕ → List ℕ → ℕ → Ask
by holder name count = record { holder = holder; name = name; at = record { epoch = codes "e"; count = count }; digest = codes "d" }

-- it comes, is answered as is said, and the disk has it
abbrev pub comes : Ask → List ℕ → List ℕ → List Event → List Event
comes a answer epoch es = asks a answer false epoch ∷ synced ∷ es

abbrev pub ann : List ℕ → ℕ → Ask
ann name count = by (codes "ann") name count

-- what is told, the latest first
abbrev pub told_in : List Event → List Answer
told_in es = map (λ t. t.1) (after few (start (codes "e")) es).told

-- it comes twice, the second time after a crash and a new first record: the machine would say another thing, and is not asked
abbrev pub twice : List Event
twice =
    comes (ann (codes "a") 0) (codes "1") (codes "f") (crashed 0 ∷ compacted ∷ comes (ann (codes "a") 0) (codes "2") (codes "g") [])

-- the crash loses it before its answer is sent, so it is carried out when it comes again
abbrev pub lost : List Event
lost = asks (ann (codes "a") 0) (codes "1") false (codes "f") ∷ crashed 1 ∷ comes (ann (codes "a") 0) (codes "2") (codes "g") []

-- other bytes by the same name
abbrev pub other : List Event
other =
    comes (ann (codes "a") 0) (codes "1") (codes "f") (comes (record (ann (codes "a") 0) { digest = codes "x" }) (codes "2") (codes "g") [])

-- three entries more, and the first comes again
abbrev pub old : List Event
old =
    comes (ann (codes "a") 0) (codes "1") (codes "f") (comes (ann (codes "b") 1) (codes "2") (codes "g")
    (comes (ann (codes "c") 2) (codes "3") (codes "h") (comes (ann (codes "a") 0) (codes "4") (codes "i") [])))

-- a copy lacks it, and it comes again
abbrev pub from_a_copy : List Event
from_a_copy = comes (ann (codes "a") 0) (codes "1") (codes "f") (restored 1 (codes "g") ∷ comes (ann (codes "a") 0) (codes "2") (codes "h") [])

-- it is ahead; then nothing of the epoch is carried out
abbrev pub from_ahead : List Event
from_ahead = comes (ann (codes "a") 1) (codes "1") (codes "f") (comes (ann (codes "b") 0) (codes "2") (codes "g") [])

-- what is refused is not asked again; one refusal is all there may be, until it is forgiven
abbrev pub refused : List Event
refused = asks (ann (codes "a") 0) (codes "no") true (codes "f") ∷ synced ∷ comes (ann (codes "a") 0) (codes "2") (codes "g")
    (comes (ann (codes "b") 1) (codes "3") (codes "h") (forgiven ∷ comes (ann (codes "b") 1) (codes "4") (codes "i") []))

-- a third holder
abbrev pub third : List Event
third =
    comes (ann (codes "a") 0) (codes "1") (codes "f") (comes (by (codes "bob") (codes "a") 0) (codes "2") (codes "g") (comes (by (codes "cyn") (codes "a") 0) (codes "3") (codes "h") []))

-- What happens if requests have names, over any machine: crashes, restarts, compaction and copies among it.
use Rattle.std.specs.Prelude.{ℕ, not, Bool, if◌then◌else◌, List, [], ◌∷◌, ◌++◌, take, drop, bytes_eq, Option, None, option_map}
use Rattle.std.specs.List.{list_any}
use Rattle.iv_once.specs.Names.{Limits, Ask, Entry, named, plain, renewed, Journal, Known, Names, Verdict, carry, again, another, late, foreign, ahead, over, blamed, followed, spent_more, verdict, with_epoch}

-- what a client is told: an answer of the machine; or by which rule, 101 to 104, it stays undecided whether the request was carried out
pub data Answer : Type 0 where
  says : (answer : List ℕ) → Answer
  undecided : (rule : ℕ) → Answer

-- what the machine was asked to do
pub data Act : Type 0 where
  asked : Ask → Act
  given : (request : List ℕ) → Act

-- on disk are `first`, which stands for the entries `past`, and `lines`; `waiting` is after these and not yet on disk. `acts` is what the
-- machine, as it is in memory, has done. `held` waits for the disk; `told` was sent, and may be lost on its way.
-- For the laws alone: `past`; `gone`, the entries that copies did not have; `seen`, each epoch that there was or that a client named
pub record Run : Type 0 where
  pub first : Known
  pub lines : Journal
  pub waiting : Journal
  pub acts : List Act
  pub spent : List ℕ → Option ℕ
  pub held : List (Ask × Answer)
  pub told : List (Ask × Answer)
  pub past : Journal
  pub gone : Journal
  pub seen : List (List ℕ)

abbrev pub unspent : List ℕ → Option ℕ
unspent holder = None

abbrev pub nothing_known : List ℕ → Known
nothing_known epoch = record { epoch = epoch; owns = λ holder. None; holders = 0 }

abbrev pub start : List ℕ → Run
start epoch =
    record { first = nothing_known epoch; lines = []; waiting = []; acts = []; spent = unspent; held = []; told = []; past = []; gone = []; seen = epoch ∷ [] }

-- all entries that are on disk, or that the first record stands for; with those that wait; and with those that copies did not have
abbrev pub kept : Run → Journal
kept d = d.lines ++ d.past

abbrev pub journal : Run → Journal
journal d = d.waiting ++ kept d

abbrev pub history : Run → Journal
history d = journal d ++ d.gone

abbrev pub known : Limits → Run → Known
known l d = followed l d.first (d.waiting ++ d.lines)

abbrev pub on_disk : Limits → Run → Known
on_disk l d = followed l d.first d.lines

abbrev pub names : Limits → Run → Names
names l d = record { limits = l; known = known l d; spent = d.spent }

-- a request with a name, what the machine would say to it now, whether it would refuse it, and an epoch in case that a new one is drawn; a
-- request without a name; the disk has all that waits, and what was held is sent; a crash, at which the disk had all that waited but for
-- the n latest entries; a new first record; a restart from a copy that lacks the n latest entries, with a new epoch; refusals are forgiven.
-- A message that is sent again is one more `asks`
pub data Event : Type 0 where
  asks : Ask → (answer : List ℕ) → (refused : Bool) → (epoch : List ℕ) → Event
  does : (request : List ℕ) → Event
  synced : Event
  crashed : (n : ℕ) → Event
  compacted : Event
  restored : (n : ℕ) → (epoch : List ℕ) → Event
  forgiven : Event

-- nobody ever named the epoch: it is 128 random bits
abbrev pub is_new : List ℕ → List (List ℕ) → Bool
is_new epoch seen = not (list_any (bytes_eq epoch) seen)

-- ---- steps

abbrev pub entered : Run → Entry → Run
entered d x = record d { waiting = x ∷ d.waiting; spent = spent_more d.spent (blamed x) }

abbrev pub acted : Run → Act → Run
acted d x = record d { acts = x ∷ d.acts }

abbrev pub answered : Run → Ask → Answer → Run
answered d a x = record d { held = (a, x) ∷ d.held }

abbrev pub noted : Run → List (List ℕ) → Run
noted d epochs = record d { seen = epochs ++ d.seen }

abbrev pub done_by : Run → Ask → List ℕ → Bool → List ℕ → Verdict → Run
done_by d a answer refused epoch carry = answered (acted (entered d (named (record { ask = a; refused = refused; answer = answer }))) (asked a)) a (says answer)
done_by d a answer refused epoch (again first) = answered d a (says first)
done_by d a answer refused epoch another = answered d a (undecided 101)
done_by d a answer refused epoch late = answered d a (undecided 102)
done_by d a answer refused epoch foreign = answered d a (undecided 103)
done_by d a answer refused epoch ahead = answered (entered d (renewed a.holder epoch)) a (undecided 103)
done_by d a answer refused epoch over = answered d a (undecided 104)

-- the machine is made anew by the entries on disk
abbrev pub act_of : Entry → List Act
act_of (named e) = asked e.ask ∷ []
act_of (plain request) = given request ∷ []
act_of (renewed holder epoch) = []

abbrev pub acts_of : Journal → List Act
acts_of [] = []
acts_of (x ∷ j) = act_of x ++ acts_of j

abbrev pub restarted : Run → Run
restarted d = record d { waiting = []; acts = acts_of (kept d); spent = unspent; held = [] }

-- all holders get the epoch
abbrev pub in_epoch : List ℕ → Known → Known
in_epoch epoch k = record { epoch = epoch; owns = λ holder. option_map (with_epoch epoch) (k.owns holder); holders = k.holders }

-- a restart from a copy: the first n of these entries are gone
abbrev pub copied : Limits → Run → ℕ → List ℕ → Run
copied l d n epoch =
    record d { first = in_epoch epoch (followed l (nothing_known epoch) (drop n (kept d))); lines = []; past = drop n (kept d); gone = take n (kept d) ++ d.gone }

abbrev pub next : Limits → Run → Event → Run
next l d (asks a answer refused epoch) =
    if is_new epoch (a.at.epoch ∷ d.seen) then done_by (noted d (epoch ∷ a.at.epoch ∷ [])) a answer refused epoch (verdict (names l d) a) else d
next l d (does request) = acted (entered d (plain request)) (given request)
next l d synced = record d { lines = d.waiting ++ d.lines; waiting = []; held = []; told = d.held ++ d.told }
next l d (crashed n) = restarted (record d { lines = drop n d.waiting ++ d.lines })
next l d compacted = record d { first = followed l d.first d.lines; lines = []; past = kept d }
next l d (restored n epoch) = if is_new epoch d.seen then restarted (copied l (noted d (epoch ∷ [])) n epoch) else d
next l d forgiven = record d { spent = unspent }

abbrev pub after : Limits → Run → List Event → Run
after l d [] = d
after l d (e ∷ es) = after l (next l d e) es

abbrev pub run : Limits → List ℕ → List Event → Run
run l epoch es = after l (start epoch) es

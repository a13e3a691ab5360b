-- What holds of names, whatever happens.
use Rattle.std.specs.Prelude.{◌≡◌, ◌⊎◌, ◌≢◌, ℕ, ◌+◌, ◌-◌, ◌≤◌, ◌<◌, ◌&&◌, Bool, true, false, if◌then◌else◌, List, [], ◌∷◌, take, map, length, bytes_eq, None, Some}
use Rattle.std.specs.Map.{update}
use Rattle.iv_once.specs.Names.{Limits, Place, Ask, Named, named, plain, renewed, Journal, Own, Known, Verdict, carry, again, another, late, foreign, ahead, over, begun, find_named, followed, is_over, is_place, own_of, verdict}
use Rattle.iv_once.specs.Runs.{Answer, says, undecided, Event, asks, does, synced, crashed, compacted, restored, forgiven, Run, after, history, journal, known, names, on_disk}

-- ---- at most once

-- the holder's entries with names
abbrev pub own : List ℕ → Journal → List Named
own holder [] = []
own holder (named e ∷ j) = if bytes_eq e.ask.holder holder then e ∷ own holder j else own holder j
own holder (plain request ∷ j) = own holder j
own holder (renewed other epoch ∷ j) = own holder j

-- how many of them bear the name with the place
abbrev pub times : List ℕ → Place → List Named → ℕ
times name at [] = 0
times name at (e ∷ es) = (if bytes_eq e.ask.name name && is_place e.ask.at at then 1 else 0) + times name at es

abbrev pub AreOnce : Journal → Type 0
AreOnce j = (holder name : List ℕ) (at : Place) → times name at (own holder j) ≤ 1

-- ---- the same answer

abbrev pub Among : {X : Type 0} → X → List X → Type 0
Among x [] = ⊥
Among x (y ∷ ys) = (y ≡ x) ⊎ Among x ys

-- an entry of the request has the answer
abbrev pub HasAnswer : Journal → Ask × Answer → Type 0
HasAnswer j (a, says answer) = (refused : Bool) × Among (record { ask = a; refused = refused; answer = answer }) (own a.holder j)
HasAnswer j (a, undecided rule) = Unit {0}

-- two answers of the machine to one holder, name and place are to the same request, and are the same
abbrev pub AreAlike : List (Ask × Answer) → Type 0
AreAlike told =
    (a b : Ask) (r s : List ℕ) → a.holder ≡ b.holder → a.name ≡ b.name → a.at ≡ b.at
    → Among (a, says r) told → Among (b, says s) told → (a.digest ≡ b.digest) × (r ≡ s)

-- while no more entries of the holder are after its place than are kept, each copy of what was carried out gets the first answer
abbrev pub AreRemembered : Limits → Run → Type 0
AreRemembered l d =
    (e : Named) → Among e (own e.ask.holder (journal d)) → length (own e.ask.holder (journal d)) ≤ e.ask.at.count + l.names
    → verdict (names l d) e.ask ≡ again e.answer

-- ---- what stays undecided

-- 102 and 103 are final
abbrev pub IsFinal : ℕ → Type 0
IsFinal rule = (rule ≡ 102) ⊎ (rule ≡ 103)

-- what was told so is not carried out after it
abbrev pub AreFinal : Limits → Run → Type 0
AreFinal l d = (a : Ask) (rule : ℕ) → IsFinal rule → Among (a, undecided rule) d.told
    → (es : List Event) → times a.name a.at (own a.holder (history (after l d es))) ≤ times a.name a.at (own a.holder (history d))

-- why a request gets its verdict, by the holder's entries in the journal
abbrev pub HasReason : Limits → Run → Ask → Verdict → Type 0
HasReason l d a carry =
    (find_named a.name (take l.names (own a.holder (journal d))) ≡ None) × (a.at.epoch ≡ (own_of (known l d) a.holder).epoch)
    × (a.at.count ≤ length (own a.holder (journal d))) × (length (own a.holder (journal d)) ≤ a.at.count + l.names) × (is_over (names l d) a.holder ≡ false)
HasReason l d a (again answer) = HasAnswer (journal d) (a, says answer)
HasReason l d a another =
    (e : Named) × Among e (own a.holder (journal d)) × (e.ask.name ≡ a.name) × ((e.ask.at ≡ a.at) → (e.ask.digest ≡ a.digest) → ⊥)
HasReason l d a late = a.at.count + l.names < length (own a.holder (journal d))
HasReason l d a foreign = a.at.epoch ≢ (own_of (known l d) a.holder).epoch
HasReason l d a ahead = (length (own a.holder (journal d)) < a.at.count) × (is_over (names l d) a.holder ≡ false)
HasReason l d a over = is_over (names l d) a.holder ≡ true

-- ---- what is kept

-- what is kept in memory is what the journal says: how many entries a holder has, and the last of them
abbrev pub AreKept : Limits → Run → Type 0
AreKept l d =
    (holder : List ℕ) → let o = own_of (known l d) holder in
    (o.count ≡ length (own holder (journal d))) × (o.recent ≡ take l.names (own holder (journal d)))

-- a place that the disk had is not ahead later, while its holder is in its epoch
abbrev pub StaysReached : Limits → Run → Type 0
StaysReached l d =
    (holder : List ℕ) (es : List Event) → let p = own_of (on_disk l d) holder in let o = own_of (known l (after l d es)) holder in
    o.epoch ≡ p.epoch → p.count ≤ o.count

-- what a new first record says of a holder is read as what was kept, whatever is read before it
abbrev pub IsReadBack : Limits → Known → List ℕ → Own → Type 0
IsReadBack l k holder o =
    (other : List ℕ) → (followed l (begun k holder o.epoch (o.count - length o.recent)) (map named o.recent)).owns other ≡ update bytes_eq k.owns holder (Some o) other

-- ---- bounds

-- how many entries the holder is to blame for: what was refused, and new epochs
abbrev pub blames : List ℕ → Journal → ℕ
blames holder [] = 0
blames holder (named e ∷ j) = (if e.refused && bytes_eq e.ask.holder holder then 1 else 0) + blames holder j
blames holder (plain request ∷ j) = blames holder j
blames holder (renewed other epoch ∷ j) = (if bytes_eq other holder then 1 else 0) + blames holder j

-- who has to wait is to blame for as many entries as it may make, or as many holders have names as may
abbrev pub HasToWait : Limits → Run → Ask → Type 0
HasToWait l d a = verdict (names l d) a ≡ over → (l.refusals ≤ blames a.holder (journal d)) ⊎ (l.holders ≤ (known l d).holders)

-- how often refusals were forgiven, restarts among it
abbrev pub forgiveness : List Event → ℕ
forgiveness [] = 0
forgiveness (crashed n ∷ es) = 1 + forgiveness es
forgiveness (restored n epoch ∷ es) = 1 + forgiveness es
forgiveness (forgiven ∷ es) = 1 + forgiveness es
forgiveness (asks a answer refused epoch ∷ es) = forgiveness es
forgiveness (does request ∷ es) = forgiveness es
forgiveness (synced ∷ es) = forgiveness es
forgiveness (compacted ∷ es) = forgiveness es

-- Requests with names: what is kept of each holder's, and what becomes of one more.
use Rattle.std.specs.Prelude.{ℕ, ◌+◌, ◌==◌, ◌&&◌, ◌||◌, not, Bool, if◌then◌else◌, List, [], ◌∷◌, take, bytes_eq, nat_le, nat_lt, Option, None, Some, is_some, unwrap_or}
use Rattle.std.specs.Map.{update}

-- of each holder the last `names` entries are kept; it may add `refusals` refused entries until these are forgiven; `holders` may have names
pub record Limits : Type 0 where
  pub names : ℕ
  pub refusals : ℕ
  pub holders : ℕ

-- when a client first sent a request: the epoch, and how many entries with names its holder had, as far as the client knew
pub record Place : Type 0 where
  pub epoch : List ℕ
  pub count : ℕ

-- a request with a name: whose it is (role and user), its name, its place, and the SHA-256 of its bytes without its id and its name
pub record Ask : Type 0 where
  pub holder : List ℕ
  pub name : List ℕ
  pub at : Place
  pub digest : List ℕ

-- an entry with a name: what the machine answered, a refusal too
pub record Named : Type 0 where
  pub ask : Ask
  pub refused : Bool
  pub answer : List ℕ

-- an entry of the journal: a request with a name, or without one; or a new epoch of one holder
pub data Entry : Type 0 where
  named : Named → Entry
  plain : (request : List ℕ) → Entry
  renewed : (holder epoch : List ℕ) → Entry

-- the latest entry first
abbrev pub Journal : Type 0
Journal = List Entry

-- what is kept of a holder: its epoch, how many entries it has, and the latest of them, the last one first
pub record Own : Type 0 where
  pub epoch : List ℕ
  pub count : ℕ
  pub recent : List Named

-- what is kept of all: the epoch of those who are new, and how many are not
pub record Known : Type 0 where
  pub epoch : List ℕ
  pub owns : List ℕ → Option Own
  pub holders : ℕ

-- a holder that is new is in the epoch of those
abbrev pub own_in : (List ℕ → Option Own) → List ℕ → List ℕ → Own
own_in owns epoch holder = unwrap_or (owns holder) (record { epoch = epoch; count = 0; recent = [] })

abbrev pub own_of : Known → List ℕ → Own
own_of k holder = own_in k.owns k.epoch holder

-- ---- what an entry adds

abbrev pub with_entry : ℕ → Named → Own → Own
with_entry most e o = record { epoch = o.epoch; count = o.count + 1; recent = take most (e ∷ o.recent) }

abbrev pub with_epoch : List ℕ → Own → Own
with_epoch epoch o = record { epoch = epoch; count = o.count; recent = o.recent }

abbrev pub holders_with : (List ℕ → Option Own) → List ℕ → ℕ → ℕ
holders_with owns holder n = if is_some (owns holder) then n else n + 1

abbrev pub with_own : Known → List ℕ → Own → Known
with_own k holder o = record { epoch = k.epoch; owns = update bytes_eq k.owns holder (Some o); holders = holders_with k.owns holder k.holders }

abbrev pub learned : Limits → Entry → Known → Known
learned l (named e) k = with_own k e.ask.holder (with_entry l.names e (own_of k e.ask.holder))
learned l (plain request) k = k
learned l (renewed holder epoch) k = with_own k holder (with_epoch epoch (own_of k holder))

-- what the first record of a journal says, and the entries after it
abbrev pub followed : Limits → Known → Journal → Known
followed l k [] = k
followed l k (x ∷ j) = learned l x (followed l k j)

-- what a new first record says of a holder: its epoch, and how many entries came before those that are kept, which follow
abbrev pub begun : Known → List ℕ → List ℕ → ℕ → Known
begun k holder epoch count = with_own k holder (record { epoch = epoch; count = count; recent = [] })

-- ---- what becomes of a request

-- what is kept, and how many entries of each holder were refused since that was forgiven
pub record Names : Type 0 where
  pub limits : Limits
  pub known : Known
  pub spent : List ℕ → Option ℕ

abbrev pub spent_by : (List ℕ → Option ℕ) → List ℕ → ℕ
spent_by spent holder = unwrap_or (spent holder) 0

-- whose entry is one that it would not have made with a right, or a right place
abbrev pub blamed : Entry → Option (List ℕ)
blamed (named e) = if e.refused then Some e.ask.holder else None
blamed (plain request) = None
blamed (renewed holder epoch) = Some holder

abbrev pub spent_more : (List ℕ → Option ℕ) → Option (List ℕ) → List ℕ → Option ℕ
spent_more spent None = spent
spent_more spent (Some holder) = update bytes_eq spent holder (Some (spent_by spent holder + 1))

-- one entry more
abbrev pub pushed : Names → Entry → Names
pushed n x = record { limits = n.limits; known = learned n.limits x n.known; spent = spent_more n.spent (blamed x) }

-- it is carried out; or the first answer is told again; or the name is another request's (101); or the place is too old (102), of another
-- epoch (103), or ahead (103, and the holder gets a new epoch); or it has to wait (104)
pub data Verdict : Type 0 where
  carry : Verdict
  again : (answer : List ℕ) → Verdict
  another : Verdict
  late : Verdict
  foreign : Verdict
  ahead : Verdict
  over : Verdict

abbrev pub find_named : List ℕ → List Named → Option Named
find_named name [] = None
find_named name (e ∷ es) = if bytes_eq e.ask.name name then Some e else find_named name es

abbrev pub is_place : Place → Place → Bool
is_place a b = (a.count == b.count) && bytes_eq a.epoch b.epoch

abbrev pub is_over : Names → List ℕ → Bool
is_over n holder =
    nat_le n.limits.refusals (spent_by n.spent holder)
    || (nat_le n.limits.holders n.known.holders && not (is_some (n.known.owns holder)))

abbrev pub by_entry : Ask → Named → Verdict
by_entry a e = if is_place e.ask.at a.at && bytes_eq e.ask.digest a.digest then again e.answer else another

abbrev pub by_count : Names → Own → Ask → Verdict
by_count n o a =
    if nat_lt (a.at.count + n.limits.names) o.count then late else (
    if is_over n a.holder then over else (
    if nat_lt o.count a.at.count then ahead else carry))

abbrev pub by_place : Names → Own → Ask → Verdict
by_place n o a = if bytes_eq a.at.epoch o.epoch then by_count n o a else foreign

abbrev pub by_found : Names → Own → Ask → Option Named → Verdict
by_found n o a None = by_place n o a
by_found n o a (Some e) = by_entry a e

abbrev pub verdict : Names → Ask → Verdict
verdict n a = let o = own_of n.known a.holder in by_found n o a (find_named a.name o.recent)

-- ---- names that come with their answers

-- it has no answer yet: no entry that is kept of its holder bears the name, and all that are after its place are kept
abbrev pub is_new : Limits → Known → Ask → Bool
is_new l k a = let o = own_of k a.holder in
    not (is_some (find_named a.name o.recent)) && (nat_le a.at.count o.count && nat_le o.count (a.at.count + l.names))

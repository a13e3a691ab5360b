-- What a client is, what it follows, and what it is told.
use Rattle.std.specs.Prelude.{ℕ, zero, suc, ◌+◌, ◌==◌, ◌&&◌, ◌||◌, nat_lt, Bool, true, false, if◌then◌else◌, not, List, [], ◌∷◌, ◌++◌, map, flat_map, filter, find, drop, length, bytes_eq, Option, option_map, option_and_then, slice_get}
use Rattle.std.specs.List.{list_any}
use Rattle.iv_rows.specs.Options.{if_some}
use Rattle.iv_access.specs.Rights.{Name}
use Rattle.iv_machine.specs.Act.{Line, reply, change, ended}
use Rattle.iv_message.specs.Told.{Told, welcome, placed, changed, over, settled, alive, told_text}
use Rattle.iv_clients.specs.Bounds.{most_requests, most_waiting, most_piled}
use Rattle.iv_clients.specs.Feeds.{Feed, ends_in, rel_read}
use Rattle.iv_records.specs.Journal.{Entry, shape_for}
use Rattle.iv_clients.specs.Tokens.{Token, token_of}

-- what a client is told, with the entries that its text may show, and whether it comes of the client's own token or message
pub record Shown : Type 0 where
  pub told : Told
  pub entries : List Entry
  pub answers : Bool

-- the client's own number, and the machine's number of the feed that it follows
pub record Sub : Type 0 where
  pub own : ℕ
  pub feed : ℕ

-- `user` holds its token, and `digest` is the SHA-256 of that. `given` is the last of its own numbers; `subs` has those that are open.
-- `unsynced` waits for the journal; `sendable` may be handed to its socket. `asked` counts its messages since text was handed to it.
-- `owed`: in this event it was told something, and not that this is all. `dropped`: it is to go. The code has no memory of the rest: its
-- messages, and what was handed to it, message by message.
pub record Client : Type 0 where
  pub role : Name
  pub user : List ℕ
  pub digest : List ℕ
  pub given : ℕ
  pub subs : List Sub
  pub unsynced : List Shown
  pub sendable : List Shown
  pub asked : ℕ
  pub owed : Bool
  pub dropped : Bool
  pub messages : List (List ℕ)
  pub handed : List (List Shown)

-- what a client that comes in is told: its role, where its holder's names stand, the shape if it is an administrator, and that this is all
abbrev pub greeting : List Entry → Name → (at : List ℕ) → List Told
greeting es role at = welcome role ∷ placed at ∷ (shape_for role es ++ settled ∷ [])

-- a client that was told nothing
abbrev pub untold : Token → Client
untold t = record {
  role = t.role;
  user = t.user;
  digest = t.digest;
  given = 0;
  subs = [];
  unsynced = [];
  sendable = [];
  asked = 0;
  owed = false;
  dropped = false;
  messages = [];
  handed = [];
}

-- a client that comes in, when these entries are accepted: it is told its greeting, which comes of its own token
abbrev pub fresh : List Entry → Token → (at : List ℕ) → Client
fresh es t at = record (untold t) { unsynced = map (λ t. record { told = t; entries = es; answers = true }) (greeting es t.role at) }

-- all that it was told, in order
abbrev pub all_shown : Client → List Shown
all_shown c = flat_map (λ ss. ss) c.handed ++ (c.sendable ++ c.unsynced)

abbrev pub told : Client → List Told
told c = map (λ s. s.told) (all_shown c)

abbrev pub text_shown : List Shown → List ℕ
text_shown ss = flat_map (λ s. told_text s.told) ss

-- it is told something, when these entries are accepted
abbrev pub told_one : List Entry → Told → Client → Client
told_one es t c = record c { unsynced = c.unsynced ++ record { told = t; entries = es; answers = false } ∷ []; owed = true }

-- one thing after another
abbrev pub telling : List Entry → List Told → Client → Client
telling es [] c = c
telling es (t ∷ ts) c = telling es ts (told_one es t c)

-- who was told something is told that this is all
abbrev pub settling : List Entry → Client → Client
settling es c = if c.owed then record (told_one es settled c) { owed = false } else c

-- it is told that the line is alive, which is nothing that has to be settled
abbrev pub beating : List Entry → Client → Client
beating es c = record (told_one es alive c) { owed = c.owed }

-- ---- lines

-- what is told of a line of the machine for an own number
abbrev pub own_line : List Feed → Line → Sub → List Told
own_line feeds (reply n r) s = []
own_line feeds (change n k rows) s = if k == s.feed then changed s.own rows ∷ [] else []
own_line feeds (ended n k why rows) s = if k == s.feed then over s.own (rel_read feeds k) why rows ∷ [] else []

-- of all lines: each, once for each own number that follows
abbrev pub own_lines : List Feed → List Line → List Sub → List Told
own_lines feeds ls subs = flat_map (λ l. flat_map (own_line feeds l) subs) ls

-- what ended is followed no more
abbrev pub staying : List Line → Client → Client
staying ls c = record c { subs = filter (λ s. not (ends_in ls s.feed)) c.subs }

-- ---- subscriptions

-- it follows feed k under its next number
abbrev pub following : ℕ → Client → Client
following k c = record c { given = c.given + 1; subs = c.subs ++ record { own = c.given + 1; feed = k } ∷ [] }

-- what followed feed t follows k
abbrev pub moved_sub : (t k : ℕ) → Sub → Sub
moved_sub t k s = if t == s.feed then record s { feed = k } else s

abbrev pub moved : (t k : ℕ) → Client → Client
moved t k c = record c { subs = map (moved_sub t k) c.subs }

-- its own number follows nothing any more
abbrev pub closing : ℕ → Client → Client
closing own c = record c { subs = filter (λ s. not (own == s.own)) c.subs }

-- the feed that an own number follows
abbrev pub followed_by : List Sub → ℕ → Option ℕ
followed_by subs own = option_map (λ s. s.feed) (find (λ s. own == s.own) subs)

-- ---- bounds

-- the bytes that wait for it
abbrev pub waiting : Client → ℕ
waiting c = length (text_shown c.sendable) + length (text_shown c.unsynced)

-- a message of it is heard now
abbrev pub may_say : Client → Bool
may_say c = not c.dropped && (nat_lt c.asked most_requests && nat_lt (waiting c) most_waiting)

-- it sends a message, which counts whatever it is
abbrev pub saying : List ℕ → Client → Client
saying text c = record c { asked = c.asked + 1; messages = c.messages ++ text ∷ [] }

-- what it was told since then comes of its own message
abbrev pub answered : Client → Client → Client
answered before c = record c { unsynced = before.unsynced ++ map (λ (s : Shown). record s { answers = true }) (drop (length before.unsynced) c.unsynced) }

-- it is to go, and its text is gone
abbrev pub dropping : Client → Client
dropping c = record c { unsynced = []; sendable = []; dropped = true }

-- what others brought it
abbrev pub by_others : List Shown → List Shown
by_others ss = filter (λ s. not s.answers) ss

-- it does not take what it is offered
abbrev pub is_slow : Client → Bool
is_slow c = nat_lt most_piled (length (text_shown (by_others c.sendable)))

-- ---- what is handed on

-- the journal has all that its text shows
abbrev pub released : Client → Client
released c = if c.dropped || is_slow c then dropping c else record c { unsynced = []; sendable = c.sendable ++ c.unsynced }

-- all that may be sent is handed to its socket, as one message
abbrev pub handing : Client → Client
handing c = if length c.sendable == 0 then c else record c { sendable = []; asked = 0; handed = c.handed ++ c.sendable ∷ [] }

-- its token opens its role, and is its user's
abbrev pub opens : List Token → Client → Bool
opens tokens c = if_some (token_of tokens c.digest) false (λ t. bytes_eq c.role t.role && bytes_eq c.user t.user)

-- whose token does not is to go
abbrev pub checked : List Token → Client → Client
checked tokens c = if opens tokens c then c else dropping c

-- ---- clients by their number

abbrev pub Slots : Type 0
Slots = List (Option Client)

abbrev pub client_at : {C : Type 0} → List (Option C) → ℕ → Option C
client_at slots m = option_and_then (λ x. x) (slice_get slots m)

-- the number is there, and nobody has it
abbrev pub is_free : {C : Type 0} → ℕ → List (Option C) → Bool
is_free m slots = if_some (slice_get slots m) false (λ x. if_some x true (λ c. false))

-- client m, changed; nobody if there is none
abbrev pub at_client : {C : Type 0} → ℕ → (C → C) → List (Option C) → List (Option C)
at_client m f [] = []
at_client zero f (x ∷ xs) = option_map f x ∷ xs
at_client (suc m) f (x ∷ xs) = x ∷ at_client m f xs

-- all of them, changed
abbrev pub at_all : {C : Type 0} → (C → C) → List (Option C) → List (Option C)
at_all f slots = map (option_map f) slots

-- some client follows feed k
abbrev pub is_followed : ℕ → Slots → Bool
is_followed k slots = list_any (λ x. if_some x false (λ (c : Client). list_any (λ s. k == s.feed) c.subs)) slots

-- some client is of the role
abbrev pub has_role : Name → Slots → Bool
has_role role slots = list_any (λ x. if_some x false (λ (c : Client). bytes_eq c.role role)) slots

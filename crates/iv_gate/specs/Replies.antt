-- What a client is replied.
use Rattle.std.specs.Prelude.{◌≡◌, ◌≢◌, ◌≤◌, ◌<◌, bytes_eq, codes, count_by, ◌⊎◌, ℕ, ◌+◌, ◌==◌, ◌&&◌, Bool, true, false, if◌then◌else◌, List, [], ◌∷◌}
use Rattle.std.specs.Prelude.{Contains, filter, drop, take, reverse, length, slice_get, Option, Some, None, is_some}
use Rattle.std.specs.List.{AllByRecursion}
use Rattle.serde_json.specs.Data.{Data}
use Rattle.iv_rows.specs.Columns.{Column}
use Rattle.iv_access.specs.Privileges.{role_of}
use Rattle.iv_access.specs.Rights.{Name}
use Rattle.iv_machine.specs.Act.{Act, begin, finish, subscribe, unsubscribe, done, subscribed, refused, Reply, limit, too_many, unknown_subscription}
use Rattle.iv_machine.specs.Machine.{step}
use Rattle.iv_machine.specs.State.{Session, State, session_of}
use Rattle.iv_message.specs.Message.{Message, no_json, too_long, no_object, no_request, request, unknown}
use Rattle.iv_message.specs.Told.{Told, welcome, placed, replied, opened, fault, unasked, answered, undecided, denied}
use Rattle.iv_clients.specs.Clients.{Client, client_at, followed_by, may_say, told}
use Rattle.iv_clients.specs.Bounds.{most_feeds, most_seats, most_subs}
use Rattle.iv_clients.specs.Feeds.{Feed, Seat, feed_for}
use Rattle.iv_records.specs.Journal.{Entry, Request, claim_said, line_said, names_in, said_by}
use Rattle.iv_records.specs.Names.{Claim, limits, place_text}
use Rattle.iv_once.specs.Names.{Ask, Named}
use Rattle.iv_gate.specs.Events.{Event, message, next}
use Rattle.iv_gate.specs.Gate.{Gate, answer_text, asked_by, columns_in, entries_of, has_shape_room, in_session, is_follower, known_of, may_have}
use Rattle.iv_gate.specs.Gate.{next_position, place_at, reply_in}

-- ---- clients

-- client m is there, and is not to go
pub record IsClient (g : Gate) (m : ℕ) (c : Client) : Type 0 where
  pub there : client_at g.clients m ≡ Some c
  pub stays : c.dropped ≡ false

-- of each client m that is c before an event and d after it
abbrev pub ByClient : Gate → Event → (ℕ → Client → Client → Type 0) → Type 0
ByClient g e P = (m : ℕ) (c d : Client) → IsClient g m c → IsClient (next g e) m d → P m c d

-- what it was told in between
abbrev pub told_by : Client → Client → List Told
told_by c d = drop (length (told c)) (told d)

-- ---- replies

-- to the token, or to a message
abbrev pub is_reply : Told → Bool
is_reply (welcome role) = true
is_reply (placed at) = true
is_reply (replied id r) = true
is_reply (opened id own columns) = true
is_reply (fault number) = true
is_reply (unasked id why) = true
is_reply (answered id again at answer) = true
is_reply (undecided id number) = true
is_reply (denied id number) = true
is_reply _ = false

abbrev pub replies : List Told → List Told
replies ts = filter is_reply ts

-- the session is open, and acts in the role of the name
pub record ActsAs (s : State) (n : ℕ) (role : Name) : Type 0 where
  pub place : ℕ
  pub known : role_of s.frame.rights role ≡ Some place
  pub session : session_of s.frame.sessions n ≡ Some (record { number = n; role = place })

-- the machine's reply to an act in a session of the role
abbrev pub IsMachineReply : State → Name → Act → Reply → Type 0
IsMachineReply s role act r = (n : ℕ) × ActsAs s n role × (r ≡ reply_in (step s (in_session n act)).lines)

-- a subscription is told by the client's next number and the relation's columns
abbrev pub reading_told : State → Client → Option Data → Name → Reply → Told
reading_told s c id rel (subscribed k) = opened id (c.given + 1) (columns_in s rel)
reading_told s c id rel r = replied id r

-- the machine's reply to a subscribe, in a session of the client's role that has a place, and that may be begun for it
pub record IsReadingReply (g : Gate) (c : Client) (id : Option Data) (rel : Name) (t : Told) : Type 0 where
  pub sessions : List Session
  pub reply : Reply
  pub is : IsMachineReply (record g.machine { frame = record g.machine.frame { sessions = sessions } }) c.role (subscribe rel) reply
  pub place : count_by (λ e. is.0 == e.session) g.machine.frame.subscriptions ≤ most_feeds
  pub told : t ≡ reading_told g.machine c id rel reply

-- each session of the role has as many feeds as it may
abbrev pub AreFull : List Seat → List Feed → Name → Type 0
AreFull seats feeds role = AllByRecursion (λ s. bytes_eq s.role role ≡ true → most_feeds ≤ count_by (λ f. s.session == f.session) feeds) seats

-- the client follows as much as it may; or its role does not read the relation yet, each session of the role is full, and all are begun
abbrev pub IsFull : Gate → Client → Name → Type 0
IsFull g c rel = (most_subs ≤ length c.subs) ⊎ ((feed_for g.feeds c.role rel ≡ None) × AreFull g.seats g.feeds c.role × (most_seats ≤ length g.seats))

-- the reply to an act that changes what is shared: the machine's, in a session of the client's role; or 17, where the shape has no room
abbrev pub IsSharedReply : Gate → Client → Act → Reply → Type 0
IsSharedReply g c act r = ((has_shape_room g act ≡ true) × IsMachineReply g.machine c.role act r) ⊎ ((has_shape_room g act ≡ false) × (r ≡ refused limit))

-- ---- names

-- the names of a holder, in the order of the journal
abbrev pub names_by : Gate → List ℕ → List Named
names_by g holder = filter (λ e. bytes_eq e.ask.holder holder) (names_in g.entries)

-- how many entries with names the holder has
abbrev pub count_of : Gate → List ℕ → ℕ
count_of g holder = (place_at g.head holder).count + length (names_by g holder)

-- how many of its names were refused and are not forgiven
abbrev pub refused_by : Gate → List ℕ → ℕ
refused_by g holder = count_by (λ e. e.refused && bytes_eq e.ask.holder holder) (names_in (drop g.forgiven g.entries))

-- the last of them, the latest first: those that are remembered
abbrev pub remembered_by : Gate → List ℕ → List Named
remembered_by g holder = take limits.names (reverse (names_by g holder))

-- one of these names has the answer to the request
abbrev pub IsAnswer : List Named → Ask → List ℕ → Type 0
IsAnswer es a answer = (refused : Bool) × Contains es (record { ask = a; refused = refused; answer = answer })

-- none of them has one
abbrev pub NoneAnswers : List Named → Ask → Type 0
NoneAnswers es a = (answer : List ℕ) → IsAnswer es a answer → ⊥

-- what bars a request with a name: its name is another request's; its place, of this epoch, is so old that its answer may be forgotten; or its
-- place is of another epoch: then its answer may still come, if others lead the log
pub data IsBarred (g : Gate) (a : Ask) : ℕ → Type 0 where
  another : (e : Named) → Contains (remembered_by g a.holder) e → e.ask.name ≡ a.name → e.ask ≢ a → IsBarred g a 101
  late : a.at.epoch ≡ (place_at g.head a.holder).epoch → a.at.count + limits.names < count_of g a.holder → IsBarred g a 102
  foreign : is_follower g ≡ false → a.at.epoch ≢ (place_at g.head a.holder).epoch → IsBarred g a 103
  foreign_yet : is_follower g ≡ true → a.at.epoch ≢ (place_at g.head a.holder).epoch → IsBarred g a 100

-- it may be done: none of its holder's names answers it, and nothing bars it
pub record MayBeDone (g : Gate) (a : Ask) : Type 0 where
  pub new : NoneAnswers (names_by g a.holder) a
  pub free : (number : ℕ) → IsBarred g a number → ⊥

-- why it has to wait: what is shared is decided elsewhere; or it is decided here, and its place is ahead, or too many of its holder's names were
-- refused, or too many holders have names
pub data HasToWait (g : Gate) (a : Ask) : ℕ → Type 0 where
  elsewhere : is_follower g ≡ true → HasToWait g a 100
  ahead : is_follower g ≡ false → count_of g a.holder < a.at.count → HasToWait g a 104
  refused_often : is_follower g ≡ false → limits.refusals ≤ refused_by g a.holder → HasToWait g a 104
  many : is_follower g ≡ false → limits.holders ≤ (known_of g).holders → (known_of g).owns a.holder ≡ None → HasToWait g a 104

-- where the names of a holder stand when as many more have an answer
abbrev pub place_after : Gate → List ℕ → ℕ → List ℕ
place_after g holder more = place_text (record { epoch = (place_at g.head holder).epoch; count = count_of g holder + more })

-- the reply to a request with a name, and what it adds to the journal: if it may be done, it is done now or has to wait; if its answer is
-- remembered, that is told again; if it is barred and no answer is remembered, nobody says whether it was done
pub data IsNamedReply (g : Gate) (c : Client) (id : Option Data) (q : Request) (a : Ask) : Told → List Entry → Type 0 where
  is_done : (r : Reply) → MayBeDone g a → ((number : ℕ) → HasToWait g a number → ⊥) → IsSharedReply g c q.act r
      → IsNamedReply g c id q a (answered id false (place_after g a.holder 1) (answer_text r)) (entries_of (next_position g) q (Some a) r)
  waits : (number : ℕ) → MayBeDone g a → HasToWait g a number → IsNamedReply g c id q a (undecided id number) []
  is_repeated : (answer : List ℕ) → IsAnswer (remembered_by g a.holder) a answer
      → IsNamedReply g c id q a (answered id true (place_after g a.holder 0) answer) []
  is_left : (number : ℕ) → NoneAnswers (remembered_by g a.holder) a → IsBarred g a number → IsNamedReply g c id q a (undecided id number) []

-- ---- acts

-- the reply to a request that changes what is shared, and what that adds to the journal; while a log is followed, also if it is led here, none is
-- done that has no name
abbrev pub IsReplyToShared : Gate → Client → Option Data → Request → Option Claim → Told → List Entry → Type 0
IsReplyToShared g c id q None t es = ((is_some g.head.log ≡ true) × (t ≡ denied id 100) × (es ≡ []))
    ⊎ ((r : Reply) × (g.head.log ≡ None) × IsSharedReply g c q.act r × (t ≡ replied id r) × (es ≡ entries_of (next_position g) q None r))
IsReplyToShared g c id q (Some k) t es = IsNamedReply g c id q (asked_by c q.line k) t es

-- the reply to a client's act
abbrev pub IsReplyToAct : Gate → Client → Option Data → List ℕ → Act → Told → List Entry → Type 0
IsReplyToAct g c id text (subscribe rel) t es = (es ≡ []) × ((IsFull g c rel × (t ≡ replied id (refused too_many))) ⊎ IsReadingReply g c id rel t)
IsReplyToAct g c id text (unsubscribe own) t es = (es ≡ [])
    × (t ≡ replied id (if is_some (followed_by c.subs own) then done else refused unknown_subscription))
IsReplyToAct g c id text (begin role) t es = (es ≡ []) × (t ≡ fault 2)
IsReplyToAct g c id text finish t es = (es ≡ []) × (t ≡ fault 2)
IsReplyToAct g c id text act t es = IsReplyToShared g c id (record { role = c.role; line = line_said text; act = act }) (claim_said text) t es

-- the reply to what a client says
abbrev pub IsReplyTo : Gate → Client → List ℕ → Message → Told → List Entry → Type 0
IsReplyTo g c text no_json t es = (es ≡ []) × (t ≡ fault 1)
IsReplyTo g c text too_long t es = (es ≡ []) × (t ≡ fault 22)
IsReplyTo g c text no_object t es = (es ≡ []) × (t ≡ fault 2)
IsReplyTo g c text (no_request id why) t es = (es ≡ []) × (t ≡ unasked id why)
IsReplyTo g c text (request id act) t es = ((may_have (claim_said text) act ≡ true) × IsReplyToAct g c id text act t es)
    ⊎ ((may_have (claim_said text) act ≡ false) × (t ≡ unasked id (unknown (codes "once"))) × (es ≡ []))

-- what an event adds to the journal
abbrev pub added_by : Gate → Event → List Entry
added_by g e = drop (length g.entries) (next g e).entries

-- the event is a message of client m that is heard
abbrev pub heard_by : ℕ → Client → Event → Option (List ℕ)
heard_by m c (message n text) = if n == m && may_say c then Some text else None
heard_by m c e = None

-- a client is told first the reply to its own message that is heard, and no other reply; and the journal is to have of it what the reply says
pub record AreReplied (g : Gate) (e : Event) : Type 0 where
  pub own : ByClient g e (λ m c d. (text : List ℕ) → heard_by m c e ≡ Some text
      → (reply : Told) × (others : List Told) × (told_by c d ≡ reply ∷ others)
      × IsReplyTo g c text (said_by text) reply (added_by g e) × (replies others ≡ []))
  pub others : ByClient g e (λ m c d. heard_by m c e ≡ None → replies (told_by c d) ≡ [])

abbrev pub is_opened : Told → Bool
is_opened (opened id own columns) = true
is_opened _ = false

-- a client was told a welcome and its place, and then one reply to each of its messages; each subscription that was opened has the next number
pub record IsAnswered (c : Client) : Type 0 where
  pub welcome : (at : List ℕ) × (ts : List Told) × (told c ≡ welcome c.role ∷ placed at ∷ ts)
  pub each : length (replies (told c)) ≡ 2 + length c.messages
  pub given : c.given ≡ length (filter is_opened (told c))

-- its message at this place has the reply: those to its token come before
abbrev pub IsReplyAt : Client → ℕ → Option Data → Act → Told → Type 0
IsReplyAt c place id act t = (text : List ℕ) × (slice_get c.messages place ≡ Some text) × (said_by text ≡ request id act)
    × (slice_get (replies (told c)) (place + 2) ≡ Some t)

-- the client asked the relation by its own number: the reply to a message that asks it gave the number
abbrev pub IsAskedBy : Client → ℕ → Name → Type 0
IsAskedBy c own rel = (place : ℕ) × (id : Option Data) × (columns : List Column) × IsReplyAt c place id (subscribe rel) (opened id own columns)

-- The gateway: the access machine, its sessions by role, the feeds that clients share, the clients, and the journal's entries.
use Rattle.std.specs.Prelude.{ℕ, ◌+◌, ◌==◌, ◌&&◌, ◌||◌, not, Bool, true, false, if◌then◌else◌, List, [], ◌∷◌, ◌++◌, codes, drop, map, filter}
use Rattle.std.specs.Prelude.{flat_map, length, nat_lt, slice_set, Option, Some, None, option_and_then, option_map, unwrap_or, is_some}
use Rattle.std.specs.List.{list_any}
use Rattle.sha2.specs.Sha256.{sha256}
use Rattle.serde_json.specs.Data.{Data, object}
use Rattle.serde_json.specs.Written.{compact_text}
use Rattle.iv_rows.specs.Columns.{Column}
use Rattle.iv_rows.specs.Names.{is_name}
use Rattle.iv_rows.specs.Options.{if_some}
use Rattle.iv_bind.specs.Catalogs.{columns_of, named}
use Rattle.iv_access.specs.Privileges.{acts_as, has, role_of}
use Rattle.iv_access.specs.Rights.{Name}
use Rattle.iv_access.specs.declared.privilege.Privilege.{Privilege}
use Rattle.iv_access.specs.declared.privilege.Privilege.TheVariants.{Select, Insert, Update, Delete}
use Rattle.iv_machine.specs.Act.{Act, begin, finish, create_table, create_view, grant, grant_role, subscribe, unsubscribe, Command, Line, reply}
use Rattle.iv_machine.specs.Act.{Reply, done, subscribed, refused, limit, no_session, too_many, unknown_subscription}
use Rattle.iv_machine.specs.Machine.{Outcome, step}
use Rattle.iv_machine.specs.State.{Frame, State}
use Rattle.iv_lines.specs.Texts.{reply_members}
use Rattle.iv_message.specs.Message.{Message, no_json, too_long, no_object, no_request, request, unknown}
use Rattle.iv_message.specs.Told.{Told, replied, opened, fault, unasked, granted, answered, undecided, denied, told_text}
use Rattle.iv_once.specs.Names.{Ask, Known, Named, Names, Place, Verdict, carry, again, another, late, foreign, blamed, learned, own_of, spent_more, verdict}
use Rattle.iv_once.specs.Names as once
use Rattle.iv_clients.specs.Bounds.{most_subs}
use Rattle.iv_clients.specs.Clients.{Client, Shown, Slots, at_all, at_client, client_at, closing, followed_by, following, fresh, has_role}
use Rattle.iv_clients.specs.Clients.{is_followed, is_free, may_say, moved, own_lines, saying, settling, staying, telling, told_one}
use Rattle.iv_clients.specs.Clients as clients
use Rattle.iv_clients.specs.Feeds.{Feed, Seat, feed_for, feed_of, feeds_left, is_of_role, is_reading, next_seat, room_for, seat_of, without_feed, without_seat}
use Rattle.iv_records.specs.Journal.{Entry, Request, claim_said, is_shape, is_shared, line_said, names_in, position_of, said_by, shape_for, shape_of}
use Rattle.iv_records.specs.Names.{Claim, holder_of, is_count, limits, place_text}
use Rattle.iv_clients.specs.Tokens.{Token, token_of}

-- a log that others keep, and its epoch: 32 digits that no other beginning of it has
pub record Log : Type 0 where
  pub name : List ℕ
  pub epoch : List ℕ

-- what the journal says before its first entry: where the names of each holder stand, of whom there are so many, and in which epoch those of
-- others begin; the log that it follows, if it follows one, and where that stands
pub record Head : Type 0 where
  pub epoch : List ℕ
  pub places : List ℕ → Option Place
  pub holders : ℕ
  pub log : Option Log
  pub position : ℕ

abbrev pub place_at : Head → List ℕ → Place
place_at h holder = unwrap_or (h.places holder) (record { epoch = h.epoch; count = 0 })

-- `entries` are those of the journal, of which the first `kept` are on disk; the names that were refused in the first `forgiven` are
-- forgiven. If it `leads`, it decides the log that it follows. Once it is `dead` nothing happens any more. `sent` is all text that was handed
-- on, to whomever; the code has no memory of it.
pub record Gate : Type 0 where
  pub tokens : List Token
  pub machine : State
  pub seats : List Seat
  pub feeds : List Feed
  pub clients : Slots
  pub head : Head
  pub entries : List Entry
  pub kept : ℕ
  pub forgiven : ℕ
  pub leads : Bool
  pub dead : Bool
  pub sent : List Shown

-- ---- one command

abbrev pub reply_in : List Line → Reply
reply_in (reply n r ∷ ls) = r
reply_in ls = refused no_session

abbrev pub is_accepted : Reply → Bool
is_accepted done = true
is_accepted (subscribed k) = true
is_accepted (refused r) = false

abbrev pub each_privilege : List Privilege
each_privilege = Select ∷ Insert ∷ Update ∷ Delete ∷ []

-- the role has the privilege on the relation
abbrev pub has_on : Frame → Name → Privilege → Name → Bool
has_on f role p rel = if_some (role_of f.rights role) false (λ r. if_some (named f.catalog rel) false (λ e. has f.rights r p e.rel))

-- the role has some privilege on the relation
abbrev pub has_some : Frame → Name → Name → Bool
has_some f role rel = if_some (role_of f.rights role) false (λ r.
    if_some (named f.catalog rel) false (λ e. list_any (λ p. has f.rights r p e.rel) each_privilege))

-- the role is the other, or a member of it
abbrev pub is_member : Frame → Name → Name → Bool
is_member f role other = if_some (role_of f.rights role) false (λ r. if_some (role_of f.rights other) false (acts_as f.rights r))

-- the relations that an accepted act grants a role something on: what is granted to it or to a role that it is a member of; a new one,
-- if it has a privilege on it; and what the role has of which it becomes a member
abbrev pub granted_by : Frame → Act → Name → List Name
granted_by f (grant rel privileges to) role = if if_some to true (is_member f role) then rel ∷ [] else []
granted_by f (create_table name owner columns) role = if has_some f role name then name ∷ [] else []
granted_by f (create_view name owner query) role = if has_some f role name then name ∷ [] else []
granted_by f (grant_role group to) role = if is_member f role to then filter (has_some f group) (map (λ e. e.name) f.catalog) else []
granted_by f act role = []

-- what a client is told of a command: the lines of what it follows, and what it is granted
abbrev pub told_of : Gate → Act → Outcome → Client → List Told
told_of g act o c = own_lines g.feeds o.lines c.subs ++ (if is_accepted (reply_in o.lines) then map granted (granted_by o.state.frame act c.role) else [])

-- the machine goes on to a state: each client is told of it, and what ended is shared no more
abbrev pub went_on : Gate → Outcome → (Client → List Told) → Gate
went_on g o told = record g {
  machine = o.state;
  clients = at_all (λ c. staying o.lines (telling g.entries (told c) c)) g.clients;
  feeds = feeds_left o.lines g.feeds;
}

-- the machine answers
abbrev pub ran : Gate → Command → Gate
ran g k = let o = step g.machine k in went_on g o (told_of g k.act o)

abbrev pub in_session : ℕ → Act → Command
in_session n act = record { session = n; act = act }

-- the machine's reply to a command
abbrev pub reply_to : Gate → Command → Reply
reply_to g k = reply_in (step g.machine k).lines

-- who was told something is told that this is all
abbrev pub settles : Gate → Gate
settles g = record g { clients = at_all (settling g.entries) g.clients }

-- client m is told one thing more
abbrev pub tells : Gate → ℕ → Told → Gate
tells g m t = record g { clients = at_client m (told_one g.entries t) g.clients }

-- ---- sessions

abbrev pub seated : Gate → ℕ → Name → Gate
seated g n role = ran (record g { seats = g.seats ++ record { session = n; role = role } ∷ [] }) (in_session n (begin role))

-- the next session, if the machine begins it for the role
abbrev pub begun_for : Gate → Name → Option ℕ
begun_for g role = option_and_then (λ n. if is_accepted (reply_to g (in_session n (begin role))) then Some n else None) (next_seat g.seats)

-- the role has a session, or one can be begun for it
abbrev pub has_session : Gate → Name → Bool
has_session g role = is_some (seat_of g.seats role) || is_some (begun_for g role)

-- one is begun if it has none
abbrev pub with_session : Gate → Name → Gate
with_session g role = if_some (seat_of g.seats role) (if_some (begun_for g role) g (λ n. seated g n role)) (λ n. g)

-- a client is of its role, or something is read in it
abbrev pub is_needed : Gate → Seat → Bool
is_needed g s = has_role s.role g.clients || list_any (λ (f : Feed). s.session == f.session) g.feeds

-- a session that is not needed is finished
abbrev pub rested : Gate → Seat → Gate
rested g s = if is_needed g s then g else ran (record g { seats = without_seat s.session g.seats }) (in_session s.session finish)

abbrev pub all_rested : Gate → List Seat → Gate
all_rested g [] = g
all_rested g (s ∷ ss) = all_rested (rested g s) ss

-- ---- subscribing

abbrev pub columns_in : State → Name → List Column
columns_in s rel = if_some (named s.frame.catalog rel) [] (λ e. columns_of e.held)

-- the number that client m gives next
abbrev pub next_own : Gate → ℕ → ℕ
next_own g m = if_some (client_at g.clients m) 0 (λ c. c.given + 1)

-- client m follows the feed that is opened for it, or is told why there is none
abbrev pub feed_begun : Gate → ℕ → Option Data → ℕ → Name → Name → Reply → Gate
feed_begun g m id n role rel (subscribed t) = let h = tells g m (opened id (next_own g m) (columns_in g.machine rel)) in
    record h { clients = at_client m (following t) h.clients; feeds = record { number = t; session = n; role = role; rel = rel } ∷ g.feeds }
feed_begun g m id n role rel r = tells g m (replied id r)

-- the relation is subscribed to in a session of the role, and client m is told its contents
abbrev pub subscribes : Gate → ℕ → Option Data → ℕ → Name → Name → Gate
subscribes g m id n role rel = let k = in_session n (subscribe rel) in ran (feed_begun g m id n role rel (reply_to g k)) k

-- a feed is closed
abbrev pub shut : Gate → Feed → Gate
shut g f = ran (record g { feeds = without_feed f.number g.feeds }) (in_session f.session (unsubscribe f.number))

-- of two feeds of one role and relation, client m follows the older, and the newer is closed
abbrev pub joined : Gate → ℕ → Option Feed → Option Feed → Gate
joined g m (Some t) (Some k) =
    if is_reading t.role t.rel k && not (t.number == k.number) then shut (record g { clients = at_client m (moved t.number k.number) g.clients }) t else g
joined g m t k = g

abbrev pub joined_by : Gate → (m k : ℕ) → Reply → Gate
joined_by g m k (subscribed t) = joined g m (feed_of g.feeds t) (feed_of g.feeds k)
joined_by g m k r = g

-- what is shared is subscribed to once more, so that client m is told its contents, and then follows the older feed
abbrev pub joins : Gate → ℕ → Option Data → Feed → Gate
joins g m id f = joined_by (subscribes g m id f.session f.role f.rel) m f.number (reply_to g (in_session f.session (subscribe f.rel)))

-- in a session of the role with a place, or in a further one
abbrev pub reads_first : Gate → ℕ → Option Data → Name → Name → Gate
reads_first g m id role rel = if_some (room_for g.seats g.feeds role)
    (if_some (begun_for g role) (tells g m (replied id (refused too_many))) (λ n. subscribes (seated g n role) m id n role rel))
    (λ n. subscribes g m id n role rel)

-- who follows no more than it may follows one more
abbrev pub reads : Gate → ℕ → Client → Option Data → Name → Gate
reads g m c id rel = if nat_lt (length c.subs) most_subs then if_some (feed_for g.feeds c.role rel) (reads_first g m id c.role rel) (joins g m id)
    else tells g m (replied id (refused too_many))

-- ---- unsubscribing

-- a feed that nobody follows is closed
abbrev pub swept : Gate → ℕ → Gate
swept g k = if is_followed k g.clients then g else if_some (feed_of g.feeds k) g (shut g)

abbrev pub all_swept : Gate → List ℕ → Gate
all_swept g [] = g
all_swept g (k ∷ ks) = all_swept (swept g k) ks

-- client m closes its own number, which follows a feed, or it has none to close
abbrev pub closes : Gate → ℕ → Client → Option Data → ℕ → Gate
closes g m c id own = if_some (followed_by c.subs own) (tells g m (replied id (refused unknown_subscription)))
    (λ k. swept (tells (record g { clients = at_client m (closing own) g.clients }) m (replied id done)) k)

-- ---- other requests

-- what is known after these names, in their order
abbrev pub known_by : Known → List Named → Known
known_by k [] = k
known_by k (e ∷ es) = known_by (learned limits (once.named e) k) es

-- what is known of names before the first entry: no name
abbrev pub known_at : Head → Known
known_at h = record {
  epoch = h.epoch;
  owns = λ holder. option_map (λ p. record { epoch = p.epoch; count = p.count; recent = [] }) (h.places holder);
  holders = h.holders;
}

-- what is known of names: what the journal says of them
abbrev pub known_of : Gate → Known
known_of g = known_by (known_at g.head) (names_in g.entries)

abbrev pub place_of : Gate → List ℕ → Place
place_of g holder = let o = own_of (known_of g) holder in record { epoch = o.epoch; count = o.count }

-- how many entries of each holder were refused and are not forgiven
abbrev pub spent_in : List Named → List ℕ → Option ℕ
spent_in [] holder = None
spent_in (e ∷ es) holder = spent_more (spent_in es) (blamed (once.named e)) holder

abbrev pub names_of : Gate → Names
names_of g = record { limits = limits; known = known_of g; spent = spent_in (names_in (drop g.forgiven g.entries)) }

-- an answer as it is kept
abbrev pub answer_text : Reply → List ℕ
answer_text r = compact_text (object (reply_members r))

-- the name that has the answer
abbrev pub answering : Option Ask → Reply → List Named
answering None r = []
answering (Some a) r = record { ask = a; refused = not (is_accepted r); answer = answer_text r } ∷ []

-- where the log stands after what is decided next here: one further, if the gateway leads it; none is beyond 64 bits
abbrev pub next_position : Gate → Option ℕ
next_position g = let next = position_of g.head.position g.entries + 1 in if g.leads && is_count next then Some next else None

-- what the journal is to have of a request that changes what is shared: it, where it is accepted, and its name, if it has one. If the gateway
-- leads its log, that is a step of it
abbrev pub entries_of : (position : Option ℕ) → Request → Option Ask → Reply → List Entry
entries_of position q name r = if is_shared q.act && (is_accepted r || is_some name)
    then record { requests = if is_accepted r then q ∷ [] else []; names = answering name r; position = position } ∷ [] else []

abbrev pub entered : Gate → List Entry → Gate
entered g es = record g { entries = g.entries ++ es }

-- what its client is told: the reply, or the name's answer and where its holder's names stand after it
abbrev pub reply_told : Gate → Option Data → Option Ask → Reply → Told
reply_told g id None r = replied id r
reply_told g id (Some a) r = answered id false (place_text (place_of g a.holder)) (answer_text r)

-- administrators are told what these entries make of the shape
abbrev pub informs : Gate → List Entry → Gate
informs g es = record g { clients = at_all (λ c. telling g.entries (shape_for c.role es) c) g.clients }

-- client m is told that its request is answered so
abbrev pub replies_to : Gate → ℕ → Option Data → Request → Option Ask → Reply → Gate
replies_to g m id q name r = let h = entered g (entries_of (next_position g) q name r) in tells h m (reply_told h id name r)

-- client m is told the reply, then everybody what changed, and then administrators the request, if it makes the shape
abbrev pub done_in : Gate → ℕ → Option Data → Request → Option Ask → ℕ → Gate
done_in g m id q name n = let k = in_session n q.act in let r = reply_to g k in
    informs (ran (replies_to g m id q name r) k) (entries_of (next_position g) q name r)

-- ---- messages

-- bytes of the shape's text, beyond which nothing more makes the shape
abbrev pub most_shape : ℕ
most_shape = 16777216

-- what tells of the shape that entries make, one text after another
abbrev pub shape_text : List Entry → List ℕ
shape_text es = flat_map told_text (shape_of es)

-- the shape has room for what the act makes of it
abbrev pub has_shape_room : Gate → Act → Bool
has_shape_room g act = not (is_shape act && nat_lt most_shape (length (shape_text g.entries)))

-- a request that changes what is shared is done in a session of its client's role
abbrev pub carries : Gate → ℕ → Option Data → Request → Option Ask → Gate
carries g m id q name = if has_shape_room g q.act then if_some (seat_of g.seats q.role) (replies_to g m id q name (refused no_session)) (done_in g m id q name)
    else replies_to g m id q name (refused limit)

-- what a client asks by a name
abbrev pub asked_by : Client → List ℕ → Claim → Ask
asked_by c line k = record { holder = holder_of c.role c.user; name = k.name; at = k.at; digest = sha256 line }

-- it follows a log that others lead
abbrev pub is_follower : Gate → Bool
is_follower g = is_some g.head.log && not (is_some (next_position g))

-- what is shared is decided by who leads the log; there too nobody decides what has no name: its refusal would be in no log
abbrev pub is_elsewhere : Gate → Option Ask → Bool
is_elsewhere g None = is_some g.head.log
is_elsewhere g (Some a) = is_follower g

-- then a request is not done here, and of one with a name nobody here says whether it was
abbrev pub decided_elsewhere : Option Data → Option Ask → Told
decided_elsewhere id None = denied id 100
decided_elsewhere id (Some a) = undecided id 100

abbrev pub decides : Gate → ℕ → Option Data → Request → Option Ask → Gate
decides g m id q name = if is_elsewhere g name then tells g m (decided_elsewhere id name) else carries g m id q name

-- what is said of a name that has no answer here: this number; while others lead the log, which may still bring one, that it is decided there
abbrev pub number_here : Gate → ℕ → ℕ
number_here g number = if is_follower g then 100 else number

-- by its name it is done, or told its first answer again, or that it stays undecided whether it was: for ever by 102 and 103; after 104 it may be
-- sent again
abbrev pub by_verdict : Gate → ℕ → Option Data → Request → Ask → Verdict → Gate
by_verdict g m id q a carry = decides g m id q (Some a)
by_verdict g m id q a (again answer) = tells g m (answered id true (place_text (place_of g a.holder)) answer)
by_verdict g m id q a another = tells g m (undecided id 101)
by_verdict g m id q a late = tells g m (undecided id 102)
by_verdict g m id q a foreign = tells g m (undecided id (number_here g 103))
by_verdict g m id q a _ = tells g m (undecided id (number_here g 104))

abbrev pub shares : Gate → ℕ → Client → Option Data → Request → Option Claim → Gate
shares g m c id q claim = if_some claim (decides g m id q None) (λ k. let a = asked_by c q.line k in by_verdict g m id q a (verdict (names_of g) a))

-- sessions are begun and finished by the gateway alone: no message asks that
abbrev pub acts : Gate → ℕ → Client → Option Data → List ℕ → Act → Gate
acts g m c id text (begin role) = tells g m (fault 2)
acts g m c id text finish = tells g m (fault 2)
acts g m c id text (subscribe rel) = reads g m c id rel
acts g m c id text (unsubscribe own) = closes g m c id own
acts g m c id text act = shares g m c id (record { role = c.role; line = line_said text; act = act }) (claim_said text)

-- what changes nothing that is shared has no name
abbrev pub may_have : Option Claim → Act → Bool
may_have claim act = is_shared act || not (is_some claim)

abbrev pub done_for : Gate → ℕ → Client → List ℕ → Message → Gate
done_for g m c text no_json = tells g m (fault 1)
done_for g m c text too_long = tells g m (fault 22)
done_for g m c text no_object = tells g m (fault 2)
done_for g m c text (no_request id why) = tells g m (unasked id why)
done_for g m c text (request id act) = if may_have (claim_said text) act then acts g m c id text act else tells g m (unasked id (unknown (codes "once")))

-- it is heard: there is such a client, who has little under way
abbrev pub is_heard : Gate → ℕ → Bool
is_heard g m = if_some (client_at g.clients m) false may_say

-- client m is c, and its message is done
abbrev pub hears : Gate → ℕ → Client → List ℕ → Gate
hears g m c text = let h = settles (done_for (record g { clients = at_client m (saying text) g.clients }) m c text (said_by text)) in
    record h { clients = at_client m (clients.answered c) h.clients }

-- client m sends a message: it is done if it is heard; else nothing changes, and who reads what the client sends gives it again later
abbrev pub said : Gate → ℕ → List ℕ → Gate
said g m text = if_some (client_at g.clients m) g (λ c. if may_say c then hears g m c text else g)

-- ---- a client comes, and goes

-- the token that is presented for number m, which nobody has, where it opens a role
abbrev pub token_for : Gate → ℕ → List ℕ → Option Token
token_for g m token =
    option_and_then (λ t. if is_name t.role && (is_free m g.clients && has_session g t.role) then Some t else None) (token_of g.tokens (sha256 token))

-- where the names of the token's holder stand
abbrev pub at_text : Gate → Token → List ℕ
at_text g t = place_text (place_of g (holder_of t.role t.user))

-- who presents a token comes in as client m, in the role that it opens, and is told what it is to know; else nothing changes
abbrev pub came : Gate → ℕ → List ℕ → Gate
came g m token = if_some (token_for g m token) g
    (λ t. let h = with_session g t.role in record h { clients = slice_set h.clients m (Some (fresh h.entries t (at_text h t))) })

-- client m goes; what only it followed is closed, and sessions that were its role's alone are finished
abbrev pub went : Gate → ℕ → Gate
went g m = if_some (client_at g.clients m) g (λ c.
    let h = all_swept (record g { clients = slice_set g.clients m None }) (map (λ s. s.feed) c.subs) in
    settles (all_rested h (filter (is_of_role c.role) h.seats)))

-- What holds whatever happens, in the order of reading.
use Rattle.std.specs.Prelude.{◌≡◌, ◌≤◌, ◌⊎◌, ℕ, ◌+◌, ◌==◌, ◌||◌, Bool, true, false, if◌then◌else◌, List, [], ◌∷◌, ◌++◌, take, filter, flat_map}
use Rattle.std.specs.Prelude.{length, map, count_by, option_map, None, Some, is_some}
use Rattle.std.specs.List.{AllByRecursion, list_any}
use Rattle.iv_rows.specs.Options.{if_some}
use Rattle.iv_access.specs.Rights.{Name}
use Rattle.iv_machine.specs.State.{start}
use Rattle.iv_message.specs.Told.{Told, alive, granted, made, settled}
use Rattle.iv_clients.specs.Bounds.{most_piled, most_requests, most_subs}
use Rattle.iv_clients.specs.Clients.{Client, Shown, all_shown, by_others, client_at, may_say, text_shown, told}
use Rattle.iv_records.specs.Journal.{Entry, is_shape, requests_in, shape_for}
use Rattle.iv_records.specs.Names.{limits}
use Rattle.iv_journal.specs.Journal.{Line}
use Rattle.iv_once.specs.Laws.{times}
use Rattle.iv_once.specs.Names.{Place}
use Rattle.iv_steps.specs.Steps.{all_carried, shared}
use Rattle.iv_clients.specs.Tokens.{Token}
use Rattle.iv_gate.specs.Events.{Event, IsWell, arrived, failed, forgave, handed, known, led, message, next, synced, ticked}
use Rattle.iv_gate.specs.Arriving.{entry_of, fact_of, fault_of, was_taken, newly}
use Rattle.iv_gate.specs.Gate.{Gate, granted_by}
use Rattle.iv_gate.specs.Replies.{AreReplied, ByClient, IsAnswered, IsClient, added_by, heard_by, names_by, refused_by, told_by}
use Rattle.iv_gate.specs.Touched.{ActsByToken, AreTouched, LetsIn}
use Rattle.iv_gate.specs.Needed.{AreSeatsAfter, KnowsMachine}
use Rattle.iv_gate.specs.Restoring.{Restores, gate_at_start}
use Rattle.iv_gate.specs.Runs.{LeavesOnDisk, Runs}
use Rattle.iv_gate.specs.Seen.{AreOver, SeesViews, StaysClosed, TellsDifference}

-- ---- the journal

-- the first list is a front of the other
abbrev pub IsFront : List Entry → List Entry → Type 0
IsFront es fs = (more : List Entry) × (fs ≡ es ++ more)

-- all that it shows is on disk
abbrev pub IsKeptOnDisk : Gate → Shown → Type 0
IsKeptOnDisk g s = IsFront s.entries (take g.kept g.entries)

-- nothing was handed on, to whomever and in whichever life, and nothing may be handed on, that shows more than is on disk
pub record SentIsKept (g : Gate) : Type 0 where
  pub sent : AllByRecursion (IsKeptOnDisk g) g.sent
  pub sendable : (m : ℕ) (c : Client) → client_at g.clients m ≡ Some c → AllByRecursion (IsKeptOnDisk g) c.sendable

-- by an event a client keeps all that it was told, and is told more: it shows the entries that are accepted then, and comes of the client's
-- own message if the event is that
abbrev pub AreShown : Gate → Event → Type 0
AreShown g e = ByClient g e (λ m c d. all_shown d
    ≡ all_shown c ++ map (λ t. record { told = t; entries = (next g e).entries; answers = is_some (heard_by m c e) }) (told_by c d))

-- the entries lead a machine with nothing to all that is shared, tables, roles, memberships, rights, policies and rows; none is refused
abbrev pub LeadsBack : (cap : ℕ) → Gate → Type 0
LeadsBack cap g = all_carried (map fact_of (requests_in g.entries)) (start cap) ≡ Some (shared g.machine)

-- whatever a crash leaves on disk leads a gateway to a front of the entries, with all that were kept: each step whole, or not at all
abbrev pub CrashesAreSafe : (cap : ℕ) → Gate → Type 0
CrashesAreSafe cap g = (disk : List Line) (tokens : List Token) (most : ℕ) → LeavesOnDisk g disk
    → (h : Gate) × Restores (gate_at_start cap tokens most g.head g.sent) disk h × IsFront (take g.kept g.entries) h.entries × IsFront h.entries g.entries

-- ---- names

-- of a holder's entries at most one bears a name with a place
abbrev pub NamesAreOnce : Gate → Type 0
NamesAreOnce g = (holder name : List ℕ) (at : Place) → times name at (names_by g holder) ≤ 1

-- ---- marks

-- a step that was taken already adds nothing, one that is taken is one entry; a client's message adds what its reply says; nothing else adds
abbrev pub AddsOnly : Gate → Event → List Entry → Type 0
AddsOnly g (arrived s) es = es ≡ (if was_taken g s || is_some (fault_of g s) then [] else entry_of s ∷ [])
AddsOnly g (message m text) es = if_some (client_at g.clients m) false may_say ≡ false → es ≡ []
AddsOnly g e es = es ≡ []

-- what an event makes of what tokens it knows, what is on disk, what was sent, what is forgiven, whether it leads, and whether it is dead
abbrev pub marked : Gate → Event → Gate
marked g (known tokens) = record g { tokens = tokens }
marked g synced = record g { kept = length g.entries }
marked g (handed m) = record g { sent = g.sent ++ if_some (client_at g.clients m) [] (λ c. c.sendable) }
marked g (arrived s) = record g { dead = is_some (fault_of g s) }
marked g led = record g { leads = is_some g.head.log }
marked g forgave = record g { forgiven = length g.entries }
marked g failed = record g { dead = true }
marked g e = g

abbrev pub HasMarks : Gate → Event → Type 0
HasMarks g e = let h = next g e in h ≡ record (marked g e) { machine = h.machine; seats = h.seats; feeds = h.feeds; clients = h.clients; entries = h.entries }

pub record LeavesMarks (g : Gate) (e : Event) : Type 0 where
  pub grows : (next g e).entries ≡ g.entries ++ added_by g e
  pub only : AddsOnly g e (added_by g e)
  pub marks : HasMarks g e

-- ---- grants

abbrev pub is_granted : Told → Bool
is_granted (granted rel) = true
is_granted _ = false

-- what an event grants a role: what an accepted request grants it; by a step, that on which it has a privilege after it that it had not before
abbrev pub granted_at : Gate → Event → Name → List Name
granted_at g (arrived s) role = newly g.machine.frame (next g (arrived s)).machine.frame role
granted_at g e role = flat_map (λ q. granted_by (next g e).machine.frame q.act role) (requests_in (added_by g e))

-- that is what a client is told to be granted
abbrev pub GrantsAreTold : Gate → Event → Type 0
GrantsAreTold g e = ByClient g e (λ m c d. filter is_granted (told_by c d) ≡ map granted (granted_at g e c.role))

-- ---- the shape

abbrev pub is_made : Told → Bool
is_made (made role line) = true
is_made _ = false

-- what each client was told of the shape is all that is for its role: to an administrator each entry that makes it, once and in order, from
-- its entry on, and nothing to anyone else
abbrev pub ShapeIsTold : Gate → Type 0
ShapeIsTold g = (m : ℕ) (c : Client) → IsClient g m c → filter is_made (told c) ≡ shape_for c.role g.entries

-- and who goes through it in order has the shape: the entries that make it lead a machine with nothing, without the others, to the same
-- roles, memberships, rights, relations and policies
abbrev pub MakesShape : (cap : ℕ) → Gate → Type 0
MakesShape cap g = option_map (λ s. s.frame)
    (all_carried (map fact_of (filter (λ q. is_shape q.act) (requests_in g.entries))) (start cap)) ≡ Some (shared g.machine).frame

-- ---- words

-- a word without a row: that this is all, or that the line is alive
abbrev pub is_word : Told → Bool
is_word settled = true
is_word alive = true
is_word _ = false

abbrev pub IsSettled : List Told → Type 0
IsSettled ts = (ts ≡ []) ⊎ ((t : Told) × (us : List Told) × (ts ≡ (t ∷ us) ++ settled ∷ []) × (list_any is_word (t ∷ us) ≡ false))

-- a message, its own or another's, or a step tells a client nothing, or something and then that this is all; a tick tells it one word, that
-- the line is alive; no other event tells it anything
abbrev pub IsSettledBy : Event → List Told → Type 0
IsSettledBy (message m text) ts = IsSettled ts
IsSettledBy (arrived s) ts = IsSettled ts
IsSettledBy ticked ts = ts ≡ alive ∷ []
IsSettledBy e ts = ts ≡ []

-- ---- bounds

-- who is dropped has no text. When the journal is synced, who is not dropped has no more from others, that it was offered and has not taken,
-- than it may leave. What its own messages bring is bounded by what it may ask. Each number that is open is there once
pub record IsBounded (g : Gate) (m : ℕ) (c : Client) : Type 0 where
  pub gone : c.dropped ≡ true → c.sendable ≡ []
  pub subs : length c.subs ≤ most_subs
  pub numbers : (own : ℕ) → count_by (λ s. own == s.own) c.subs ≤ 1
  pub asked : c.asked ≤ most_requests
  pub synced : g.dead ≡ false → (d : Client) → client_at (next g synced).clients m ≡ Some d → (d.unsynced ≡ [])
      × (d.dropped ≡ false → length (text_shown (by_others c.sendable)) ≤ most_piled)

-- ---- all of them

-- in each gateway
pub record Holds (cap : ℕ) (g : Gate) : Type 0 where
  -- each client's numbers add up to what its role may see now of what it asked, or to nothing once they ended; what it closed stays closed
  pub views : SeesViews g
  pub over : AreOver g
  pub closed : StaysClosed g
  -- each is answered, and acts in the role of its token
  pub answered : (m : ℕ) (c : Client) → IsClient g m c → IsAnswered c × ActsByToken g c
  pub comes : g.dead ≡ false → LetsIn g
  -- what was told is on disk, which leads back
  pub sent : SentIsKept g
  pub back : LeadsBack cap g
  pub safe : CrashesAreSafe cap g
  pub bounded : (m : ℕ) (c : Client) → client_at g.clients m ≡ Some c → IsBounded g m c
  -- sessions and subscriptions of the machine are the gateway's, and nothing is read for nobody
  pub knows : KnowsMachine g
  -- each name has one answer, in the whole journal
  pub once : NamesAreOnce g
  pub spent : g.head.log ≡ None → (holder : List ℕ) → refused_by g holder ≤ limits.refusals
  -- administrators know the shape
  pub shape : ShapeIsTold g
  pub makes : MakesShape cap g

-- by each event
pub record HoldsBy (g : Gate) (e : Event) : Type 0 where
  pub rests : g.dead ≡ true → next g e ≡ g
  pub marks : g.dead ≡ false → LeavesMarks g e
  pub replied : g.dead ≡ false → AreReplied g e
  pub touched : g.dead ≡ false → AreTouched g e
  pub places : length (next g e).clients ≡ length g.clients
  -- the machine gives one number of a subscription at most
  pub last : (next g e).machine.frame.last ≤ 1 + g.machine.frame.last
  pub changes : ByClient g e (λ m c d. (own : ℕ) → TellsDifference g e c d own)
  pub told : g.dead ≡ false → GrantsAreTold g e
  pub settles : g.dead ≡ false → ByClient g e (λ m c d. IsSettledBy e (told_by c d))
  pub shows : AreShown g e
  pub begins : AreSeatsAfter g (next g e).seats

-- in whatever runs, over restarts
abbrev pub HoldAlways : Type 0
HoldAlways = (cap : ℕ) (g : Gate) → Runs cap g → Holds cap g × ((e : Event) → IsWell e → HoldsBy g e)

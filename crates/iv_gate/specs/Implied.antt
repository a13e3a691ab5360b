-- What the laws imply, in other words; nobody has to believe it beside them.
use Rattle.std.specs.Prelude.{◌≡◌, ◌≢◌, ◌⊎◌, ◌≤◌, ◌<◌, ◌+◌, ℕ, false, true, List, [], ◌∷◌, Contains, drop, length, nat_lt, Some, is_some, ℤ}
use Rattle.std.specs.List.{AllByRecursion, list_any}
use Rattle.iv_rows.specs.Cell.{Cell}
use Rattle.iv_access.specs.declared.privilege.Privilege.{Privilege}
use Rattle.iv_access.specs.Rights.{Name}
use Rattle.iv_machine.specs.declared.Cause.{Cause}
use Rattle.iv_message.specs.Told.{granted, over}
use Rattle.iv_clients.specs.Clients.{Client, followed_by, is_followed}
use Rattle.iv_clients.specs.Feeds.{rel_read}
use Rattle.iv_records.specs.Names.{limits}
use Rattle.iv_clients.specs.Tokens.{Token}
use Rattle.iv_journal.specs.Journal.{Line}
use Rattle.iv_once.specs.Names.{Ask}
use Rattle.iv_gate.specs.Arriving.{AreNext, Step, position, settled_at}
use Rattle.iv_gate.specs.Events.{Event, after, arrived, next}
use Rattle.iv_records.specs.Journal.{Entry}
use Rattle.iv_gate.specs.Gate.{Gate, has_on, has_some, is_follower, most_shape, next_position, place_at, shape_text}
use Rattle.iv_gate.specs.Replies.{ByClient, count_of, told_by}
use Rattle.iv_gate.specs.Restoring.{Restores, gate_at_start}
use Rattle.iv_gate.specs.Runs.{LeavesOnDisk}
use Rattle.iv_gate.specs.Seen.{hindrance, is_told_of}

-- what is told an end by an event was followed, and may be read no more, for the reason that is told
pub record IsCaused (g : Gate) (e : Event) (c : Client) (own : ℕ) (rel : Name) (why : Cause) : Type 0 where
  pub feed : ℕ
  pub followed : followed_by c.subs own ≡ Some feed
  pub relation : rel ≡ rel_read g.feeds feed
  pub cause : hindrance (next g e).machine c.role rel ≡ Some why

abbrev pub EndsForCause : Gate → Event → Type 0
EndsForCause g e = ByClient g e (λ m c d. (own : ℕ) (rel : Name) (why : Cause) (rows : List (List Cell × ℤ))
    → Contains (told_by c d) (over own rel why rows) → IsCaused g e c own rel why)

-- by an event a client is told of numbers that followed something before, or that it is given now
abbrev pub HearsFollowed : Gate → Event → Type 0
HearsFollowed g e = ByClient g e (λ m c d. (own : ℕ) → list_any (is_told_of own) (told_by c d) ≡ true
    → (is_some (followed_by c.subs own) ≡ true) ⊎ ((c.given < own) × (own ≤ d.given)))

-- what a client is told to be granted its role has now
abbrev pub GrantsAreTrue : Gate → Event → Type 0
GrantsAreTrue g e = ByClient g e (λ m c d. (rel : Name) → Contains (told_by c d) (granted rel) → has_some (next g e).machine.frame c.role rel ≡ true)

-- a privilege that a client's role has by a step, and had not before it, is told
abbrev pub NewRightsAreTold : Gate → Step → Type 0
NewRightsAreTold g s = ByClient g (arrived s) (λ m c d. (p : Privilege) (rel : Name) → has_on g.machine.frame c.role p rel ≡ false
    → has_on (next g (arrived s)).machine.frame c.role p rel ≡ true → Contains (told_by c d) (granted rel))

-- if the shape's text is beyond its bound, no client's message adds anything to it
abbrev pub ShapeIsBounded : Gate → Event → Type 0
ShapeIsBounded g e = ((s : Step) → e ≡ arrived s → ⊥)
    → nat_lt most_shape (length (shape_text g.entries)) ≡ true → shape_text (next g e).entries ≡ shape_text g.entries

-- the machine reads what clients follow, and nothing else
pub record ReadsForClients (g : Gate) : Type 0 where
  pub subscriptions : AllByRecursion (λ e. is_followed e.number g.clients ≡ true) g.machine.frame.subscriptions
  pub feeds : AllByRecursion (λ f. is_followed f.number g.clients ≡ true) g.feeds

-- ---- steps

-- the log goes on, in memory and on disk
abbrev pub PositionsRise : Gate → Event → Type 0
PositionsRise g e = (position g ≤ position (next g e)) × (settled_at g ≤ settled_at (next g e)) × (settled_at g ≤ position g)

-- what the source was told to be on disk is there after a crash
abbrev pub PositionsLast : (cap : ℕ) → Gate → Type 0
PositionsLast cap g = (disk : List Line) (tokens : List Token) (most : ℕ) (h : Gate) → LeavesOnDisk g disk
    → Restores (gate_at_start cap tokens most g.head g.sent) disk h → (settled_at g ≤ settled_at h) × (settled_at h ≤ position g)

-- what a client's message adds: nothing, or, unless others lead the log, one entry, which is at the next position if the gateway leads it
abbrev pub AddsNext : Gate → List Entry → Type 0
AddsNext g es = (es ≡ []) ⊎ ((e : Entry) × (es ≡ e ∷ []) × (e.position ≡ next_position g) × (is_follower g ≡ false))

-- it leads its log, of which all is on disk
pub record LeadsFromDisk (g : Gate) : Type 0 where
  pub log : is_some g.head.log ≡ true
  pub leads : g.leads ≡ true
  pub disk : g.kept ≡ length g.entries

-- whatever happens then, what is not on disk yet is the next steps of the log
abbrev pub DecidesNext : Gate → List Event → Type 0
DecidesNext g es = LeadsFromDisk g → let h = after g es in AreNext (settled_at h) (drop h.kept h.entries)

-- ---- names

-- the place, of this epoch, is too old; or it is of another one: what was told 102 or 103 is barred whatever happens to this gateway
abbrev pub IsPast : Gate → Ask → Type 0
IsPast g a = ((a.at.epoch ≡ (place_at g.head a.holder).epoch) × (a.at.count + limits.names < count_of g a.holder))
    ⊎ (a.at.epoch ≢ (place_at g.head a.holder).epoch)

abbrev pub StaysPast : Gate → Event → Type 0
StaysPast g e = (a : Ask) → IsPast g a → IsPast (next g e) a

-- What a client was told adds up to what it may see.
use Rattle.std.specs.Prelude.{◌≡◌, ◌⊎◌, ℕ, ◌==◌, if◌then◌else◌, ℤ, pos, Bool, true, false, List, [], ◌∷◌, Contains, filter, flat_map, Option, Some}
use Rattle.std.specs.Prelude.{None, is_some}
use Rattle.std.specs.List.{list_any}
use Rattle.serde_json.specs.Data.{Data}
use Rattle.iv_rows.specs.Cell.{Cell}
use Rattle.iv_rows.specs.Columns.{Column}
use Rattle.iv_rows.specs.Options.{if_some}
use Rattle.iv_zset.specs.Limits.{copies}
use Rattle.iv_zset.specs.Weights.{weight_of}
use Rattle.iv_access.specs.Access.{role_number}
use Rattle.iv_access.specs.Rights.{Name}
use Rattle.iv_machine.specs.Act.{done, unsubscribe}
use Rattle.iv_machine.specs.declared.Cause.{Cause}
use Rattle.iv_machine.specs.Machine.{difference, first_cause}
use Rattle.iv_machine.specs.State.{State, is_within_for, missing_for, rel_of, view_for}
use Rattle.iv_message.specs.Told.{Told, replied, opened, changed, over}
use Rattle.iv_clients.specs.Clients.{Client, followed_by, told}
use Rattle.iv_clients.specs.Feeds.{rel_read}
use Rattle.iv_gate.specs.Events.{Event, next}
use Rattle.iv_gate.specs.Gate.{Gate}
use Rattle.iv_gate.specs.Replies.{IsAskedBy, IsClient, IsReplyAt, told_by}

-- the rows with their weights that a text has for a client's own number
abbrev pub rows_told : ℕ → Told → List (List Cell × ℤ)
rows_told own (changed j rows) = if own == j then rows else []
rows_told own (over j rel why rows) = if own == j then rows else []
rows_told own _ = []

abbrev pub all_rows : ℕ → List Told → List (List Cell × ℤ)
all_rows own ts = flat_map (rows_told own) ts

-- ---- views

-- what the role sees of the relation, over exactly the rows that grants and policies let it see
abbrev pub seen : State → Name → Name → List (List Cell)
seen s role rel = view_for s (role_number s.frame.rights role) (rel_of s.frame.catalog rel)

-- why the role may not read the relation, if it may not: a privilege that it needs is missing, or its view is beyond the limits
abbrev pub hindrance : State → Name → Name → Option Cause
hindrance s role rel = let r = role_number s.frame.rights role in let n = rel_of s.frame.catalog rel in
    first_cause (is_some (missing_for s.frame r n)) (is_within_for s r n)

abbrev pub is_end_of : ℕ → Told → Bool
is_end_of own (over j rel why rows) = own == j
is_end_of own _ = false

-- it was told an end of its own number
abbrev pub has_ended : Client → ℕ → Bool
has_ended c own = list_any (is_end_of own) (told c)

-- what the client was told for its own number adds up to what its role sees now of the relation that it asked, which it may read
pub record ShowsView (g : Gate) (c : Client) (own : ℕ) (rel : Name) : Type 0 where
  pub asked : IsAskedBy c own rel
  pub follows : has_ended c own ≡ false
  pub reads : hindrance g.machine c.role rel ≡ None
  pub sum : (q : List Cell) → weight_of (all_rows own (told c)) q ≡ pos (copies q (seen g.machine c.role rel))

-- each own number that follows a feed shows the feed's relation
abbrev pub SeesViews : Gate → Type 0
SeesViews g = (m : ℕ) (c : Client) (own k : ℕ) → IsClient g m c → followed_by c.subs own ≡ Some k → ShowsView g c own (rel_read g.feeds k)

-- ---- ends

-- it closed its own number by a message that was done
abbrev pub IsClosed : Client → ℕ → Type 0
IsClosed c own = (place : ℕ) × (id : Option Data) × IsReplyAt c place id (unsubscribe own) (replied id done)

-- a number that follows nothing was closed by the client, or was told its end and adds up to nothing
abbrev pub IsOver : Client → ℕ → Type 0
IsOver c n = ((has_ended c n ≡ true) ⊎ IsClosed c n) × (has_ended c n ≡ true → (q : List Cell) → weight_of (all_rows n (told c)) q ≡ pos 0)

-- each number that was given follows something, or is over
abbrev pub AreOver : Gate → Type 0
AreOver g = (m : ℕ) (c : Client) (id : Option Data) (own : ℕ) (columns : List Column) → IsClient g m c → Contains (told c) (opened id own columns)
    → followed_by c.subs own ≡ None → IsOver c own

-- what a client closed it follows no more
abbrev pub StaysClosed : Gate → Type 0
StaysClosed g = (m : ℕ) (c : Client) (own : ℕ) → IsClient g m c → IsClosed c own → followed_by c.subs own ≡ None

-- ---- what is told

-- the text is of the client's own number
abbrev pub is_told_of : ℕ → Told → Bool
is_told_of own (changed j rows) = own == j
is_told_of own (over j rel why rows) = own == j
is_told_of own _ = false

-- what a client's own number shows
abbrev pub read_by : Gate → Client → ℕ → List (List Cell)
read_by g c own = if_some (followed_by c.subs own) [] (λ k. seen g.machine c.role (rel_read g.feeds k))

-- ---- the difference

-- the text of a change; none if nothing changes
abbrev pub change_told : ℕ → List (List Cell × ℤ) → List Told
change_told own [] = []
change_told own rows = changed own rows ∷ []

-- it is told one text, its end: the feed that it followed may be read no more, for the cause that is told, and all that it showed is taken back
pub record IsEnd (g : Gate) (e : Event) (c : Client) (own : ℕ) (ts : List Told) : Type 0 where
  pub feed : ℕ
  pub why : Cause
  pub followed : followed_by c.subs own ≡ Some feed
  pub cause : hindrance (next g e).machine c.role (rel_read g.feeds feed) ≡ Some why
  pub told : ts ≡ over own (rel_read g.feeds feed) why (difference (read_by g c own) []) ∷ []

-- a number that follows a feed after an event is told the difference of what it shows, in one text: who begins to follow is told all of it.
-- A number that follows none is told nothing, or its end
pub record TellsDifference (g : Gate) (e : Event) (c d : Client) (own : ℕ) : Type 0 where
  pub goes_on : is_some (followed_by d.subs own) ≡ true
      → filter (is_told_of own) (told_by c d) ≡ change_told own (difference (read_by g c own) (read_by (next g e) d own))
  pub stops : followed_by d.subs own ≡ None → (filter (is_told_of own) (told_by c d) ≡ []) ⊎ IsEnd g e c own (filter (is_told_of own) (told_by c d))

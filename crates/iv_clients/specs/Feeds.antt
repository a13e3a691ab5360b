-- Sessions by role, and the subscriptions that clients of a role share.
use Rattle.std.specs.Prelude.{ℕ, ◌==◌, ◌&&◌, not, Bool, false, List, [], bytes_eq, nat_lt, count_by, find, filter, Option, option_map}
use Rattle.std.specs.List.{list_any}
use Rattle.iv_access.specs.Rights.{Name}
use Rattle.iv_machine.specs.Act.{Line, reply, change, ended}
use Rattle.iv_machine.specs.Given.{count_to}
use Rattle.iv_rows.specs.Options.{if_some}
use Rattle.iv_clients.specs.Bounds.{most_feeds, most_seats}

-- a session of the machine, and its role
pub record Seat : Type 0 where
  pub session : ℕ
  pub role : Name

-- an open subscription of the machine, by its number, with its session, the session's role, and the relation
pub record Feed : Type 0 where
  pub number : ℕ
  pub session : ℕ
  pub role : Name
  pub rel : Name

abbrev pub is_of_role : Name → Seat → Bool
is_of_role role s = bytes_eq s.role role

-- the first session of the role
abbrev pub seat_of : List Seat → Name → Option ℕ
seat_of seats role = option_map (λ s. s.session) (find (is_of_role role) seats)

abbrev pub is_begun : List Seat → ℕ → Bool
is_begun seats n = list_any (λ s. n == s.session) seats

-- the first session that is not begun
abbrev pub next_seat : List Seat → Option ℕ
next_seat seats = find (λ n. not (is_begun seats n)) (count_to most_seats)

abbrev pub feed_of : List Feed → ℕ → Option Feed
feed_of feeds k = find (λ f. k == f.number) feeds

-- the role reads the relation by it
abbrev pub is_reading : Name → Name → Feed → Bool
is_reading role rel f = bytes_eq f.role role && bytes_eq f.rel rel

abbrev pub feed_for : List Feed → Name → Name → Option Feed
feed_for feeds role rel = find (is_reading role rel) feeds

-- how many the session has
abbrev pub load : List Feed → ℕ → ℕ
load feeds n = count_by (λ f. n == f.session) feeds

-- it is the role's, and has a place
abbrev pub has_room : List Feed → Name → Seat → Bool
has_room feeds role s = is_of_role role s && nat_lt (load feeds s.session) most_feeds

abbrev pub room_for : List Seat → List Feed → Name → Option ℕ
room_for seats feeds role = option_map (λ s. s.session) (find (has_room feeds role) seats)

-- the relation of a subscription; of none no name
abbrev pub rel_read : List Feed → ℕ → Name
rel_read feeds k = if_some (feed_of feeds k) [] (λ f. f.rel)

-- ---- ends

-- the line ends subscription k
abbrev pub is_end : ℕ → Line → Bool
is_end k (reply n r) = false
is_end k (change n j rows) = false
is_end k (ended n j why rows) = k == j

abbrev pub ends_in : List Line → ℕ → Bool
ends_in ls k = list_any (is_end k) ls

-- what is left after lines
abbrev pub feeds_left : List Line → List Feed → List Feed
feeds_left ls feeds = filter (λ f. not (ends_in ls f.number)) feeds

abbrev pub without_feed : ℕ → List Feed → List Feed
without_feed k feeds = filter (λ f. not (k == f.number)) feeds

abbrev pub without_seat : ℕ → List Seat → List Seat
without_seat n seats = filter (λ (s : Seat). not (n == s.session)) seats

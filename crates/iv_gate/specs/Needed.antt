-- The machine's sessions and subscriptions are the gateway's; nothing is read and no session goes on for nobody.
use Rattle.std.specs.Prelude.{◌≡◌, ◌≤◌, Bool, true, List, [], ◌∷◌, ◌++◌, Contains, count_by, filter, map, Some}
use Rattle.std.specs.List.{AllByRecursion}
use Rattle.iv_machine.specs.State.{rel_of, subscription_of}
use Rattle.iv_clients.specs.Clients.{has_role, is_followed}
use Rattle.iv_clients.specs.Feeds.{Feed, Seat, is_reading}
use Rattle.iv_gate.specs.Gate.{Gate}
use Rattle.iv_gate.specs.Replies.{ActsAs, AreFull}

-- the feed is open in the machine, in a session of its role, to its relation, and it is the only one by which its role reads that
pub record IsOpenFeed (g : Gate) (f : Feed) : Type 0 where
  pub opened : subscription_of g.machine.frame.subscriptions f.number
      ≡ Some (record { session = f.session; number = f.number; rel = rel_of g.machine.frame.catalog f.rel })
  pub seat : Contains g.seats (record { session = f.session; role = f.role })
  pub only : count_by (is_reading f.role f.rel) g.feeds ≤ 1

-- the gateway's seats are the machine's sessions, each acts in its role, and some client is of that; the gateway's feeds are open there;
-- what the machine reads some client follows
pub record KnowsMachine (g : Gate) : Type 0 where
  pub sessions : map (λ e. e.number) g.machine.frame.sessions ≡ map (λ s. s.session) g.seats
  pub seats : AllByRecursion (λ s. ActsAs g.machine s.session s.role) g.seats
  pub needed : AllByRecursion (λ s. has_role s.role g.clients ≡ true) g.seats
  pub feeds : AllByRecursion (IsOpenFeed g) g.feeds
  pub read : AllByRecursion (λ e. is_followed e.number g.clients ≡ true) g.machine.frame.subscriptions

-- the sessions after an event: some of those before, or one more, of a role that has none with a place
pub data AreSeatsAfter (g : Gate) : List Seat → Type 0 where
  left : (stays : Seat → Bool) → AreSeatsAfter g (filter stays g.seats)
  begun : (s : Seat) → AreFull g.seats g.feeds s.role → AreSeatsAfter g (g.seats ++ s ∷ [])

-- What is kept after a session, or a subscription alone, is closed, and after circuits are dropped.
use Rattle.std.specs.Prelude.{ℕ, ◌==◌, not, List, filter}
use Rattle.iv_machine.specs.State.{Subscription}
use Rattle.iv_store.specs.Store.{Store, frame_of, is_read}

-- without the session of the number and its subscriptions
abbrev pub without_session : ℕ → Store → Store
without_session n e = record e {
  sessions = filter (λ s. not (n == s.number)) e.sessions;
  subscriptions = filter (λ s. not (n == s.session)) e.subscriptions;
}

-- without the subscription of the number
abbrev pub without_subscription : ℕ → Store → Store
without_subscription k e = record e { subscriptions = filter (λ s. not (k == s.number)) e.subscriptions }

-- without the circuits that no open subscription reads
abbrev pub without_unread : Store → Store
without_unread e = record e { circuits = filter (is_read (frame_of e)) e.circuits }

-- with these open subscriptions alone, and the circuits that they read
abbrev pub with_those : List Subscription → Store → Store
with_those ss e = without_unread (record e { subscriptions = ss })

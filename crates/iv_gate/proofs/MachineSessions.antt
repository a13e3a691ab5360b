-- The gateway's sessions and feeds are those of the machine, and a role reads a relation by one feed.
use Rattle.std.proofs.Common.{◌≡◌, ℕ, suc, ◌≤◌, ◌||◌, Bool, true, false, cond, List, [], ◌∷◌, map, Some, refl, ap, ◌∙◌, sym, subst, arith}
use Rattle.std.specs.Prelude.{◌==◌, Contains}
use Rattle.std.specs.List.{AllByRecursion, list_any}
use Rattle.std.proofs.lemmas.Bool.{false≢true, eqb-true}
use Rattle.std.proofs.lemmas.List.Sums.{length-filter}
use Rattle.iv_access.specs.Rights.{Name}
use Rattle.iv_machine.specs.State.{Session, session_of}
use Rattle.iv_clients.specs.Feeds.{Feed, Seat, is_reading}
use Rattle.iv_clients.proofs.Slots.{not_None-Some}
use Rattle.iv_gate.specs.Gate.{Gate}
use Rattle.iv_gate.specs.Needed.{IsOpenFeed, KnowsMachine}
use Rattle.iv_gate.specs.Runs.{Runs}
use Rattle.iv_gate.proofs.FollowedFeeds.{ReadsForClients-Runs}
use Rattle.iv_gate.proofs.SessionRoom.{IsKept}
use Rattle.iv_gate.proofs.SoundRuns.{Starts, IsKept-Runs, IsSoundGate-Runs}
use Rattle.iv_gate.proofs.SessionRoles.{AreNeeded-Runs}
use Rattle.iv_gate.proofs.SoundSteps.{AllByRecursion-map}
use Rattle.iv_gate.proofs.SeatsAndFeeds.{IsAlone-ActsAs}
use Rattle.iv_gate.proofs.SoundCommands.{Adds, IsFeed, IsSoundGate, Sounds}

-- a session that is open is among the numbers of those that are
session_there : (n : ℕ) (es : List Session) (x : Session) → session_of es n ≡ Some x → list_any (λ i. n == i) (map (λ (e : Session). e.number) es) ≡ true
session_there n [] x h = absurd (not_None-Some x (sym h))
session_there n (e ∷ es) x h = by (n == e.number) h (session_there n es x)
  where
    by : (b : Bool) → cond b (Some e) (session_of es n) ≡ Some x → (session_of es n ≡ Some x → list_any (λ i. n == i) (map (λ (y : Session). y.number) es) ≡ true)
        → (b || list_any (λ i. n == i) (map (λ (y : Session). y.number) es)) ≡ true
    by true k more = refl
    by false k more = more k

-- a seat of the session is of the role, where each seat of the session is
seat_there : (n : ℕ) (role : Name) (xs : List Seat) → list_any (λ i. n == i) (map (λ (x : Seat). x.session) xs) ≡ true
    → AllByRecursion (λ (x : Seat). (n == x.session) ≡ true → x.role ≡ role) xs → Contains xs (record { session = n; role = role })
seat_there n role [] h a = absurd (false≢true h)
seat_there n role (x ∷ xs) h a = by (n == x.session) refl h (λ k. seat_there n role xs k a.1)
  where
    by : (b : Bool) → (n == x.session) ≡ b → (b || list_any (λ i. n == i) (map (λ (y : Seat). y.session) xs)) ≡ true
        → (list_any (λ i. n == i) (map (λ (y : Seat). y.session) xs) ≡ true → Contains xs (record { session = n; role = role })) → Contains (x ∷ xs) (record { session = n; role = role })
    by true e k more = (0, omega arith, λ i. record { session = sym (eqb-true n x.session e) i; role = a.0 e i })
    by false e k more = let c = more k in let l = c.1 in (suc c.0, omega (arith, l), c.2)

opened_feed : (g : Gate) → IsSoundGate g → IsKept g → (f : Feed) → IsFeed g.machine f → IsOpenFeed g f
opened_feed g b k f a = record {
  opened = a.found ∙ ap (λ r. Some (record { session = f.session; number = f.number; rel = r })) a.there;
  seat = seat_there f.session f.role g.seats
      (ap (list_any (λ i. f.session == i)) (sym k.shared.sessions) ∙ session_there f.session g.machine.frame.sessions _ a.acts.session)
      (IsAlone-ActsAs g.machine (record { session = f.session; role = f.role }) g.seats a.acts b.seats);
  only = subst (λ n. n ≤ 1) (length-filter (is_reading f.role f.rel) g.feeds) (k.few.once f.role f.rel);
}

pub KnowsMachine-Runs : Adds → Starts → Sounds → (cap : ℕ) (g : Gate) → Runs cap g → KnowsMachine g
KnowsMachine-Runs adds starts sounds cap g r =
    let b = IsSoundGate-Runs adds starts sounds cap g r in let k = IsKept-Runs adds starts sounds cap g r in record {
      sessions = k.shared.sessions;
      seats = b.seats;
      needed = AreNeeded-Runs adds starts sounds cap g r;
      feeds = AllByRecursion-map {P = IsFeed g.machine} {Q = IsOpenFeed g} (λ f a. opened_feed g b k f a) g.feeds b.feeds;
      read = (ReadsForClients-Runs adds starts sounds cap g r).subscriptions;
    }

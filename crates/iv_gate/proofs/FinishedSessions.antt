-- A session that is not needed is finished: what is read in others goes on.
use Rattle.std.proofs.Common.{◌≡◌, ◌≢◌, ℕ, Bool, true, false, cond, ◌||◌, List, [], ◌∷◌, map, Option, Some, None, refl, ap, ◌∙◌, sym, eq-eqb}
use Rattle.std.specs.Prelude.{◌==◌, filter}
use Rattle.std.specs.List.{AllByRecursion, list_any}
use Rattle.std.proofs.lemmas.Bool.{false≢true, eqb-true}
use Rattle.iv_machine.specs.Act.{finish, Command, Refusal}
use Rattle.iv_machine.specs.Machine.{step}
use Rattle.iv_machine.specs.Held.{closed_in}
use Rattle.iv_machine.specs.Reached.{AreUnique}
use Rattle.iv_machine.specs.Refusing.{refusal}
use Rattle.iv_machine.specs.State.{State, Subscription, subscription_of}
use Rattle.iv_clients.specs.Clients.{has_role}
use Rattle.iv_clients.specs.Feeds.{Feed, Seat, ends_in, without_seat}
use Rattle.iv_clients.proofs.Slots.{same-Some}
use Rattle.iv_gate.specs.Gate.{Gate, all_rested, in_session, is_needed, ran, rested}
use Rattle.iv_gate.specs.Replies.{ActsAs}
use Rattle.iv_gate.proofs.MachineLists.{true-find}
use Rattle.iv_gate.proofs.SoundSteps.{AllByRecursion-map, AllByRecursion-feed_of}
use Rattle.iv_gate.proofs.SoundCommands.{Adds, IsFeed, IsSoundGate, Sounds, ActsAs-step_not_finish, IsFeed-step_not_finish, AllByRecursion-filter_not, IsSoundGate-IsReady}
use Rattle.iv_gate.proofs.NumberSums.{AllByRecursion-zip, or-both_false}

-- ---- the machine

-- another session goes on to act in its role
other_not : (n m : ℕ) → (n == m) ≡ false → in_session n finish ≢ record { session = m; act = finish }
other_not n m h e = false≢true (sym h ∙ eq-eqb n m (ap (λ (x : Command). x.session) e))

none_closed : (n j : ℕ) (es : List Subscription) → list_any (λ (x : Subscription). j == x.number) es ≡ false → list_any (λ i. j == i) (map (λ (x : Subscription). x.number) (filter (λ (x : Subscription). n == x.session) es)) ≡ false
none_closed n j [] h = refl
none_closed n j (e ∷ es) h = let p = or-both_false (j == e.number) (list_any (λ (x : Subscription). j == x.number) es) h in by (n == e.session) p.0 (none_closed n j es p.1)
  where
    by : (b : Bool) → (j == e.number) ≡ false → list_any (λ i. j == i) (map (λ (x : Subscription). x.number) (filter (λ (x : Subscription). n == x.session) es)) ≡ false
        → list_any (λ i. j == i) (map (λ (x : Subscription). x.number) (cond b (e ∷ filter (λ (x : Subscription). n == x.session) es) (filter (λ (x : Subscription). n == x.session) es))) ≡ false
    by true a more = (λ i. a i || more i)
    by false a more = more

others_closed : (n j : ℕ) (y : Subscription) (es : List Subscription) → AreUnique es → subscription_of es j ≡ Some y → (n == y.session) ≡ false
    → list_any (λ i. j == i) (map (λ (x : Subscription). x.number) (filter (λ (x : Subscription). n == x.session) es)) ≡ false
others_closed n j y [] u h e = refl
others_closed n j y (x ∷ xs) u h e = by (j == x.number) refl h (n == x.session) refl (λ t. others_closed n j y xs u.1 t e)
  where
    by : (b : Bool) → (j == x.number) ≡ b → cond b (Some x) (subscription_of xs j) ≡ Some y → (d : Bool) → (n == x.session) ≡ d
        → (subscription_of xs j ≡ Some y → list_any (λ i. j == i) (map (λ (z : Subscription). z.number) (filter (λ (z : Subscription). n == z.session) xs)) ≡ false)
        → list_any (λ i. j == i) (map (λ (z : Subscription). z.number) (cond d (x ∷ filter (λ (z : Subscription). n == z.session) xs) (filter (λ (z : Subscription). n == z.session) xs))) ≡ false
    by true q t true w more = absurd (false≢true (sym e ∙ (ap (λ (z : Subscription). n == z.session) (sym (same-Some x y t)) ∙ w)))
    by true q t false w more = none_closed n j xs (ap (λ i. list_any (λ (z : Subscription). i == z.number) xs) (eqb-true j x.number q) ∙ u.0)
    by false q t true w more = (λ i. q i || more t i)
    by false q t false w more = more t

spared_by : (s : State) (n j : ℕ) (y : Subscription) (o : Option Refusal) → AreUnique s.frame.subscriptions → subscription_of s.frame.subscriptions j ≡ Some y → (n == y.session) ≡ false
    → list_any (λ i. j == i) (closed_in s (in_session n finish) o) ≡ false
spared_by s n j y (Some r) u h e = refl
spared_by s n j y None u h e = others_closed n j y s.frame.subscriptions u h e

-- ---- the gateway

none_read : (n : ℕ) (fs : List Feed) → list_any (λ (f : Feed). n == f.session) fs ≡ false → AllByRecursion (λ (f : Feed). (n == f.session) ≡ false) fs
none_read n [] h = tt
none_read n (f ∷ fs) h = let p = or-both_false (n == f.session) (list_any (λ (x : Feed). n == x.session) fs) h in (p.0, none_read n fs p.1)

seats_left : Sounds → (s : State) (n : ℕ) (xs : List Seat) → AllByRecursion (λ (x : Seat). ActsAs s x.session x.role) xs → AllByRecursion (λ (x : Seat). ActsAs (step s (in_session n finish)).state x.session x.role) (without_seat n xs)
seats_left sounds s n xs a =
    AllByRecursion-filter_not (λ (x : Seat). ActsAs (step s (in_session n finish)).state x.session x.role) (λ (x : Seat). n == x.session) xs
    (AllByRecursion-map {P = λ (x : Seat). ActsAs s x.session x.role} {Q = λ (x : Seat). (n == x.session) ≡ false → ActsAs (step s (in_session n finish)).state x.session x.role}
    (λ x y e. ActsAs-step_not_finish sounds s (in_session n finish) x.session x.role (other_not n x.session e) y) xs a)

pub IsSoundGate-rested : Adds → Sounds → (g : Gate) (s : Seat) → IsSoundGate g → IsSoundGate (rested g s)
IsSoundGate-rested adds sounds g s b = by (is_needed g s) refl
  where
    n : ℕ
    n = s.session

    by : (t : Bool) → (has_role s.role g.clients || list_any (λ (f : Feed). s.session == f.session) g.feeds) ≡ t → IsSoundGate (cond t g (ran (record g { seats = without_seat s.session g.seats }) (in_session s.session finish)))
    by true h = b
    by false h =
        let read = none_read s.session g.feeds (or-both_false (has_role s.role g.clients) (list_any (λ (f : Feed). s.session == f.session) g.feeds) h).1 in
        IsSoundGate-IsReady adds sounds (record g { seats = without_seat s.session g.seats }) (in_session s.session finish) (record {
          state = b.state;
          seats = seats_left sounds g.machine s.session g.seats b.seats;
          feeds = AllByRecursion-zip {P = IsFeed g.machine} {Q = λ (f : Feed). (s.session == f.session) ≡ false} {R = λ (f : Feed). ends_in (step g.machine (in_session s.session finish)).lines f.number ≡ false → IsFeed (step g.machine (in_session s.session finish)).state f}
              (λ f y e i. IsFeed-step_not_finish sounds g.machine (in_session s.session finish) f b.state.numbers (other_not s.session f.session e)
              (spared_by g.machine s.session f.number (record { session = f.session; number = f.number; rel = y.rel }) (refusal g.machine s.session finish) b.state.numbers.unique y.found e) i y) g.feeds b.feeds read;
          spared = λ j f e.
              let y = AllByRecursion-feed_of (IsFeed g.machine) g.feeds j f b.feeds e in let d = AllByRecursion-feed_of (λ (x : Feed). (s.session == x.session) ≡ false) g.feeds j f read e in
              spared_by g.machine s.session j (record { session = f.session; number = f.number; rel = y.rel }) (refusal g.machine s.session finish) b.state.numbers.unique
              (ap (subscription_of g.machine.frame.subscriptions) (eqb-true j f.number (true-find (λ (x : Feed). j == x.number) g.feeds f e)) ∙ y.found) d;
          clients = b.clients;
        })

pub IsSoundGate-all_rested : Adds → Sounds → (g : Gate) (ss : List Seat) → IsSoundGate g → IsSoundGate (all_rested g ss)
IsSoundGate-all_rested adds sounds g [] b = b
IsSoundGate-all_rested adds sounds g (s ∷ ss) b = IsSoundGate-all_rested adds sounds (rested g s) ss (IsSoundGate-rested adds sounds g s b)

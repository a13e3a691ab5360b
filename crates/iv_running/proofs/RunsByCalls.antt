-- A call of a desk leads from a run to a run.
use Rattle.std.specs.Prelude.{slice_set}
use Rattle.std.proofs.Common.{◌≡◌, ℕ, Bool, true, false, cond, List, [], Some, refl, ap, ◌∙◌, sym}
use Rattle.std.proofs.lemmas.Bool.{false≢true}
use Rattle.iv_clients.specs.Clients.{Shown, is_free}
use Rattle.iv_clients.specs.Tokens.{Token}
use Rattle.iv_gate.specs.Events.{Event, IsWell, failed, forgave, led, next}
use Rattle.iv_gate.specs.Gate.{Gate, Head}
use Rattle.iv_gate.specs.Laws.{LeavesMarks, marked}
use Rattle.iv_gate.specs.Restoring.{Restores, gate_at_start}
use Rattle.iv_gate.specs.Runs.{Runs}
use Rattle.iv_gate.specs.Runs as run
use Rattle.iv_gateway.specs.Replays as is
use Rattle.iv_journal.specs.Journal.{Line}
use Rattle.iv_peer.specs.Socket.{fresh, passing}
use Rattle.iv_desk.specs.Front.{Front, FrontRuns, GoesOn, at_socket, begins, begun, by_event, fails, forgives, front_at_start, leads, sends, socket_at, stays}
use Rattle.iv_desk.specs.Front.{then_closes, then_happens}
use Rattle.iv_desk.specs.Desks.{IsCalledOut, IsDesk, IsHeard, IsHeardBy, IsRestored, at_each}
use Rattle.iv_desk.specs.declared.desk.Desk.{Desk}
use Rattle.iv_desk.specs.declared.place.Hearing.{Hearing}
use Rattle.iv_running.specs.Running.{HasCome, IsBack, IsNew, IsRunning, Leads, LeadsBy, PassesTime, Serves, anything}

-- ---- as an order

pub GoesOn-trans : (may : Front → Event → Bool) (b d e : Front) → GoesOn may b d → GoesOn may d e → GoesOn may b e
GoesOn-trans may b d e g stays = g
GoesOn-trans may b d e g (then_happens c f k a h is) = then_happens c f (GoesOn-trans may b d c g k) a h is
GoesOn-trans may b d e g (then_closes c m code words k a t) = then_closes c m code words (GoesOn-trans may b d c g k) a t

-- what comes of a desk that runs, runs
pub IsRunning-Leads : ((may : Front → Event → Bool) (cap : ℕ) (d e : Front) → FrontRuns cap d → GoesOn may d e → FrontRuns cap e)
    → (may : Front → Event → Bool) (cap : ℕ) (x y : Desk) → IsRunning cap x → LeadsBy may x y → IsRunning cap y
IsRunning-Leads law may cap x y r h =
    let w = h r.front (record { front = r.front; goes_on = stays; stands = r.stands }) in
    record { front = w.front; runs = law may cap r.front w.front r.runs w.goes_on; stands = w.stands }

-- ---- one step

-- of each front that stands behind it
Leads-each : (may : Front → Event → Bool) (x y : Desk) → ((d : Front) → IsDesk d x → HasCome may d y) → LeadsBy may x y
Leads-each may x y h = λ d w.
    let v = h w.front w.stands in
    record { front = v.front; goes_on = GoesOn-trans may d w.front v.front w.goes_on v.goes_on; stands = v.stands }

step_on : (may : Front → Event → Bool) (x y : Desk) (f : Front → Front) → ((d : Front) → d.gate.dead ≡ true → IsDesk d x → IsDesk d y)
    → ((d : Front) → d.gate.dead ≡ false → GoesOn may d (f d)) → ((d : Front) → IsDesk d x → d.gate.dead ≡ false → IsDesk (f d) y) → LeadsBy may x y
step_on may x y f dead goes h = Leads-each may x y (λ d s. by d s d.gate.dead refl)
  where
    by : (d : Front) → IsDesk d x → (b : Bool) → d.gate.dead ≡ b → HasCome may d y
    by d s true e = record { front = d; goes_on = stays; stands = dead d e s }
    by d s false e = record { front = f d; goes_on = goes d e; stands = h d s e }

-- nothing but that it is dead is known of a dead one
still_dead : (d e : Front) (x y : Desk) → d.gate.dead ≡ true → e.gate.dead ≡ d.gate.dead → IsDesk e y → IsDesk d y
still_dead d e x y h same s = record { dead = s.dead ∙ same; alive = λ a. absurd (false≢true (sym a ∙ h)) }

-- an event that fails nowhere, and a dead one stays dead
Leads-event : (may : Front → Event → Bool) (x y : Desk) (e : Event) → ((g : Gate) (e : Event) → g.dead ≡ true → next g e ≡ g) → ((d : Front) → d.gate.dead ≡ false → GoesOn may d (by_event e d))
    → ((d : Front) → IsDesk d x → IsDesk (by_event e d) y) → LeadsBy may x y
Leads-event may x y e rests goes h = step_on may x y (by_event e)
    (λ d k s. still_dead d (by_event e d) x y k (ap (λ (g : Gate). g.dead) (rests d.gate e k)) (h d s)) goes (λ d s k. h d s)

pub Serves-failed : (x y : Desk) → ((g : Gate) (e : Event) → g.dead ≡ true → next g e ≡ g) → ((d : Front) → IsDesk d x → IsDesk (by_event failed d) y) → Serves x y
Serves-failed x y rests h = λ may. Leads-event may x y failed rests (λ d a. then_happens d (by_event failed d) stays a fails refl) h

pub Leads-failed : (x y : Desk) → ((g : Gate) (e : Event) → g.dead ≡ true → next g e ≡ g) → ((d : Front) → IsDesk d x → IsDesk (by_event failed d) y) → Leads x y
Leads-failed x y rests h = Serves-failed x y rests h anything

-- names are forgiven
pub PassesTime-forgave : (x y : Desk) → ((g : Gate) (e : Event) → g.dead ≡ true → next g e ≡ g) → ((d : Front) → IsDesk d x → IsDesk (by_event forgave d) y) → PassesTime x y
PassesTime-forgave x y rests h = λ may is. Leads-event may x y forgave rests (λ d a. then_happens d (by_event forgave d) stays a forgives (is d forgave refl)) h

-- the log is led
pub Leads-led : (x y : Desk) → ((g : Gate) (e : Event) → g.dead ≡ true → next g e ≡ g) → ((d : Front) → IsDesk d x → IsDesk (by_event led d) y) → Leads x y
Leads-led x y rests h = Leads-event anything x y led rests (λ d a. then_happens d (by_event led d) stays a leads refl) h

-- where a dead one would have failed
pub LeadsBy-done : (may : Front → Event → Bool) (x y : Desk) (f : Front → Front) → ((d : Front) → IsDesk d x → d.gate.dead ≡ true → ⊥)
    → ((d : Front) → d.gate.dead ≡ false → GoesOn may d (f d)) → ((d : Front) → IsDesk d x → IsDesk (f d) y) → LeadsBy may x y
LeadsBy-done may x y f lives goes h = step_on may x y f (λ d e s. absurd (lives d s e)) goes (λ d s e. h d s)

pub Serves-done : (x y : Desk) (f : Front → Front) → ((d : Front) → IsDesk d x → d.gate.dead ≡ true → ⊥) → ((may : Front → Event → Bool) (d : Front) → d.gate.dead ≡ false → GoesOn may d (f d))
    → ((d : Front) → IsDesk d x → IsDesk (f d) y) → Serves x y
Serves-done x y f lives goes h = λ may. LeadsBy-done may x y f lives (goes may) h

pub Serves-passed : (m n : ℕ) (x y : Desk) → ((d : Front) → IsDesk d x → IsDesk (at_socket m (passing n) d) y) → Serves x y
Serves-passed m n x y h = λ may. step_on may x y (at_socket m (passing n)) (λ d e s. still_dead d (at_socket m (passing n) d) x y e refl (h d s))
    (λ d a. then_happens d (at_socket m (passing n) d) stays a (sends m n) refl) (λ d s e. h d s)

begun_dead : (d : Front) (m : ℕ) → (begun m d).gate.dead ≡ d.gate.dead
begun_dead d m = by (is_free m d.sockets)
  where
    by : (b : Bool) → (cond b (record d { sockets = slice_set d.sockets m (Some fresh) }) d).gate.dead ≡ d.gate.dead
    by true = refl
    by false = refl

pub Serves-begun : (m : ℕ) (x y : Desk) → ((d : Front) → IsDesk d x → IsDesk (begun m d) y) → Serves x y
Serves-begun m x y h = λ may. step_on may x y (begun m) (λ d e s. still_dead d (begun m d) x y e (begun_dead d m) (h d s))
    (λ d a. then_happens d (begun m d) stays a (begins m) refl) (λ d s e. h d s)

-- ---- more than one

-- a step, and then all that a number says is heard
pub Serves-heard : ((may : Front → Event → Bool) (m : ℕ) (d e : Front) (hearing : Hearing) → d.gate.dead ≡ false → IsHeardBy d m (socket_at d m) hearing e → GoesOn may d e)
    → (m : ℕ) (hearing : Hearing) (x y : Desk) (f : Front → Front) → ((d : Front) → IsDesk d x → d.gate.dead ≡ true → ⊥)
    → ((may : Front → Event → Bool) (d : Front) → d.gate.dead ≡ false → GoesOn may d (f d)) → ((d : Front) → (f d).gate.dead ≡ d.gate.dead)
    → ((d : Front) → IsDesk d x → IsHeard (f d) m hearing y) → Serves x y
Serves-heard law m hearing x y f lives goes same h = λ may. Leads-each may x y (λ d s. by may d s d.gate.dead refl)
  where
    by : (may : Front → Event → Bool) (d : Front) → IsDesk d x → (b : Bool) → d.gate.dead ≡ b → HasCome may d y
    by may d s true e = absurd (lives d s e)
    by may d s false e =
        let w = h d s in
        record { front = w.now; goes_on = GoesOn-trans may d (f d) w.now (goes may d e) (law may m (f d) w.now hearing (same d ∙ e) w.heard); stands = w.stands }

-- an event, and then a step at each of some numbers
pub Leads-called : (may : Front → Event → Bool) → ((g : Gate) (e : Event) → IsWell e → g.dead ≡ false → LeavesMarks g e)
    → (f : ℕ → Front → Front) → ((may : Front → Event → Bool) (ms : List ℕ) (d : Front) → d.gate.dead ≡ false → GoesOn may d (at_each f ms d))
    → (e : Event) → IsWell e → ((g : Gate) → (marked g e).dead ≡ g.dead)
    → (x y : Desk) → ((d : Front) → IsDesk d x → d.gate.dead ≡ false → GoesOn may d (by_event e d))
    → ((d : Front) → IsDesk d x → d.gate.dead ≡ true → ⊥) → ((d : Front) → IsDesk d x → IsCalledOut f (by_event e d) y) → LeadsBy may x y
Leads-called may law f calls e v same x y goes lives h = Leads-each may x y (λ d s. by d s d.gate.dead refl)
  where
    by : (d : Front) → IsDesk d x → (b : Bool) → d.gate.dead ≡ b → HasCome may d y
    by d s true k = absurd (lives d s k)
    by d s false k =
        let w = h d s in
        record {
          front = at_each f w.numbers (by_event e d);
          goes_on = GoesOn-trans may d (by_event e d) (at_each f w.numbers (by_event e d)) (goes d s k)
              (calls may w.numbers (by_event e d) (ap (λ (z : Gate). z.dead) (law d.gate e v k).marks ∙ (same d.gate ∙ k)));
          stands = w.stands;
        }

-- ---- it begins

pub IsBack-IsRestored : (cap : ℕ) (tokens : List Token) (head : Head) (journal : List Line) (x y : Desk) → IsNew cap tokens head x
    → ((d : Front) → is.IsNew d.gate → IsDesk d x → IsRestored d journal y) → IsBack cap tokens head journal y
IsBack-IsRestored cap tokens head journal x y new h = record {
  most = new.most;
  places = new.places;
  back = h (front_at_start (gate_at_start cap tokens new.most head []) new.places) (record { entries = refl; kept = refl; forgiven = refl }) new.stands;
}

pub IsRunning-IsBack : ((cap most places : ℕ) (tokens : List Token) (head : Head) (sent : List Shown) (journal : List Line) (g : Gate) → Restores (gate_at_start cap tokens most head sent) journal g
    → Runs cap g → FrontRuns cap (front_at_start g places))
    → (cap : ℕ) (tokens : List Token) (head : Head) (journal : List Line) (x : Desk) → IsBack cap tokens head journal x → IsRunning cap x
IsRunning-IsBack law cap tokens head journal x h =
    let w = h.back in
    record {
      front = front_at_start w.now h.places;
      runs = law cap h.most h.places tokens head [] journal w.now w.restores (run.begins tokens h.most head journal w.now w.restores);
      stands = w.stands;
    }

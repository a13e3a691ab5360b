-- What stands behind a desk that is alive, or dead.
use Rattle.std.proofs.Common.{◌≡◌, ℕ, ◌||◌, Bool, true, false, cond, List, [], set, replicate, Option, Some, None, option_map, refl, ap, ◌∙◌, sym, subst}
use Rattle.std.proofs.lemmas.Bool.{false≢true}
use Rattle.iv_rows.specs.Options.{if_some}
use Rattle.iv_clients.specs.Clients.{client_at, is_free}
use Rattle.iv_gate.specs.Events.{Event, IsWell, failed, next}
use Rattle.iv_gate.specs.Gate.{Gate}
use Rattle.iv_gate.specs.Laws.{marked}
use Rattle.iv_gate.specs.Restoring.{Restores}
use Rattle.iv_gateway.specs.Views.{IsGate}
use Rattle.iv_journal.specs.Journal.{Line}
use Rattle.iv_gateway.specs.declared.gateway.Gateway.{Gateway}
use Rattle.iv_peer.specs.Socket.{Socket, fresh}
use Rattle.iv_peer.specs.Lives as life
use Rattle.iv_desk.specs.Front.{Front, begun, by_event, front_at_start, socket_at}
use Rattle.iv_desk.specs.Desks.{IsBehind, IsCalledBehind, IsCalledOut, IsDesk, IsHeard, IsHeardBehind, at_each, is_over_at, pending_at, place_of}
use Rattle.iv_desk.specs.declared.desk.Desk.{Desk}
use Rattle.iv_desk.specs.declared.place.Place.{Place}
use Rattle.iv_desk.specs.declared.place.Hearing.{Hearing}
use Rattle.iv_desk.proofs.Slots.{client_at-replicate, not_Some-None}
use Rattle.iv_desk.proofs.OneNumber.{LeavesMarks, dead-next}
use Rattle.iv_desk.proofs.StatesAfterStep.{IsBehind-set, is_free-places_of, places_of-replicate, client_at-places_of}

-- ---- dead, and alive

failed_dead : (g : Gate) → (next g failed).dead ≡ true
failed_dead g = by g.dead refl
  where
    by : (b : Bool) → g.dead ≡ b → (cond b g (record g { dead = true })).dead ≡ true
    by true e = e
    by false e = refl

pub failed_desk : (d : Front) (x : Desk) → x.dead ≡ true → IsDesk (by_event failed d) x
failed_desk d x e = record { dead = e ∙ sym (failed_dead d.gate); alive = λ h. absurd (false≢true (sym h ∙ failed_dead d.gate)) }

pub IsDesk-IsBehind : (d : Front) (x : Desk) → IsBehind d x.gateway x.places.items → x.dead ≡ false → IsDesk d x
IsDesk-IsBehind d x b e = record { dead = e ∙ sym b.alive; alive = λ h. b }

pub IsBehind-IsDesk : (d : Front) (x : Desk) → IsDesk d x → x.dead ≡ false → IsBehind d x.gateway x.places.items
IsBehind-IsDesk d x b e = b.alive (sym b.dead ∙ e)

-- ---- it begins, and goes on

pub IsBehind-front_at_start : (g : Gate) (most : ℕ) (x : Gateway) (slots : List (Option Place)) → IsGate g x → g.dead ≡ false → slots ≡ replicate most None
    → IsBehind (front_at_start g most) x slots
IsBehind-front_at_start g most x slots b a e =
    record { alive = a; gate = b; places = e ∙ places_of-replicate most; lives = λ m s h. absurd (not_Some-None s (sym (client_at-replicate most m) ∙ h)) }

pub IsBehind-by_event : LeavesMarks → (d : Front) (e : Event) → IsWell e → (v x : Gateway) (slots : List (Option Place)) → IsBehind d v slots → IsGate (next d.gate e) x
    → (marked d.gate e).dead ≡ d.gate.dead
    → IsBehind (by_event e d) x slots
IsBehind-by_event k d e w v x slots b is same =
    record { alive = dead-next k d.gate e w b.alive ∙ (same ∙ b.alive); gate = is; places = b.places; lives = b.lives }

-- its gateway goes on by an event
pub IsDesk-by_event : LeavesMarks → (e : Event) → IsWell e → ((g : Gate) → (marked g e).dead ≡ g.dead) → (v : Gateway) (x : Desk) → x.dead ≡ false
    → ((g : Gate) → IsGate g x.gateway → IsGate (next g e) v) → (d : Front) → IsDesk d x → IsDesk (by_event e d) (record x { gateway = v })
IsDesk-by_event k e w same v x live is d b =
    let a = IsBehind-IsDesk d x b live in
    IsDesk-IsBehind (by_event e d) (record x { gateway = v }) (IsBehind-by_event k d e w x.gateway v x.places.items a (is d.gate a.gate) (same d.gate)) live

-- nothing happens to a dead one
pub IsDesk-rests : ((g : Gate) (e : Event) → g.dead ≡ true → next g e ≡ g) → (e : Event) (d : Front) (x : Desk) → IsDesk d x → x.dead ≡ true → IsDesk (by_event e d) x
IsDesk-rests rests e d x b h = subst (λ (g : Gate). IsDesk (record d { gate = g }) x) (sym (rests d.gate e (sym b.dead ∙ h))) b

pub IsBehind-Restores : (d : Front) (journal : List Line) (now : Gate) (v x : Gateway) (slots : List (Option Place)) → IsBehind d v slots
    → Restores d.gate journal now → IsGate now x
    → IsBehind (record d { gate = now }) x slots
IsBehind-Restores d journal now v x slots b r is = record { alive = ap (λ (g : Gate). g.dead) r.leads.gate ∙ b.alive; gate = is; places = b.places; lives = b.lives }

pub IsBehind-begun : (d : Front) (m : ℕ) (x : Gateway) (slots : List (Option Place)) (p : Place) → IsBehind d x slots → is_free m slots ≡ true
    → p ≡ place_of fresh → IsBehind (begun m d) x (set slots m (Some p))
IsBehind-begun d m x slots p b free e =
    subst (λ z. IsBehind (cond z (record d { sockets = set d.sockets m (Some fresh) }) d) x (set slots m (Some p)))
    (sym (sym (is_free-places_of m d.sockets) ∙ (ap (is_free m) (sym b.places) ∙ free)))
    (subst (λ q. IsBehind (record d { sockets = set d.sockets m (Some fresh) }) x (set slots m (Some q))) (sym e)
    (IsBehind-set (Some fresh) ([], [], life.begins) d m d.gate x slots b x b.gate b.alive))

pub begun_same : (d : Front) (m : ℕ) (x : Gateway) (slots : List (Option Place)) → IsBehind d x slots → is_free m slots ≡ false → IsBehind (begun m d) x slots
begun_same d m x slots b free =
    subst (λ z. IsBehind (cond z (record d { sockets = set d.sockets m (Some fresh) }) d) x slots)
    (sym (sym (is_free-places_of m d.sockets) ∙ (ap (is_free m) (sym b.places) ∙ free))) b

pub is_free-IsBehind : (d : Front) (m : ℕ) (x : Gateway) (slots : List (Option Place)) → IsBehind d x slots → is_free m slots ≡ is_free m d.sockets
is_free-IsBehind d m x slots b = ap (is_free m) b.places ∙ is_free-places_of m d.sockets

pub begun_dead : (d : Front) (m : ℕ) → (begun m d).gate.dead ≡ d.gate.dead
begun_dead d m = by (is_free m d.sockets)
  where
    by : (b : Bool) → (cond b (record d { sockets = set d.sockets m (Some fresh) }) d).gate.dead ≡ d.gate.dead
    by true = refl
    by false = refl

-- ---- it hears, and calls

pub IsHeard-IsHeardBehind : (d : Front) (m : ℕ) (hearing : Hearing) (x : Desk) → IsHeardBehind d m hearing x.gateway x.places.items → x.dead ≡ false
    → IsHeard d m hearing x
IsHeard-IsHeardBehind d m hearing x w e = record { now = w.now; heard = w.heard; stands = IsDesk-IsBehind w.now x w.stands e }

pub IsCalledOut-IsCalledBehind : (f : ℕ → Front → Front) (d : Front) (x : Desk) → IsCalledBehind f d x.gateway x.places.items → x.dead ≡ false
    → IsCalledOut f d x
IsCalledOut-IsCalledBehind f d x w e = record { numbers = w.numbers; all = w.all; stands = IsDesk-IsBehind (at_each f w.numbers d) x w.stands e }

-- ---- what is read of it

pub dead_pending : (d : Front) (m : ℕ) → d.gate.dead ≡ true → [] ≡ pending_at d m
dead_pending d m e = ap (λ b. cond b [] (if_some (socket_at d m) [] (λ s. s.output))) (sym e)

pub live_pending : (d : Front) (m : ℕ) (x : Gateway) (slots : List (Option Place)) (o : Option Place) → IsBehind d x slots → client_at slots m ≡ o
    → if_some o [] (λ (p : Place). p.peer.output) ≡ pending_at d m
live_pending d m x slots o b h =
    let e : o ≡ option_map place_of (socket_at d m) = sym h ∙ (ap (λ z. client_at z m) b.places ∙ client_at-places_of m d.sockets) in
    ap (λ z. if_some z [] (λ (p : Place). p.peer.output)) e
    ∙ (by (socket_at d m) ∙ ap (λ z. cond z [] (if_some (socket_at d m) [] (λ s. s.output))) (sym b.alive))
  where
    by : (s : Option Socket) → if_some (option_map place_of s) [] (λ (p : Place). p.peer.output) ≡ if_some s [] (λ s. s.output)
    by None = refl
    by (Some s) = refl

pub dead_over : (d : Front) (m : ℕ) → d.gate.dead ≡ true → true ≡ is_over_at d m
dead_over d m e = ap (λ b. b || if_some (socket_at d m) true (λ s. s.over)) (sym e)

pub live_over : (d : Front) (m : ℕ) (x : Gateway) (slots : List (Option Place)) (o : Option Place) → IsBehind d x slots → client_at slots m ≡ o
    → if_some o true (λ (p : Place). p.peer.over) ≡ is_over_at d m
live_over d m x slots o b h =
    let e : o ≡ option_map place_of (socket_at d m) = sym h ∙ (ap (λ z. client_at z m) b.places ∙ client_at-places_of m d.sockets) in
    ap (λ z. if_some z true (λ (p : Place). p.peer.over)) e ∙ (by (socket_at d m) ∙ ap (λ z. z || if_some (socket_at d m) true (λ s. s.over)) (sym b.alive))
  where
    by : (s : Option Socket) → if_some (option_map place_of s) true (λ (p : Place). p.peer.over) ≡ if_some s true (λ s. s.over)
    by None = refl
    by (Some s) = refl

-- What the contracts of a desk's calls name goes on from a front, and what goes on from a run is one.
use Rattle.std.proofs.Common.{◌≡◌, ℕ, Bool, true, false, cond, List, [], ◌∷◌, Option, Some, None, refl, ap, ◌∙◌, sym, subst}
use Rattle.iv_rows.specs.Options.{if_some}
use Rattle.iv_clients.specs.Clients.{Shown, client_at}
use Rattle.iv_clients.specs.Tokens.{Token}
use Rattle.iv_gate.specs.Events.{Event}
use Rattle.iv_gate.specs.Gate.{Gate, Head}
use Rattle.iv_gate.specs.Restoring.{Restores, gate_at_start}
use Rattle.iv_gate.specs.Runs.{Runs}
use Rattle.iv_journal.specs.Journal.{Line}
use Rattle.iv_peer.specs.Socket.{Socket}
use Rattle.iv_desk.specs.Front.{Front, FrontRuns, GoesOn, at_socket, closes, dismissed, dismisses, front_at_start, goes_on, hears, is_dropped, offered, offered_to, offers}
use Rattle.iv_desk.specs.Front.{socket_at, starts, stays, then_closes, then_happens, turned_away, with_both}
use Rattle.iv_desk.specs.Desks.{IsHeardBy, at_each}
use Rattle.iv_desk.specs.declared.place.Hearing.{Hearing}
use Rattle.iv_desk.proofs.Slots.{client_at-replicate}
use Rattle.iv_desk.proofs.OneNumber.{LeavesMarks, dead-offered_to}

pub FrontRuns-Restores : (cap most places : ℕ) (tokens : List Token) (head : Head) (sent : List Shown) (journal : List Line) (g : Gate)
    → Restores (gate_at_start cap tokens most head sent) journal g → Runs cap g
    → FrontRuns cap (front_at_start g places)
FrontRuns-Restores cap most places tokens head sent journal g r runs = starts g places runs (λ m. ap (λ (x : Gate). client_at x.clients m) r.leads.gate ∙ client_at-replicate most m)

-- what goes on from a run is one
pub FrontRuns-GoesOn : (may : Front → Event → Bool) (cap : ℕ) (d e : Front) → FrontRuns cap d → GoesOn may d e → FrontRuns cap e
FrontRuns-GoesOn may cap d e r stays = r
FrontRuns-GoesOn may cap d e r (then_happens b f g a h is) = goes_on b f (FrontRuns-GoesOn may cap d b r g) a h
FrontRuns-GoesOn may cap d e r (then_closes b m code words g a t) = closes b m code words (FrontRuns-GoesOn may cap d b r g) a t

pub GoesOn-IsHeardBy : (may : Front → Event → Bool) (m : ℕ) (d e : Front) (hearing : Hearing) → d.gate.dead ≡ false → IsHeardBy d m (socket_at d m) hearing e → GoesOn may d e
GoesOn-IsHeardBy may m d e hearing a h = by (socket_at d m) refl h
  where
    by : (o : Option Socket) → socket_at d m ≡ o → IsHeardBy d m o hearing e → GoesOn may d e
    by None k h = subst (GoesOn may d) (sym h.1) stays
    by (Some s) k h = subst (GoesOn may d) (sym h.4) (then_happens d (with_both m h.0 h.1 d) stays a (hears m s h.1 h.0 k h.2) refl)

pub dead-offered : LeavesMarks → (m : ℕ) (d : Front) → d.gate.dead ≡ false → (offered m d).gate.dead ≡ false
dead-offered k m d a = by (socket_at d m)
  where
    by : (o : Option Socket) → (if_some o d (λ s. with_both m (offered_to m d.gate s).0 (offered_to m d.gate s).1 d)).gate.dead ≡ false
    by None = a
    by (Some s) = dead-offered_to k d.gate m s a

pub GoesOn-offered : (may : Front → Event → Bool) → LeavesMarks → (b : Front) (ms : List ℕ) (d : Front) → GoesOn may b d → d.gate.dead ≡ false → GoesOn may b (at_each offered ms d)
GoesOn-offered may k b [] d g a = g
GoesOn-offered may k b (m ∷ ms) d g a = GoesOn-offered may k b ms (offered m d) (then_happens d (offered m d) g a (offers m) refl) (dead-offered k m d a)

pub GoesOn-dismissed : (may : Front → Event → Bool) (b : Front) (ms : List ℕ) (d : Front) → GoesOn may b d → d.gate.dead ≡ false → GoesOn may b (at_each dismissed ms d)
GoesOn-dismissed may b [] d g a = g
GoesOn-dismissed may b (m ∷ ms) d g a =
    GoesOn-dismissed may b ms (dismissed m d) (then_happens d (dismissed m d) g a (dismisses m) refl) (by (is_dropped d.gate m))
  where
    by : (b : Bool) → (cond b (at_socket m turned_away d) d).gate.dead ≡ false
    by true = a
    by false = a

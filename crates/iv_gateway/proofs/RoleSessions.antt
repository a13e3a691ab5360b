-- Sessions of roles, as the code begins and finishes them.
use Rattle.std.proofs.Common.{◌≡◌, ◌∙◌, ℕ, ◌+◌, ◌<◌, ◌||◌, Bool, true, false, cond, List, [], ◌∷◌, length, drop, get_or, drop-cons, add-one, Option, Some, None}
use Rattle.std.proofs.Common.{is_some, ap, sym, subst}
use Rattle.std.specs.Prelude.{◌==◌, option_and_then}
use Rattle.std.specs.List.{list_any}
use Rattle.iv_rows.specs.Options.{if_some}
use Rattle.iv_access.specs.Rights.{Name}
use Rattle.iv_machine.specs.Act.{begin}
use Rattle.iv_clients.specs.Feeds.{Feed, Seat, next_seat, seat_of}
use Rattle.iv_clients.specs.Kept.{Places, has_role_in, kept_slots}
use Rattle.iv_gate.specs.Gate.{Gate, all_rested, begun_for, has_session, in_session, is_accepted, is_needed, reply_to, rested, seated, with_session}
use Rattle.iv_gateway.specs.Views.{IsAlive, IsSeated}
use Rattle.iv_gateway.specs.declared.gateway.Gateway.{Gateway}
use Rattle.iv_notices.proofs.ClientChanges.{has_role_in-kept_slots}

-- ---- which are there

pub IsAlive-with_session_there : (g : Gate) (role : Name) (o : Option ℕ) (x : Gateway) → o ≡ seat_of g.seats role → is_some o ≡ true → IsAlive g x
    → (true ≡ has_session g role) × IsAlive (with_session g role) x
IsAlive-with_session_there g role (Some n) x e h b =
    (ap (λ z. is_some z || is_some (begun_for g role)) e, subst (λ z. IsAlive (if_some z (if_some (begun_for g role) g (λ k. seated g k role)) (λ k. g)) x) e b)
IsAlive-with_session_there g role None x e h b = cc

pub IsAlive-not_seated : (g : Gate) (role : Name) (o : Option ℕ) (x : Gateway) → o ≡ seat_of g.seats role → is_some o ≡ false → IsSeated g role None x
    → (false ≡ has_session g role) × IsAlive (with_session g role) x
IsAlive-not_seated g role (Some n) x e h s = cc
IsAlive-not_seated g role None x e h s = (
  λ i. is_some (e i) || is_some (sym s.0 i),
  subst (λ z. IsAlive (if_some z (if_some (begun_for g role) g (λ k. seated g k role)) (λ k. g)) x) e
      (subst (λ z. IsAlive (if_some z g (λ k. seated g k role)) x) (sym s.0) s.1),
)

pub IsAlive-with_session_seated : (g : Gate) (role : Name) (o : Option ℕ) (n : ℕ) (x : Gateway) → o ≡ seat_of g.seats role → is_some o ≡ false
    → IsSeated g role (Some n) x
    → (true ≡ has_session g role) × IsAlive (with_session g role) x
IsAlive-with_session_seated g role (Some k) n x e h s = cc
IsAlive-with_session_seated g role None n x e h s = (
  λ i. is_some (e i) || is_some (sym s.0 i),
  subst (λ z. IsAlive (if_some z (if_some (begun_for g role) g (λ k. seated g k role)) (λ k. g)) x) e
      (subst (λ z. IsAlive (if_some z g (λ k. seated g k role)) x) (sym s.0) s.1),
)

pub begun_none : (g : Gate) (role : Name) → next_seat g.seats ≡ None → begun_for g role ≡ None
begun_none g role e = ap (option_and_then (λ n. cond (is_accepted (reply_to g (in_session n (begin role)))) (Some n) None)) e

pub begun_for-next_seat : (g : Gate) (role : Name) (n : ℕ) (b : Bool) → next_seat g.seats ≡ Some n → is_accepted (reply_to g (in_session n (begin role))) ≡ b
    → begun_for g role ≡ cond b (Some n) None
begun_for-next_seat g role n b e h = ap (option_and_then (λ n. cond (is_accepted (reply_to g (in_session n (begin role)))) (Some n) None)) e
    ∙ ap (λ z. cond z (Some n) None) h

-- ---- which are needed

pub is_needed-has_role : (g : Gate) (s : Seat) (places : Places) (a : Bool) → places ≡ kept_slots g.clients → a ≡ has_role_in s.role places → a ≡ true
    → a ≡ is_needed g s
is_needed-has_role g s places a b e h =
    h ∙ ap (λ z. z || list_any (λ (f : Feed). s.session == f.session) g.feeds)
    (sym h ∙ (e ∙ (ap (has_role_in s.role) b ∙ has_role_in-kept_slots s.role g.clients)))

pub is_needed-no_role : (g : Gate) (s : Seat) (places : Places) (feeds : List Feed) (a r : Bool) → places ≡ kept_slots g.clients → feeds ≡ g.feeds
    → a ≡ has_role_in s.role places → a ≡ false
    → r ≡ list_any (λ (f : Feed). s.session == f.session) feeds → r ≡ is_needed g s
is_needed-no_role g s places feeds a r b d e h k =
    k ∙ (ap (list_any (λ (f : Feed). s.session == f.session)) d
    ∙ ap (λ z. z || list_any (λ (f : Feed). s.session == f.session) g.feeds)
    (sym h ∙ (e ∙ (ap (has_role_in s.role) b ∙ has_role_in-kept_slots s.role g.clients))))

-- behind the code stands a gateway that the rest of the sessions leads to where all lead
pub record IsResting (g : Gate) (ss rest : List Seat) (x : Gateway) : Type 0 where
  pub now : Gate
  pub gate : IsAlive now x
  pub leads : all_rested now rest ≡ all_rested g ss

pub IsResting-next : (g : Gate) (ss : List Seat) (i : ℕ) (s : Seat) (x y : Gateway) → i < length ss → s ≡ get_or ss i s → IsResting g ss (drop i ss) x
    → ((h : Gate) → IsAlive h x → IsAlive (rested h s) y)
    → IsResting g ss (drop (i + 1) ss) y
IsResting-next g ss i s x y lt is w step = record {
  now = rested w.now s;
  gate = step w.now w.gate;
  leads =
      let cut : drop i ss ≡ s ∷ drop (i + 1) ss = drop-cons ss i s lt ∙ (λ j. sym is j ∷ drop (sym (add-one i) j) ss) in
      ap (all_rested w.now) (sym cut) ∙ w.leads;
}

pub IsAlive-all_rested : (g : Gate) (ss : List Seat) (i : ℕ) (x : Gateway) → drop i ss ≡ [] → IsResting g ss (drop i ss) x → IsAlive (all_rested g ss) x
IsAlive-all_rested g ss i x e w = subst (λ z. IsAlive z x) (ap (all_rested w.now) (sym e) ∙ w.leads) w.gate

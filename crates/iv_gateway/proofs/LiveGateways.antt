-- Gateways that the code stands for, alive or dead, by each event.
use Rattle.std.proofs.Common.{◌≡◌, ◌∙◌, ℕ, Bool, true, false, cond, List, [], ◌∷◌, map, set, Option, Some, None, refl, sym, subst}
use Rattle.std.specs.Prelude.{filter}
use Rattle.std.proofs.lemmas.Bool.{false≢true}
use Rattle.iv_rows.specs.Options.{if_some}
use Rattle.iv_machine.specs.Act.{finish}
use Rattle.iv_clients.specs.Clients.{Client, client_at, is_followed}
use Rattle.iv_clients.specs.Feeds.{Feed, Seat, feed_of, is_of_role, without_seat}
use Rattle.iv_gate.specs.Events.{Event, failed, happens, next}
use Rattle.iv_gate.specs.Gate.{Gate, all_rested, all_swept, in_session, is_needed, ran, rested, settles, shut, swept, went}
use Rattle.iv_gateway.specs.Views.{IsAlive, IsGate}
use Rattle.iv_gateway.specs.declared.gateway.Gateway.{Gateway}

pub IsGate-IsAlive : (g : Gate) (e : Event) (x : Gateway) → g.dead ≡ false → x.dead ≡ false → (happens g e).dead ≡ g.dead → IsAlive (happens g e) x
    → IsGate (next g e) x
IsGate-IsAlive g e x h d s a = subst (λ b. IsGate (cond b g (happens g e)) x) (sym h) (record { dead = d ∙ sym (s ∙ h); alive = λ z. a })

pub dead_next : (g : Gate) (e : Event) (x : Gateway) → g.dead ≡ true → x.dead ≡ true → IsGate (next g e) x
dead_next g e x h d = subst (λ b. IsGate (cond b g (happens g e)) x) (sym h) (record { dead = d ∙ sym h; alive = λ z. absurd (false≢true (sym z ∙ h)) })

pub failed_next : (g : Gate) (x : Gateway) → x.dead ≡ true → IsGate (next g failed) x
failed_next g x d = by g.dead refl
  where
    by : (b : Bool) → g.dead ≡ b → IsGate (next g failed) x
    by true h = dead_next g failed x h d
    by false h = subst (λ b. IsGate (cond b g (record g { dead = true })) x) (sym h) (record { dead = d; alive = λ z. absurd (false≢true (sym z)) })

-- ---- who goes kills nothing

swept_dead : (g : Gate) (k : ℕ) → (swept g k).dead ≡ g.dead
swept_dead g k = by (is_followed k g.clients) (feed_of g.feeds k)
  where
    by : (b : Bool) (o : Option Feed) → (cond b g (if_some o g (shut g))).dead ≡ g.dead
    by true o = refl
    by false None = refl
    by false (Some f) = refl

all_swept_dead : (g : Gate) (ks : List ℕ) → (all_swept g ks).dead ≡ g.dead
all_swept_dead g [] = refl
all_swept_dead g (k ∷ ks) = all_swept_dead (swept g k) ks ∙ swept_dead g k

rested_dead : (g : Gate) (s : Seat) → (rested g s).dead ≡ g.dead
rested_dead g s = by (is_needed g s)
  where
    by : (b : Bool) → (cond b g (ran (record g { seats = without_seat s.session g.seats }) (in_session s.session finish))).dead ≡ g.dead
    by true = refl
    by false = refl

all_rested_dead : (g : Gate) (ss : List Seat) → (all_rested g ss).dead ≡ g.dead
all_rested_dead g [] = refl
all_rested_dead g (s ∷ ss) = all_rested_dead (rested g s) ss ∙ rested_dead g s

pub dead-went : (g : Gate) (m : ℕ) → (went g m).dead ≡ g.dead
dead-went g m = by (client_at g.clients m)
  where
    by : (o : Option Client) → (if_some o g (λ c. let h = all_swept (record g { clients = set g.clients m None }) (map (λ s. s.feed) c.subs) in
        settles (all_rested h (filter (is_of_role c.role) h.seats)))).dead ≡ g.dead
    by None = refl
    by (Some c) = let h = all_swept (record g { clients = set g.clients m None }) (map (λ s. s.feed) c.subs) in
        all_rested_dead h (filter (is_of_role c.role) h.seats) ∙ all_swept_dead (record g { clients = set g.clients m None }) (map (λ s. s.feed) c.subs)

-- A step of the log, taken in, keeps clients in step with what their feeds show.
use Rattle.std.proofs.Common.{◌≡◌, ℕ, Bool, true, false, cond, List, [], ◌∷◌, Option, Some, None, is_some, map, refl, ap, ◌∙◌, sym, subst}
use Rattle.std.specs.Prelude.{◌++◌, option_and_then, option_map}
use Rattle.iv_rows.specs.Options.{if_some}
use Rattle.iv_access.specs.Privileges.{role_of}
use Rattle.iv_access.specs.Rights.{Name}
use Rattle.iv_bind.specs.Catalogs.{CatalogEntry, named}
use Rattle.iv_machine.specs.Act.{Act, begin, finish}
use Rattle.iv_machine.specs.Machine.{Outcome, step}
use Rattle.iv_machine.specs.Refusing.{refusal}
use Rattle.iv_machine.specs.State.{Frame, State, Subscription, session_of, subscription_of, start}
use Rattle.iv_message.specs.Told.{Told, granted}
use Rattle.iv_clients.specs.Clients.{Client, own_lines}
use Rattle.iv_clients.specs.Feeds.{Feed, ends_in}
use Rattle.iv_records.specs.Journal.{Entry}
use Rattle.iv_steps.specs.Laws.{IsStep}
use Rattle.iv_steps.specs.Steps.{Fact, all_carried, among, carried, is_shared, looked_at, passed, shared, stepped}
use Rattle.iv_gate.specs.Arriving.{Step, entry_of, fact_of, fault_of, was_taken, landed, newly, takes}
use Rattle.iv_gate.specs.Gate.{Gate, entered, informs, went_on}
use Rattle.iv_gate.specs.Replies.{ActsAs}
use Rattle.iv_gate.proofs.CommandEnds.{not_IsToldEnd-ends_in, shown-stepped}
use Rattle.iv_gate.proofs.MachineLists.{rel_of-named, Some-is_some}
use Rattle.iv_gate.proofs.SoundSteps.{AllByRecursion-map, IsSoundGate-informs, IsSoundGate-settles}
use Rattle.iv_gate.proofs.SoundCommands.{IsFeed, IsSoundGate, Sounds, sum_for-granted_cond, IsSoundGate-went_on}
use Rattle.iv_machine.specs.Sound.{IsSoundState}
use Rattle.iv_clients.proofs.Slots.{same-Some}

-- ---- roles and relations last

pub record AreLasting (old new : Frame) : Type 0 where
  pub roles : (name : Name) (role : ℕ) → role_of old.rights name ≡ Some role → role_of new.rights name ≡ Some role
  pub relations : (name : Name) (e : CatalogEntry) → named old.catalog name ≡ Some e → named new.catalog name ≡ Some e

lasting_then : (f g h : Frame) → AreLasting f g → AreLasting g h → AreLasting f h
lasting_then f g h a b = record { roles = λ name role e. b.roles name role (a.roles name role e); relations = λ name x e. b.relations name x (a.relations name x e) }

passed_lasts : Sounds → (act : Act) (s t : State) → passed act s ≡ Some t → AreLasting s.frame t.frame
passed_lasts sounds act s t h = by (is_some (refusal s 1 act)) h
  where
    lasts : AreLasting s.frame (step s (record { session = 1; act = act })).state.frame
    lasts = let l = sounds.lasts s (record { session = 1; act = act }) in record { roles = l.roles; relations = l.relations }

    by : (b : Bool) → cond b None (Some (step s (record { session = 1; act = act })).state) ≡ Some t → AreLasting s.frame t.frame
    by true e = cc
    by false e = let same : (step s (record { session = 1; act = act })).state ≡ t = cc in subst (λ (u : State). AreLasting s.frame u.frame) same lasts

then_some : {A B : Type 0} (o : Option A) (f : A → Option B) (b : B) (P : Type 0) → option_and_then f o ≡ Some b → ((a : A) → o ≡ Some a → f a ≡ Some b → P) → P
then_some None f b P h go = cc
then_some (Some a) f b P h go = go a refl h

carried_lasts : Sounds → (f : Fact) (s t : State) → carried f s ≡ Some t → AreLasting s.frame t.frame
carried_lasts sounds f s t h = by (is_shared f.act) h
  where
    by : (b : Bool) → cond b (option_and_then (passed finish) (option_and_then (passed f.act) (passed (begin f.role) s))) None ≡ Some t → AreLasting s.frame t.frame
    by false e = cc
    by true e = then_some (option_and_then (passed f.act) (passed (begin f.role) s)) (passed finish) t (AreLasting s.frame t.frame) e (λ v p q.
        then_some (passed (begin f.role) s) (passed f.act) v (AreLasting s.frame t.frame) p (λ u a b.
        lasting_then s.frame u.frame t.frame (passed_lasts sounds (begin f.role) s u a)
        (lasting_then u.frame v.frame t.frame (passed_lasts sounds f.act u v b) (passed_lasts sounds finish v t q))))

all_lasts : Sounds → (fs : List Fact) (s t : State) → all_carried fs s ≡ Some t → AreLasting s.frame t.frame
all_lasts sounds [] s t h = let same : s ≡ t = cc in subst (λ (u : State). AreLasting s.frame u.frame) same (record { roles = λ name role e. e; relations = λ name x e. e })
all_lasts sounds (f ∷ fs) s t h = then_some (carried f s) (all_carried fs) t (AreLasting s.frame t.frame) h (λ u p q.
    lasting_then s.frame u.frame t.frame (carried_lasts sounds f s u p) (all_lasts sounds fs u t q))

-- what a step leads to: roles and relations last, and sessions are those that were
pub record IsLed (s : State) (o : Outcome) : Type 0 where
  pub lasts : AreLasting s.frame o.state.frame
  pub sessions : o.state.frame.sessions ≡ s.frame.sessions
  pub last : o.state.frame.last ≡ s.frame.last

pub IsLed-stepped : Sounds → (fs : List Fact) (s : State) (o : Outcome) → stepped fs s ≡ Some o → IsLed s o
IsLed-stepped sounds fs s o h = then_some (all_carried fs (shared s)) (λ t. Some (looked_at s (among s t))) o (IsLed s o) (as_then (all_carried fs (shared s)) h) (λ t p q.
    let same : looked_at s (among s t) ≡ o = cc in let l = all_lasts sounds fs (shared s) t p in
    subst (IsLed s) same (record { lasts = record { roles = l.roles; relations = l.relations }; sessions = refl; last = refl }))
  where
    as_then : (x : Option State) → option_map (λ t. looked_at s (among s t)) x ≡ Some o → option_and_then (λ t. Some (looked_at s (among s t))) x ≡ Some o
    as_then None e = e
    as_then (Some t) e = e

-- what facts make of a machine with nothing is sound, and nobody is there
pub record IsBegun (s : State) : Type 0 where
  pub sound : IsSoundState s
  pub sessions : s.frame.sessions ≡ []
  pub subscriptions : s.frame.subscriptions ≡ []
  pub last : s.frame.last ≡ 0

pub IsBegun-all_carried : Sounds → (cap : ℕ) → IsSoundState (start cap) → (fs : List Fact) (t : State) → all_carried fs (start cap) ≡ Some t → IsBegun t
IsBegun-all_carried sounds cap b fs t h =
    let o = looked_at (start cap) (among (start cap) t) in
    let led = sounds.told fs (start cap) o b (ap (option_map (λ u. looked_at (start cap) (among (start cap) u))) h) in
    let same : t ≡ shared o.state = same-Some t (shared o.state) (sym h ∙ led.shared) in
    record {
      sound = subst IsSoundState (sym same) led.sound;
      sessions = ap (λ (u : State). u.frame.sessions) same;
      subscriptions = ap (λ (u : State). u.frame.subscriptions) same;
      last = ap (λ (u : State). u.frame.last) same;
    }

-- ---- a gateway

acts_still : (s : State) (o : Outcome) → IsLed s o → (n : ℕ) (role : Name) → ActsAs s n role → ActsAs o.state n role
acts_still s o l n role a = record {
  place = a.place;
  known = l.lasts.roles role a.place a.known;
  session = ap (λ ss. session_of ss n) l.sessions ∙ a.session;
}

feed_still : (fs : List Fact) (s : State) (o : Outcome) → IsLed s o → IsStep fs s o → (f : Feed) → IsFeed s f → ends_in o.lines f.number ≡ false → IsFeed o.state f
feed_still fs s o l t f b e =
    let x : Subscription = record { session = f.session; number = f.number; rel = b.rel } in
    let entry = Some-is_some (named s.frame.catalog f.rel) b.known in
    let still = l.lasts.relations f.rel entry.0 entry.1 in
    record {
      rel = b.rel;
      found = not_IsToldEnd-ends_in (subscription_of o.state.frame.subscriptions f.number ≡ Some x) f.session f.number o.lines e (t.ends f.number x b.found);
      there = b.there ∙ sym (rel_of-named s.frame.catalog o.state.frame.catalog f.rel entry.0 entry.1 still);
      known = ap is_some still;
      acts = acts_still s o l f.session f.role b.acts;
    }

pub landed_sound : Sounds → (g : Gate) (e : Entry) (fs : List Fact) (o : Outcome) → stepped fs g.machine ≡ Some o → IsSoundGate g → IsSoundGate (landed g e o)
landed_sound sounds g e fs o h b =
    IsSoundGate-settles (informs behind (e ∷ [])) (IsSoundGate-informs behind (e ∷ []) (IsSoundGate-went_on now o more (record {
      state = t.sound;
      seats = AllByRecursion-map (λ x a. acts_still g.machine o l x.session x.role a) g.seats b.seats;
      feeds = AllByRecursion-map (λ f a. feed_still fs g.machine o l t f a) g.feeds b.feeds;
      moves = record { adds = λ j f k q. t.adds j q; over = shown-stepped fs g.machine o b.state.numbers.unique h };
      quiet = λ c own q. sum_for-granted_cond own q true (newly g.machine.frame o.state.frame c.role);
      clients = b.clients;
    })))
  where
    t : IsStep fs g.machine o
    t = sounds.told fs g.machine o b.state h

    l : IsLed g.machine o
    l = IsLed-stepped sounds fs g.machine o h

    now : Gate
    now = entered g (e ∷ [])

    more : Client → List Told
    more c = map granted (newly g.machine.frame o.state.frame c.role)

    behind : Gate
    behind = went_on now o (λ c. own_lines g.feeds o.lines c.subs ++ more c)

-- a step that comes, whatever it is
pub IsSoundGate-takes : Sounds → (g : Gate) (s : Step) → IsSoundGate g → IsSoundGate (takes g s)
IsSoundGate-takes sounds g s b = by (is_some (fault_of g s)) (was_taken g s)
  where
    dead : IsSoundGate (record g { dead = true })
    dead = record { state = b.state; seats = b.seats; feeds = b.feeds; clients = b.clients }

    lands : (o : Option Outcome) → stepped (map fact_of s.requests) g.machine ≡ o → IsSoundGate (if_some o g (landed g (entry_of s)))
    lands None h = b
    lands (Some o) h = landed_sound sounds g (entry_of s) (map fact_of s.requests) o h b

    by : (x y : Bool) → IsSoundGate (cond x (record g { dead = true }) (cond y g (if_some (stepped (map fact_of s.requests) g.machine) g (landed g (entry_of s)))))
    by true y = dead
    by false true = b
    by false false = lands (stepped (map fact_of s.requests) g.machine) refl

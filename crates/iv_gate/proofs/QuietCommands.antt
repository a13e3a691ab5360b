-- Commands that tell nothing but their reply leave clients as they are.
use Rattle.std.proofs.Common.{◌≡◌, ℕ, ◌+◌, ◌≤◌, Bool, true, false, cond, not, List, [], ◌∷◌, ◌++◌, map, Option, Some, None, refl, ap, ◌∙◌, arith}
use Rattle.std.specs.Prelude.{filter, flat_map}
use Rattle.std.proofs.lemmas.Bool.{false≢true}
use Rattle.iv_rows.specs.Options.{if_some}
use Rattle.iv_access.specs.Rights.{Name}
use Rattle.iv_machine.specs.Act.{Act, begin, finish, subscribe, unsubscribe, Command, Refusal, reply, Reply}
use Rattle.iv_machine.specs.Machine.{outcome, step}
use Rattle.iv_machine.specs.Refusing.{refusal}
use Rattle.iv_machine.specs.Sound.{IsSoundState}
use Rattle.iv_machine.specs.State.{Frame, State}
use Rattle.iv_message.specs.Told.{granted}
use Rattle.iv_clients.specs.Clients.{Client, Slots, Sub, at_all, own_line, own_lines, staying, telling, is_followed}
use Rattle.iv_clients.specs.Feeds.{Feed, Seat, ends_in, feed_of, feeds_left, seat_of, without_feed, without_seat}
use Rattle.iv_gate.specs.Gate.{Gate, all_rested, all_swept, begun_for, granted_by, in_session, is_accepted, is_needed, ran, reply_in, rested, seated, shut, swept, told_of, with_session}
use Rattle.iv_gate.proofs.SessionFacts.{Sits, at_swept}
use Rattle.iv_gate.proofs.SoundCommands.{Sounds}
use Rattle.iv_gate.proofs.CommandLines.{is_still, IsReplyAlone-is_still}

-- ---- a reply alone

pub flat_map-own_line : (feeds : List Feed) (n : ℕ) (r : Reply) (xs : List Sub) → flat_map (own_line feeds (reply n r)) xs ≡ []
flat_map-own_line feeds n r [] = refl
flat_map-own_line feeds n r (x ∷ xs) = flat_map-own_line feeds n r xs

kept_subs : (n : ℕ) (r : Reply) (xs : List Sub) → filter (λ s. not (ends_in (reply n r ∷ []) s.feed)) xs ≡ xs
kept_subs n r [] = refl
kept_subs n r (x ∷ xs) = ap (λ z. x ∷ z) (kept_subs n r xs)

kept_feeds : (n : ℕ) (r : Reply) (fs : List Feed) → feeds_left (reply n r ∷ []) fs ≡ fs
kept_feeds n r [] = refl
kept_feeds n r (f ∷ fs) = ap (λ z. f ∷ z) (kept_feeds n r fs)

no_grants : (b : Bool) (names : List Name) → names ≡ [] → cond b (map granted names) [] ≡ []
no_grants true names h = ap (map granted) h
no_grants false names h = refl

pub heard_alone : (g : Gate) (k : Command) (n : ℕ) (r : Reply) (c : Client) → (step g.machine k).lines ≡ reply n r ∷ [] → ((f : Frame) (role : Name) → granted_by f k.act role ≡ [])
    → staying (step g.machine k).lines (telling g.entries (told_of g k.act (step g.machine k) c) c) ≡ c
heard_alone g k n r c e none =
    let ls = (step g.machine k).lines in let names = granted_by (step g.machine k).state.frame k.act c.role in
    let silent : told_of g k.act (step g.machine k) c ≡ [] =
    (λ i. (ap (λ z. own_lines g.feeds z c.subs) e ∙ ap (λ z. z ++ []) (flat_map-own_line g.feeds n r c.subs)) i ++ no_grants (is_accepted (reply_in ls)) names (none (step g.machine k).state.frame c.role) i) in
    (λ i. staying (e i) (telling g.entries (silent i) c)) ∙ ap (λ z. record c { subs = z }) (kept_subs n r c.subs)

pub same_all : (f : Client → Client) → ((c : Client) → f c ≡ c) → (slots : Slots) → at_all f slots ≡ slots
same_all f k [] = refl
same_all f k (None ∷ ss) = ap (λ z. None ∷ z) (same_all f k ss)
same_all f k (Some c ∷ ss) = λ i. Some (k c i) ∷ same_all f k ss i

pub ran-one_line : (g : Gate) (k : Command) (n : ℕ) (r : Reply) → (step g.machine k).lines ≡ reply n r ∷ [] → ((f : Frame) (role : Name) → granted_by f k.act role ≡ [])
    → ran g k ≡ record g { machine = (step g.machine k).state }
ran-one_line g k n r e none =
    let clients = same_all (λ c. staying (step g.machine k).lines (telling g.entries (told_of g k.act (step g.machine k) c) c)) (λ c. heard_alone g k n r c e none) g.clients in
    let feeds : feeds_left (step g.machine k).lines g.feeds ≡ g.feeds = ap (λ z. feeds_left z g.feeds) e ∙ kept_feeds n r g.feeds in
    λ i. record g { machine = (step g.machine k).state; clients = clients i; feeds = feeds i }

still_grants : (act : Act) → is_still act ≡ true → (f : Frame) (role : Name) → granted_by f act role ≡ []
still_grants (begin name) h f role = refl
still_grants finish h f role = refl
still_grants (unsubscribe k) h f role = refl
still_grants _ h f role = absurd (false≢true h)

pub ran-is_still : (g : Gate) (k : Command) → is_still k.act ≡ true → IsSoundState g.machine → ran g k ≡ record g { machine = (step g.machine k).state }
ran-is_still g k h b =
    ran-one_line g k k.session (reply_in (step g.machine k).lines) (IsReplyAlone-is_still g.machine k.session k.act h b) (still_grants k.act h)

-- ---- sessions and subscriptions that begin and end

pub Sits-IsSoundState : Sounds → Sits (λ s seats. IsSoundState s)
Sits-IsSoundState sounds = record { step = λ s k seats p b. sounds.sound s k b; begin = λ g n role e b. sounds.sound g.machine (in_session n (begin role)) b }

pub seated-IsSoundState : (g : Gate) (n : ℕ) (role : Name) → IsSoundState g.machine
    → seated g n role ≡ record g { machine = (step g.machine (in_session n (begin role))).state; seats = g.seats ++ record { session = n; role = role } ∷ [] }
seated-IsSoundState g n role b = ran-is_still (record g { seats = g.seats ++ record { session = n; role = role } ∷ [] }) (in_session n (begin role)) refl b

pub clients-with_session : (g : Gate) (role : Name) → IsSoundState g.machine → (with_session g role).clients ≡ g.clients
clients-with_session g role b = by (seat_of g.seats role) (begun_for g role)
  where
    by : (o p : Option ℕ) → (if_some o (if_some p g (λ n. seated g n role)) (λ n. g)).clients ≡ g.clients
    by (Some n) p = refl
    by None None = refl
    by None (Some n) = ap (λ (x : Gate). x.clients) (seated-IsSoundState g n role b)

pub clients-shut : (g : Gate) (f : Feed) → IsSoundState g.machine → (shut g f).clients ≡ g.clients
clients-shut g f b = ap (λ (x : Gate). x.clients) (ran-is_still (record g { feeds = without_feed f.number g.feeds }) (in_session f.session (unsubscribe f.number)) refl b)

pub clients-swept : (g : Gate) (k : ℕ) → IsSoundState g.machine → (swept g k).clients ≡ g.clients
clients-swept g k b = by (is_followed k g.clients) (feed_of g.feeds k)
  where
    by : (t : Bool) (o : Option Feed) → (cond t g (if_some o g (shut g))).clients ≡ g.clients
    by true o = refl
    by false None = refl
    by false (Some f) = clients-shut g f b

pub clients-all_swept : Sounds → (g : Gate) (ks : List ℕ) → IsSoundState g.machine → (all_swept g ks).clients ≡ g.clients
clients-all_swept sounds g [] b = refl
clients-all_swept sounds g (k ∷ ks) b =
    clients-all_swept sounds (swept g k) ks (at_swept (λ s seats. IsSoundState s) (Sits-IsSoundState sounds) g k b) ∙ clients-swept g k b

module _ (sounds : Sounds) where
  rested_state : (g : Gate) (s : Seat) → IsSoundState g.machine → IsSoundState (rested g s).machine
  rested_state g s b = by (is_needed g s)
    where
      by : (t : Bool) → IsSoundState (cond t g (ran (record g { seats = without_seat s.session g.seats }) (in_session s.session finish))).machine
      by true = b
      by false = sounds.sound g.machine (in_session s.session finish) b

  rested_clients : (g : Gate) (s : Seat) → IsSoundState g.machine → (rested g s).clients ≡ g.clients
  rested_clients g s b = by (is_needed g s)
    where
      by : (t : Bool) → (cond t g (ran (record g { seats = without_seat s.session g.seats }) (in_session s.session finish))).clients ≡ g.clients
      by true = refl
      by false = ap (λ (x : Gate). x.clients) (ran-is_still (record g { seats = without_seat s.session g.seats }) (in_session s.session finish) refl b)

  pub all_rested_clients : (g : Gate) (ss : List Seat) → IsSoundState g.machine → (all_rested g ss).clients ≡ g.clients
  all_rested_clients g [] b = refl
  all_rested_clients g (s ∷ ss) b = all_rested_clients (rested g s) ss (rested_state g s b) ∙ rested_clients g s b

-- ---- numbers of subscriptions

last_by : (s : State) (n : ℕ) (act : Act) (o : Option Refusal) → is_still act ≡ true → (outcome s (in_session n act) o).state.frame.last ≡ s.frame.last
last_by s n act (Some r) h = refl
last_by s n (begin role) None h = refl
last_by s n finish None h = refl
last_by s n (unsubscribe k) None h = refl
last_by s n _ None h = absurd (false≢true h)

pub last_still : (s : State) (n : ℕ) (act : Act) → is_still act ≡ true → (step s (in_session n act)).state.frame.last ≡ s.frame.last
last_still s n act h = last_by s n act (refusal s n act) h

last_more : (s : State) (n : ℕ) (act : Act) (o : Option Refusal) → (outcome s (in_session n act) o).state.frame.last ≤ 1 + s.frame.last
last_more s n act (Some r) = omega arith
last_more s n (subscribe rel) None = omega arith
last_more s n _ None = omega arith

-- a command gives one number at most
pub le-step_last : (s : State) (n : ℕ) (act : Act) → (step s (in_session n act)).state.frame.last ≤ 1 + s.frame.last
le-step_last s n act = last_more s n act (refusal s n act)

pub last-with_session : (g : Gate) (role : Name) → (with_session g role).machine.frame.last ≡ g.machine.frame.last
last-with_session g role = by (seat_of g.seats role) (begun_for g role)
  where
    by : (o p : Option ℕ) → (if_some o (if_some p g (λ n. seated g n role)) (λ n. g)).machine.frame.last ≡ g.machine.frame.last
    by (Some n) p = refl
    by None None = refl
    by None (Some n) = last_still g.machine n (begin role) refl

pub last-shut : (g : Gate) (f : Feed) → (shut g f).machine.frame.last ≡ g.machine.frame.last
last-shut g f = last_still g.machine f.session (unsubscribe f.number) refl

pub last-swept : (g : Gate) (k : ℕ) → (swept g k).machine.frame.last ≡ g.machine.frame.last
last-swept g k = by (is_followed k g.clients) (feed_of g.feeds k)
  where
    by : (t : Bool) (o : Option Feed) → (cond t g (if_some o g (shut g))).machine.frame.last ≡ g.machine.frame.last
    by true o = refl
    by false None = refl
    by false (Some f) = last-shut g f

pub last-all_swept : (g : Gate) (ks : List ℕ) → (all_swept g ks).machine.frame.last ≡ g.machine.frame.last
last-all_swept g [] = refl
last-all_swept g (k ∷ ks) = last-all_swept (swept g k) ks ∙ last-swept g k

rested_last : (g : Gate) (s : Seat) → (rested g s).machine.frame.last ≡ g.machine.frame.last
rested_last g s = by (is_needed g s)
  where
    by : (t : Bool) → (cond t g (ran (record g { seats = without_seat s.session g.seats }) (in_session s.session finish))).machine.frame.last ≡ g.machine.frame.last
    by true = refl
    by false = last_still g.machine s.session finish refl

pub last-all_rested : (g : Gate) (ss : List Seat) → (all_rested g ss).machine.frame.last ≡ g.machine.frame.last
last-all_rested g [] = refl
last-all_rested g (s ∷ ss) = last-all_rested (rested g s) ss ∙ rested_last g s

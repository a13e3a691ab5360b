-- Each session is of a role that some client is of.
use Rattle.std.proofs.Common.{◌≡◌, ℕ, zero, suc, Bool, true, false, not, cond, ◌||◌, List, [], ◌∷◌, map, set, Option, Some, None, refl, ap, ◌∙◌, sym, subst}
use Rattle.std.specs.Prelude.{◌==◌, bytes_eq, filter}
use Rattle.std.specs.List.{AllByRecursion, list_any}
use Rattle.std.proofs.lemmas.Bool.{false≢true, eqb-true, or_left, or_right}
use Rattle.iv_rows.specs.Options.{if_some}
use Rattle.iv_access.specs.Rights.{Name}
use Rattle.iv_machine.specs.Act.{finish}
use Rattle.iv_machine.specs.Machine.{step}
use Rattle.iv_machine.specs.Sound.{IsSoundState}
use Rattle.iv_clients.specs.Clients.{Client, Slots, Sub, client_at, fresh, has_role, is_followed, settling}
use Rattle.iv_clients.specs.Feeds.{Feed, Seat, is_of_role, without_seat}
use Rattle.iv_clients.proofs.Slots.{same-Some, IsThere-list_any, not_None-Some}
use Rattle.iv_gate.specs.Events.{Event, presented, message, gone, known, ticked, synced, handed, failed, next, arrived, forgave, led}
use Rattle.iv_gate.specs.Gate.{Gate, all_rested, all_swept, in_session, is_needed, ran, rested, token_for, settles, at_text}
use Rattle.iv_gate.specs.Replies.{ActsAs}
use Rattle.iv_gate.specs.Runs.{Runs, begins, goes_on, begins_again}
use Rattle.iv_gate.proofs.QuietCommands.{clients-all_swept, ran-is_still}
use Rattle.iv_gate.proofs.TokensOfClients.{role-card_behind}
use Rattle.iv_gate.proofs.FollowedFeeds.{IsUsing-Runs}
use Rattle.iv_gate.proofs.SameFeeds.{bytes_eq-itself, same-bytes_eq}
use Rattle.iv_gate.proofs.SessionRoom.{role-settling}
use Rattle.iv_gate.proofs.SoundRuns.{Starts, IsSoundGate-Runs}
use Rattle.iv_gate.proofs.NewSubscriptions.{AllByRecursion-pushed}
use Rattle.iv_gate.proofs.SoundSteps.{AllByRecursion-map, IsSoundGate-all_swept, AllByRecursion-filter}
use Rattle.iv_gate.proofs.SessionsAfterEvents.{AreFor, IsBehind, seats-all_swept, further, next_behind, stayed}
use Rattle.iv_gate.proofs.SoundEvents.{IsSoundGate-set}
use Rattle.iv_gate.proofs.SeatsAndFeeds.{IsAlone, IsAlone-ActsAs, same-ActsAs, has_role-client_at, has_role-at_all}
use Rattle.iv_gate.proofs.SoundCommands.{Adds, IsFeed, IsSoundGate, Sounds, AllByRecursion-filter_not}
use Rattle.iv_gate.proofs.NumberSums.{AllByRecursion-zip, eq-itself}
use Rattle.iv_gate.proofs.EventMarks.{next-alive, came_as, client_at-came_as, is_gone, Opens-token_for, next-dead, AreTouched-next}
use Rattle.iv_gate.proofs.FeedFollowers.{IsUsing, none_but, or-implies}
use Rattle.iv_clients.specs.Tokens.{Token}

-- each session is of a role that some client is of
abbrev pub AreNeeded : Gate → Type 0
AreNeeded g = AllByRecursion (λ (s : Seat). has_role s.role g.clients ≡ true) g.seats

-- ---- clients

of_role : (slots : Slots) (m : ℕ) (c : Client) (role : Name) → client_at slots m ≡ Some c → c.role ≡ role → has_role role slots ≡ true
of_role slots m c role h e = subst (λ r. has_role r slots ≡ true) e (has_role-client_at slots m c h)

-- who goes is of its role alone
role_stays : (m : ℕ) (slots : Slots) (c : Client) (role : Name) → client_at slots m ≡ Some c → (c.role ≡ role → ⊥) → has_role role slots ≡ true → has_role role (set slots m None) ≡ true
role_stays m [] c role t n h = h
role_stays zero (None ∷ ss) c role t n h = h
role_stays zero (Some d ∷ ss) c role t n h = by (bytes_eq d.role role) refl h
  where
    by : (b : Bool) → bytes_eq d.role role ≡ b → (b || has_role role ss) ≡ true → has_role role ss ≡ true
    by true e k = absurd (n (ap (λ (x : Client). x.role) (sym (same-Some d c t)) ∙ same-bytes_eq d.role role e))
    by false e k = k
role_stays (suc m) (x ∷ ss) c role t n h =
    let p = if_some x false (λ (d : Client). bytes_eq d.role role) in or-implies p (has_role role ss) p (has_role role (set ss m None)) (λ e. e) (role_stays m ss c role t n) h

-- ---- what is needed

-- a session in which something is read is of its readers' role
needed_roles : (g : Gate) → IsSoundGate g → IsUsing none_but g → AllByRecursion (λ (x : Seat). is_needed g x ≡ true) g.seats → AreNeeded g
needed_roles g b u a = AllByRecursion-zip {P = λ (x : Seat). is_needed g x ≡ true} {Q = λ (x : Seat). ActsAs g.machine x.session x.role} {R = λ (x : Seat). has_role x.role g.clients ≡ true}
    (λ x n acts. by x acts (has_role x.role g.clients) refl n) g.seats a b.seats
  where
    read : (x : Seat) → ActsAs g.machine x.session x.role → (fs : List Feed) → AllByRecursion (IsFeed g.machine) fs → AllByRecursion (λ (f : Feed). has_role f.role g.clients ≡ true) fs
        → list_any (λ (f : Feed). x.session == f.session) fs ≡ true → has_role x.role g.clients ≡ true
    read x acts [] is of h = absurd (false≢true h)
    read x acts (f ∷ fs) is of h = test (x.session == f.session) refl h (read x acts fs is.1 of.1)
      where
        test : (t : Bool) → (x.session == f.session) ≡ t → (t || list_any (λ (y : Feed). x.session == y.session) fs) ≡ true
            → (list_any (λ (y : Feed). x.session == y.session) fs ≡ true → has_role x.role g.clients ≡ true) → has_role x.role g.clients ≡ true
        test true e k more =
            subst (λ r. has_role r g.clients ≡ true) (same-ActsAs g.machine x.session f.role x.role (subst (λ n. ActsAs g.machine n f.role) (sym (eqb-true x.session f.session e)) is.0.acts) acts) of.0
        test false e k more = more k

    -- each feed is of the role of whoever follows it
    reader : (f : Feed) → is_followed f.number g.clients ≡ true → ((m : ℕ) (c : Client) → client_at g.clients m ≡ Some c → list_any (λ (s : Sub). f.number == s.feed) c.subs ≡ true → f.role ≡ c.role)
        → has_role f.role g.clients ≡ true
    reader f h of =
        let x = IsThere-list_any (λ c. list_any (λ (s : Sub). f.number == s.feed) c.subs) g.clients h in of_role g.clients x.number x.client f.role x.there (sym (of x.number x.client x.there x.so))

    readers : (fs : List Feed) → AllByRecursion (λ (f : Feed). none_but f.number ≡ false → is_followed f.number g.clients ≡ true) fs
        → ((m : ℕ) (c : Client) (k : ℕ) → client_at g.clients m ≡ Some c → list_any (λ (s : Sub). k == s.feed) c.subs ≡ true → AllByRecursion (λ (f : Feed). (k == f.number) ≡ true → f.role ≡ c.role) fs)
        → AllByRecursion (λ (f : Feed). has_role f.role g.clients ≡ true) fs
    readers [] f of = tt
    readers (x ∷ xs) f of = (reader x (f.0 refl) (λ m c h k. (of m c x.number h k).0 (eq-itself x.number)), readers xs f.1 (λ m c k h i. (of m c k h i).1))

    by : (x : Seat) → ActsAs g.machine x.session x.role → (t : Bool) → has_role x.role g.clients ≡ t → (t || list_any (λ (f : Feed). x.session == f.session) g.feeds) ≡ true → has_role x.role g.clients ≡ true
    by x acts true e n = e
    by x acts false e n = read x acts g.feeds b.feeds (readers g.feeds u.followed (λ m c k h i. (u.fit m c h k i).1)) n

-- ---- what is not needed is finished

-- among these is one with the session of the other
abbrev IsAmong : List Seat → Seat → Bool
IsAmong ss x = list_any (λ (s : Seat). s.session == x.session) ss

-- all but these are needed
abbrev AreNeededBut : Gate → List Seat → Type 0
AreNeededBut g ss = AllByRecursion (λ (x : Seat). IsAmong ss x ≡ false → is_needed g x ≡ true) g.seats

rested_is : (g : Gate) (s : Seat) → IsSoundState g.machine → is_needed g s ≡ false
    → rested g s ≡ record g { machine = (step g.machine (in_session s.session finish)).state; seats = without_seat s.session g.seats }
rested_is g s b n =
    ap (λ t. cond t g (ran (record g { seats = without_seat s.session g.seats }) (in_session s.session finish))) n
    ∙ ran-is_still (record g { seats = without_seat s.session g.seats }) (in_session s.session finish) refl b

module _ (sounds : Sounds) where
  rested_needed : (g : Gate) (s : Seat) (ss : List Seat) → IsSoundState g.machine → IsAlone s g.seats → AllByRecursion (λ (x : Seat). IsAlone x g.seats) ss → AreNeededBut g (s ∷ ss)
      → IsSoundState (rested g s).machine × AllByRecursion (λ (x : Seat). IsAlone x (rested g s).seats) ss × AreNeededBut (rested g s) ss
  rested_needed g s ss b alone others a = by (is_needed g s) refl
    where
      Result : Gate → Type 0
      Result h = IsSoundState h.machine × AllByRecursion (λ (x : Seat). IsAlone x h.seats) ss × AreNeededBut h ss

      stays : is_needed g s ≡ true → (x : Seat) → ((s.session == x.session) ≡ true → x.role ≡ s.role) → (IsAmong (s ∷ ss) x ≡ false → is_needed g x ≡ true) → IsAmong ss x ≡ false → is_needed g x ≡ true
      stays n x one w m = test (s.session == x.session) refl
        where
          test : (t : Bool) → (s.session == x.session) ≡ t → is_needed g x ≡ true
          test true e =
              (λ i. has_role (one e i) g.clients || list_any (λ (f : Feed). sym (eqb-true s.session x.session e) i == f.session) g.feeds) ∙ n
          test false e = w (λ i. e i || m i)

      goes : (x : Seat) → (IsAmong (s ∷ ss) x ≡ false → is_needed g x ≡ true) → (s.session == x.session) ≡ false → IsAmong ss x ≡ false → is_needed g x ≡ true
      goes x w e m = w (λ i. e i || m i)

      by : (t : Bool) → is_needed g s ≡ t → Result (rested g s)
      by true n =
          subst Result (sym (ap (λ z. cond z g (ran (record g { seats = without_seat s.session g.seats }) (in_session s.session finish))) n)) (
            b,
            others,
            AllByRecursion-zip {P = λ (x : Seat). (s.session == x.session) ≡ true → x.role ≡ s.role} {Q = λ (x : Seat). IsAmong
                (s ∷ ss) x ≡ false → is_needed g x ≡ true}
                {R = λ (x : Seat). IsAmong ss x ≡ false → is_needed g x ≡ true} (λ x one w. stays n x one w) g.seats alone a,
          )
      by false n =
          subst Result (sym (rested_is g s b n)) (
            sounds.sound g.machine (in_session s.session finish) b,
            AllByRecursion-map {P = λ (x : Seat). IsAlone x g.seats} {Q = λ (x : Seat). IsAlone x (without_seat s.session g.seats)}
                (λ x one. AllByRecursion-filter (λ (y : Seat). (x.session == y.session) ≡ true → y.role ≡ x.role) (λ (y : Seat). not (s.session == y.session)) g.seats one) ss others,
            AllByRecursion-filter_not (λ (x : Seat). IsAmong ss x ≡ false → is_needed g x ≡ true) (λ (x : Seat). s.session == x.session) g.seats
                (AllByRecursion-map {P = λ (x : Seat). IsAmong (s ∷ ss) x ≡ false → is_needed g x ≡ true} {Q = λ (x : Seat). (s.session == x.session) ≡ false → IsAmong ss x ≡ false → is_needed g x ≡ true}
                (λ x w e m. goes x w e m) g.seats a),
          )

  all_rested_needed : (g : Gate) (ss : List Seat) → IsSoundState g.machine → AllByRecursion (λ (x : Seat). IsAlone x g.seats) ss → AreNeededBut g ss
      → AllByRecursion (λ (x : Seat). is_needed (all_rested g ss) x ≡ true) (all_rested g ss).seats
  all_rested_needed g [] b alone a = AllByRecursion-map {P = λ (x : Seat). IsAmong [] x ≡ false → is_needed g x ≡ true} {Q = λ (x : Seat). is_needed g x ≡ true} (λ x w. w refl) g.seats a
  all_rested_needed g (s ∷ ss) b alone a = let r = rested_needed g s ss b alone.0 alone.1 a in all_rested_needed (rested g s) ss r.0 r.1 r.2

-- those that are asked for are among them
all_among : (p : Seat → Bool) (xs : List Seat) → AllByRecursion (λ (x : Seat). p x ≡ true → IsAmong (filter p xs) x ≡ true) xs
all_among p [] = tt
all_among p (x ∷ xs) = (here, AllByRecursion-map {P = λ (y : Seat). p y ≡ true → IsAmong (filter p xs) y ≡ true} {Q = λ (y : Seat). p y ≡ true → IsAmong (filter p (x ∷ xs)) y ≡ true} (λ y w e. later y (w e)) xs (all_among p xs))
  where
    here : p x ≡ true → IsAmong (cond (p x) (x ∷ filter p xs) (filter p xs)) x ≡ true
    here e = ap (λ t. IsAmong (cond t (x ∷ filter p xs) (filter p xs)) x) e ∙ or_left (x.session == x.session) (IsAmong (filter p xs) x) (eq-itself x.session)

    later : (y : Seat) → IsAmong (filter p xs) y ≡ true → IsAmong (cond (p x) (x ∷ filter p xs) (filter p xs)) y ≡ true
    later y h = by (p x)
      where
        by : (t : Bool) → IsAmong (cond t (x ∷ filter p xs) (filter p xs)) y ≡ true
        by true = or_right (x.session == y.session) (IsAmong (filter p xs) y) h
        by false = h

went_needed : Adds → Sounds → (g : Gate) (m : ℕ) (c : Client) → client_at g.clients m ≡ Some c → IsSoundGate g → AreNeeded g
    → let h = all_swept (record g { clients = set g.clients m None }) (map (λ s. s.feed) c.subs) in let k = settles (all_rested h (filter (is_of_role c.role) h.seats)) in
    AllByRecursion (λ (x : Seat). is_needed k x ≡ true) k.seats
went_needed adds sounds g m c t b a =
    AllByRecursion-map {P = λ (x : Seat). is_needed i x ≡ true} {Q = λ (x : Seat). is_needed (settles i) x ≡ true}
    (λ x w. ap (λ z. z || list_any (λ (f : Feed). x.session == f.session) i.feeds) (has_role-at_all (settling i.entries) (role-settling i.entries) x.role i.clients) ∙ w) i.seats
    (all_rested_needed sounds h ss hs.state alone but)
  where
    left : Gate
    left = record g { clients = set g.clients m None }

    ks : List ℕ
    ks = map (λ s. s.feed) c.subs

    h : Gate
    h = all_swept left ks

    ss : List Seat
    ss = filter (is_of_role c.role) h.seats

    i : Gate
    i = all_rested h ss

    ls : IsSoundGate left
    ls = IsSoundGate-set g m None (λ d e. absurd (not_None-Some d (sym e))) b

    hs : IsSoundGate h
    hs = IsSoundGate-all_swept adds sounds left ks ls

    alone : AllByRecursion (λ (x : Seat). IsAlone x h.seats) ss
    alone = AllByRecursion-filter (λ (x : Seat). IsAlone x h.seats) (is_of_role c.role) h.seats
        (AllByRecursion-map {P = λ (x : Seat). ActsAs h.machine x.session x.role} {Q = λ (x : Seat). IsAlone x h.seats} (λ x acts. IsAlone-ActsAs h.machine x h.seats acts hs.seats) h.seats hs.seats)

    same_slots : h.clients ≡ left.clients
    same_slots = clients-all_swept sounds left ks ls.state

    but : AreNeededBut h ss
    but = AllByRecursion-zip {P = λ (x : Seat). is_of_role c.role x ≡ true → IsAmong ss x ≡ true} {Q = λ (x : Seat). has_role x.role g.clients ≡ true}
        {R = λ (x : Seat). IsAmong ss x ≡ false → is_needed h x ≡ true} (λ x among role n. by x among role n (is_of_role c.role x) refl) h.seats (all_among (is_of_role c.role) h.seats)
        (subst (AllByRecursion (λ (x : Seat). has_role x.role g.clients ≡ true)) (sym (seats-all_swept left ks)) a)
      where
        by : (x : Seat) → (is_of_role c.role x ≡ true → IsAmong ss x ≡ true) → has_role x.role g.clients ≡ true → IsAmong ss x ≡ false → (q : Bool) → is_of_role c.role x ≡ q → is_needed h x ≡ true
        by x among role n true e = absurd (false≢true (sym n ∙ among e))
        by x among role n false e =
            or_left (has_role x.role h.clients) (list_any (λ (f : Feed). x.session == f.session) h.feeds)
            (ap (has_role x.role) same_slots
            ∙ role_stays m g.clients c x.role t (λ r. false≢true (sym e ∙ (ap (λ z. bytes_eq x.role z) r ∙ bytes_eq-itself x.role))) role)

-- ---- each event

-- another event leaves each client its role
role_lasts : (g : Gate) (e : Event) → g.dead ≡ false → ((m : ℕ) → is_gone m e ≡ false) → (role : Name) → has_role role g.clients ≡ true → has_role role (next g e).clients ≡ true
role_lasts g e live n role h =
    let x = IsThere-list_any (λ c. bytes_eq c.role role) g.clients h in let k = (AreTouched-next g e live).stays x.number x.client x.there (n x.number) in
    of_role (next g e).clients x.number k.now role k.there
    (ap (λ y. y.role) k.card ∙ ((role-card_behind x.number x.client e).0 ∙ same-bytes_eq x.client.role role x.so))

all_behind : (R : Name → Type 0) (g : Gate) (xs : List Seat) → IsBehind R g xs → AllByRecursion (λ (s : Seat). R s.role) g.seats → AllByRecursion (λ (s : Seat). R s.role) xs
all_behind R g _ (stayed stays) a = AllByRecursion-filter (λ (s : Seat). R s.role) stays g.seats a
all_behind R g _ (further s full r) a = AllByRecursion-pushed (λ (x : Seat). R x.role) g.seats s a r

-- the role has a client behind the event
abbrev IsOfSome : Gate → Event → Name → Type 0
IsOfSome g e role = has_role role (next g e).clients ≡ true

other_needed : (g : Gate) (e : Event) → g.dead ≡ false → ((m : ℕ) → is_gone m e ≡ false) → AreFor (IsOfSome g e) g e → AreNeeded g → AreNeeded (next g e)
other_needed g e live n w a = all_behind (IsOfSome g e) g (next g e).seats (next_behind (IsOfSome g e) g e w)
    (AllByRecursion-map {P = λ (s : Seat). has_role s.role g.clients ≡ true} {Q = λ (s : Seat). has_role s.role (next g e).clients ≡ true} (λ s h. role_lasts g e live n s.role h) g.seats a)

newcomer : (g : Gate) (m : ℕ) (token : List ℕ) → g.dead ≡ false → (t : Token) → token_for g m token ≡ Some t → IsOfSome g (presented m token) t.role
newcomer g m token live t e =
    let h = came_as g m t in let is : next g (presented m token) ≡ h = next-alive g (presented m token) live ∙ ap (λ o. if_some o g (came_as g m)) e in
    subst (λ (x : Gate). has_role t.role x.clients ≡ true) (sym is) (of_role h.clients m (fresh h.entries t (at_text h t)) t.role (client_at-came_as g m t (Opens-token_for g m token t e).free) refl)

next_needed : Adds → Sounds → (g : Gate) (e : Event) → IsSoundGate g → IsSoundGate (next g e) → IsUsing none_but (next g e) → AreNeeded g → AreNeeded (next g e)
next_needed adds sounds g e b c u a = by g.dead refl
  where
    says : (m : ℕ) (text : List ℕ) → g.dead ≡ false → (d : Client) → client_at g.clients m ≡ Some d → IsOfSome g (message m text) d.role
    says m text live d t = role_lasts g (message m text) live (λ j. refl) d.role (of_role g.clients m d d.role t refl)

    goes : (m : ℕ) (o : Option Client) → client_at g.clients m ≡ o → let k = if_some o g (λ d. let h = all_swept (record g { clients = set g.clients m None }) (map (λ s. s.feed) d.subs) in settles (all_rested h (filter (is_of_role d.role) h.seats))) in
        IsSoundGate k → IsUsing none_but k → AreNeeded k
    goes m None t s v = a
    goes m (Some d) t s v = needed_roles _ s v (went_needed adds sounds g m d t b a)

    live_by : g.dead ≡ false → (f : Event) → e ≡ f → IsSoundGate (next g f) → IsUsing none_but (next g f) → AreNeeded (next g f)
    live_by live (presented m token) x s v = other_needed g (presented m token) live (λ j. refl) (newcomer g m token live) a
    live_by live (message m text) x s v = other_needed g (message m text) live (λ j. refl) (says m text live) a
    live_by live (gone m) x s v =
        subst AreNeeded (sym (next-alive g (gone m) live))
        (goes m (client_at g.clients m) refl (subst IsSoundGate (next-alive g (gone m) live) s) (subst (IsUsing none_but) (next-alive g (gone m) live) v))
    live_by live (known tokens) x s v = other_needed g (known tokens) live (λ j. refl) tt a
    live_by live ticked x s v = other_needed g ticked live (λ j. refl) tt a
    live_by live synced x s v = other_needed g synced live (λ j. refl) tt a
    live_by live (handed m) x s v = other_needed g (handed m) live (λ j. refl) tt a
    live_by live (arrived st) x s v = other_needed g (arrived st) live (λ j. refl) tt a
    live_by live led x s v = other_needed g led live (λ j. refl) tt a
    live_by live forgave x s v = other_needed g forgave live (λ j. refl) tt a
    live_by live failed x s v = other_needed g failed live (λ j. refl) tt a

    by : (t : Bool) → g.dead ≡ t → AreNeeded (next g e)
    by true t = subst AreNeeded (sym (next-dead g e t)) a
    by false t = live_by t e refl c u

pub AreNeeded-Runs : Adds → Starts → Sounds → (cap : ℕ) (g : Gate) → Runs cap g → AreNeeded g
AreNeeded-Runs adds starts sounds cap _ (begins tokens most head journal g r) = subst AreNeeded (sym r.leads.gate) tt
AreNeeded-Runs adds starts sounds cap _ (goes_on h e w r) =
    next_needed adds sounds h e (IsSoundGate-Runs adds starts sounds cap h r) (IsSoundGate-Runs adds starts sounds cap (next h e) (goes_on h e w r)) (IsUsing-Runs adds starts sounds cap (next h e) (goes_on h e w r))
    (AreNeeded-Runs adds starts sounds cap h r)
AreNeeded-Runs adds starts sounds cap _ (begins_again h disk tokens most i r l x) = subst AreNeeded (sym x.leads.gate) tt

-- An event tells a client only of grants that its role has.
use Rattle.std.proofs.Common.{◌≡◌, ℕ, ◌+◌, Bool, true, false, cond, List, [], ◌∷◌, ◌++◌, map, set, Option, Some, None, refl, ap, ◌∙◌, sym, subst, append-nil}
use Rattle.std.specs.Prelude.{◌==◌, filter, flat_map, option_and_then, is_some, option_map}
use Rattle.std.specs.List.{AllByRecursion}
use Rattle.std.proofs.lemmas.Bool.{false≢true}
use Rattle.iv_rows.specs.Options.{if_some}
use Rattle.iv_access.specs.Laws.{GrantsGive}
use Rattle.iv_access.specs.Privileges.{role_of}
use Rattle.iv_access.specs.Rights.{Name}
use Rattle.iv_machine.specs.Act.{begin, finish, Line, reply, change, ended, Act}
use Rattle.iv_machine.specs.Machine.{difference, outcome, step, Outcome}
use Rattle.iv_machine.specs.Refusing.{refusal}
use Rattle.iv_machine.specs.State.{Frame, State, start}
use Rattle.iv_machine.specs.Well.{is_well_act}
use Rattle.iv_message.specs.Message.{is_well_message}
use Rattle.iv_message.proofs.Meaning.{ReadsWell}
use Rattle.iv_message.specs.Told.{Told, changed, over, granted}
use Rattle.iv_clients.specs.Clients.{Client, Shown, Sub, at_client, client_at, may_say, own_line, own_lines, saying, told}
use Rattle.iv_clients.specs.Feeds.{Feed, Seat, is_of_role, rel_read, seat_of, without_seat}
use Rattle.iv_records.specs.Journal.{Entry, said_by, requests_in}
use Rattle.iv_clients.specs.Tokens.{Token}
use Rattle.iv_clients.proofs.Slots.{same-Some, not_None-Some}
use Rattle.iv_journal.specs.Journal as journals
use Rattle.iv_gate.specs.Events.{Event, presented, message, gone, known, ticked, synced, handed, failed, happens, next, arrived, forgave, led}
use Rattle.iv_gate.specs.Gate.{Gate, all_rested, all_swept, granted_by, has_some, hears, in_session, is_accepted, is_needed, ran, reply_in, rested, token_for, settles, Head, entries_of, reply_to, next_position}
use Rattle.iv_gate.specs.Replies.{IsClient, told_by}
use Rattle.iv_gate.specs.Restoring.{Restores, gate_at_start}
use Rattle.iv_gate.specs.Runs.{Runs, begins, goes_on, begins_again}
use Rattle.iv_gate.specs.Implied.{GrantsAreTrue}
use Rattle.iv_gate.proofs.SoundRequests.{None-is_accepted, ActsAs-seat_of}
use Rattle.iv_gate.proofs.GrantsByCommands.{HasAdmin, HasAdmin-step, names_hold, is_well_message-said_by}
use Rattle.iv_gate.proofs.MessageEffects.{AreCalm, is_news}
use Rattle.iv_gate.proofs.MessageNews.{Hears, quietly, by_command, by_contents, IsToldOf, IsToldOutcome, grants_of}
use Rattle.iv_gate.proofs.FollowedNumbers.{AllByRecursion-append, AllByRecursion-flat_map, AllByRecursion-Contains}
use Rattle.iv_gate.proofs.SoundRuns.{Starts, option_and_then-Some, IsKept-Runs, IsSoundGate-Runs}
use Rattle.iv_gate.proofs.MachineLists.{Some-is_some}
use Rattle.iv_gate.proofs.EventNews.{HearsBy-next, told_by-append, HearsBy, untaken, taken, heard}
use Rattle.iv_gate.proofs.SoundSteps.{AllByRecursion-map, AllByRecursion-always}
use Rattle.iv_gate.proofs.SeatsAndFeeds.{has_role-client_at}
use Rattle.iv_gate.proofs.SessionFacts.{Sits, at_all_swept, at_done, at_with}
use Rattle.iv_gate.proofs.SoundCommands.{Adds, IsSoundGate, Sounds}
use Rattle.iv_gate.proofs.EventMarks.{came_as}
use Rattle.iv_steps.specs.Steps.{Fact, all_carried, among, carried, is_shared, looked_at, shared, stepped, passed}
use Rattle.iv_gate.specs.Arriving.{Step, entry_of, fact_of, fault_of, was_taken, landed, gains, newly, takes}
use Rattle.iv_gate.proofs.NewPrivileges.{has_some-gains}

-- ---- the superuser stays the first role

admin_kit : Sounds → Sits (λ s seats. HasAdmin s)
admin_kit sounds = record { step = λ s k seats p h. HasAdmin-step sounds s k h; begin = λ g n role e h. HasAdmin-step sounds g.machine (in_session n (begin role)) h }

rested_admin : Sounds → (g : Gate) (s : Seat) → HasAdmin g.machine → HasAdmin (rested g s).machine
rested_admin sounds g s h = by (is_needed g s)
  where
    by : (b : Bool) → HasAdmin (cond b g (ran (record g { seats = without_seat s.session g.seats }) (in_session s.session finish))).machine
    by true = h
    by false = HasAdmin-step sounds g.machine (in_session s.session finish) h

all_rested_admin : Sounds → (g : Gate) (ss : List Seat) → HasAdmin g.machine → HasAdmin (all_rested g ss).machine
all_rested_admin sounds g [] h = h
all_rested_admin sounds g (s ∷ ss) h = all_rested_admin sounds (rested g s) ss (rested_admin sounds g s h)

-- a step keeps it, and so do the facts of a journal
carried_admin : Sounds → (f : Fact) (s t : State) → HasAdmin s → carried f s ≡ Some t → HasAdmin t
carried_admin sounds f s t b h = by (is_shared f.act) h
  where
    passed_admin : (act : Act) (u v : State) → HasAdmin u → passed act u ≡ Some v → HasAdmin v
    passed_admin act u v a e = test (is_some (refusal u 1 act)) e
      where
        test : (d : Bool) → cond d None (Some (step u (record { session = 1; act = act })).state) ≡ Some v → HasAdmin v
        test true i = absurd (not_None-Some v (sym i))
        test false i = subst HasAdmin (same-Some (step u (record { session = 1; act = act })).state v i) (HasAdmin-step sounds u (record { session = 1; act = act }) a)

    by : (d : Bool) → cond d (option_and_then (passed finish) (option_and_then (passed f.act) (passed (begin f.role) s))) None ≡ Some t → HasAdmin t
    by false e = absurd (not_None-Some t (sym e))
    by true e = option_and_then-Some (option_and_then (passed f.act) (passed (begin f.role) s)) (passed finish) t (HasAdmin t) e (λ v p q.
        option_and_then-Some (passed (begin f.role) s) (passed f.act) v (HasAdmin t) p (λ u a c. passed_admin finish v t (passed_admin f.act u v (passed_admin (begin f.role) s u b a) c) q))

all_admin : Sounds → (fs : List Fact) (s t : State) → HasAdmin s → all_carried fs s ≡ Some t → HasAdmin t
all_admin sounds [] s t b h = subst HasAdmin (same-Some s t h) b
all_admin sounds (f ∷ fs) s t b h =
    option_and_then-Some (carried f s) (all_carried fs) t (HasAdmin t) h (λ u i k. all_admin sounds fs u t (carried_admin sounds f s u b i) k)

stepped_admin : Sounds → (fs : List Fact) (s : State) (o : Outcome) → HasAdmin s → stepped fs s ≡ Some o → HasAdmin o.state
stepped_admin sounds fs s o b h = by (all_carried fs (shared s)) refl h
  where
    by : (t : Option State) → all_carried fs (shared s) ≡ t → option_map (λ u. looked_at s (among s u)) t ≡ Some o → HasAdmin o.state
    by None q e = absurd (not_None-Some o (sym e))
    by (Some t) q e = subst (λ (z : Outcome). HasAdmin z.state) (same-Some (looked_at s (among s t)) o e) (all_admin sounds fs (shared s) t b q)

takes_admin : Sounds → (g : Gate) (s : Step) → HasAdmin g.machine → HasAdmin (takes g s).machine
takes_admin sounds g s h = by (is_some (fault_of g s)) (was_taken g s) (stepped (map fact_of s.requests) g.machine) refl
  where
    by : (x y : Bool) (o : Option Outcome) → stepped (map fact_of s.requests) g.machine ≡ o → HasAdmin (cond x (record g { dead = true }) (cond y g (if_some o g (landed g (entry_of s))))).machine
    by true y o e = h
    by false true o e = h
    by false false None e = h
    by false false (Some o) e = stepped_admin sounds (map fact_of s.requests) g.machine o h e

happens_admin : Sounds → (g : Gate) (e : Event) → HasAdmin g.machine → HasAdmin (happens g e).machine
happens_admin sounds g (presented m token) h = by (token_for g m token)
  where
    by : (o : Option Token) → HasAdmin (if_some o g (came_as g m)).machine
    by None = h
    by (Some t) = at_with (λ s seats. HasAdmin s) (admin_kit sounds) g t.role h
happens_admin sounds g (message m text) h = by (client_at g.clients m)
  where
    heard : (b : Client) (d : Bool) → HasAdmin (cond d (hears g m b text) g).machine
    heard b true = at_done (λ s seats. HasAdmin s) (admin_kit sounds) (record g { clients = at_client m (saying text) g.clients }) m b text (said_by text) h
    heard b false = h

    by : (o : Option Client) → HasAdmin (if_some o g (λ b. cond (may_say b) (hears g m b text) g)).machine
    by None = h
    by (Some b) = heard b (may_say b)
happens_admin sounds g (gone m) h = by (client_at g.clients m)
  where
    left : Gate
    left = record g { clients = set g.clients m None }

    without : Client → Gate
    without b = let i = all_swept left (map (λ s. s.feed) b.subs) in settles (all_rested i (filter (is_of_role b.role) i.seats))

    by : (o : Option Client) → HasAdmin (if_some o g without).machine
    by None = h
    by (Some b) =
        let ks = map (λ (s : Sub). s.feed) b.subs in let i = all_swept left ks in
        all_rested_admin sounds i (filter (is_of_role b.role) i.seats) (at_all_swept (λ s seats. HasAdmin s) (admin_kit sounds) left ks h)
happens_admin sounds g (known tokens) h = h
happens_admin sounds g ticked h = h
happens_admin sounds g synced h = h
happens_admin sounds g (handed m) h = h
happens_admin sounds g (arrived s) h = takes_admin sounds g s h
happens_admin sounds g led h = h
happens_admin sounds g forgave h = h
happens_admin sounds g failed h = h

next_admin : Sounds → (g : Gate) (e : Event) → HasAdmin g.machine → HasAdmin (next g e).machine
next_admin sounds g e h = by g.dead
  where
    by : (t : Bool) → HasAdmin (cond t g (happens g e)).machine
    by true = h
    by false = happens_admin sounds g e h

restored_admin : Sounds → (cap : ℕ) (tokens : List Token) (most : ℕ) (head : Head) (sent : List Shown) (journal : List journals.Line) (g : Gate) → Restores (gate_at_start cap tokens most head sent) journal g → HasAdmin g.machine
restored_admin sounds cap tokens most head sent journal g r = subst (λ (x : Gate). HasAdmin x.machine) (sym r.leads.gate) (all_admin sounds (map fact_of (requests_in g.entries)) (start cap) r.leads.state refl r.leads.accepted)

runs_admin : Sounds → (cap : ℕ) (g : Gate) → Runs cap g → HasAdmin g.machine
runs_admin sounds cap _ (begins tokens most head journal g r) = restored_admin sounds cap tokens most head [] journal g r
runs_admin sounds cap _ (goes_on h e w r) = next_admin sounds h e (runs_admin sounds cap h r)
runs_admin sounds cap _ (begins_again h disk tokens most i r l x) = restored_admin sounds cap tokens most h.head h.sent disk i x

-- ---- what is told

abbrev IsGrantTrue : Frame → Name → Told → Type 0
IsGrantTrue f role (granted rel) = has_some f role rel ≡ true
IsGrantTrue f role _ = Unit {0}

calm_true : (f : Frame) (role : Name) (t : Told) → is_news t ≡ false → IsGrantTrue f role t
calm_true f role (granted rel) h = absurd (false≢true (sym h))
calm_true f role _ h = tt

calm_all : (f : Frame) (role : Name) (ts : List Told) → AreCalm ts → AllByRecursion (IsGrantTrue f role) ts
calm_all f role ts a = AllByRecursion-map (λ t h. calm_true f role t h) ts a

line_true : (f : Frame) (role : Name) (feeds : List Feed) (l : Line) (x : Sub) → AllByRecursion (IsGrantTrue f role) (own_line feeds l x)
line_true f role feeds (reply n r) x = tt
line_true f role feeds (change n k rows) x = by (k == x.feed)
  where
    by : (t : Bool) → AllByRecursion (IsGrantTrue f role) (cond t (changed x.own rows ∷ []) [])
    by true = (tt, tt)
    by false = tt
line_true f role feeds (ended n k why rows) x = by (k == x.feed)
  where
    by : (t : Bool) → AllByRecursion (IsGrantTrue f role) (cond t (over x.own (rel_read feeds k) why rows ∷ []) [])
    by true = (tt, tt)
    by false = tt

names_told : (f : Frame) (role : Name) (names : List Name) → AllByRecursion (λ rel. has_some f role rel ≡ true) names → AllByRecursion (IsGrantTrue f role) (map granted names)
names_told f role [] a = tt
names_told f role (n ∷ names) a = (a.0, names_told f role names a.1)

module _ (adds : Adds) (starts : Starts) (sounds : Sounds) (gives : GrantsGive) (reads : ReadsWell) (cap : ℕ) (g : Gate) (e : Event) (r : Runs cap g) (m : ℕ) (c d : Client) (x : IsClient g m c) where
  sound : IsSoundGate g
  sound = IsSoundGate-Runs adds starts sounds cap g r

  grants_by : (a : IsToldOf g (next g e) c d) → (t : Bool) → is_accepted (reply_in (step g.machine a.command).lines) ≡ t
      → AllByRecursion (IsGrantTrue (next g e).machine.frame c.role) (cond t (map granted (granted_by (step g.machine a.command).state.frame a.command.act c.role)) [])
  grants_by a false h = tt
  grants_by a true h =
      let s = g.machine in let k = a.command in
      let z : refusal s k.session k.act ≡ None = None-is_accepted s k (refusal s k.session k.act) h in
      let seat =
      Some-is_some (seat_of g.seats c.role) ((IsKept-Runs adds starts sounds cap g r).shared.seated c.role (has_role-client_at g.clients m c x.there)) in
      let acts = ActsAs-seat_of g sound c.role seat.0 seat.1 in
      let known = subst (λ o. role_of (outcome s k o).state.frame.rights c.role ≡ Some acts.place) z ((sounds.lasts s k).roles c.role acts.place acts.known) in
      let well : is_well_act k.act ≡ true = ap is_well_message (sym a.said.2) ∙ is_well_message-said_by reads a.said.0 in
      names_told (next g e).machine.frame c.role (granted_by (step g.machine a.command).state.frame a.command.act c.role)
      (subst (λ (st : State). AllByRecursion (λ rel. has_some st.frame c.role rel ≡ true) (granted_by (step g.machine a.command).state.frame a.command.act c.role)) (sym a.by.machine)
      (subst (λ (st : State). AllByRecursion (λ rel. has_some st.frame c.role rel ≡ true) (granted_by st.frame a.command.act c.role)) (sym (ap (λ o. (outcome s k o).state) z))
      (names_hold s k.session c.role acts.place gives k.act z well (runs_admin sounds cap g r) known)))

  outcome_true : (o : Outcome) (grants : List Told) (added : List Entry) → IsToldOutcome g (next g e) o grants added c d → AllByRecursion (IsGrantTrue (next g e).machine.frame c.role) grants
      → AllByRecursion (IsGrantTrue (next g e).machine.frame c.role) (told_by c d)
  outcome_true o grants added a true_grants =
      subst (AllByRecursion (IsGrantTrue (next g e).machine.frame c.role)) (sym (told_by-append c d _ a.told))
      (AllByRecursion-append (IsGrantTrue (next g e).machine.frame c.role) a.front ((own_lines g.feeds o.lines c.subs ++ grants) ++ a.back) (calm_all (next g e).machine.frame c.role a.front a.calm.0)
      (AllByRecursion-append (IsGrantTrue (next g e).machine.frame c.role) (own_lines g.feeds o.lines c.subs ++ grants) a.back
      (AllByRecursion-append (IsGrantTrue (next g e).machine.frame c.role) (own_lines g.feeds o.lines c.subs) grants
      (AllByRecursion-flat_map (IsGrantTrue (next g e).machine.frame c.role) (λ l. flat_map (own_line g.feeds l) c.subs) o.lines
      (AllByRecursion-always (λ l. AllByRecursion-flat_map (IsGrantTrue (next g e).machine.frame c.role) (own_line g.feeds l) c.subs (AllByRecursion-always (λ y. line_true (next g e).machine.frame c.role g.feeds l y) c.subs)) o.lines))
      true_grants)
      (calm_all (next g e).machine.frame c.role a.back a.calm.1)))

  -- what a step grants it has after it
  newly_true : (before behind : Frame) (names : List Name) → AllByRecursion (λ rel. has_some behind c.role rel ≡ true) (filter (gains before behind c.role) names)
  newly_true before behind [] = tt
  newly_true before behind (n ∷ names) = by (gains before behind c.role n) refl (newly_true before behind names)
    where
      rest : List Name
      rest = filter (gains before behind c.role) names

      by : (x : Bool) → gains before behind c.role n ≡ x → AllByRecursion (λ rel. has_some behind c.role rel ≡ true) rest → AllByRecursion (λ rel. has_some behind c.role rel ≡ true) (cond x (n ∷ rest) rest)
      by true q a = (has_some-gains before behind c.role n q, a)
      by false q a = a

  grants_told : HearsBy g e c d → AllByRecursion (IsGrantTrue (next g e).machine.frame c.role) (told_by c d)
  grants_told (untaken n k same) = subst (AllByRecursion (IsGrantTrue (next g e).machine.frame c.role)) (sym (told_by-append c d [] (ap told (sym same) ∙ sym (append-nil (told c))))) tt
  grants_told (taken s q a) =
      let names = newly g.machine.frame a.outcome.state.frame c.role in
      outcome_true a.outcome (map granted names) (entry_of s ∷ []) a.by (names_told (next g e).machine.frame c.role names
      (subst (λ (st : State). AllByRecursion (λ rel. has_some st.frame c.role rel ≡ true) (newly g.machine.frame a.outcome.state.frame c.role)) (sym a.by.machine)
      (newly_true g.machine.frame a.outcome.state.frame (map (λ x. x.name) a.outcome.state.frame.catalog))))
  grants_told (heard n h) = by_event h
    where
      by_event : Hears g (next g e) c d → AllByRecursion (IsGrantTrue (next g e).machine.frame c.role) (told_by c d)
      by_event (quietly a k) = subst (AllByRecursion (IsGrantTrue (next g e).machine.frame c.role)) (sym (told_by-append c d a.more a.told)) (calm_all (next g e).machine.frame c.role a.more a.calm)
      by_event (by_command a) =
          outcome_true (step g.machine a.command) (grants_of g.machine a.command c.role) (entries_of (next_position g) a.request a.name (reply_to g a.command)) a.by
          (grants_by a (is_accepted (reply_in (step g.machine a.command).lines)) refl)
      by_event (by_contents a k) = subst (AllByRecursion (IsGrantTrue (next g e).machine.frame c.role)) (sym (told_by-append c d _ a.told))
          (AllByRecursion-append (IsGrantTrue (next g e).machine.frame c.role) a.front (changed (c.given + 1) (difference a.before a.after) ∷ a.back) (calm_all (next g e).machine.frame c.role a.front a.calm.0)
          (tt, calm_all (next g e).machine.frame c.role a.back a.calm.1))

pub GrantsAreTrue-Runs : Adds → Starts → Sounds → GrantsGive → ReadsWell → (cap : ℕ) (g : Gate) (e : Event) → Runs cap g → GrantsAreTrue g e
GrantsAreTrue-Runs adds starts sounds gives reads cap g e r m c d x y rel h =
    AllByRecursion-Contains (IsGrantTrue (next g e).machine.frame c.role) (told_by c d) (granted rel)
    (grants_told adds starts sounds gives reads cap g e r m c d x (HearsBy-next sounds g e (IsSoundGate-Runs adds starts sounds cap g r) m c d x.there x.stays y.there y.stays)) h

-- A client is told exactly what the accepted request granted, name by name.
use Rattle.std.proofs.Common.{◌≡◌, ◌+◌, Bool, true, false, cond, List, [], ◌∷◌, ◌++◌, drop, length, map, refl, ap, ◌∙◌, sym, append-nil, subst}
use Rattle.std.specs.Prelude.{◌==◌, Contains, filter, flat_map}
use Rattle.std.proofs.lemmas.Bool.{false≢true}
use Rattle.std.proofs.lemmas.List.Elements.{filter-append}
use Rattle.iv_access.specs.Rights.{Name}
use Rattle.iv_machine.specs.Act.{Line, reply, change, ended}
use Rattle.iv_machine.specs.Machine.{Outcome, difference, step}
use Rattle.iv_message.specs.Told.{Told, changed, over, granted}
use Rattle.iv_clients.specs.Clients.{Client, Sub, own_line, own_lines, told}
use Rattle.iv_clients.specs.Feeds.{Feed, rel_read}
use Rattle.iv_records.specs.Journal.{Entry, requests_in, Request}
use Rattle.iv_gate.specs.Events.{Event, next, arrived, happens, failed, forgave, gone, handed, known, message, presented, synced, ticked, led}
use Rattle.iv_gate.specs.Gate.{Gate, granted_by, is_accepted, entries_of, has_on, reply_to, next_position}
use Rattle.iv_gate.specs.Implied.{NewRightsAreTold}
use Rattle.iv_gate.specs.Laws.{GrantsAreTold, granted_at, is_granted}
use Rattle.iv_gate.specs.Replies.{told_by, added_by}
use Rattle.iv_gate.proofs.GrownTexts.{drop-append_front}
use Rattle.iv_gate.proofs.MessageEffects.{AreCalm, is_news, requests_in-entries_of}
use Rattle.iv_gate.proofs.MessageNews.{Hears, quietly, by_command, by_contents, IsToldOutcome, grants_of}
use Rattle.iv_gate.proofs.EventNews.{HearsBy-next, told_by-append, HearsBy, taken, untaken, heard}
use Rattle.iv_gate.proofs.SoundCommands.{IsSoundGate, Sounds}
use Rattle.iv_gate.proofs.EventMarks.{entries-next}
use Rattle.iv_machine.specs.State.{Frame, State}
use Rattle.iv_gate.specs.Arriving.{Step, entry_of, gains, newly}
use Rattle.iv_gate.proofs.NewPrivileges.{Contains-filtered, gains-has_on, named_passes, none_gained, on_named}
use Rattle.std.proofs.lemmas.List.Concat.{flat_map-append}
use Rattle.iv_steps.specs.Steps.{is_shared}

-- behind the same front stands the same
pub same-append_front : {X : Type 0} (xs ys zs : List X) → xs ++ ys ≡ xs ++ zs → ys ≡ zs
same-append_front xs ys zs e = sym (drop-append_front xs ys) ∙ (ap (drop (length xs)) e ∙ drop-append_front xs zs)

calm_grants : (t : Told) → is_news t ≡ false → is_granted t ≡ false
calm_grants (granted rel) h = absurd (false≢true (sym h))
calm_grants _ h = refl

none_granted : (ts : List Told) → AreCalm ts → filter is_granted ts ≡ []
none_granted [] a = refl
none_granted (t ∷ ts) a = (λ i. cond (calm_grants t a.0 i) (t ∷ filter is_granted ts) (filter is_granted ts)) ∙ none_granted ts a.1

line_grants : (feeds : List Feed) (l : Line) (x : Sub) → filter is_granted (own_line feeds l x) ≡ []
line_grants feeds (reply n r) x = refl
line_grants feeds (change n k rows) x = by (k == x.feed)
  where
    by : (t : Bool) → filter is_granted (cond t (changed x.own rows ∷ []) []) ≡ []
    by true = refl
    by false = refl
line_grants feeds (ended n k why rows) x = by (k == x.feed)
  where
    by : (t : Bool) → filter is_granted (cond t (over x.own (rel_read feeds k) why rows ∷ []) []) ≡ []
    by true = refl
    by false = refl

line_of_grants : (feeds : List Feed) (l : Line) (xs : List Sub) → filter is_granted (flat_map (own_line feeds l) xs) ≡ []
line_of_grants feeds l [] = refl
line_of_grants feeds l (x ∷ xs) = filter-append is_granted (own_line feeds l x) (flat_map (own_line feeds l) xs) ∙ (λ i. line_grants feeds l x i ++ line_of_grants feeds l xs i)

lines_grant : (feeds : List Feed) (ls : List Line) (xs : List Sub) → filter is_granted (own_lines feeds ls xs) ≡ []
lines_grant feeds [] xs = refl
lines_grant feeds (l ∷ ls) xs =
    filter-append is_granted (flat_map (own_line feeds l) xs) (own_lines feeds ls xs) ∙ (λ i. line_of_grants feeds l xs i ++ lines_grant feeds ls xs i)

names_stay : (names : List Name) → filter is_granted (map granted names) ≡ map granted names
names_stay [] = refl
names_stay (n ∷ names) = ap (λ z. granted n ∷ z) (names_stay names)

grants_stay : (b : Bool) (names : List Name) → filter is_granted (cond b (map granted names) []) ≡ cond b (map granted names) []
grants_stay true names = names_stay names
grants_stay false names = refl

requests_both : (xs ys : List Entry) → requests_in (xs ++ ys) ≡ requests_in xs ++ requests_in ys
requests_both xs ys = flat_map-append (λ (e : Entry). e.requests) xs ys

-- what requests granted, as the machine stands now
abbrev granted_then : Gate → Name → List Entry → List Told
granted_then h role es = map granted (flat_map (λ q. granted_by h.machine.frame q.act role) (requests_in es))

-- of an outcome what is granted is told, and nothing else
outcome_grants : (g h : Gate) (o : Outcome) (grants : List Told) (added : List Entry) (c d : Client) → IsToldOutcome g h o grants added c d → filter is_granted grants ≡ grants → filter is_granted (told_by c d) ≡ grants
outcome_grants g h o grants added c d a stay =
    let lines = own_lines g.feeds o.lines c.subs in
    ap (filter is_granted) (told_by-append c d _ a.told)
    ∙ (filter-append is_granted a.front ((lines ++ grants) ++ a.back)
    ∙ (λ i. none_granted a.front a.calm.0 i ++ (filter-append is_granted (lines ++ grants) a.back
    ∙ ((λ j. (filter-append is_granted lines grants ∙ (λ k. lines_grant g.feeds o.lines c.subs k ++ stay k)) j ++ none_granted a.back a.calm.1 j) ∙ append-nil grants)) i))

module _ (g h : Gate) (c d : Client) (es : List Entry) (e : h.entries ≡ g.entries ++ es) where
  none_new : requests_in h.entries ≡ requests_in g.entries → requests_in es ≡ []
  none_new n = same-append_front (requests_in g.entries) (requests_in es) [] (sym (requests_both g.entries es) ∙ (sym (ap requests_in e) ∙ (n ∙ sym (append-nil (requests_in g.entries)))))

  nothing_granted : (more : List Told) → told_by c d ≡ more → filter is_granted more ≡ [] → requests_in h.entries ≡ requests_in g.entries → filter is_granted (told_by c d) ≡ granted_then h c.role es
  nothing_granted more t none n = ap (filter is_granted) t ∙ (none ∙ sym (ap (λ qs. map granted (flat_map (λ (q : Request). granted_by h.machine.frame q.act c.role) qs)) (none_new n)))

  pub exactly : Hears g h c d → filter is_granted (told_by c d) ≡ granted_then h c.role es
  exactly (quietly a n) = nothing_granted a.more (told_by-append c d a.more a.told) (none_granted a.more a.calm) n
  exactly (by_contents a n) =
      let news = changed (c.given + 1) (difference a.before a.after) in
      nothing_granted (a.front ++ (news ∷ a.back)) (told_by-append c d _ a.told)
      (filter-append is_granted a.front (news ∷ a.back) ∙ (λ i. none_granted a.front a.calm.0 i ++ none_granted a.back a.calm.1 i)) n
  exactly (by_command a) =
      outcome_grants g h (step g.machine a.command) (grants_of g.machine a.command c.role) (entries_of (next_position g) a.request a.name (reply_to g a.command)) c d a.by (grants_stay accepted names)
      ∙ (same accepted ∙ sym (ap (λ qs. map granted (flat_map (λ (q : Request). granted_by h.machine.frame q.act c.role) qs)) asked))
    where
      accepted : Bool
      accepted = is_accepted (reply_to g a.command)

      names : List Name
      names = granted_by (step g.machine a.command).state.frame a.command.act c.role

      added : List Entry
      added = entries_of (next_position g) a.request a.name (reply_to g a.command)

      asked : requests_in es ≡ cond (is_accepted (reply_to g a.command)) (a.request ∷ []) []
      asked = ap requests_in (same-append_front g.entries es added (sym e ∙ a.by.entries)) ∙ requests_in-entries_of (next_position g) a.request a.name (reply_to g a.command) (ap is_shared a.asks ∙ a.shared)

      same : (b : Bool) → cond b (map granted names) [] ≡ map granted (flat_map (λ (q : Request). granted_by h.machine.frame q.act c.role) (cond b (a.request ∷ []) []))
      same true = (λ i. map granted (granted_by (sym a.by.machine i).frame (sym a.asks i) c.role)) ∙ ap (map granted) (sym (append-nil (granted_by h.machine.frame a.request.act c.role)))
      same false = refl

-- ---- each event

none_newly : (f : Frame) (role : Name) (names : List Name) → filter (gains f f role) names ≡ []
none_newly f role [] = refl
none_newly f role (n ∷ names) = (λ i. cond (none_gained f role n i) (n ∷ filter (gains f f role) names) (filter (gains f f role) names)) ∙ none_newly f role names

-- an event that is no step grants what its requests grant
other_grants : (g : Gate) (e : Event) (role : Name) → ((s : Step) → e ≡ arrived s → ⊥) → granted_at g e role ≡ flat_map (λ q. granted_by (next g e).machine.frame q.act role) (requests_in (added_by g e))
other_grants g (presented m token) role n = refl
other_grants g (message m text) role n = refl
other_grants g (gone m) role n = refl
other_grants g (known tokens) role n = refl
other_grants g ticked role n = refl
other_grants g synced role n = refl
other_grants g (handed m) role n = refl
other_grants g (arrived s) role n = absurd (n s refl)
other_grants g led role n = refl
other_grants g forgave role n = refl
other_grants g failed role n = refl

-- where nothing happens nothing is granted
no_grants : (g : Gate) (e : Event) (role : Name) → (next g e).machine ≡ g.machine → requests_in (added_by g e) ≡ [] → granted_at g e role ≡ []
no_grants g (presented m token) role n k = ap (flat_map (λ (q : Request). granted_by (next g (presented m token)).machine.frame q.act role)) k
no_grants g (message m text) role n k = ap (flat_map (λ (q : Request). granted_by (next g (message m text)).machine.frame q.act role)) k
no_grants g (gone m) role n k = ap (flat_map (λ (q : Request). granted_by (next g (gone m)).machine.frame q.act role)) k
no_grants g (known tokens) role n k = ap (flat_map (λ (q : Request). granted_by (next g (known tokens)).machine.frame q.act role)) k
no_grants g ticked role n k = ap (flat_map (λ (q : Request). granted_by (next g ticked).machine.frame q.act role)) k
no_grants g synced role n k = ap (flat_map (λ (q : Request). granted_by (next g synced).machine.frame q.act role)) k
no_grants g (handed m) role n k = ap (flat_map (λ (q : Request). granted_by (next g (handed m)).machine.frame q.act role)) k
no_grants g (arrived s) role n k =
    ap (λ (x : State). newly g.machine.frame x.frame role) n ∙ none_newly g.machine.frame role (map (λ x. x.name) g.machine.frame.catalog)
no_grants g led role n k = ap (flat_map (λ (q : Request). granted_by (next g led).machine.frame q.act role)) k
no_grants g forgave role n k = ap (flat_map (λ (q : Request). granted_by (next g forgave).machine.frame q.act role)) k
no_grants g failed role n k = ap (flat_map (λ (q : Request). granted_by (next g failed).machine.frame q.act role)) k

pub GrantsAreTold-IsSoundGate : Sounds → (g : Gate) (e : Event) → IsSoundGate g → g.dead ≡ false → GrantsAreTold g e
GrantsAreTold-IsSoundGate sounds g e b live m c d x y = by (HearsBy-next sounds g e b m c d x.there x.stays y.there y.stays)
  where
    by : HearsBy g e c d → filter is_granted (told_by c d) ≡ map granted (granted_at g e c.role)
    by (heard n h) = exactly g (next g e) c d (added_by g e) (entries-next g e live) h ∙ ap (map granted) (sym (other_grants g e c.role n))
    by (untaken n k same) =
        ap (filter is_granted) (told_by-append c d [] (ap told (sym same) ∙ sym (append-nil (told c))))
        ∙ ap (map granted) (sym (no_grants g e c.role n (none_new g (next g e) c d (added_by g e) (entries-next g e live) (ap requests_in k))))
    by (taken s q a) =
        let names = newly g.machine.frame a.outcome.state.frame c.role in
        outcome_grants g (next g e) a.outcome (map granted names) (entry_of s ∷ []) c d a.by (names_stay names)
        ∙ (ap (λ (st : State). map granted (newly g.machine.frame st.frame c.role)) (sym a.by.machine)
        ∙ ap (map granted) (subst (λ f. newly g.machine.frame (next g f).machine.frame c.role ≡ granted_at g f c.role) (sym q) refl))

-- what a role has by a step, and had not, is among what is told
pub NewRightsAreTold-IsSoundGate : Sounds → (g : Gate) (s : Step) → IsSoundGate g → NewRightsAreTold g s
NewRightsAreTold-IsSoundGate sounds g s b m c d x y p rel before now = by g.dead refl
  where
    after : Frame
    after = (next g (arrived s)).machine.frame

    there : Contains (map granted (newly g.machine.frame after c.role)) (granted rel)
    there =
        let e = on_named after c.role p rel now in
        named_passes (gains g.machine.frame after c.role) after.catalog rel e.0 e.1 (gains-has_on g.machine.frame after c.role p rel before now)

    by : (t : Bool) → g.dead ≡ t → Contains (told_by c d) (granted rel)
    by true dead =
        let still = ap (λ t. cond t g (happens g (arrived s))) dead in
        absurd (false≢true (sym before ∙ (ap (λ (h : Gate). has_on h.machine.frame c.role p rel) (sym still) ∙ now)))
    by false live = Contains-filtered is_granted (told_by c d) (granted rel)
        (subst (λ ts. Contains ts (granted rel)) (sym (GrantsAreTold-IsSoundGate sounds g (arrived s) b live m c d x y)) there)

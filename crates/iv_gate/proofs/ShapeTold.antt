-- An administrator was told all of the shape, and nobody else any of it.
use Rattle.std.proofs.Common.{◌≡◌, ℕ, ◌+◌, Bool, true, false, cond, ◌||◌, List, [], ◌∷◌, ◌++◌, length, map, Option, Some, None, is_some, refl, ap, ◌∙◌, sym, append-nil}
use Rattle.std.specs.Prelude.{◌==◌, ◌&&◌, bytes_eq, codes, filter, flat_map, nat_lt, not}
use Rattle.std.specs.List.{AllByRecursion}
use Rattle.std.proofs.lemmas.List.Concat.{flat_map-append}
use Rattle.std.proofs.lemmas.List.Elements.{filter-append}
use Rattle.iv_rows.specs.Options.{if_some}
use Rattle.iv_access.specs.Rights.{Name}
use Rattle.iv_machine.specs.Act.{Line, reply, change, ended, Refusal, Reply, refused, limit, no_session}
use Rattle.iv_machine.specs.Machine.{Outcome, difference, step}
use Rattle.iv_message.specs.Message.{Message}
use Rattle.iv_message.specs.Told.{Told, changed, over, granted, made, settled, told_text}
use Rattle.iv_clients.specs.Clients.{Client, Sub, client_at, fresh, may_say, own_line, own_lines, told}
use Rattle.iv_clients.specs.Feeds.{Feed, rel_read, seat_of}
use Rattle.iv_records.specs.Journal.{Entry, Request, claim_said, is_shape, is_shared, requests_in, said_by, shape_for, shape_of}
use Rattle.iv_records.specs.Names.{Claim}
use Rattle.iv_clients.specs.Tokens.{Token}
use Rattle.iv_once.specs.Names.{Ask, Verdict, carry, again, another, late, foreign, ahead, verdict}
use Rattle.iv_clients.proofs.Slots.{same-Some, not_None-Some}
use Rattle.iv_gate.specs.Arriving.{Step, entry_of, newly}
use Rattle.iv_gate.specs.Events.{Event, presented, message, gone, known, ticked, synced, handed, arrived, forgave, failed, happens, next, led}
use Rattle.iv_gate.specs.Gate.{Gate, answering, asked_by, at_text, entries_of, granted_by, has_shape_room, hears, in_session, is_accepted, most_shape, names_of, reply_in, reply_to, said, shape_text, next_position, is_elsewhere}
use Rattle.iv_gate.specs.Implied.{ShapeIsBounded}
use Rattle.iv_gate.specs.Laws.{ShapeIsTold, is_made}
use Rattle.iv_gate.specs.Replies.{added_by}
use Rattle.iv_gate.specs.Runs.{Runs, begins, goes_on, begins_again}
use Rattle.iv_gate.proofs.ClientAnswers.{dropped-IsClient}
use Rattle.iv_gate.proofs.AddedEntries.{entries-came, entries-went}
use Rattle.iv_gate.proofs.TokensOfClients.{role-card_behind}
use Rattle.iv_gate.proofs.GrantsByName.{same-append_front}
use Rattle.iv_gate.proofs.FollowedNumbers.{AllByRecursion-append, AllByRecursion-flat_map}
use Rattle.iv_gate.proofs.SoundRuns.{Starts, not_client_at-Restores, IsSoundGate-Runs}
use Rattle.iv_gate.proofs.MessageNews.{Hears, IsToldOutcome, grants_of, quietly, by_command, by_contents}
use Rattle.iv_gate.proofs.EventNews.{HearsBy, IsToldStep, heard, untaken, taken, HearsBy-next}
use Rattle.iv_gate.proofs.OwnReplies.{added_so, entries-done_for, asked, carried_reply, decided_added, said_added, shared_added, verdict_added}
use Rattle.iv_gate.proofs.SoundSteps.{AllByRecursion-always}
use Rattle.iv_gate.proofs.ShapeTexts.{all_made, filter-all_false, filter-all_true, shape_of-append, shape_in, shape_for-append, shape_for-none, told-fresh}
use Rattle.iv_gate.proofs.SoundCommands.{Adds, IsSoundGate, Sounds}
use Rattle.iv_gate.proofs.EventSigns.{Card}
use Rattle.iv_gate.proofs.EventMarks.{is_gone, entries-next, next-dead, AreTouched-next}

-- ---- a command tells nothing of it

abbrev IsOther : Told → Type 0
IsOther t = is_made t ≡ false

line_other : (feeds : List Feed) (l : Line) (x : Sub) → AllByRecursion IsOther (own_line feeds l x)
line_other feeds (reply n r) x = tt
line_other feeds (change n k rows) x = by (k == x.feed)
  where
    by : (t : Bool) → AllByRecursion IsOther (cond t (changed x.own rows ∷ []) [])
    by true = (refl, tt)
    by false = tt
line_other feeds (ended n k why rows) x = by (k == x.feed)
  where
    by : (t : Bool) → AllByRecursion IsOther (cond t (over x.own (rel_read feeds k) why rows ∷ []) [])
    by true = (refl, tt)
    by false = tt

names_other : (names : List Name) → AllByRecursion IsOther (map granted names)
names_other [] = tt
names_other (n ∷ names) = (refl, names_other names)

lines_other : (feeds : List Feed) (ls : List Line) (xs : List Sub) → AllByRecursion IsOther (own_lines feeds ls xs)
lines_other feeds ls xs = AllByRecursion-flat_map IsOther (λ l. flat_map (own_line feeds l) xs) ls (AllByRecursion-always (λ l. AllByRecursion-flat_map IsOther (own_line feeds l) xs (AllByRecursion-always (λ y. line_other feeds l y) xs)) ls)

granted_other : (b : Bool) (names : List Name) → AllByRecursion IsOther (cond b (map granted names) [])
granted_other true names = names_other names
granted_other false names = tt

-- ---- an event

-- what is for a client of the role of requests
abbrev shape_by : Name → List Request → List Told
shape_by role qs = cond (bytes_eq role (codes "admin")) (shape_in qs) []

requests_both : (xs ys : List Entry) → requests_in (xs ++ ys) ≡ requests_in xs ++ requests_in ys
requests_both xs ys = flat_map-append (λ (e : Entry). e.requests) xs ys

module _ (g h : Gate) (c d : Client) (es : List Entry) (e : h.entries ≡ g.entries ++ es) where
  more_of : (more : List Told) → told d ≡ told c ++ more → filter is_made more ≡ shape_for c.role es → filter is_made (told d) ≡ filter is_made (told c) ++ shape_for c.role es
  more_of more t s = ap (filter is_made) t ∙ (filter-append is_made (told c) more ∙ ap (λ z. filter is_made (told c) ++ z) s)

  none_asked : requests_in h.entries ≡ requests_in g.entries → requests_in es ≡ []
  none_asked n = same-append_front (requests_in g.entries) (requests_in es) [] (sym (requests_both g.entries es) ∙ (sym (ap requests_in e) ∙ (n ∙ sym (append-nil (requests_in g.entries)))))

  none_shown : requests_in h.entries ≡ requests_in g.entries → [] ≡ shape_for c.role es
  none_shown n = sym (ap (shape_by c.role) (none_asked n) ∙ shape_for-none c.role)

  outcome_made : (o : Outcome) (grants : List Told) (added : List Entry) → AllByRecursion IsOther grants → IsToldOutcome g h o grants added c d
      → filter is_made (told d) ≡ filter is_made (told c) ++ shape_for c.role es
  outcome_made o grants added k a =
      let lines = own_lines g.feeds o.lines c.subs ++ grants in
      let none : filter is_made lines ≡ [] = filter-all_false is_made lines (AllByRecursion-append IsOther (own_lines g.feeds o.lines c.subs) grants (lines_other g.feeds o.lines c.subs) k) in
      more_of (a.front ++ (lines ++ a.back)) a.told
      (filter-append is_made a.front (lines ++ a.back)
      ∙ ((λ i. a.unmade i ++ (filter-append is_made lines a.back ∙ (λ j. none j ++ a.shape j)) i)
      ∙ ap (shape_for c.role) (sym (same-append_front g.entries es added (sym e ∙ a.entries)))))

  pub made_more : Hears g h c d → filter is_made (told d) ≡ filter is_made (told c) ++ shape_for c.role es
  made_more (quietly a n) = more_of a.more a.told (a.unmade ∙ none_shown n)
  made_more (by_contents a n) =
      let news = changed (c.given + 1) (difference a.before a.after) in
      more_of (a.front ++ (news ∷ a.back)) a.told (filter-append is_made a.front (news ∷ a.back) ∙ ((λ i. a.unmade.0 i ++ a.unmade.1 i) ∙ none_shown n))
  made_more (by_command a) =
      let o = step g.machine a.command in
      outcome_made o (grants_of g.machine a.command c.role) (entries_of (next_position g) a.request a.name (reply_to g a.command)) (granted_other (is_accepted (reply_in o.lines)) (granted_by o.state.frame a.command.act c.role)) a.by

  pub step_made : (s : Step) → IsToldStep g h s c d → filter is_made (told d) ≡ filter is_made (told c) ++ shape_for c.role es
  step_made s a = outcome_made a.outcome (map granted (newly g.machine.frame a.outcome.state.frame c.role)) (entry_of s ∷ []) (names_other (newly g.machine.frame a.outcome.state.frame c.role)) a.by

  pub same_made : requests_in h.entries ≡ requests_in g.entries → c ≡ d → filter is_made (told d) ≡ filter is_made (told c) ++ shape_for c.role es
  same_made n same = more_of [] (ap told (sym same) ∙ sym (append-nil (told c))) (none_shown n)

-- ---- over runs

greeting_shape : (es : List Entry) (t : Token) (at : List ℕ) → filter is_made (told (fresh es t at)) ≡ shape_for t.role es
greeting_shape es t at =
    ap (filter is_made) (told-fresh es t at)
    ∙ (filter-append is_made (shape_for t.role es) (settled ∷ [])
    ∙ (append-nil (filter is_made (shape_for t.role es)) ∙ filter-all_true is_made (shape_for t.role es) (all_made (λ x. is_made x ≡ true) (λ r line. refl) t.role es)))

next_shape : Sounds → (g : Gate) (e : Event) → IsSoundGate g → ShapeIsTold g → ShapeIsTold (next g e)
next_shape sounds g e b a m d x = by g.dead refl
  where
    role_stays : g.dead ≡ false → (c : Client) → client_at g.clients m ≡ Some c → (t : Bool) → is_gone m e ≡ t → d.role ≡ c.role
    role_stays live c h true t = absurd (not_None-Some d (sym x.there ∙ (AreTouched-next g e live).leaves m t))
    role_stays live c h false t =
        let k = (AreTouched-next g e live).stays m c h t in
        ap (λ (y : Client). y.role) (same-Some d k.now (sym x.there ∙ k.there)) ∙ (ap (λ (y : Card). y.role) k.card ∙ (role-card_behind m c e).0)

    more_by : g.dead ≡ false → (c : Client) → HearsBy g e c d → filter is_made (told d) ≡ filter is_made (told c) ++ shape_for c.role (added_by g e)
    more_by live c (heard n h) = made_more g (next g e) c d (added_by g e) (entries-next g e live) h
    more_by live c (untaken n k same) = same_made g (next g e) c d (added_by g e) (entries-next g e live) (ap requests_in k) same
    more_by live c (taken s q h) = step_made g (next g e) c d (added_by g e) (entries-next g e live) s h

    there : g.dead ≡ false → (o : Option Client) → client_at g.clients m ≡ o → filter is_made (told d) ≡ shape_for d.role (next g e).entries
    there live None h =
        let n = (AreTouched-next g e live).comes m d h x.there in
        let at = at_text (next g e) n.token in
        ap (λ (c : Client). filter is_made (told c)) n.is ∙ (greeting_shape (next g e).entries n.token at ∙ ap (λ (c : Client). shape_for c.role (next g e).entries) (sym n.is))
    there live (Some c) h =
        let stays = dropped-IsClient g e m c d live h x in let more = entries-next g e live in
        more_by live c (HearsBy-next sounds g e b m c d h stays x.there x.stays)
        ∙ (ap (λ z. z ++ shape_for c.role (added_by g e)) (a m c (record { there = h; stays = stays }))
        ∙ (sym (shape_for-append c.role g.entries (added_by g e)) ∙ (λ i. shape_for (sym (role_stays live c h (is_gone m e) refl) i) (sym more i))))

    by : (q : Bool) → g.dead ≡ q → filter is_made (told d) ≡ shape_for d.role (next g e).entries
    by true q = a m d (record { there = ap (λ (y : Gate). client_at y.clients m) (sym (next-dead g e q)) ∙ x.there; stays = x.stays }) ∙ ap (λ (y : Gate). shape_for d.role y.entries) (sym (next-dead g e q))
    by false q = there q (client_at g.clients m) refl

pub ShapeIsTold-Runs : Adds → Starts → Sounds → (cap : ℕ) (g : Gate) → Runs cap g → ShapeIsTold g
ShapeIsTold-Runs adds starts sounds cap _ (begins tokens most head journal g r) =
    λ m c x. absurd (not_client_at-Restores cap tokens most head [] journal g r m c x.there)
ShapeIsTold-Runs adds starts sounds cap _ (goes_on h e w r) =
    next_shape sounds h e (IsSoundGate-Runs adds starts sounds cap h r) (ShapeIsTold-Runs adds starts sounds cap h r)
ShapeIsTold-Runs adds starts sounds cap _ (begins_again h disk tokens most i r l y) = λ m c x. absurd (not_client_at-Restores cap tokens most h.head h.sent disk i y m c x.there)

-- ---- the bound

text_both : (es fs : List Entry) → shape_text (es ++ fs) ≡ shape_text es ++ shape_text fs
text_both es fs = ap (flat_map told_text) (shape_of-append es fs) ∙ flat_map-append told_text (shape_of es) (shape_of fs)

-- what makes nothing of the shape adds no text
unshaped : (position : Option ℕ) (q : Request) (name : Option Ask) (r : Reply) → is_shape q.act ≡ false → shape_text (entries_of position q name r) ≡ []
unshaped position q name r x = by (is_shared q.act) (is_accepted r) (is_some name)
  where
    by : (s y z : Bool) → shape_text (cond (s && (y || z)) (record { requests = cond y (q ∷ []) []; names = answering name r; position = position } ∷ []) []) ≡ []
    by false y z = refl
    by true false false = refl
    by true false true = refl
    by true true z = ap (λ t. flat_map told_text (map (λ (p : Request). made p.role p.line) (cond t (q ∷ []) []))) x

-- nor does what is refused
refused_text : (position : Option ℕ) (q : Request) (name : Option Ask) (r : Refusal) → shape_text (entries_of position q name (refused r)) ≡ []
refused_text position q name r = by (is_shared q.act) (is_some name)
  where
    by : (s z : Bool) → shape_text (cond (s && (false || z)) (record { requests = []; names = answering name (refused r); position = position } ∷ []) []) ≡ []
    by false z = refl
    by true false = refl
    by true true = refl

module _ (g : Gate) (full : nat_lt most_shape (length (shape_text g.entries)) ≡ true) where
  carried_text : (q : Request) (name : Option Ask) → shape_text (entries_of (next_position g) q name (carried_reply g q)) ≡ []
  carried_text q name = by (is_shape q.act) refl
    where
      by : (b : Bool) → is_shape q.act ≡ b → shape_text (entries_of (next_position g) q name (carried_reply g q)) ≡ []
      by false x = unshaped (next_position g) q name (carried_reply g q) x
      by true x =
          let room : has_shape_room g q.act ≡ false = (λ i. not (x i && full i)) in
          ap (λ b. shape_text (entries_of (next_position g) q name (cond b (if_some (seat_of g.seats q.role) (refused no_session) (λ n. reply_to g (in_session n q.act))) (refused limit)))) room ∙ refused_text (next_position g) q name limit

  decided_text : (q : Request) (name : Option Ask) → shape_text (decided_added g q name) ≡ []
  decided_text q name = by (is_elsewhere g name)
    where
      by : (b : Bool) → shape_text (cond b [] (entries_of (next_position g) q name (carried_reply g q))) ≡ []
      by true = refl
      by false = carried_text q name

  verdict_text : (q : Request) (a : Ask) (v : Verdict) → shape_text (verdict_added g q a v) ≡ []
  verdict_text q a carry = decided_text q (Some a)
  verdict_text q a (again answer) = refl
  verdict_text q a another = refl
  verdict_text q a late = refl
  verdict_text q a foreign = refl
  verdict_text q a ahead = refl
  verdict_text q a _ = refl

  shared_text : (c : Client) (q : Request) (claim : Option Claim) → shape_text (shared_added g c q claim) ≡ []
  shared_text c q None = decided_text q None
  shared_text c q (Some k) = let a = asked_by c q.line k in verdict_text q a (verdict (names_of g) a)

  pub said_text : (c : Client) (text : List ℕ) (s : Message) → shape_text (said_added g c text s) ≡ []
  said_text c text s = added_so (λ es. shape_text es ≡ []) g c text refl (λ q. shared_text c q (claim_said text)) s

said_bounded : (g : Gate) (m : ℕ) (text : List ℕ) → nat_lt most_shape (length (shape_text g.entries)) ≡ true → shape_text (said g m text).entries ≡ shape_text g.entries
said_bounded g m text full = by (client_at g.clients m)
  where
    heard_by : (c : Client) (t : Bool) → shape_text (cond t (hears g m c text) g).entries ≡ shape_text g.entries
    heard_by c false = refl
    heard_by c true =
        let i = asked g m text in
        ap shape_text (entries-done_for i m c text (said_by text))
        ∙ (text_both g.entries (said_added i c text (said_by text)) ∙ (ap (λ z. shape_text g.entries ++ z) (said_text i full c text (said_by text)) ∙ append-nil (shape_text g.entries)))

    by : (o : Option Client) → shape_text (if_some o g (λ c. cond (may_say c) (hears g m c text) g)).entries ≡ shape_text g.entries
    by None = refl
    by (Some c) = heard_by c (may_say c)

-- no other event adds to the journal, but a step
pub ShapeIsBounded-event : (g : Gate) (e : Event) → ShapeIsBounded g e
ShapeIsBounded-event g e none full = by g.dead
  where
    other : (f : Event) → ((s : Step) → f ≡ arrived s → ⊥) → shape_text (happens g f).entries ≡ shape_text g.entries
    other (message m text) n = said_bounded g m text full
    other (presented m token) n = ap shape_text (entries-came g m token)
    other (gone m) n = ap shape_text (entries-went g m)
    other (known tokens) n = refl
    other ticked n = refl
    other synced n = refl
    other (handed m) n = refl
    other (arrived s) n = absurd (n s refl)
    other led n = refl
    other forgave n = refl
    other failed n = refl

    by : (q : Bool) → shape_text (cond q g (happens g e)).entries ≡ shape_text g.entries
    by true = refl
    by false = other e none

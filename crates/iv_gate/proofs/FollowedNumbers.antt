-- By an event a client is told of numbers that it follows, and of ends for their cause.
use Rattle.std.proofs.Common.{◌≡◌, ◌⊎◌, inl, inr, ℕ, ◌+◌, ◌<◌, ◌≤◌, Bool, true, false, cond, not, ◌||◌, List, [], ◌∷◌, ◌++◌, length, map, ℤ, Option, Some, None, is_some, option_map, refl, ap, ◌∙◌, sym, subst, arith, append-nil}
use Rattle.std.specs.Prelude.{◌==◌, filter, find, flat_map, Contains, unwrap_or}
use Rattle.std.specs.List.{AllByRecursion, list_any}
use Rattle.std.proofs.lemmas.Bool.{false≢true, eqb-true}
use Rattle.std.proofs.lemmas.List.Elements.{All-contains, All-from_recursion, recursion_from_All}
use Rattle.iv_rows.specs.Cell.{Cell}
use Rattle.iv_rows.specs.Options.{if_some}
use Rattle.iv_bind.specs.Catalogs.{named}
use Rattle.iv_access.specs.Access.{role_number}
use Rattle.iv_access.specs.Privileges.{role_of}
use Rattle.iv_access.specs.Rights.{Name}
use Rattle.iv_machine.specs.Act.{Act, finish, subscribe, unsubscribe, write, Command, Line, reply, change, ended, Refusal}
use Rattle.iv_machine.specs.Changing.{after}
use Rattle.iv_machine.specs.Lasting.{Lasts}
use Rattle.iv_machine.specs.Machine.{difference, ending, ending_by, first_cause, line_for, lines_told, outcome, settled, step, Outcome}
use Rattle.iv_machine.specs.Reached.{AreUnique}
use Rattle.iv_machine.specs.Refusing.{refusal}
use Rattle.iv_machine.specs.State.{Session, State, Subscription, actor, is_within_for, missing_for, rel_of, session_of, shown, subscription_of, view_shown}
use Rattle.iv_machine.specs.declared.Cause.{Cause}
use Rattle.iv_message.specs.Told.{Told, changed, over, granted}
use Rattle.iv_clients.specs.Clients.{Client, Sub, followed_by, own_line, own_lines, told}
use Rattle.iv_clients.specs.Feeds.{Feed, feed_of, rel_read}
use Rattle.iv_records.specs.Journal.{is_shared, Entry}
use Rattle.iv_clients.proofs.Slots.{same-Some, not_None-Some}
use Rattle.iv_gate.specs.Events.{Event, next}
use Rattle.iv_gate.specs.Gate.{Gate, granted_by, in_session, is_accepted, reply_in, entries_of, reply_to, next_position}
use Rattle.iv_gate.specs.Replies.{told_by}
use Rattle.iv_gate.specs.Implied.{EndsForCause, HearsFollowed, IsCaused}
use Rattle.iv_gate.specs.Seen.{hindrance, is_told_of}
use Rattle.iv_gate.proofs.MessageEffects.{AreCalm, is_news}
use Rattle.iv_gate.proofs.MessageNews.{Hears, quietly, by_command, by_contents, IsToldContents, IsToldOf, IsToldOutcome, grants_of}
use Rattle.iv_gate.proofs.MachineLists.{true-find, is_kept, not_finish-is_kept, rel_of-named, Some-is_some}
use Rattle.iv_gate.proofs.EventNews.{HearsBy-next, told_by-append, HearsBy, IsToldStep, untaken, taken, heard}
use Rattle.iv_gate.proofs.SoundSteps.{AllByRecursion-map, AllByRecursion-feed_of}
use Rattle.iv_gate.proofs.SoundCommands.{Adds, IsFeed, IsFollowing, IsSoundClient, IsSoundGate, Sounds, any_more, seer}
use Rattle.iv_gate.proofs.CommandLines.{AllByRecursion-subscription_of}
use Rattle.iv_gate.proofs.NumberSums.{AreOwn, AllByRecursion-zip, eq-false_turned, or-both_false, eq-itself}
use Rattle.iv_steps.specs.Steps.{Fact, stepped}
use Rattle.iv_machine.specs.Sound.{IsSoundState}
use Rattle.iv_steps.specs.Laws.{IsStep, IsTold}
use Rattle.iv_gate.specs.Arriving.{Step, entry_of, fact_of, newly}
use Rattle.iv_gate.proofs.StepsTaken.{IsLed-stepped, IsLed}

-- ---- lists

pub AllByRecursion-append : {X : Type 0} (P : X → Type 0) (xs ys : List X) → AllByRecursion P xs → AllByRecursion P ys → AllByRecursion P (xs ++ ys)
AllByRecursion-append P [] ys a b = b
AllByRecursion-append P (x ∷ xs) ys a b = (a.0, AllByRecursion-append P xs ys a.1 b)

pub AllByRecursion-flat_map : {X Y : Type 0} (P : Y → Type 0) (f : X → List Y) (xs : List X) → AllByRecursion (λ x. AllByRecursion P (f x)) xs → AllByRecursion P (flat_map f xs)
AllByRecursion-flat_map P f [] a = tt
AllByRecursion-flat_map P f (x ∷ xs) a = AllByRecursion-append P (f x) (flat_map f xs) a.0 (AllByRecursion-flat_map P f xs a.1)

pub AllByRecursion-Contains : {X : Type 0} (P : X → Type 0) (xs : List X) (x : X) → AllByRecursion P xs → Contains xs x → P x
AllByRecursion-Contains P xs x a c = All-contains P xs x (All-from_recursion P xs a) c

-- ---- numbers

pub is_some-followed_by : (own : ℕ) (xs : List Sub) → is_some (followed_by xs own) ≡ list_any (λ (x : Sub). own == x.own) xs
is_some-followed_by own [] = refl
is_some-followed_by own (x ∷ xs) = by (own == x.own) (is_some-followed_by own xs)
  where
    by : (b : Bool) → is_some (followed_by xs own) ≡ list_any (λ (s : Sub). own == s.own) xs → is_some (option_map (λ (s : Sub). s.feed) (cond b (Some x) (find (λ (s : Sub). own == s.own) xs))) ≡ (b || list_any (λ (s : Sub). own == s.own) xs)
    by true more = refl
    by false more = more

calm_of_none : (own : ℕ) (t : Told) → is_news t ≡ false → is_told_of own t ≡ false
calm_of_none own (changed j rows) h = absurd (false≢true (sym h))
calm_of_none own (over j rel why rows) h = absurd (false≢true (sym h))
calm_of_none own _ h = refl

calm_none : (own : ℕ) (ts : List Told) → AreCalm ts → list_any (is_told_of own) ts ≡ false
calm_none own [] a = refl
calm_none own (t ∷ ts) a = λ i. calm_of_none own t a.0 i || calm_none own ts a.1 i

line_of_none : (own : ℕ) (feeds : List Feed) (l : Line) (s : Sub) → (own == s.own) ≡ false → list_any (is_told_of own) (own_line feeds l s) ≡ false
line_of_none own feeds (reply n r) s h = refl
line_of_none own feeds (change n k rows) s h = by (k == s.feed)
  where
    by : (b : Bool) → list_any (is_told_of own) (cond b (changed s.own rows ∷ []) []) ≡ false
    by true = ap (λ b. b || false) h
    by false = refl
line_of_none own feeds (ended n k why rows) s h = by (k == s.feed)
  where
    by : (b : Bool) → list_any (is_told_of own) (cond b (over s.own (rel_read feeds k) why rows ∷ []) []) ≡ false
    by true = ap (λ b. b || false) h
    by false = refl

lines_of_none : (own : ℕ) (feeds : List Feed) (l : Line) (xs : List Sub) → list_any (λ (s : Sub). own == s.own) xs ≡ false → list_any (is_told_of own) (flat_map (own_line feeds l) xs) ≡ false
lines_of_none own feeds l [] h = refl
lines_of_none own feeds l (x ∷ xs) h =
    let p = or-both_false (own == x.own) (list_any (λ (s : Sub). own == s.own) xs) h in
    any_more (is_told_of own) (own_line feeds l x) (flat_map (own_line feeds l) xs) ∙ (λ i. line_of_none own feeds l x p.0 i || lines_of_none own feeds l xs p.1 i)

all_of_none : (own : ℕ) (feeds : List Feed) (ls : List Line) (xs : List Sub) → list_any (λ (s : Sub). own == s.own) xs ≡ false → list_any (is_told_of own) (own_lines feeds ls xs) ≡ false
all_of_none own feeds [] xs h = refl
all_of_none own feeds (l ∷ ls) xs h =
    any_more (is_told_of own) (flat_map (own_line feeds l) xs) (own_lines feeds ls xs) ∙ (λ i. lines_of_none own feeds l xs h i || all_of_none own feeds ls xs h i)

grants_of_none : (own : ℕ) (b : Bool) (names : List Name) → list_any (is_told_of own) (cond b (map granted names) []) ≡ false
grants_of_none own false names = refl
grants_of_none own true [] = refl
grants_of_none own true (n ∷ names) = grants_of_none own true names

-- front, news and back
any_three : (p : Told → Bool) (front news back : List Told) → list_any p front ≡ false → list_any p news ≡ false → list_any p back ≡ false → list_any p (front ++ (news ++ back)) ≡ false
any_three p front news back f n b = any_more p front (news ++ back) ∙ (λ i. f i || (any_more p news back ∙ (λ j. n j || b j)) i)

-- an outcome tells nothing of a number that is not open
outcome_of_none : (g h : Gate) (o : Outcome) (grants : List Told) (added : List Entry) (c d : Client) (own : ℕ) → IsToldOutcome g h o grants added c d → list_any (is_told_of own) grants ≡ false
    → list_any (λ (s : Sub). own == s.own) c.subs ≡ false → list_any (is_told_of own) (told_by c d) ≡ false
outcome_of_none g h o grants added c d own a none f =
    ap (list_any (is_told_of own)) (told_by-append c d _ a.told)
    ∙ any_three (is_told_of own) a.front (own_lines g.feeds o.lines c.subs ++ grants) a.back (calm_none own a.front a.calm.0)
    (any_more (is_told_of own) (own_lines g.feeds o.lines c.subs) grants ∙ (λ i. all_of_none own g.feeds o.lines c.subs f i || none i)) (calm_none own a.back a.calm.1)

pub HearsFollowed-IsSoundGate : Adds → Sounds → (g : Gate) (e : Event) → IsSoundGate g → HearsFollowed g e
HearsFollowed-IsSoundGate adds sounds g e b m c d x y own h = by (HearsBy-next sounds g e b m c d x.there x.stays y.there y.stays)
  where
    command : (a : IsToldOf g (next g e) c d) → (t : Bool) → list_any (λ (s : Sub). own == s.own) c.subs ≡ t → (is_some (followed_by c.subs own) ≡ true) ⊎ ((c.given < own) × (own ≤ d.given))
    command a true f = inl (is_some-followed_by own c.subs ∙ f)
    command a false f =
        let o = step g.machine a.command in
        absurd (false≢true (sym (outcome_of_none g (next g e) o (grants_of g.machine a.command c.role) (entries_of (next_position g) a.request a.name (reply_to g a.command)) c d own a.by
        (grants_of_none own (is_accepted (reply_in o.lines)) (granted_by o.state.frame a.command.act c.role)) f) ∙ h))

    by_step : (s : Step) (a : IsToldStep g (next g e) s c d) → (t : Bool) → list_any (λ (z : Sub). own == z.own) c.subs ≡ t → (is_some (followed_by c.subs own) ≡ true) ⊎ ((c.given < own) × (own ≤ d.given))
    by_step s a true f = inl (is_some-followed_by own c.subs ∙ f)
    by_step s a false f =
        let names = newly g.machine.frame a.outcome.state.frame c.role in
        absurd (false≢true (sym (outcome_of_none g (next g e) a.outcome (map granted names) (entry_of s ∷ []) c d own a.by (grants_of_none own true names) f) ∙ h))

    newest : (a : IsToldContents c d) → (t : Bool) → (own == (c.given + 1)) ≡ t → (is_some (followed_by c.subs own) ≡ true) ⊎ ((c.given < own) × (own ≤ d.given))
    newest a true f = let same = eqb-true own (c.given + 1) f in let l = a.given in inr (omega (arith, same), omega (arith, same, l))
    newest a false f =
        let news = changed (c.given + 1) (difference a.before a.after) in
        absurd (false≢true (sym (ap (list_any (is_told_of own)) (told_by-append c d _ a.told)
        ∙ any_three (is_told_of own) a.front (news ∷ []) a.back (calm_none own a.front a.calm.0) (ap (λ z. z || false) f) (calm_none own a.back a.calm.1)) ∙ h))

    by_event : Hears g (next g e) c d → (is_some (followed_by c.subs own) ≡ true) ⊎ ((c.given < own) × (own ≤ d.given))
    by_event (quietly a n) = absurd (false≢true (sym (ap (list_any (is_told_of own)) (told_by-append c d a.more a.told) ∙ calm_none own a.more a.calm) ∙ h))
    by_event (by_command a) = command a (list_any (λ (s : Sub). own == s.own) c.subs) refl
    by_event (by_contents a n) = newest a (own == (c.given + 1)) refl

    by : HearsBy g e c d → (is_some (followed_by c.subs own) ≡ true) ⊎ ((c.given < own) × (own ≤ d.given))
    by (heard n a) = by_event a
    by (untaken n k same) =
        absurd (false≢true (sym (ap (list_any (is_told_of own)) (told_by-append c d [] (ap told (sym same) ∙ sym (append-nil (told c))))) ∙ h))
    by (taken s q a) = by_step s a (list_any (λ (z : Sub). own == z.own) c.subs) refl

-- ---- the lines of a command that changes what is shared

-- an end has the cause that hinders its reader
abbrev IsLineOf : (s new : State) → Line → Type 0
IsLineOf s new (ended n j why rows) = (f : Feed) → IsFeed s f → f.number ≡ j → hindrance new f.role f.rel ≡ Some why
IsLineOf s new _ = Unit {0}

ending_as : (act : Act) (s : State) (e : Subscription) (why : Cause) → ending_by act s e ≡ Some why → ending s e ≡ Some why
ending_as (write entries) s e why h = absurd (not_None-Some why (sym h))
ending_as _ s e why h = h

pub shared_kept : (act : Act) → is_shared act ≡ true → is_kept act ≡ true
shared_kept finish h = h
shared_kept _ h = refl

pub subscriptions-after : (s : State) (n : ℕ) (act : Act) → is_shared act ≡ true → (after s n act).frame.subscriptions ≡ s.frame.subscriptions
subscriptions-after s n finish h = absurd (false≢true h)
subscriptions-after s n (subscribe rel) h = absurd (false≢true h)
subscriptions-after s n (unsubscribe k) h = absurd (false≢true h)
subscriptions-after s n _ h = refl

-- the cause of an end hinders its reader
cause_after : (s : State) (n : ℕ) (act : Act) (f : Feed) (why : Cause) → Lasts (in_session n act) s.frame (settled act (after s n act)).frame → is_shared act ≡ true → (b : IsFeed s f)
    → ending (after s n act) (record { session = f.session; number = f.number; rel = b.rel }) ≡ Some why → hindrance (settled act (after s n act)) f.role f.rel ≡ Some why
cause_after s n act f why l h b e =
    let new = settled act (after s n act) in
    let known : role_of new.frame.rights f.role ≡ Some b.acts.place = l.roles f.role b.acts.place b.acts.known in
    let session : session_of new.frame.sessions f.session ≡ Some (record { number = f.session; role = b.acts.place }) =
    l.sessions f.session (record { number = f.session; role = b.acts.place })
    (not_finish-is_kept (in_session n act) f.session (shared_kept act h)) b.acts.session in
    let entry = Some-is_some (named s.frame.catalog f.rel) b.known in
    let role : role_number new.frame.rights f.role ≡ actor (after s n act).frame f.session =
    ap (λ o. unwrap_or o (length new.frame.rights.roles)) known ∙ sym (ap (λ o. unwrap_or (option_map (λ (x : Session). x.role) o) (length new.frame.rights.roles)) session) in
    let rel : rel_of new.frame.catalog f.rel ≡ b.rel = rel_of-named s.frame.catalog new.frame.catalog f.rel entry.0 entry.1 (l.relations f.rel entry.0 entry.1) ∙ sym b.there in
    (λ i. first_cause (is_some (missing_for new.frame (role i) (rel i))) (is_within_for new (role i) (rel i))) ∙ e

-- the one of a number, where no other has it, is gone where it is left out
gone_after : (p : Subscription → Bool) (es : List Subscription) (k : ℕ) (x : Subscription) → AreUnique es → subscription_of es k ≡ Some x → p x ≡ false → subscription_of (filter p es) k ≡ None
gone_after p [] k x u h e = refl
gone_after p (y ∷ ys) k x u h e = by (k == y.number) refl h (λ t. gone_after p ys k x u.1 t e)
  where
    none : (zs : List Subscription) → list_any (λ (z : Subscription). k == z.number) zs ≡ false → subscription_of (filter p zs) k ≡ None
    none [] q = refl
    none (z ∷ zs) q = let r = or-both_false (k == z.number) (list_any (λ (w : Subscription). k == w.number) zs) q in kept (p z) r.0 (none zs r.1)
      where
        kept : (t : Bool) → (k == z.number) ≡ false → subscription_of (filter p zs) k ≡ None → subscription_of (cond t (z ∷ filter p zs) (filter p zs)) k ≡ None
        kept true f more = ap (λ b. cond b (Some z) (subscription_of (filter p zs) k)) f ∙ more
        kept false f more = more

    by : (b : Bool) → (k == y.number) ≡ b → cond b (Some y) (subscription_of ys k) ≡ Some x → (subscription_of ys k ≡ Some x → subscription_of (filter p ys) k ≡ None)
        → subscription_of (cond (p y) (y ∷ filter p ys) (filter p ys)) k ≡ None
    by true q t more =
        ap (λ b. subscription_of (cond b (y ∷ filter p ys) (filter p ys)) k) (ap p (same-Some y x t) ∙ e)
        ∙ none ys (ap (λ i. list_any (λ (z : Subscription). i == z.number) ys) (eqb-true k y.number q) ∙ u.0)
    by false q t more = kept (p y)
      where
        kept : (b : Bool) → subscription_of (cond b (y ∷ filter p ys) (filter p ys)) k ≡ None
        kept true = ap (λ b. cond b (Some y) (subscription_of (filter p ys) k)) q ∙ more t
        kept false = more t

module _ (s : State) (n : ℕ) (act : Act) (h : is_shared act ≡ true) (u : AreUnique s.frame.subscriptions) where
  abbrev now : State
  now = settled act (after s n act)

  pub nothing_shown : (e : Subscription) (why : Cause) → subscription_of s.frame.subscriptions e.number ≡ Some e → ending_by act (after s n act) e ≡ Some why → shown (settled act (after s n act)) e.number ≡ []
  nothing_shown e why f q =
      let p = λ (x : Subscription). not (is_some (ending_by act (after s n act) x)) in
      ap (λ o. if_some o [] (view_shown now)) (ap (λ es. subscription_of (filter p es) e.number) (subscriptions-after s n act h)
      ∙ gone_after p s.frame.subscriptions e.number e u f (ap (λ o. not (is_some o)) q))

  line_is : Lasts (in_session n act) s.frame (settled act (after s n act)).frame → (e : Subscription) → subscription_of s.frame.subscriptions e.number ≡ Some e → AllByRecursion (IsLineOf s (settled act (after s n act))) (line_for s (settled act (after s n act)) (ending_by act (after s n act)) e)
  line_is l e f = by (ending_by act (after s n act) e) refl (difference (shown s e.number) (shown now e.number)) refl
    where
      cause : (why : Cause) → ending_by act (after s n act) e ≡ Some why → (x : Feed) → IsFeed s x → x.number ≡ e.number → hindrance now x.role x.rel ≡ Some why
      cause why q x b j =
          let same : record { session = x.session; number = x.number; rel = b.rel } ≡ e = same-Some _ e (sym b.found ∙ (ap (subscription_of s.frame.subscriptions) j ∙ f)) in
          cause_after s n act x why l h b (ap (ending (after s n act)) same ∙ ending_as act (after s n act) e why q)

      by : (o : Option Cause) → ending_by act (after s n act) e ≡ o → (rows : List (List Cell × ℤ)) → rows ≡ difference (shown s e.number) (shown now e.number)
          → AllByRecursion (IsLineOf s now) (lines_told o e rows)
      by (Some why) q rows r = (cause why q, tt)
      by None q [] r = tt
      by None q (p ∷ ps) r = (tt, tt)

  changes_are : Lasts (in_session n act) s.frame (settled act (after s n act)).frame → AllByRecursion (IsLineOf s (settled act (after s n act))) (flat_map (line_for s (settled act (after s n act)) (ending_by act (after s n act))) (after s n act).frame.subscriptions)
  changes_are l =
      let L = line_for s now (ending_by act (after s n act)) in
      subst (λ es. AllByRecursion (IsLineOf s now) (flat_map L es)) (sym (subscriptions-after s n act h))
      (AllByRecursion-flat_map (IsLineOf s now) L s.frame.subscriptions
      (AllByRecursion-map (λ e f. line_is l e f) s.frame.subscriptions (AllByRecursion-subscription_of s.frame.subscriptions u)))

lines_by : Sounds → (s : State) (k : Command) (o : Option Refusal) → refusal s k.session k.act ≡ o → is_shared k.act ≡ true → AreUnique s.frame.subscriptions → AllByRecursion (IsLineOf s (outcome s k o).state) (outcome s k o).lines
lines_by sounds s k (Some r) e h u = (tt, tt)
lines_by sounds s k None e h u = (tt, changes_are s k.session k.act h u (subst (λ o. Lasts k s.frame (outcome s k o).state.frame) e (sounds.lasts s k)))

lines_are : Sounds → (s : State) (k : Command) → is_shared k.act ≡ true → AreUnique s.frame.subscriptions → AllByRecursion (IsLineOf s (step s k).state) (step s k).lines
lines_are sounds s k h u = lines_by sounds s k (refusal s k.session k.act) refl h u

-- ---- what a client follows

-- the number is its, and it follows the feed
pub record IsOwn (g : Gate) (c : Client) (s : Sub) : Type 0 where
  pub found : find (λ (x : Sub). s.own == x.own) c.subs ≡ Some s
  pub follows : IsFollowing g.machine g.feeds (seer c) s

own_apart : (own : ℕ) (xs : List Sub) → list_any (λ (y : Sub). own == y.own) xs ≡ false → AllByRecursion (λ (y : Sub). (y.own == own) ≡ false) xs
own_apart own [] h = tt
own_apart own (x ∷ xs) h =
    let p = or-both_false (own == x.own) (list_any (λ (y : Sub). own == y.own) xs) h in (eq-false_turned own x.own p.0, own_apart own xs p.1)

own_found : (given : ℕ) (xs : List Sub) → AreOwn given xs → AllByRecursion (λ (s : Sub). find (λ (x : Sub). s.own == x.own) xs ≡ Some s) xs
own_found given [] h = tt
own_found given (x ∷ xs) h = (
  ap (λ b. cond b (Some x) (find (λ (y : Sub). x.own == y.own) xs)) (eq-itself x.own),
  AllByRecursion-zip {P = λ (y : Sub). (y.own == x.own) ≡ false} {Q = λ (y : Sub). find (λ (z : Sub). y.own == z.own) xs ≡ Some y} {R = λ (y : Sub). find (λ (z : Sub). y.own == z.own) (x ∷ xs) ≡ Some y}
      (λ y d f. ap (λ b. cond b (Some x) (find (λ (z : Sub). y.own == z.own) xs)) d ∙ f) xs (own_apart x.own xs h.1) (own_found given xs h.2),
)

pub AllByRecursion-IsOwn : (g : Gate) (c : Client) → IsSoundClient g.machine g.feeds (seer c) → AllByRecursion (IsOwn g c) c.subs
AllByRecursion-IsOwn g c a =
    AllByRecursion-zip {P = λ (s : Sub). find (λ (x : Sub). s.own == x.own) c.subs ≡ Some s} {Q = IsFollowing g.machine g.feeds (seer c)} {R = IsOwn g c}
    (λ s f y. record { found = f; follows = y }) c.subs (own_found c.given c.subs a.own) a.follows

-- ---- ends

abbrev IsEndTold : Gate → Event → Client → Told → Type 0
IsEndTold g e c (over own rel why rows) = IsCaused g e c own rel why
IsEndTold g e c _ = Unit {0}

calm_end : (g : Gate) (e : Event) (c : Client) (t : Told) → is_news t ≡ false → IsEndTold g e c t
calm_end g e c (over own rel why rows) h = absurd (false≢true (sym h))
calm_end g e c _ h = tt

calm_ends : (g : Gate) (e : Event) (c : Client) (ts : List Told) → AreCalm ts → AllByRecursion (IsEndTold g e c) ts
calm_ends g e c ts a = AllByRecursion-map (λ t h. calm_end g e c t h) ts a

grants_end : (g : Gate) (e : Event) (c : Client) (b : Bool) (names : List Name) → AllByRecursion (IsEndTold g e c) (cond b (map granted names) [])
grants_end g e c false names = tt
grants_end g e c true [] = tt
grants_end g e c true (n ∷ names) = (tt, grants_end g e c true names)

module _ (g : Gate) (e : Event) (b : IsSoundGate g) (c d : Client) (o : Outcome) (grants : List Told) (added : List Entry) (a : IsToldOutcome g (next g e) o grants added c d) where
  one_end : (l : Line) → IsLineOf g.machine o.state l → (s : Sub) → IsOwn g c s → AllByRecursion (IsEndTold g e c) (own_line g.feeds l s)
  one_end (reply n r) x s z = tt
  one_end (change n k rows) x s z = by (k == s.feed)
    where
      by : (t : Bool) → AllByRecursion (IsEndTold g e c) (cond t (changed s.own rows ∷ []) [])
      by true = (tt, tt)
      by false = tt
  one_end (ended n k why rows) x s z = by (k == s.feed) refl
    where
      the_end : k ≡ s.feed → IsCaused g e c s.own (rel_read g.feeds k) why
      the_end same =
          let y = z.follows in
          let there : feed_of g.feeds k ≡ Some y.feed = ap (feed_of g.feeds) same ∙ y.found in
          let number : y.feed.number ≡ k = sym (eqb-true k y.feed.number (true-find (λ (w : Feed). k == w.number) g.feeds y.feed there)) in
          let rel : rel_read g.feeds k ≡ y.feed.rel = ap (λ w. if_some w [] (λ (f : Feed). f.rel)) there in
          record {
            feed = k;
            followed = ap (option_map (λ (w : Sub). w.feed)) z.found ∙ ap Some (sym same);
            relation = refl;
            cause = (λ i. hindrance (a.machine i) (sym y.role i) (rel i)) ∙ x y.feed
                (AllByRecursion-feed_of (IsFeed g.machine) g.feeds k y.feed b.feeds there) number;
          }

      by : (t : Bool) → (k == s.feed) ≡ t → AllByRecursion (IsEndTold g e c) (cond t (over s.own (rel_read g.feeds k) why rows ∷ []) [])
      by true q = (the_end (eqb-true k s.feed q), tt)
      by false q = tt

  line_ends_for : (l : Line) → IsLineOf g.machine o.state l → (xs : List Sub) → AllByRecursion (IsOwn g c) xs → AllByRecursion (IsEndTold g e c) (flat_map (own_line g.feeds l) xs)
  line_ends_for l x xs z = AllByRecursion-flat_map (IsEndTold g e c) (own_line g.feeds l) xs (AllByRecursion-map (λ s p. one_end l x s p) xs z)

  pub ends_of_outcome : AllByRecursion (IsLineOf g.machine o.state) o.lines → AllByRecursion (IsEndTold g e c) grants → IsSoundClient g.machine g.feeds (seer c) → AllByRecursion (IsEndTold g e c) (told_by c d)
  ends_of_outcome lines quiet sound =
      subst (AllByRecursion (IsEndTold g e c)) (sym (told_by-append c d _ a.told))
      (AllByRecursion-append (IsEndTold g e c) a.front ((own_lines g.feeds o.lines c.subs ++ grants) ++ a.back) (calm_ends g e c a.front a.calm.0)
      (AllByRecursion-append (IsEndTold g e c) (own_lines g.feeds o.lines c.subs ++ grants) a.back
      (AllByRecursion-append (IsEndTold g e c) (own_lines g.feeds o.lines c.subs) grants
      (AllByRecursion-flat_map (IsEndTold g e c) (λ l. flat_map (own_line g.feeds l) c.subs) o.lines (AllByRecursion-map (λ l x. line_ends_for l x c.subs (AllByRecursion-IsOwn g c sound)) o.lines lines)) quiet)
      (calm_ends g e c a.back a.calm.1)))

-- ---- the lines of a step

stepped_cause : (fs : List Fact) (s : State) (o : Outcome) (f : Feed) (why : Cause) → IsLed s o → IsStep fs s o → (b : IsFeed s f)
    → ending o.state (record { session = f.session; number = f.number; rel = b.rel }) ≡ Some why → hindrance o.state f.role f.rel ≡ Some why
stepped_cause fs s o f why l t b e =
    let known : role_of o.state.frame.rights f.role ≡ Some b.acts.place = l.lasts.roles f.role b.acts.place b.acts.known in
    let session : session_of o.state.frame.sessions f.session ≡ Some (record { number = f.session; role = b.acts.place }) = ap (λ ss. session_of ss f.session) l.sessions ∙ b.acts.session in
    let entry = Some-is_some (named s.frame.catalog f.rel) b.known in
    let role : role_number o.state.frame.rights f.role ≡ actor o.state.frame f.session =
    ap (λ z. unwrap_or z (length o.state.frame.rights.roles)) known ∙ sym (ap (λ z. unwrap_or (option_map (λ (x : Session). x.role) z) (length o.state.frame.rights.roles)) session) in
    let rel : rel_of o.state.frame.catalog f.rel ≡ b.rel = rel_of-named s.frame.catalog o.state.frame.catalog f.rel entry.0 entry.1 (l.lasts.relations f.rel entry.0 entry.1) ∙ sym b.there in
    (λ i. first_cause (is_some (missing_for o.state.frame (role i) (rel i))) (is_within_for o.state (role i) (rel i))) ∙ e

pub stepped_lines : Sounds → (fs : List Fact) (s : State) (o : Outcome) → IsSoundState s → stepped fs s ≡ Some o → AllByRecursion (IsLineOf s o.state) o.lines
stepped_lines sounds fs s o b h = AllByRecursion-map {P = IsTold s o.state} {Q = IsLineOf s o.state} line_is o.lines (recursion_from_All (IsTold s o.state) o.lines made.told)
  where
    made : IsStep fs s o
    made = sounds.told fs s o b h

    led : IsLed s o
    led = IsLed-stepped sounds fs s o h

    cause : (j : ℕ) (why : Cause) (x : Subscription) → subscription_of s.frame.subscriptions j ≡ Some x → ending o.state x ≡ Some why → (f : Feed) → IsFeed s f → f.number ≡ j → hindrance o.state f.role f.rel ≡ Some why
    cause j why x there ends f q n =
        let same : record { session = f.session; number = f.number; rel = q.rel } ≡ x = same-Some _ x (sym q.found ∙ (ap (subscription_of s.frame.subscriptions) n ∙ there)) in
        stepped_cause fs s o f why led made q (ap (ending o.state) same ∙ ends)

    line_is : (l : Line) → IsTold s o.state l → IsLineOf s o.state l
    line_is (reply n r) t = tt
    line_is (change n k rows) t = tt
    line_is (ended n k why rows) t = λ f q i. cause k why t.reader.subscription t.reader.found t.ends f q i

pub EndsForCause-IsSoundGate : Sounds → (g : Gate) (e : Event) → IsSoundGate g → EndsForCause g e
EndsForCause-IsSoundGate sounds g e b m c d x y own rel why rows h = AllByRecursion-Contains (IsEndTold g e c) (told_by c d) (over own rel why rows) (by (HearsBy-next sounds g e b m c d x.there x.stays y.there y.stays)) h
  where
    by_event : Hears g (next g e) c d → AllByRecursion (IsEndTold g e c) (told_by c d)
    by_event (quietly a n) = subst (AllByRecursion (IsEndTold g e c)) (sym (told_by-append c d a.more a.told)) (calm_ends g e c a.more a.calm)
    by_event (by_command a) =
        let z = step g.machine a.command in
        ends_of_outcome g e b c d z (grants_of g.machine a.command c.role) (entries_of (next_position g) a.request a.name (reply_to g a.command)) a.by (lines_are sounds g.machine a.command a.shared b.state.numbers.unique)
        (grants_end g e c (is_accepted (reply_in z.lines)) (granted_by z.state.frame a.command.act c.role)) (b.clients m c x.there x.stays)
    by_event (by_contents a n) = subst (AllByRecursion (IsEndTold g e c)) (sym (told_by-append c d _ a.told))
        (AllByRecursion-append (IsEndTold g e c) a.front (changed (c.given + 1) (difference a.before a.after) ∷ a.back) (calm_ends g e c a.front a.calm.0) (tt, calm_ends g e c a.back a.calm.1))

    by : HearsBy g e c d → AllByRecursion (IsEndTold g e c) (told_by c d)
    by (heard n a) = by_event a
    by (untaken n k same) = subst (AllByRecursion (IsEndTold g e c)) (sym (told_by-append c d [] (ap told (sym same) ∙ sym (append-nil (told c))))) tt
    by (taken s q a) =
        let names = newly g.machine.frame a.outcome.state.frame c.role in
        ends_of_outcome g e b c d a.outcome (map granted names) (entry_of s ∷ []) a.by (stepped_lines sounds (map fact_of s.requests) g.machine a.outcome b.state a.leads) (grants_end g e c true names)
        (b.clients m c x.there x.stays)

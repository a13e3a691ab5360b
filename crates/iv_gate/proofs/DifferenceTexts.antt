-- For each number an event tells the difference of what it shows, in one text.
use Rattle.std.proofs.Common.{◌≡◌, ◌⊎◌, inl, inr, ℕ, ◌+◌, ◌<◌, Bool, true, false, cond, not, ◌||◌, List, [], ◌∷◌, ◌++◌, map, ℤ, pos, ◌-ℤ◌, Option, Some, None, is_some, option_map, refl, ap, ◌∙◌, sym, subst, append-nil, arith}
use Rattle.std.specs.Prelude.{◌==◌, filter, find, flat_map, ◌+ℤ◌}
use Rattle.std.specs.List.{AllByRecursion, list_any}
use Rattle.std.proofs.lemmas.Bool.{false≢true, eqb-true}
use Rattle.std.proofs.lemmas.Int.{ints}
use Rattle.std.proofs.lemmas.List.Concat.{flat_map-append}
use Rattle.std.proofs.lemmas.List.Elements.{filter-append}
use Rattle.iv_rows.specs.Cell.{Cell}
use Rattle.iv_rows.specs.Options.{if_some}
use Rattle.iv_zset.specs.Limits.{copies}
use Rattle.iv_zset.specs.Weights.{weight_of}
use Rattle.iv_access.specs.Rights.{Name}
use Rattle.iv_machine.specs.Act.{Act, Line, reply, change, ended, Refusal}
use Rattle.iv_machine.specs.Changing.{after}
use Rattle.iv_machine.specs.Lines.{IsDifference}
use Rattle.iv_machine.specs.Machine.{difference, ending_by, line_for, lines_told, outcome, reply_to, settled, step, weight, ending, Outcome}
use Rattle.iv_machine.specs.Reached.{AreUnique}
use Rattle.iv_machine.specs.Refusing.{refusal}
use Rattle.iv_access.specs.Access.{role_number}
use Rattle.iv_machine.specs.State.{rel_of, view_for, State, Subscription, shown, subscription_of}
use Rattle.iv_machine.specs.declared.Cause.{Cause}
use Rattle.iv_message.specs.Told.{Told, changed, over, granted}
use Rattle.iv_clients.specs.Clients.{Client, Sub, all_shown, followed_by, own_line, own_lines, told}
use Rattle.iv_clients.specs.Feeds.{Feed, ends_in, feed_of, is_end, rel_read}
use Rattle.iv_clients.proofs.Slots.{same-Some, not_None-Some}
use Rattle.iv_gate.specs.Events.{Event, next}
use Rattle.iv_gate.specs.Gate as gates
use Rattle.iv_gate.specs.Gate.{Gate, granted_by, is_accepted, reply_in, entries_of, next_position}
use Rattle.iv_gate.specs.Replies.{ByClient, IsClient, told_by}
use Rattle.iv_gate.specs.Seen.{all_rows, change_told, is_told_of, read_by, rows_told, seen}
use Rattle.iv_gate.proofs.MessageEffects.{AreCalm, is_news}
use Rattle.iv_gate.proofs.GrownTexts.{append-drop_front, map-append_front}
use Rattle.iv_gate.proofs.ShownEntries.{ByClient-IsToldMore}
use Rattle.iv_gate.proofs.MessageNews.{Hears, quietly, by_command, by_contents, IsToldContents, IsToldOf, IsToldOutcome, grants_of}
use Rattle.iv_gate.proofs.FollowedNumbers.{IsOwn, is_some-followed_by, nothing_shown, AllByRecursion-IsOwn, subscriptions-after}
use Rattle.iv_gate.proofs.SameFeeds.{shown-IsFeed}
use Rattle.iv_gate.proofs.MachineLists.{None-is_some, list_any-append, ends_in-subscription_of, find-filter_left, true-find}
use Rattle.iv_gate.proofs.EventNews.{HearsBy-next, told_by-append, HearsBy, IsToldStep, taken, untaken, heard}
use Rattle.iv_gate.proofs.SoundSteps.{AllByRecursion-feed_of}
use Rattle.iv_gate.proofs.ClientViews.{AddsToView-IsSoundGate}
use Rattle.iv_gate.proofs.SoundCommands.{Adds, IsFeed, IsFollowing, IsSoundClient, IsSoundGate, Sounds, seer}
use Rattle.iv_gate.proofs.NumberSums.{AreOwn, list_any-above_given, eq-false_turned, eq-turned, or-both_false, eq-itself, sum_for-append, sum_for}
use Rattle.iv_records.specs.Journal.{Entry}
use Rattle.iv_gate.specs.Arriving.{Step, entry_of, fact_of, newly}
use Rattle.iv_steps.specs.Steps.{all_carried, among, looked_at, shared}
use Rattle.iv_gate.proofs.CommandEnds.{shown-stepped}

-- ---- the texts of one number

none_passes : {X : Type 0} (p : X → Bool) (xs : List X) → list_any p xs ≡ false → filter p xs ≡ []
none_passes p [] h = refl
none_passes p (x ∷ xs) h =
    let e = or-both_false (p x) (list_any p xs) h in
    (λ i. cond (e.0 i) (x ∷ filter p xs) (filter p xs)) ∙ none_passes p xs e.1

calm_text : (own : ℕ) (t : Told) → is_news t ≡ false → is_told_of own t ≡ false
calm_text own (changed j rows) h = absurd (false≢true (sym h))
calm_text own (over j rel why rows) h = absurd (false≢true (sym h))
calm_text own _ h = refl

calm_texts : (own : ℕ) (ts : List Told) → AreCalm ts → filter (is_told_of own) ts ≡ []
calm_texts own [] a = refl
calm_texts own (t ∷ ts) a = (λ i. cond (calm_text own t a.0 i) (t ∷ filter (is_told_of own) ts) (filter (is_told_of own) ts)) ∙ calm_texts own ts a.1

grant_texts : (own : ℕ) (b : Bool) (names : List Name) → filter (is_told_of own) (cond b (map granted names) []) ≡ []
grant_texts own false names = refl
grant_texts own true [] = refl
grant_texts own true (n ∷ names) = grant_texts own true names

line_this : (own : ℕ) (feeds : List Feed) (l : Line) (x : Sub) → (own == x.own) ≡ true → filter (is_told_of own) (own_line feeds l x) ≡ own_line feeds l x
line_this own feeds (reply n r) x e = refl
line_this own feeds (change n k rows) x e = by (k == x.feed)
  where
    by : (b : Bool) → filter (is_told_of own) (cond b (changed x.own rows ∷ []) []) ≡ cond b (changed x.own rows ∷ []) []
    by true = ap (λ z. cond z (changed x.own rows ∷ []) []) e
    by false = refl
line_this own feeds (ended n k why rows) x e = by (k == x.feed)
  where
    by : (b : Bool) → filter (is_told_of own) (cond b (over x.own (rel_read feeds k) why rows ∷ []) []) ≡ cond b (over x.own (rel_read feeds k) why rows ∷ []) []
    by true = ap (λ z. cond z (over x.own (rel_read feeds k) why rows ∷ []) []) e
    by false = refl

line_other : (own : ℕ) (feeds : List Feed) (l : Line) (x : Sub) → (own == x.own) ≡ false → filter (is_told_of own) (own_line feeds l x) ≡ []
line_other own feeds (reply n r) x e = refl
line_other own feeds (change n k rows) x e = by (k == x.feed)
  where
    by : (b : Bool) → filter (is_told_of own) (cond b (changed x.own rows ∷ []) []) ≡ []
    by true = ap (λ z. cond z (changed x.own rows ∷ []) []) e
    by false = refl
line_other own feeds (ended n k why rows) x e = by (k == x.feed)
  where
    by : (b : Bool) → filter (is_told_of own) (cond b (over x.own (rel_read feeds k) why rows ∷ []) []) ≡ []
    by true = ap (λ z. cond z (over x.own (rel_read feeds k) why rows ∷ []) []) e
    by false = refl

line_none : (own : ℕ) (feeds : List Feed) (l : Line) (xs : List Sub) → list_any (λ (y : Sub). own == y.own) xs ≡ false → filter (is_told_of own) (flat_map (own_line feeds l) xs) ≡ []
line_none own feeds l [] h = refl
line_none own feeds l (x ∷ xs) h =
    let e = or-both_false (own == x.own) (list_any (λ (y : Sub). own == y.own) xs) h in
    filter-append (is_told_of own) (own_line feeds l x) (flat_map (own_line feeds l) xs) ∙ (λ i. line_other own feeds l x e.0 i ++ line_none own feeds l xs e.1 i)

lines_none : (own : ℕ) (feeds : List Feed) (ls : List Line) (xs : List Sub) → list_any (λ (y : Sub). own == y.own) xs ≡ false → filter (is_told_of own) (own_lines feeds ls xs) ≡ []
lines_none own feeds [] xs h = refl
lines_none own feeds (l ∷ ls) xs h =
    filter-append (is_told_of own) (flat_map (own_line feeds l) xs) (own_lines feeds ls xs) ∙ (λ i. line_none own feeds l xs h i ++ lines_none own feeds ls xs h i)

-- where the number stands once, its texts are those of its feed
line_one : (own given : ℕ) (feeds : List Feed) (l : Line) (s : Sub) (xs : List Sub) → AreOwn given xs → find (λ (y : Sub). own == y.own) xs ≡ Some s
    → filter (is_told_of own) (flat_map (own_line feeds l) xs) ≡ own_line feeds l s
line_one own given feeds l s [] a h = absurd (not_None-Some s (sym h))
line_one own given feeds l s (x ∷ xs) a h =
    filter-append (is_told_of own) (own_line feeds l x) (flat_map (own_line feeds l) xs) ∙ by (own == x.own) refl h (λ t. line_one own given feeds l s xs a.2 t)
  where
    by : (b : Bool) → (own == x.own) ≡ b → cond b (Some x) (find (λ (y : Sub). own == y.own) xs) ≡ Some s
        → (find (λ (y : Sub). own == y.own) xs ≡ Some s → filter (is_told_of own) (flat_map (own_line feeds l) xs) ≡ own_line feeds l s)
        → filter (is_told_of own) (own_line feeds l x) ++ filter (is_told_of own) (flat_map (own_line feeds l) xs) ≡ own_line feeds l s
    by true e t more =
        (λ i. line_this own feeds l x e i ++ line_none own feeds l xs (ap (λ z. list_any (λ (y : Sub). z == y.own) xs) (eqb-true own x.own e) ∙ a.1) i)
        ∙ (append-nil (own_line feeds l x) ∙ ap (own_line feeds l) (same-Some x s t))
    by false e t more = (λ i. line_other own feeds l x e i ++ more t i)

lines_one : (own given : ℕ) (feeds : List Feed) (ls : List Line) (s : Sub) (xs : List Sub) → AreOwn given xs → find (λ (y : Sub). own == y.own) xs ≡ Some s
    → filter (is_told_of own) (own_lines feeds ls xs) ≡ flat_map (λ l. own_line feeds l s) ls
lines_one own given feeds [] s xs a h = refl
lines_one own given feeds (l ∷ ls) s xs a h =
    filter-append (is_told_of own) (flat_map (own_line feeds l) xs) (own_lines feeds ls xs) ∙ (λ i. line_one own given feeds l s xs a h i ++ lines_one own given feeds ls s xs a h i)

-- ---- the lines of one subscription

abbrev text_of : List Feed → Sub → ℕ → Option Cause → List (List Cell × ℤ) → List Told
text_of feeds s k (Some why) rows = over s.own (rel_read feeds k) why rows ∷ []
text_of feeds s k None rows = change_told s.own rows

its_line : (feeds : List Feed) (s : Sub) (o : Option Cause) (e : Subscription) (rows : List (List Cell × ℤ)) → (e.number == s.feed) ≡ true
    → flat_map (λ l. own_line feeds l s) (lines_told o e rows) ≡ text_of feeds s e.number o rows
its_line feeds s (Some why) e rows h = ap (λ b. cond b (over s.own (rel_read feeds e.number) why rows ∷ []) [] ++ []) h
its_line feeds s None e [] h = refl
its_line feeds s None e (p ∷ ps) h = ap (λ b. cond b (changed s.own (p ∷ ps) ∷ []) [] ++ []) h

no_line : (feeds : List Feed) (s : Sub) (o : Option Cause) (e : Subscription) (rows : List (List Cell × ℤ)) → (e.number == s.feed) ≡ false
    → flat_map (λ l. own_line feeds l s) (lines_told o e rows) ≡ []
no_line feeds s (Some why) e rows h = ap (λ b. cond b (over s.own (rel_read feeds e.number) why rows ∷ []) [] ++ []) h
no_line feeds s None e [] h = refl
no_line feeds s None e (p ∷ ps) h = ap (λ b. cond b (changed s.own (p ∷ ps) ∷ []) [] ++ []) h

turned : (a b : ℕ) (t : Bool) → (a == b) ≡ t → (b == a) ≡ t
turned a b true h = eq-turned a b h
turned a b false h = eq-false_turned a b h

module _ (old new : State) (ends : Subscription → Option Cause) (feeds : List Feed) (s : Sub) where
  nobodys : (es : List Subscription) → list_any (λ (f : Subscription). s.feed == f.number) es ≡ false → flat_map (λ l. own_line feeds l s) (flat_map (line_for old new ends) es) ≡ []
  nobodys [] h = refl
  nobodys (e ∷ es) h =
      let p = or-both_false (s.feed == e.number) (list_any (λ (f : Subscription). s.feed == f.number) es) h in
      flat_map-append (λ l. own_line feeds l s) (line_for old new ends e) (flat_map (line_for old new ends) es)
      ∙ (λ i. no_line feeds s (ends e) e (difference (shown old e.number) (shown new e.number)) (turned s.feed e.number false p.0) i ++ nobodys es p.1 i)

  pub of_one : (es : List Subscription) (x : Subscription) → AreUnique es → subscription_of es s.feed ≡ Some x
      → flat_map (λ l. own_line feeds l s) (flat_map (line_for old new ends) es) ≡ text_of feeds s x.number (ends x) (difference (shown old x.number) (shown new x.number))
  of_one [] x u h = absurd (not_None-Some x (sym h))
  of_one (e ∷ es) x u h =
      flat_map-append (λ l. own_line feeds l s) (line_for old new ends e) (flat_map (line_for old new ends) es) ∙ by (s.feed == e.number) refl h (λ t. of_one es x u.1 t)
    where
      by : (b : Bool) → (s.feed == e.number) ≡ b → cond b (Some e) (subscription_of es s.feed) ≡ Some x
          → (subscription_of es s.feed ≡ Some x
          → flat_map (λ l. own_line feeds l s) (flat_map (line_for old new ends) es) ≡ text_of feeds s x.number (ends x) (difference (shown old x.number) (shown new x.number)))
          → flat_map (λ l. own_line feeds l s) (line_for old new ends e) ++ flat_map (λ l. own_line feeds l s) (flat_map (line_for old new ends) es)
          ≡ text_of feeds s x.number (ends x) (difference (shown old x.number) (shown new x.number))
      by true q t more =
          (λ i. its_line feeds s (ends e) e (difference (shown old e.number) (shown new e.number)) (turned s.feed e.number true q) i
          ++ nobodys es (ap (λ z. list_any (λ (f : Subscription). z == f.number) es) (eqb-true s.feed e.number q) ∙ u.0) i)
          ∙ (append-nil (text_of feeds s e.number (ends e) (difference (shown old e.number) (shown new e.number)))
          ∙ ap (λ (z : Subscription). text_of feeds s z.number (ends z) (difference (shown old z.number) (shown new z.number))) (same-Some e x t))
      by false q t more =
          (λ i. no_line feeds s (ends e) e (difference (shown old e.number) (shown new e.number)) (turned s.feed e.number false q) i ++ more t i)

  no_end : (k : ℕ) (o : Option Cause) (e : Subscription) (rows : List (List Cell × ℤ)) → (k == e.number) ≡ false → list_any (is_end k) (lines_told o e rows) ≡ false
  no_end k (Some why) e rows h = ap (λ b. b || false) h
  no_end k None e [] h = refl
  no_end k None e (p ∷ ps) h = refl

  none_ended : (k : ℕ) (es : List Subscription) → list_any (λ (f : Subscription). k == f.number) es ≡ false → ends_in (flat_map (line_for old new ends) es) k ≡ false
  none_ended k [] h = refl
  none_ended k (e ∷ es) h =
      let p = or-both_false (k == e.number) (list_any (λ (f : Subscription). k == f.number) es) h in
      list_any-append (is_end k) (line_for old new ends e) (flat_map (line_for old new ends) es)
      ∙ (λ i. no_end k (ends e) e (difference (shown old e.number) (shown new e.number)) p.0 i || none_ended k es p.1 i)

  pub not_ended : (k : ℕ) (es : List Subscription) (x : Subscription) → AreUnique es → subscription_of es k ≡ Some x → ends x ≡ None → ends_in (flat_map (line_for old new ends) es) k ≡ false
  not_ended k [] x u h n = refl
  not_ended k (e ∷ es) x u h n =
      list_any-append (is_end k) (line_for old new ends e) (flat_map (line_for old new ends) es) ∙ by (k == e.number) refl h (λ t. not_ended k es x u.1 t n)
    where
      quiet : (rows : List (List Cell × ℤ)) → list_any (is_end k) (lines_told None e rows) ≡ false
      quiet [] = refl
      quiet (p ∷ ps) = refl

      by : (b : Bool) → (k == e.number) ≡ b → cond b (Some e) (subscription_of es k) ≡ Some x → (subscription_of es k ≡ Some x → ends_in (flat_map (line_for old new ends) es) k ≡ false)
          → (list_any (is_end k) (line_for old new ends e) || list_any (is_end k) (flat_map (line_for old new ends) es)) ≡ false
      by true q t more =
          let none : ends e ≡ None = ap ends (same-Some e x t) ∙ n in
          λ i. (ap (λ o. list_any (is_end k) (lines_told o e (difference (shown old e.number) (shown new e.number)))) none ∙ quiet (difference (shown old e.number) (shown new e.number))) i
          || none_ended k es (ap (λ z. list_any (λ (f : Subscription). z == f.number) es) (eqb-true k e.number q) ∙ u.0) i
      by false q t more = λ i. no_end k (ends e) e (difference (shown old e.number) (shown new e.number)) q i || more t i

-- what a feed shows, the number that follows it shows
shown_read : (g : Gate) → IsSoundGate g → (m : ℕ) (c : Client) (own k : ℕ) → IsClient g m c → followed_by c.subs own ≡ Some k → shown g.machine k ≡ read_by g c own
shown_read g b m c own k x h = look c.subs (b.clients m c x.there x.stays).follows h
  where
    of_sub : (s : Sub) → s.feed ≡ k → IsFollowing g.machine g.feeds (seer c) s → shown g.machine k ≡ read_by g c own
    of_sub s f y =
        let there : feed_of g.feeds k ≡ Some y.feed = ap (feed_of g.feeds) (sym f) ∙ y.found in
        let number : k ≡ y.feed.number = eqb-true k y.feed.number (true-find (λ (z : Feed). k == z.number) g.feeds y.feed there) in
        let rel : rel_read g.feeds k ≡ y.feed.rel = ap (λ o. if_some o [] (λ (z : Feed). z.rel)) there in
        ap (shown g.machine) number ∙ (shown-IsFeed g.machine y.feed (AllByRecursion-feed_of (IsFeed g.machine) g.feeds k y.feed b.feeds there)
        ∙ ((λ i. view_for g.machine (role_number g.machine.frame.rights (y.role i)) (rel_of g.machine.frame.catalog (sym rel i)))
        ∙ ap (λ o. if_some o [] (λ j. seen g.machine c.role (rel_read g.feeds j))) (sym h)))

    look : (xs : List Sub) → AllByRecursion (IsFollowing g.machine g.feeds (seer c)) xs → followed_by xs own ≡ Some k → shown g.machine k ≡ read_by g c own
    look [] a e = absurd (not_None-Some k (sym e))
    look (s ∷ ss) a e = by (own == s.own) e (λ z. look ss a.1 z)
      where
        by : (t : Bool) → option_map (λ (z : Sub). z.feed) (cond t (Some s) (find (λ (z : Sub). own == z.own) ss)) ≡ Some k → (followed_by ss own ≡ Some k → shown g.machine k ≡ read_by g c own)
            → shown g.machine k ≡ read_by g c own
        by true z more = of_sub s (same-Some s.feed k z) a.0
        by false z more = more z

-- ---- what an event tells of a number

pub data Texts (g : Gate) (c d : Client) (own : ℕ) : Type 0 where
  silent : filter (is_told_of own) (told_by c d) ≡ [] → Texts g c d own
  differs : (xs ys : List (List Cell)) → filter (is_told_of own) (told_by c d) ≡ change_told own (difference xs ys) → is_some (followed_by d.subs own) ≡ true → Texts g c d own
  ends_so : (rel : Name) (why : Cause) → filter (is_told_of own) (told_by c d) ≡ over own rel why (difference (read_by g c own) []) ∷ [] → followed_by d.subs own ≡ None → Texts g c d own

record IsFound (own : ℕ) (xs : List Sub) : Type 0 where
  sub : Sub
  is : find (λ (y : Sub). own == y.own) xs ≡ Some sub

find_there : (own : ℕ) (xs : List Sub) → list_any (λ (y : Sub). own == y.own) xs ≡ true → IsFound own xs
find_there own [] h = absurd (false≢true h)
find_there own (x ∷ xs) h = by (own == x.own) refl h (λ t. find_there own xs t)
  where
    by : (b : Bool) → (own == x.own) ≡ b → (b || list_any (λ (y : Sub). own == y.own) xs) ≡ true → (list_any (λ (y : Sub). own == y.own) xs ≡ true → IsFound own xs) → IsFound own (x ∷ xs)
    by true e t more = record { sub = x; is = ap (λ z. cond z (Some x) (find (λ (y : Sub). own == y.own) xs)) e }
    by false e t more = let m = more t in record { sub = m.sub; is = ap (λ z. cond z (Some x) (find (λ (y : Sub). own == y.own) xs)) e ∙ m.is }

found_sub : (P : Sub → Type 0) (p : Sub → Bool) (xs : List Sub) (s : Sub) → AllByRecursion P xs → find p xs ≡ Some s → P s
found_sub P p [] s a h = absurd (not_None-Some s (sym h))
found_sub P p (x ∷ xs) s a h = by (p x) h (λ t. found_sub P p xs s a.1 t)
  where
    by : (b : Bool) → cond b (Some x) (find p xs) ≡ Some s → (find p xs ≡ Some s → P s) → P s
    by true t more = subst P (same-Some x s t) a.0
    by false t more = more t

-- a number that stands once is gone where it is left out
sub_gone : (own given : ℕ) (p : Sub → Bool) (xs : List Sub) (s : Sub) → AreOwn given xs → find (λ (y : Sub). own == y.own) xs ≡ Some s → p s ≡ false → find (λ (y : Sub). own == y.own) (filter p xs) ≡ None
sub_gone own given p [] s a h e = refl
sub_gone own given p (x ∷ xs) s a h e = by (own == x.own) refl h (λ t. sub_gone own given p xs s a.2 t e)
  where
    none : (zs : List Sub) → list_any (λ (y : Sub). own == y.own) zs ≡ false → find (λ (y : Sub). own == y.own) (filter p zs) ≡ None
    none [] q = refl
    none (z ∷ zs) q = let r = or-both_false (own == z.own) (list_any (λ (y : Sub). own == y.own) zs) q in kept (p z) r.0 (none zs r.1)
      where
        kept : (t : Bool) → (own == z.own) ≡ false → find (λ (y : Sub). own == y.own) (filter p zs) ≡ None → find (λ (y : Sub). own == y.own) (cond t (z ∷ filter p zs) (filter p zs)) ≡ None
        kept true f more = ap (λ b. cond b (Some z) (find (λ (y : Sub). own == y.own) (filter p zs))) f ∙ more
        kept false f more = more

    by : (b : Bool) → (own == x.own) ≡ b → cond b (Some x) (find (λ (y : Sub). own == y.own) xs) ≡ Some s
        → (find (λ (y : Sub). own == y.own) xs ≡ Some s → find (λ (y : Sub). own == y.own) (filter p xs) ≡ None) → find (λ (y : Sub). own == y.own) (cond (p x) (x ∷ filter p xs) (filter p xs)) ≡ None
    by true q t more =
        ap (λ b. find (λ (y : Sub). own == y.own) (cond b (x ∷ filter p xs) (filter p xs))) (ap p (same-Some x s t) ∙ e)
        ∙ none xs (ap (λ i. list_any (λ (z : Sub). i == z.own) xs) (eqb-true own x.own q) ∙ a.1)
    by false q t more = kept (p x)
      where
        kept : (b : Bool) → find (λ (y : Sub). own == y.own) (cond b (x ∷ filter p xs) (filter p xs)) ≡ None
        kept true = ap (λ b. cond b (Some x) (find (λ (y : Sub). own == y.own) (filter p xs))) q ∙ more t
        kept false = more t

three : (p : Told → Bool) (front news back : List Told) → filter p front ≡ [] → filter p back ≡ [] → filter p (front ++ (news ++ back)) ≡ filter p news
three p front news back f b =
    filter-append p front (news ++ back) ∙ ((λ i. f i ++ (filter-append p news back ∙ (λ j. filter p news ++ b j)) i) ∙ append-nil (filter p news))

module _ (g : Gate) (e : Event) (b : IsSoundGate g) (m : ℕ) (c d : Client) (x : IsClient g m c) (own : ℕ) (o : Outcome) (grants : List Told) (added : List Entry) (a : IsToldOutcome g (next g e) o grants added c d)
    (quiet : filter (is_told_of own) grants ≡ []) where
  of_lines : filter (is_told_of own) (told_by c d) ≡ filter (is_told_of own) (own_lines g.feeds o.lines c.subs)
  of_lines =
      let lines = own_lines g.feeds o.lines c.subs in
      ap (filter (is_told_of own)) (told_by-append c d _ a.told)
      ∙ (three (is_told_of own) a.front (lines ++ grants) a.back (calm_texts own a.front a.calm.0) (calm_texts own a.back a.calm.1)
      ∙ (filter-append (is_told_of own) lines grants ∙ ((λ i. filter (is_told_of own) lines ++ quiet i) ∙ append-nil (filter (is_told_of own) lines))))

  sound : IsSoundClient g.machine g.feeds (seer c)
  sound = b.clients m c x.there x.stays

  -- where the lines are those of the subscriptions
  pub of_sub : (s : Sub) → find (λ (y : Sub). own == y.own) c.subs ≡ Some s → (now : State) (ends : Subscription → Option Cause)
      → flat_map (λ l. own_line g.feeds l s) o.lines ≡ flat_map (λ l. own_line g.feeds l s) (flat_map (line_for g.machine now ends) g.machine.frame.subscriptions)
      → ends_in o.lines s.feed ≡ ends_in (flat_map (line_for g.machine now ends) g.machine.frame.subscriptions) s.feed
      → ((y : Subscription) (why : Cause) → subscription_of g.machine.frame.subscriptions y.number ≡ Some y → ends y ≡ Some why → ends_in o.lines y.number ≡ true → shown now y.number ≡ [])
      → Texts g c d own
  of_sub s f now ends lines over_so gone = by (ends x0) refl
    where
      y : IsOwn g c s
      y = found_sub (IsOwn g c) (λ (w : Sub). own == w.own) c.subs s (AllByRecursion-IsOwn g c sound) f

      number : s.feed ≡ y.follows.feed.number
      number = eqb-true s.feed y.follows.feed.number (true-find (λ (w : Feed). s.feed == w.number) g.feeds y.follows.feed y.follows.found)

      fd : IsFeed g.machine y.follows.feed
      fd = AllByRecursion-feed_of (IsFeed g.machine) g.feeds s.feed y.follows.feed b.feeds y.follows.found

      x0 : Subscription
      x0 = record { session = y.follows.feed.session; number = y.follows.feed.number; rel = fd.rel }

      found : subscription_of g.machine.frame.subscriptions s.feed ≡ Some x0
      found = ap (subscription_of g.machine.frame.subscriptions) number ∙ fd.found

      same : own ≡ s.own
      same = eqb-true own s.own (true-find (λ (w : Sub). own == w.own) c.subs s f)

      texts : filter (is_told_of own) (told_by c d) ≡ text_of g.feeds s x0.number (ends x0) (difference (shown g.machine x0.number) (shown now x0.number))
      texts =
          of_lines ∙ (lines_one own c.given g.feeds o.lines s c.subs sound.own f ∙ (lines
          ∙ of_one g.machine now ends g.feeds s g.machine.frame.subscriptions x0 b.state.numbers.unique found))

      by : (z : Option Cause) → ends x0 ≡ z → Texts g c d own
      by None q =
          let goes : ends_in o.lines s.feed ≡ false = over_so ∙ not_ended g.machine now ends g.feeds s s.feed g.machine.frame.subscriptions x0 b.state.numbers.unique found q in
          differs (shown g.machine x0.number) (shown now x0.number)
          (texts ∙ (ap (λ z. text_of g.feeds s x0.number z (difference (shown g.machine x0.number) (shown now x0.number))) q ∙ ap (λ i. change_told i (difference (shown g.machine x0.number) (shown now x0.number))) (sym same)))
          (ap (λ z. is_some (followed_by z own)) a.subs ∙ ap (λ z. is_some (option_map (λ (w : Sub). w.feed) z))
          (find-filter_left (λ (w : Sub). own == w.own) (λ (w : Sub). not (ends_in o.lines w.feed)) c.subs s f (ap not goes)))
      by (Some why) q =
          let over_now : ends_in o.lines s.feed ≡ true =
          over_so ∙ ends_in-subscription_of s.feed g.machine now ends g.machine.frame.subscriptions x0 found (ap is_some q) in
          let none : shown now x0.number ≡ [] = gone x0 why fd.found q (ap (ends_in o.lines) (sym number) ∙ over_now) in
          let was : shown g.machine x0.number ≡ read_by g c own =
          ap (shown g.machine) (sym number) ∙ shown_read g b m c own s.feed x (ap (option_map (λ (w : Sub). w.feed)) f) in
          ends_so (rel_read g.feeds x0.number) why
          (texts ∙ (ap (λ z. text_of g.feeds s x0.number z (difference (shown g.machine x0.number) (shown now x0.number))) q
          ∙ (λ i. over (sym same i) (rel_read g.feeds x0.number) why (difference (was i) (none i)) ∷ [])))
          (ap (λ z. followed_by z own) a.subs ∙ ap (option_map (λ (w : Sub). w.feed))
          (sub_gone own c.given (λ (w : Sub). not (ends_in o.lines w.feed)) c.subs s sound.own f (ap not over_now)))

  -- a number that is open, or is not
  pub of_outcome : ((s : Sub) → find (λ (y : Sub). own == y.own) c.subs ≡ Some s → Texts g c d own) → Texts g c d own
  of_outcome each = by (list_any (λ (y : Sub). own == y.own) c.subs) refl
    where
      by : (t : Bool) → list_any (λ (y : Sub). own == y.own) c.subs ≡ t → Texts g c d own
      by false t = silent (of_lines ∙ lines_none own g.feeds o.lines c.subs t)
      by true t = let s = find_there own c.subs t in each s.sub s.is

  pub of_nothing : (s : Sub) → find (λ (y : Sub). own == y.own) c.subs ≡ Some s → flat_map (λ l. own_line g.feeds l s) o.lines ≡ [] → Texts g c d own
  of_nothing s f none = silent (of_lines ∙ (lines_one own c.given g.feeds o.lines s c.subs sound.own f ∙ none))

of_command : (g : Gate) (e : Event) (b : IsSoundGate g) (m : ℕ) (c d : Client) (x : IsClient g m c) (own : ℕ) → IsToldOf g (next g e) c d → Texts g c d own
of_command g e b m c d x own a = of_outcome g e b m c d x own o grants added a.by quiet (λ s f. by s f (refusal g.machine a.command.session a.command.act) refl)
  where
    o : Outcome
    o = step g.machine a.command

    grants : List Told
    grants = grants_of g.machine a.command c.role

    added : List Entry
    added = entries_of (next_position g) a.request a.name (gates.reply_to g a.command)

    quiet : filter (is_told_of own) (grants_of g.machine a.command c.role) ≡ []
    quiet = grant_texts own (is_accepted (reply_in (step g.machine a.command).lines)) (granted_by (step g.machine a.command).state.frame a.command.act c.role)

    n : ℕ
    n = a.command.session

    act : Act
    act = a.command.act

    now : State
    now = settled a.command.act (after g.machine a.command.session a.command.act)

    ends : Subscription → Option Cause
    ends = ending_by a.command.act (after g.machine a.command.session a.command.act)

    by : (s : Sub) → find (λ (y : Sub). own == y.own) c.subs ≡ Some s → (z : Option Refusal) → refusal g.machine a.command.session a.command.act ≡ z → Texts g c d own
    by s f (Some r) z = of_nothing g e b m c d x own o grants added a.by quiet s f (ap (λ q. flat_map (λ l. own_line g.feeds l s) (outcome g.machine a.command q).lines) z)
    by s f None z =
        let lines : (step g.machine a.command).lines ≡ reply n (reply_to g.machine.frame act) ∷ flat_map (line_for g.machine now ends) g.machine.frame.subscriptions =
        ap (λ q. (outcome g.machine a.command q).lines) z
        ∙ ap (λ es. reply n (reply_to g.machine.frame act) ∷ flat_map (line_for g.machine now ends) es) (subscriptions-after g.machine n act a.shared) in
        of_sub g e b m c d x own o grants added a.by quiet s f now ends (ap (flat_map (λ l. own_line g.feeds l s)) lines) (ap (λ w. ends_in w s.feed) lines)
        (λ y why there q i. nothing_shown g.machine n act a.shared b.state.numbers.unique y why there q)

of_step : (g : Gate) (e : Event) (b : IsSoundGate g) (m : ℕ) (c d : Client) (x : IsClient g m c) (own : ℕ) (s : Step) → IsToldStep g (next g e) s c d → Texts g c d own
of_step g e b m c d x own s a = of_outcome g e b m c d x own a.outcome (map granted names) (entry_of s ∷ []) a.by quiet (λ w f. by w f (all_carried (map fact_of s.requests) (shared g.machine)) a.leads)
  where
    names : List Name
    names = newly g.machine.frame a.outcome.state.frame c.role

    quiet : filter (is_told_of own) (map granted (newly g.machine.frame a.outcome.state.frame c.role)) ≡ []
    quiet = grant_texts own true (newly g.machine.frame a.outcome.state.frame c.role)

    by : (w : Sub) → find (λ (y : Sub). own == y.own) c.subs ≡ Some w → (t : Option State) → option_map (λ u. looked_at g.machine (among g.machine u)) t ≡ Some a.outcome → Texts g c d own
    by w f None i = absurd (not_None-Some a.outcome (sym i))
    by w f (Some t) i =
        let same = same-Some (looked_at g.machine (among g.machine t)) a.outcome i in let ends = ending (among g.machine t) in
        of_sub g e b m c d x own a.outcome (map granted names) (entry_of s ∷ []) a.by quiet w f a.outcome.state ends
        (subst (λ (z : Outcome). flat_map (λ l. own_line g.feeds l w) z.lines ≡ flat_map (λ l. own_line g.feeds l w) (flat_map (line_for g.machine z.state ends) g.machine.frame.subscriptions)) same refl)
        (subst (λ (z : Outcome). ends_in z.lines w.feed ≡ ends_in (flat_map (line_for g.machine z.state ends) g.machine.frame.subscriptions) w.feed) same refl)
        (λ y why there q j. shown-stepped (map fact_of s.requests) g.machine a.outcome b.state.numbers.unique a.leads y.number j)

of_contents : (g : Gate) (c d : Client) (own : ℕ) → IsToldContents c d → Texts g c d own
of_contents g c d own a = by (own == (c.given + 1)) refl
  where
    D : List (List Cell × ℤ)
    D = difference a.before a.after

    texts : filter (is_told_of own) (told_by c d) ≡ cond (own == (c.given + 1)) (changed (c.given + 1) (difference a.before a.after) ∷ []) []
    texts = ap (filter (is_told_of own)) (told_by-append c d _ a.told)
        ∙ three (is_told_of own) a.front (changed (c.given + 1) (difference a.before a.after) ∷ []) a.back (calm_texts own a.front a.calm.0) (calm_texts own a.back a.calm.1)

    filled : (rows : List (List Cell × ℤ)) → (rows ≡ [] → ⊥) → changed own rows ∷ [] ≡ change_told own rows
    filled [] h = absurd (h refl)
    filled (p ∷ ps) h = refl

    by : (t : Bool) → (own == (c.given + 1)) ≡ t → Texts g c d own
    by false t = silent (texts ∙ ap (λ z. cond z (changed (c.given + 1) (difference a.before a.after) ∷ []) []) t)
    by true t =
        let same : own ≡ c.given + 1 = eqb-true own (c.given + 1) t in
        differs a.before a.after
        (texts ∙ (ap (λ z. cond z (changed (c.given + 1) (difference a.before a.after) ∷ []) []) t ∙ (ap (λ i. changed i (difference a.before a.after) ∷ []) (sym same) ∙ filled (difference a.before a.after) a.some)))
        (is_some-followed_by own d.subs ∙ (ap (λ i. list_any (λ (z : Sub). i == z.own) d.subs) same ∙ a.follows))

-- ---- the difference

-- Of a number that follows a feed behind an event, and did before or is given now, the event tells the difference of what it shows, in one
-- text. Of one that follows none behind it, it tells nothing, or its end, which takes back all that it showed.
pub record TellsApart (g : Gate) (e : Event) (c d : Client) (own : ℕ) : Type 0 where
  pub goes_on : is_some (followed_by d.subs own) ≡ true → (is_some (followed_by c.subs own) ≡ true) ⊎ (c.given < own)
      → filter (is_told_of own) (told_by c d) ≡ change_told own (difference (read_by g c own) (read_by (next g e) d own))
  pub stops : followed_by d.subs own ≡ None → (filter (is_told_of own) (told_by c d) ≡ [])
      ⊎ ((rel : Name) × (why : Cause) × (filter (is_told_of own) (told_by c d) ≡ over own rel why (difference (read_by g c own) []) ∷ []))

-- what it was told stays, and more comes behind it
text_kept : (g : Gate) (e : Event) (m : ℕ) (c d : Client) → IsClient g m c → IsClient (next g e) m d → told d ≡ told c ++ told_by c d
text_kept g e m c d a b =
    let x = ByClient-IsToldMore g e m c d a b in
    append-drop_front (told c) (map (λ s. s.told) x.more) (told d) (ap (map (λ s. s.told)) x.keeps ∙ map-append_front (λ s. s.told) (all_shown c) x.more)

module _ (adds : Adds) (sounds : Sounds) (exact : (xs ys : List (List Cell)) → IsDifference xs ys (difference xs ys)) (only : (xs ys : List (List Cell)) (rows : List (List Cell × ℤ)) → IsDifference xs ys rows → rows ≡ difference xs ys)
    (g : Gate) (e : Event) (b : IsSoundGate g) (m : ℕ) (c d : Client) (x : IsClient g m c) (y : IsClient (next g e) m d) (own : ℕ) (after : IsSoundGate (next g e)) where
  abbrev before : List (List Cell)
  before = read_by g c own

  abbrev behind : List (List Cell)
  behind = read_by (next g e) d own

  texts_by : Hears g (next g e) c d → Texts g c d own
  texts_by (quietly a n) = silent (ap (filter (is_told_of own)) (told_by-append c d a.more a.told) ∙ calm_texts own a.more a.calm)
  texts_by (by_contents a n) = of_contents g c d own a
  texts_by (by_command a) = of_command g e b m c d x own a

  texts_of : HearsBy g e c d → Texts g c d own
  texts_of (heard n h) = texts_by h
  texts_of (untaken n k same) = silent (ap (filter (is_told_of own)) (told_by-append c d [] (ap told (sym same) ∙ sym (append-nil (told c)))))
  texts_of (taken s q a) = of_step g e b m c d x own s a

  rows_filtered : (ts : List Told) → all_rows own ts ≡ all_rows own (filter (is_told_of own) ts)
  rows_filtered [] = refl
  rows_filtered (t ∷ ts) = by (is_told_of own t) refl (rows_filtered ts)
    where
      no_rows : (u : Told) → is_told_of own u ≡ false → rows_told own u ≡ []
      no_rows (changed j rows) h = ap (λ z. cond z rows []) h
      no_rows (over j rel why rows) h = ap (λ z. cond z rows []) h
      no_rows _ h = refl

      by : (q : Bool) → is_told_of own t ≡ q → all_rows own ts ≡ all_rows own (filter (is_told_of own) ts)
          → rows_told own t ++ all_rows own ts ≡ all_rows own (cond q (t ∷ filter (is_told_of own) ts) (filter (is_told_of own) ts))
      by true h more = ap (λ z. rows_told own t ++ z) more
      by false h more = (λ i. no_rows t h i ++ more i)

  sum_before : (is_some (followed_by c.subs own) ≡ true) ⊎ (c.given < own) → (q : List Cell) → sum_for own q (told c) ≡ pos (copies q (read_by g c own))
  sum_before (inl h) q = by (followed_by c.subs own) refl
    where
      by : (o : Option ℕ) → followed_by c.subs own ≡ o → sum_for own q (told c) ≡ pos (copies q (read_by g c own))
      by None f = absurd (false≢true (sym (ap is_some f) ∙ h))
      by (Some k) f =
          (AddsToView-IsSoundGate g b m c own k x f).sum q ∙ sym (ap (λ o. pos (copies q (if_some o [] (λ j. seen g.machine c.role (rel_read g.feeds j))))) f)
  sum_before (inr l) q =
      let sound = b.clients m c x.there x.stays in
      sound.later own q l ∙ sym (ap (λ o. pos (copies q (if_some o [] (λ j. seen g.machine c.role (rel_read g.feeds j)))))
      (None-is_some (followed_by c.subs own) (is_some-followed_by own c.subs ∙ list_any-above_given c.given own c.subs sound.own l)))

  sum_behind : is_some (followed_by d.subs own) ≡ true → (q : List Cell) → sum_for own q (told d) ≡ pos (copies q (read_by (next g e) d own))
  sum_behind h q = by (followed_by d.subs own) refl
    where
      by : (o : Option ℕ) → followed_by d.subs own ≡ o → sum_for own q (told d) ≡ pos (copies q (read_by (next g e) d own))
      by None f = absurd (false≢true (sym (ap is_some f) ∙ h))
      by (Some k) f =
          (AddsToView-IsSoundGate (next g e) after m d own k y f).sum q
          ∙ sym (ap (λ o. pos (copies q (if_some o [] (λ j. seen (next g e).machine d.role (rel_read (next g e).feeds j))))) f)

  left_over : (w : ℤ) (p q : ℕ) → pos q ≡ pos p +ℤ w → w ≡ pos q -ℤ pos p
  left_over w p q h = omega (arith, ints, h)

  -- the texts weigh the difference
  weighs : is_some (followed_by d.subs own) ≡ true → (is_some (followed_by c.subs own) ≡ true) ⊎ (c.given < own) → (q : List Cell)
      → weight_of (all_rows own (filter (is_told_of own) (told_by c d))) q ≡ weight (read_by g c own) (read_by (next g e) d own) q
  weighs f p q =
      left_over (weight_of (all_rows own (filter (is_told_of own) (told_by c d))) q) (copies q (read_by g c own)) (copies q (read_by (next g e) d own))
      (sym (sum_behind f q) ∙ (ap (sum_for own q) (text_kept g e m c d x y) ∙ (sum_for-append own q (told c) (told_by c d)
      ∙ (λ i. sum_before p q i +ℤ ap (λ rows. weight_of rows q) (rows_filtered (told_by c d)) i))))

  rows_of_change : (rows : List (List Cell × ℤ)) → all_rows own (change_told own rows) ≡ rows
  rows_of_change [] = refl
  rows_of_change (p ∷ ps) = ap (λ z. cond z (p ∷ ps) [] ++ []) (eq-itself own) ∙ append-nil (p ∷ ps)

  told_exactly : (xs ys : List (List Cell)) → filter (is_told_of own) (told_by c d) ≡ change_told own (difference xs ys) → is_some (followed_by d.subs own) ≡ true → (is_some (followed_by c.subs own) ≡ true) ⊎ (c.given < own)
      → filter (is_told_of own) (told_by c d) ≡ change_told own (difference (read_by g c own) (read_by (next g e) d own))
  told_exactly xs ys t f p =
      t ∙ ap (change_told own) (only (read_by g c own) (read_by (next g e) d own) (difference xs ys) (record {
        changes = (exact xs ys).changes;
        weights = λ q. sym (ap (λ rows. weight_of rows q) (ap (all_rows own) t ∙ rows_of_change (difference xs ys))) ∙ weighs f p q;
      }))

  tells_difference : HearsBy g e c d → TellsApart g e c d own
  tells_difference h = by (texts_of h)
    where
      by : Texts g c d own → TellsApart g e c d own
      by (silent t) = record { goes_on = λ f p. told_exactly [] [] t f p; stops = λ f. inl t }
      by (differs xs ys t s) = record { goes_on = λ f p. told_exactly xs ys t f p; stops = λ f. absurd (false≢true (sym (ap is_some f) ∙ s)) }
      by (ends_so rel why t s) = record { goes_on = λ f p. absurd (false≢true (sym (ap is_some s) ∙ f)); stops = λ f. inr (rel, why, t) }

pub TellsApart-IsSoundGate : Adds → Sounds → ((xs ys : List (List Cell)) → IsDifference xs ys (difference xs ys))
    → ((xs ys : List (List Cell)) (rows : List (List Cell × ℤ)) → IsDifference xs ys rows → rows ≡ difference xs ys) → (g : Gate) (e : Event) → IsSoundGate g → IsSoundGate (next g e) → ByClient g e (λ m c d. (own : ℕ) → TellsApart g e c d own)
TellsApart-IsSoundGate adds sounds exact only g e b behind m c d x y own = tells_difference adds sounds exact only g e b m c d x y own behind (HearsBy-next sounds g e b m c d x.there x.stays y.there y.stays)

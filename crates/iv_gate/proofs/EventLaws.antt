-- What events leave and tell, as the laws say it: each in one equation.
use Rattle.std.proofs.Common.{◌≡◌, ◌⊎◌, inl, inr, ℕ, suc, ◌+◌, ◌<◌, Bool, true, false, cond, not, ◌||◌, List, [], ◌∷◌, ◌++◌, drop, length, map, Option, Some, None, is_some, refl, ap, ◌∙◌, sym, append-nil, arith}
use Rattle.std.specs.Prelude.{◌==◌, ◌&&◌, Contains, filter, get_or}
use Rattle.std.specs.List.{AllByRecursion}
use Rattle.std.proofs.lemmas.Bool.{false≢true, eqb-true}
use Rattle.iv_rows.specs.Options.{if_some}
use Rattle.iv_access.specs.Rights.{Name}
use Rattle.iv_machine.specs.declared.Cause.{Cause}
use Rattle.iv_machine.specs.Machine.{Outcome, difference}
use Rattle.iv_message.specs.Told.{Told, over}
use Rattle.iv_clients.specs.Clients.{Client, Shown, all_shown, client_at, followed_by, fresh, handing, may_say, saying, told}
use Rattle.iv_records.specs.Journal.{IsRequest, Request, is_shared, said_by}
use Rattle.iv_records.specs.Names.{holder_of, place_text}
use Rattle.iv_steps.specs.Laws.{RefusalsAreFound}
use Rattle.iv_steps.specs.Steps.{stepped}
use Rattle.iv_clients.proofs.Slots.{same-Some}
use Rattle.iv_gate.specs.Arriving.{Step, entry_of, fact_of, fault_of, was_taken}
use Rattle.iv_gate.specs.Events.{Event, presented, message, gone, known, ticked, synced, handed, arrived, forgave, failed, IsWell, happens, next, led}
use Rattle.iv_gate.specs.Gate.{Gate, hears, place_of}
use Rattle.iv_gate.specs.Implied.{EndsForCause}
use Rattle.iv_gate.specs.Laws.{AddsOnly, AreShown, HasMarks, LeavesMarks, marked}
use Rattle.iv_gate.specs.Replies.{ByClient, IsClient, added_by, heard_by, is_opened, place_after, told_by}
use Rattle.iv_gate.specs.Seen.{IsEnd, TellsDifference, hindrance, is_told_of, read_by}
use Rattle.iv_gate.specs.Touched.{AreTouched, IsNewcomer, StaysItself, itself_after}
use Rattle.iv_gate.proofs.NameVerdicts.{place_text-place_after}
use Rattle.iv_gate.proofs.ClientAnswers.{told_by-told_more, is_own-not_followed_by, IsOwn-heard_by, followed_by-not_is_own, Hears-heard_by, OwnAnswer-IsOwn}
use Rattle.iv_gate.proofs.AddedEntries.{entries-came, IsNext-fault_of, entries-went}
use Rattle.iv_gate.proofs.GrownTexts.{drop-append_front, map-append_front}
use Rattle.iv_gate.proofs.NoReplies.{is_own}
use Rattle.iv_gate.proofs.OwnReplies.{asked, is_own-before, said_reply}
use Rattle.iv_gate.proofs.ShownEntries.{IsShownBy, ByClient-IsToldMore}
use Rattle.iv_gate.proofs.EventSigns.{Marks, Sign, card, marks}
use Rattle.iv_gate.proofs.NumberSums.{eq-itself}
use Rattle.iv_gate.proofs.DifferenceTexts.{TellsApart}
use Rattle.iv_gate.proofs.EventMarks.{IsKept as KeepsCard, IsNewcomer as Comes, card_behind, entries-next, is_gone, marks-next, marks_behind, next-dead, taken_by, sign-takes, AreTouched-next}

-- ---- marks

as_marked : (g h : Gate) (e : Event) → g.dead ≡ false
    → record h { tokens = (marks_behind g e).tokens; head = (marks_behind g e).head; kept = (marks_behind g e).kept; forgiven = (marks_behind g e).forgiven; leads = (marks_behind g e).leads; sent = (marks_behind g e).sent; dead = (marks_behind g e).dead }
    ≡ record (marked g e) { machine = h.machine; seats = h.seats; feeds = h.feeds; clients = h.clients; entries = h.entries }
as_marked g h (presented m token) live = refl
as_marked g h (message m text) live = refl
as_marked g h (gone m) live = refl
as_marked g h ticked live = refl
as_marked g h (known tokens) live = refl
as_marked g h synced live = refl
as_marked g h (handed m) live = refl
as_marked g h led live = refl
as_marked g h forgave live = refl
as_marked g h failed live = refl
as_marked g h (arrived s) live = by (is_some (fault_of g s))
  where
    with_marks : Marks → Gate
    with_marks m = record h { tokens = m.tokens; head = m.head; kept = m.kept; forgiven = m.forgiven; leads = m.leads; sent = m.sent; dead = m.dead }

    by : (b : Bool) → with_marks (cond b (record (marks g) { dead = true }) (marks g))
        ≡ record (record g { dead = b }) { machine = h.machine; seats = h.seats; feeds = h.feeds; clients = h.clients; entries = h.entries }
    by true = refl
    by false = ap (λ d. with_marks (record (marks g) { dead = d })) live

has_marks : (g : Gate) (e : Event) → g.dead ≡ false → HasMarks g e
has_marks g e live =
    let m = marks-next g e live in
    (λ i. record (next g e) { tokens = (m i).tokens; head = (m i).head; kept = (m i).kept; forgiven = (m i).forgiven; leads = (m i).leads; sent = (m i).sent; dead = (m i).dead }) ∙ as_marked g (next g e) e live

-- where the entries stay nothing was added
none_added : (g : Gate) (e : Event) → (next g e).entries ≡ g.entries → added_by g e ≡ []
none_added g e h = ap (drop (length g.entries)) (h ∙ sym (append-nil g.entries)) ∙ drop-append_front g.entries []

awake : (g : Gate) (e : Event) → g.dead ≡ false → next g e ≡ happens g e
awake g e live = ap (λ b. cond b g (happens g e)) live

-- facts that a well step has change what is shared
facts_shared : (qs : List Request) → AllByRecursion IsRequest qs → AllByRecursion (λ f. is_shared f.act ≡ true) (map fact_of qs)
facts_shared [] w = tt
facts_shared (q ∷ qs) w = (w.0.shared, facts_shared qs w.1)

-- a step without a fault that is not behind is taken
step_taken : RefusalsAreFound → (g : Gate) (s : Step) → AllByRecursion IsRequest s.requests → is_some (fault_of g s) ≡ false → was_taken g s ≡ false → is_some (stepped (map fact_of s.requests) g.machine) ≡ true
step_taken found g s w f b =
    taken_if (is_some (stepped (map fact_of s.requests) g.machine)) (sym (found (map fact_of s.requests) g.machine (facts_shared s.requests w)) ∙ (IsNext-fault_of g s f b).accepted)
  where
    taken_if : (t : Bool) → not t ≡ false → t ≡ true
    taken_if true h = refl
    taken_if false h = absurd (false≢true (sym h))

adds_only : RefusalsAreFound → (g : Gate) (e : Event) → IsWell e → g.dead ≡ false → AddsOnly g e (added_by g e)
adds_only found g (arrived s) w live =
    drop_more (ap (λ (x : Gate). x.entries) (awake g (arrived s) live) ∙ ap (λ (x : Sign). x.entries) (sign-takes g s)) ∙ by (is_some (fault_of g s)) refl (was_taken g s) refl (stepped (map fact_of s.requests) g.machine) refl
  where
    drop_more : (next g (arrived s)).entries ≡ g.entries ++ taken_by g s → added_by g (arrived s) ≡ taken_by g s
    drop_more h = ap (drop (length g.entries)) h ∙ drop-append_front g.entries (taken_by g s)

    by : (d : Bool) → is_some (fault_of g s) ≡ d → (p : Bool) → was_taken g s ≡ p → (o : Option Outcome) → stepped (map fact_of s.requests) g.machine ≡ o
        → cond d [] (cond p [] (if_some o [] (λ x. entry_of s ∷ []))) ≡ cond (p || d) [] (entry_of s ∷ [])
    by true e true k o h = refl
    by true e false k o h = refl
    by false e true k o h = refl
    by false e false k (Some x) h = refl
    by false e false k None h = absurd (false≢true (sym (ap is_some h) ∙ step_taken found g s w.0.requests e k))
adds_only found g (message m text) w live = λ h. none_added g (message m text) (ap (λ (x : Gate). x.entries) (awake g (message m text) live) ∙ by (client_at g.clients m) h)
  where
    heard_not : (c : Client) (t : Bool) → t ≡ false → (cond t (hears g m c text) g).entries ≡ g.entries
    heard_not c true e = absurd (false≢true (sym e))
    heard_not c false e = refl

    by : (o : Option Client) → if_some o false may_say ≡ false → (if_some o g (λ c. cond (may_say c) (hears g m c text) g)).entries ≡ g.entries
    by None e = refl
    by (Some c) e = heard_not c (may_say c) e
adds_only found g (presented m token) w live = none_added g (presented m token) (ap (λ (x : Gate). x.entries) (awake g (presented m token) live) ∙ entries-came g m token)
adds_only found g (gone m) w live = none_added g (gone m) (ap (λ (x : Gate). x.entries) (awake g (gone m) live) ∙ entries-went g m)
adds_only found g (known tokens) w live = none_added g (known tokens) (ap (λ (x : Gate). x.entries) (awake g (known tokens) live))
adds_only found g ticked w live = none_added g ticked (ap (λ (x : Gate). x.entries) (awake g ticked live))
adds_only found g synced w live = none_added g synced (ap (λ (x : Gate). x.entries) (awake g synced live))
adds_only found g (handed m) w live = none_added g (handed m) (ap (λ (x : Gate). x.entries) (awake g (handed m) live))
adds_only found g led w live = none_added g led (ap (λ (x : Gate). x.entries) (awake g led live))
adds_only found g forgave w live = none_added g forgave (ap (λ (x : Gate). x.entries) (awake g forgave live))
adds_only found g failed w live = none_added g failed (ap (λ (x : Gate). x.entries) (awake g failed live))

pub LeavesMarks-IsWell : RefusalsAreFound → (g : Gate) (e : Event) → IsWell e → g.dead ≡ false → LeavesMarks g e
LeavesMarks-IsWell found g e w live = record { grows = entries-next g e live; only = adds_only found g e w live; marks = has_marks g e live }

-- ---- clients

itself_card : (m : ℕ) (c : Client) (e : Event) → card_behind m c e ≡ card (itself_after m c e)
itself_card m c (message n text) = by (n == m && may_say c)
  where
    by : (b : Bool) → cond b (card (saying text c)) (card c) ≡ card (if_some (cond b (Some text) None) c (λ t. saying t c))
    by true = refl
    by false = refl
itself_card m c (handed n) = by (n == m)
  where
    by : (b : Bool) → cond b (card (handing c)) (card c) ≡ card (cond b (handing c) c)
    by true = refl
    by false = refl
itself_card m c (presented n token) = refl
itself_card m c (gone n) = refl
itself_card m c (known tokens) = refl
itself_card m c ticked = refl
itself_card m c synced = refl
itself_card m c (arrived s) = refl
itself_card m c led = refl
itself_card m c forgave = refl
itself_card m c failed = refl

keeps : (g : Gate) (e : Event) (m : ℕ) (c : Client) → KeepsCard g e m c → StaysItself g e m c
keeps g e m c k =
    let x = k.card ∙ itself_card m c e in let y = k.dropped in
    record {
      now = k.now;
      there = k.there;
      is = λ i. record k.now { role = (x i).role; user = (x i).user; digest = (x i).digest; asked = (x i).asked; messages = (x i).messages; handed = (x i).handed; dropped = y i };
    }

not_gone : (m : ℕ) (e : Event) → (e ≡ gone m → ⊥) → is_gone m e ≡ false
not_gone m (gone n) h = by (n == m) refl
  where
    by : (b : Bool) → (n == m) ≡ b → (n == m) ≡ false
    by true q = absurd (h (ap gone (eqb-true n m q)))
    by false q = q
not_gone m (presented n token) h = refl
not_gone m (message n text) h = refl
not_gone m (known tokens) h = refl
not_gone m ticked h = refl
not_gone m synced h = refl
not_gone m (handed n) h = refl
not_gone m (arrived s) h = refl
not_gone m led h = refl
not_gone m forgave h = refl
not_gone m failed h = refl

-- a newcomer is told where its names stand before it comes, which is where they stand after it
newcomer : (g : Gate) (e : Event) (m : ℕ) (d : Client) → g.dead ≡ false → Comes g e m d → IsNewcomer g e m d
newcomer g e m d live x =
    let holder = holder_of x.token.role x.token.user in
    let head : (next g e).head ≡ g.head = ap (λ (z : Event). (next g z).head) x.event ∙ ap (λ (z : Gate). z.head) (has_marks g (presented m x.text) live) in
    let entries : (next g e).entries ≡ g.entries =
    ap (λ (z : Event). (next g z).entries) x.event ∙ (ap (λ (z : Gate). z.entries) (awake g (presented m x.text) live) ∙ entries-came g m x.text) in
    let place : place_text (place_of (next g e) holder) ≡ place_after g holder 0 =
    place_text-place_after (next g e) holder ∙ (λ i. place_after (record g { head = head i; entries = entries i }) holder 0) in
    record { text = x.text; token = x.token; event = x.event; opened = x.opened; is = x.is ∙ ap (fresh (next g e).entries x.token) place }

pub AreTouched-event : (g : Gate) (e : Event) → g.dead ≡ false → AreTouched g e
AreTouched-event g e live = let t = AreTouched-next g e live in
    record { stays = λ m c h n. keeps g e m c (t.stays m c h (not_gone m e n)); leaves = λ m n. t.leaves m (ap (is_gone m) n ∙ eq-itself m); comes = λ m d h k. newcomer g e m d live (t.comes m d h k) }

-- ---- what is shown

abbrev shown_by : Gate → Event → ℕ → Client → Told → Shown
shown_by g e m c t = record { told = t; entries = (next g e).entries; answers = is_some (heard_by m c e) }

as_shown : (g : Gate) (e : Event) (m : ℕ) (c : Client) (ss : List Shown) → AllByRecursion (IsShownBy g e m c) ss → map (shown_by g e m c) (map (λ (s : Shown). s.told) ss) ≡ ss
as_shown g e m c [] a = refl
as_shown g e m c (s ∷ ss) a =
    let x = sym a.0.entries in let y = sym a.0.answers in
    λ i. record { told = s.told; entries = x i; answers = y i } ∷ as_shown g e m c ss a.1 i

pub AreShown-event : (g : Gate) (e : Event) → AreShown g e
AreShown-event g e m c d a b =
    let x = ByClient-IsToldMore g e m c d a b in
    let text : told d ≡ told c ++ map (λ (s : Shown). s.told) x.more = ap (map (λ (s : Shown). s.told)) x.keeps ∙ map-append_front (λ (s : Shown). s.told) (all_shown c) x.more in
    x.keeps ∙ ap (λ z. all_shown c ++ z) (sym (ap (map (shown_by g e m c)) (told_by-told_more c d (map (λ (s : Shown). s.told) x.more) text) ∙ as_shown g e m c x.more x.shows))

-- ---- changes

-- a number that is followed behind an event was followed before, or is given now
comes_own : (g : Gate) (e : Event) (m : ℕ) (c d : Client) → IsClient g m c → IsClient (next g e) m d → (own : ℕ) → is_own own d.subs ≡ true → (is_own own c.subs ≡ true) ⊎ (c.given < own)
comes_own g e m c d x y own h = by g.dead refl
  where
    above : (i j : ℕ) → j ≡ i + 1 → i < j
    above i j k = omega (arith, k)

    live : g.dead ≡ false → (o : Option (List ℕ)) → heard_by m c e ≡ o → (is_own own c.subs ≡ true) ⊎ (c.given < own)
    live l None q = inl (is_own-before c d own ((Hears-heard_by g e m c d l x.there y.there y.stays q).none own) h)
    live l (Some text) q = heard (is_opened (said_reply (asked g m text) c text (said_by text)) ≡ true) ((OwnAnswer-IsOwn g e m c d text l x.there y.there (IsOwn-heard_by m c e text q)).comes own h)
      where
        heard : (P : Type 0) → (is_own own c.subs ≡ true) ⊎ (P × (own ≡ c.given + 1)) → (is_own own c.subs ≡ true) ⊎ (c.given < own)
        heard P (inl k) = inl k
        heard P (inr k) = inr (above c.given own k.1)

    by : (t : Bool) → g.dead ≡ t → (is_own own c.subs ≡ true) ⊎ (c.given < own)
    by true q = inl (ap (λ (z : Client). is_own own z.subs) (same-Some c d (sym x.there ∙ (ap (λ (z : Gate). client_at z.clients m) (sym (next-dead g e q)) ∙ y.there))) ∙ h)
    by false q = live q (heard_by m c e) refl

first_in : {X : Type 0} (p : X → Bool) (ts : List X) (x : X) → filter p ts ≡ x ∷ [] → Contains ts x
first_in p [] x h = absurd (never h)
  where
    never : {X : Type 0} {y : X} → [] ≡ y ∷ [] → ⊥
    never e = false≢true (ap some_there e)
      where
        some_there : {Y : Type 0} → List Y → Bool
        some_there [] = false
        some_there (z ∷ zs) = true
first_in p (t ∷ ts) x h = by (p t) h (first_in p ts x)
  where
    by : (b : Bool) → cond b (t ∷ filter p ts) (filter p ts) ≡ x ∷ [] → (filter p ts ≡ x ∷ [] → Contains ts x) → Contains (t ∷ ts) x
    by true k more = (0, omega arith, ap (λ l. get_or l 0 x) k)
    by false k more = let c = more k in let l = c.1 in (suc c.0, omega (arith, l), c.2)

pub TellsDifference-TellsApart : (g : Gate) (e : Event) → ((m : ℕ) (c d : Client) → IsClient g m c → IsClient (next g e) m d → (own : ℕ) → TellsApart g e c d own) → EndsForCause g e
    → ByClient g e (λ m c d. (own : ℕ) → TellsDifference g e c d own)
TellsDifference-TellsApart g e apart ends m c d x y own = record {
  goes_on = λ f. a.goes_on f (since f);
  stops = λ f. stop (a.stops f);
}
  where
    a : TellsApart g e c d own
    a = apart m c d x y own

    followed_is : (xs : Client) → is_some (followed_by xs.subs own) ≡ true → is_own own xs.subs ≡ true
    followed_is z f = by (is_own own z.subs) refl
      where
        by : (t : Bool) → is_own own z.subs ≡ t → is_own own z.subs ≡ true
        by true q = q
        by false q = absurd (false≢true (sym (ap is_some (followed_by-not_is_own z.subs own q)) ∙ f))

    is_followed : (z : Client) → is_own own z.subs ≡ true → is_some (followed_by z.subs own) ≡ true
    is_followed z q = by (followed_by z.subs own) refl
      where
        by : (o : Option ℕ) → followed_by z.subs own ≡ o → is_some (followed_by z.subs own) ≡ true
        by None f = absurd (false≢true (sym (is_own-not_followed_by z.subs own f) ∙ q))
        by (Some k) f = ap is_some f

    since : is_some (followed_by d.subs own) ≡ true → (is_some (followed_by c.subs own) ≡ true) ⊎ (c.given < own)
    since f = by (comes_own g e m c d x y own (followed_is d f))
      where
        by : (is_own own c.subs ≡ true) ⊎ (c.given < own) → (is_some (followed_by c.subs own) ≡ true) ⊎ (c.given < own)
        by (inl k) = inl (is_followed c k)
        by (inr k) = inr k

    stop : (filter (is_told_of own) (told_by c d) ≡ [])
        ⊎ ((rel : Name) × (why : Cause) × (filter (is_told_of own) (told_by c d) ≡ over own rel why (difference (read_by g c own) []) ∷ []))
        → (filter (is_told_of own) (told_by c d) ≡ []) ⊎ IsEnd g e c own (filter (is_told_of own) (told_by c d))
    stop (inl n) = inl n
    stop (inr (rel, why, t)) =
        let rows = difference (read_by g c own) [] in
        let z = ends m c d x y own rel why rows (first_in (is_told_of own) (told_by c d) (over own rel why rows) t) in
        inr (record {
          feed = z.feed;
          why = why;
          followed = z.followed;
          cause = ap (hindrance (next g e).machine c.role) (sym z.relation) ∙ z.cause;
          told = t ∙ ap (λ r. over own r why rows ∷ []) z.relation;
        })

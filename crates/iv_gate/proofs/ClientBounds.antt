-- What a client takes is bounded, whatever happens.
use Rattle.std.proofs.Common.{◌≡◌, ℕ, zero, suc, ◌+◌, ◌≤◌, Bool, true, false, cond, not, ◌||◌, List, [], ◌∷◌, ◌++◌, length, map, Option, Some, None, option_map, set, refl, ap, ◌∙◌, sym, subst, subst₂, arith}
use Rattle.std.specs.Prelude.{◌==◌, ◌&&◌, count_by, filter, nat_lt, is_some}
use Rattle.std.specs.List.{list_any}
use Rattle.std.proofs.lemmas.Bool.{false≢true, eqb-true, eqb-false, ltb-true}
use Rattle.std.proofs.lemmas.Bool.Decides.{nat_tests}
use Rattle.std.proofs.lemmas.List.Sums.{sum_by-cons}
use Rattle.iv_rows.specs.Options.{if_some}
use Rattle.iv_machine.specs.Act.{Command}
use Rattle.iv_machine.specs.Machine.{step, Outcome}
use Rattle.iv_message.specs.Told.{Told, settled}
use Rattle.iv_clients.specs.Bounds.{most_piled, most_requests, most_subs, most_waiting}
use Rattle.iv_clients.specs.Clients.{Client, Shown, Slots, Sub, answered, at_all, at_client, beating, by_others, checked, client_at, dropping, fresh, handing, is_slow, may_say, opens, released, saying, settling, staying, telling, text_shown, told_one, waiting}
use Rattle.iv_clients.specs.Feeds.{ends_in, is_of_role}
use Rattle.iv_records.specs.Journal.{Entry, said_by, shape_for}
use Rattle.iv_clients.specs.Tokens.{Token}
use Rattle.iv_clients.proofs.Slots.{client_at-at_all, client_at-at_other_client, client_at-at_client, not_client_at-replicate, same-Some}
use Rattle.iv_gate.specs.Events.{Event, presented, message, gone, known, ticked, synced, handed, failed, happens, next, arrived, forgave, led}
use Rattle.iv_gate.specs.Gate.{Gate, all_rested, all_swept, done_for, hears, token_for, said, settles, told_of, went, at_text, Head}
use Rattle.iv_gate.specs.Laws.{IsBounded}
use Rattle.iv_gate.specs.Restoring.{Restores, gate_at_start}
use Rattle.iv_gate.specs.Runs.{Runs, begins, goes_on, begins_again}
use Rattle.iv_gate.proofs.QuietCommands.{last-all_rested, last-all_swept, last-with_session}
use Rattle.iv_gate.proofs.MessageEffects.{all_done, le-length_filter}
use Rattle.iv_gate.proofs.MessageNews.{Later-IsDone_subs, le-IsDone_last}
use Rattle.iv_gate.proofs.SameFeeds.{and-both_true, AreOwn-moved_sub}
use Rattle.iv_gate.proofs.SoundRuns.{Starts, IsSoundGate-Runs}
use Rattle.iv_gate.proofs.EventNews.{same-presented, same-at_all, subs-settling, either-gone}
use Rattle.iv_gate.proofs.NewSubscriptions.{AreOwn-push}
use Rattle.iv_gate.proofs.SoundSteps.{IsSoundClient-said, IsSoundGate-at_client}
use Rattle.iv_gate.proofs.EventSigns.{Mark, Sign, mark_of, marks_in}
use Rattle.iv_gate.proofs.SoundCommands.{Adds, IsSoundGate, Seer, Sounds, AreOwn-filter, seer, seer-telling}
use Rattle.iv_gate.proofs.NumberSums.{AreOwn, or-both_false}
use Rattle.iv_gate.proofs.EventMarks.{next-alive as is_alive, came_as, sign-came_as, next-dead, marks_in-said, AreTouched-next, sign-went, marks_in-takes}
use Rattle.iv_gate.proofs.ClientFacts.{Kit, Later, to_done, landed_client, step_told, client_at-takes}
use Rattle.iv_gate.specs.Arriving.{fault_of, was_taken, landed, entry_of, fact_of, takes}
use Rattle.iv_steps.specs.Steps.{stepped}
use Rattle.iv_gate.proofs.StepsTaken.{IsLed-stepped}
use Rattle.iv_journal.specs.Journal.{Line}

-- ---- by a step

-- it was offered no more, asked no more, and stays or is to go as it was
record Slim (c d : Client) : Type 0 where
  sendable : d.sendable ≡ c.sendable
  asked : d.asked ≡ c.asked
  dropped : d.dropped ≡ c.dropped

slim_same : (c : Client) → Slim c c
slim_same c = record { sendable = refl; asked = refl; dropped = refl }

slim_then : (b c d : Client) → Slim b c → Slim c d → Slim b d
slim_then b c d x y = record { sendable = y.sendable ∙ x.sendable; asked = y.asked ∙ x.asked; dropped = y.dropped ∙ x.dropped }

slim_telling : (es : List Entry) (ts : List Told) (c : Client) → Slim c (telling es ts c)
slim_telling es [] c = slim_same c
slim_telling es (t ∷ ts) c = slim_then c (told_one es t c) (telling es ts (told_one es t c)) (record { sendable = refl; asked = refl; dropped = refl }) (slim_telling es ts (told_one es t c))

slim_settling : (es : List Entry) (c : Client) → Slim c (settling es c)
slim_settling es c = by c.owed
  where
    by : (b : Bool) → Slim c (cond b (record (told_one es settled c) { owed = false }) c)
    by true = record { sendable = refl; asked = refl; dropped = refl }
    by false = slim_same c

slim_ran : (c : Client) (g : Gate) (k : Command) → Slim c (staying (step g.machine k).lines (telling g.entries (told_of g k.act (step g.machine k) c) c))
slim_ran c g k = let x = slim_telling g.entries (told_of g k.act (step g.machine k) c) c in record { sendable = x.sendable; asked = x.asked; dropped = x.dropped }

slims : (m : ℕ) → Kit m (λ j c d. Slim c d)
slims m = record {
  same = λ j c. slim_same c;
  chain = λ j b c d x y. slim_then b c d x y;
  hear = λ j c g k. slim_ran c g k;
  rest = λ j c es. slim_settling es c;
  tell = λ c es t. record { sendable = refl; asked = refl; dropped = refl };
  show = λ j c es role line. record { sendable = refl; asked = refl; dropped = refl };
  follow = λ c k. record { sendable = refl; asked = refl; dropped = refl };
  move = λ c t k. record { sendable = refl; asked = refl; dropped = refl };
  close = λ c own. record { sendable = refl; asked = refl; dropped = refl };
}

-- its numbers stay apart
own_ran : (c : Client) (g : Gate) (k : Command) → AreOwn c.given c.subs
    → AreOwn (staying (step g.machine k).lines (telling g.entries (told_of g k.act (step g.machine k) c) c)).given (staying (step g.machine k).lines (telling g.entries (told_of g k.act (step g.machine k) c) c)).subs
own_ran c g k h =
    subst (λ (v : Seer). AreOwn v.given (filter (λ s. not (ends_in (step g.machine k).lines s.feed)) v.subs)) (sym (seer-telling g.entries (told_of g k.act (step g.machine k) c) c))
    (AreOwn-filter c.given (λ s. not (ends_in (step g.machine k).lines s.feed)) c.subs h)

owns : (m : ℕ) → Kit m (λ j c d. AreOwn c.given c.subs → AreOwn d.given d.subs)
owns m = record {
  same = λ j c h. h;
  chain = λ j b c d x y h. y (x h);
  hear = λ j c g k h. own_ran c g k h;
  rest = λ j c es h. subst₂ AreOwn (sym (subs-settling es c).1) (sym (subs-settling es c).0) h;
  tell = λ c es t h. h;
  show = λ j c es role line h. h;
  follow = λ c k h. AreOwn-push c.given k c.subs h;
  move = λ c t k h. AreOwn-moved_sub t k c.given c.subs h;
  close = λ c own h. AreOwn-filter c.given (λ x. not (own == x.own)) c.subs h;
}

-- each stands once
one_more : (own : ℕ) (x : Sub) (xs : List Sub) → count_by (λ (y : Sub). own == y.own) (x ∷ xs) ≡ cond (own == x.own) 1 0 + count_by (λ (y : Sub). own == y.own) xs
one_more own x xs = sum_by-cons (λ (y : Sub). cond (own == y.own) 1 0) x xs

none_of : (own : ℕ) (xs : List Sub) → list_any (λ (y : Sub). own == y.own) xs ≡ false → count_by (λ (y : Sub). own == y.own) xs ≡ 0
none_of own [] h = refl
none_of own (x ∷ xs) h =
    let p = or-both_false (own == x.own) (list_any (λ (y : Sub). own == y.own) xs) h in
    one_more own x xs ∙ (λ i. cond (p.0 i) 1 0 + none_of own xs p.1 i)

stand_once : (given own : ℕ) (xs : List Sub) → AreOwn given xs → count_by (λ (y : Sub). own == y.own) xs ≤ 1
stand_once given own [] h = omega arith
stand_once given own (x ∷ xs) h = subst (λ n. n ≤ 1) (sym (one_more own x xs)) (by (own == x.own) refl (stand_once given own xs h.2))
  where
    by : (b : Bool) → (own == x.own) ≡ b → count_by (λ (y : Sub). own == y.own) xs ≤ 1 → cond b 1 0 + count_by (λ (y : Sub). own == y.own) xs ≤ 1
    by true e l = let n = none_of own xs (ap (λ i. list_any (λ (y : Sub). i == y.own) xs) (eqb-true own x.own e) ∙ h.1) in omega (arith, n)
    by false e l = omega (arith, l)

-- ---- a client

record Bounded (c : Client) : Type 0 where
  gone : c.dropped ≡ true → c.sendable ≡ []
  subs : length c.subs ≤ most_subs
  own : AreOwn c.given c.subs
  asked : c.asked ≤ most_requests

bounded_slim : (c d : Client) → Slim c d → length d.subs ≤ most_subs → AreOwn d.given d.subs → Bounded c → Bounded d
bounded_slim c d x n o b = record { gone = λ e. x.sendable ∙ b.gone (sym x.dropped ∙ e); subs = n; own = o; asked = subst (λ k. k ≤ most_requests) (sym x.asked) b.asked }

bounded_settled : (es : List Entry) (c : Client) → Bounded c → Bounded (settling es c)
bounded_settled es c b = bounded_slim c (settling es c) (slim_settling es c) (subst (λ (z : List Sub). length z ≤ most_subs) (sym (subs-settling es c).0) b.subs) (subst₂ AreOwn (sym (subs-settling es c).1) (sym (subs-settling es c).0) b.own) b

bounded_dropping : (c : Client) → Bounded c → Bounded (dropping c)
bounded_dropping c b = record { gone = λ e. refl; subs = b.subs; own = b.own; asked = b.asked }

bounded_checked : (tokens : List Token) (c : Client) → Bounded c → Bounded (checked tokens c)
bounded_checked tokens c b = by (opens tokens c)
  where
    by : (t : Bool) → Bounded (cond t c (dropping c))
    by true = b
    by false = bounded_dropping c b

bounded_released : (c : Client) → Bounded c → Bounded (released c)
bounded_released c b = by (c.dropped || is_slow c) refl
  where
    by : (t : Bool) → (c.dropped || is_slow c) ≡ t → Bounded (cond t (dropping c) (record c { unsynced = []; sendable = c.sendable ++ c.unsynced }))
    by true e = bounded_dropping c b
    by false e = record { gone = λ k. absurd (false≢true (sym (or-both_false c.dropped (is_slow c) e).0 ∙ k)); subs = b.subs; own = b.own; asked = b.asked }

bounded_handing : (c : Client) → Bounded c → Bounded (handing c)
bounded_handing c b = by (length c.sendable == 0)
  where
    by : (t : Bool) → Bounded (cond t c (record c { sendable = []; asked = 0; handed = c.handed ++ c.sendable ∷ [] }))
    by true = b
    by false = record { gone = λ k. refl; subs = b.subs; own = b.own; asked = omega arith }

less_next : (n most : ℕ) → nat_lt n most ≡ true → n + 1 ≤ most
less_next n most h = let l = ltb-true n most h in omega (arith, l)

bounded_saying : (text : List ℕ) (c : Client) → may_say c ≡ true → Bounded c → Bounded (saying text c)
bounded_saying text c h b = record {
  gone = b.gone;
  subs = b.subs;
  own = b.own;
  asked = less_next c.asked most_requests (and-both_true (nat_lt c.asked most_requests) (nat_lt (waiting c) most_waiting) (and-both_true (not c.dropped) (nat_lt c.asked most_requests && nat_lt (waiting c) most_waiting) h).1).0;
}

-- ---- a message

module _ (sounds : Sounds) (g : Gate) (b : IsSoundGate g) (m : ℕ) (text : List ℕ) (j : ℕ) (c d : Client) (t : client_at g.clients j ≡ Some c) (x : Bounded c) where
  abbrev asked : Gate
  asked = record g { clients = at_client m (saying text) g.clients }

  -- what is done for it, and that this is all
  served : (a y : Client) → client_at (at_client m (saying text) g.clients) j ≡ Some y → Bounded y → (m ≡ j → length y.subs ≡ length a.subs)
      → Later (λ i u v. Bounded v) (settles (done_for (record g { clients = at_client m (saying text) g.clients }) m a text (said_by text))).clients j y
  served a y e by same =
      let did = done_for asked m a text (said_by text) in
      let slim = to_done m (λ i u v. Slim u v) (slims m) asked a text (said_by text) j y e in
      let few = Later-IsDone_subs asked m a did (IsSoundGate-at_client g m (saying text) (λ u s l. IsSoundClient-said g.machine g.feeds (seer u) text (b.clients m u s l)) b).state (all_done sounds asked m a text (said_by text) b.state refl) j y e same by.subs in
      let z = slim.now in
      let apart = to_done m (λ i u v. AreOwn u.given u.subs → AreOwn v.given v.subs) (owns m) asked a text (said_by text) j y e in
      let alike : apart.now ≡ z = same-Some apart.now z (sym apart.there ∙ slim.there) in
      let both : few.now ≡ z = same-Some few.now z (sym few.there ∙ slim.there) in
      let after : Bounded z = bounded_slim y z slim.so (subst (λ (v : Client). length v.subs ≤ most_subs) both few.so) (subst (λ (v : Client). AreOwn v.given v.subs) alike (apart.so by.own)) by in
      record { now = settling did.entries z; there = client_at-at_all (settling did.entries) did.clients j ∙ ap (option_map (settling did.entries)) slim.there; so = bounded_settled did.entries z after }

  heard_bounded : (a : Client) → client_at g.clients m ≡ Some a → may_say a ≡ true → client_at (hears g m a text).clients j ≡ Some d → Bounded d
  heard_bounded a s may k = by (m == j) refl
    where
      last : Gate
      last = settles (done_for asked m a text (said_by text))

      by : (e : Bool) → (m == j) ≡ e → Bounded d
      by true e =
          let same = eqb-true m j e in
          let one : a ≡ c = same-Some a c (sym s ∙ (ap (client_at g.clients) same ∙ t)) in
          let there : client_at asked.clients j ≡ Some (saying text c) =
          ap (λ i. client_at (at_client i (saying text) g.clients) j) same ∙
          (client_at-at_client j (saying text) g.clients ∙ ap (option_map (saying text)) t) in
          let p = served a (saying text c) there (bounded_saying text c (ap may_say (sym one) ∙ may) x) (λ q. ap (λ (v : Client). length v.subs) (sym one)) in
          let now : client_at (hears g m a text).clients j ≡ Some (answered a p.now) =
          ap (λ i. client_at (at_client i (answered a) last.clients) j) same ∙
          (client_at-at_client j (answered a) last.clients ∙ ap (option_map (answered a)) p.there) in
          subst Bounded (same-Some (answered a p.now) d (sym now ∙ k)) (record { gone = p.so.gone; subs = p.so.subs; own = p.so.own; asked = p.so.asked })
      by false e =
          let ne = eqb-false m j e in
          let p = served a c (client_at-at_other_client m j (saying text) g.clients ne ∙ t) x (λ q. absurd (ne q)) in
          subst Bounded (same-Some p.now d (sym p.there ∙ (sym (client_at-at_other_client m j (answered a) last.clients ne) ∙ k))) p.so

  said_bounded : client_at (said g m text).clients j ≡ Some d → Bounded d
  said_bounded k = by (client_at g.clients m) refl k
    where
      test_by : (a : Client) → client_at g.clients m ≡ Some a → (e : Bool) → may_say a ≡ e → client_at (cond e (hears g m a text) g).clients j ≡ Some d → Bounded d
      test_by a s true may y = heard_bounded a s may y
      test_by a s false may y = subst Bounded (same-Some c d (sym t ∙ y)) x

      by : (o : Option Client) → client_at g.clients m ≡ o → client_at (if_some o g (λ a. cond (may_say a) (hears g m a text) g)).clients j ≡ Some d → Bounded d
      by None s y = subst Bounded (same-Some c d (sym t ∙ y)) x
      by (Some a) s y = test_by a s (may_say a) refl y

-- ---- each event

one_bounded : (m j : ℕ) (f : Client → Client) (slots : Slots) (c d : Client) → ((y : Client) → Bounded y → Bounded (f y)) → client_at slots j ≡ Some c → Bounded c → client_at (at_client m f slots) j ≡ Some d → Bounded d
one_bounded m j f slots c d k t b h = by (m == j) refl
  where
    by : (e : Bool) → (m == j) ≡ e → Bounded d
    by true e =
        let same = eqb-true m j e in
        subst Bounded (same-Some (f c) d (sym (ap (λ i. client_at (at_client i f slots) j) same ∙ (client_at-at_client j f slots ∙ ap (option_map f) t)) ∙ h))
        (k c b)
    by false e = subst Bounded (same-Some c d (sym t ∙ (sym (client_at-at_other_client m j f slots (eqb-false m j e)) ∙ h))) b

-- a step
bounded_landed : (g : Gate) (e : Entry) (o : Outcome) (c : Client) → Bounded c → Bounded (landed_client g e o c)
bounded_landed g e o c b =
    let es = g.entries ++ e ∷ [] in let ts = step_told g o c in let z = staying o.lines (telling es ts c) in let more = shape_for z.role (e ∷ []) in
    let first = slim_telling es ts c in let p = λ (s : Sub). not (ends_in o.lines s.feed) in
    let subs : (telling es more z).subs ≡ filter (λ (s : Sub). not (ends_in o.lines s.feed)) c.subs =
    ap (λ (v : Seer). v.subs) (seer-telling es more z) ∙ ap (λ (v : Seer). filter p v.subs) (seer-telling es ts c) in
    let given : (telling es more z).given ≡ c.given = ap (λ (v : Seer). v.given) (seer-telling es more z) ∙ ap (λ (v : Seer). v.given) (seer-telling es ts c) in
    let few : length (filter p c.subs) ≤ most_subs = let l = le-length_filter p c.subs in let n = b.subs in omega (arith, l, n) in
    bounded_settled es (telling es more z) (bounded_slim c (telling es more z) (slim_then c z (telling es more z) (record { sendable = first.sendable; asked = first.asked; dropped = first.dropped }) (slim_telling es more z))
    (subst (λ (xs : List Sub). length xs ≤ most_subs) (sym subs) few) (subst₂ AreOwn (sym given) (sym subs) (AreOwn-filter c.given p c.subs b.own)) b)

happens_bounded : Sounds → (g : Gate) (e : Event) → IsSoundGate g → (j : ℕ) (c d : Client) → client_at g.clients j ≡ Some c → Bounded c → client_at (happens g e).clients j ≡ Some d → Bounded d
happens_bounded sounds g (presented m token) b j c d t x k = subst Bounded (same-presented g b m token j c d t k) x
happens_bounded sounds g (message m text) b j c d t x k = said_bounded sounds g b m text j c d t x k
happens_bounded sounds g (gone m) b j c d t x k = either-gone sounds g b m j c d t k (Bounded d) (λ s. subst Bounded s x) (λ es s. subst Bounded s (bounded_settled es c x))
happens_bounded sounds g (known tokens) b j c d t x k = subst Bounded (same-at_all (checked tokens) g.clients j c d t k) (bounded_checked tokens c x)
happens_bounded sounds g ticked b j c d t x k = subst Bounded (same-at_all (beating g.entries) g.clients j c d t k) (record { gone = x.gone; subs = x.subs; own = x.own; asked = x.asked })
happens_bounded sounds g synced b j c d t x k = subst Bounded (same-at_all released g.clients j c d t k) (bounded_released c x)
happens_bounded sounds g (handed m) b j c d t x k = one_bounded m j handing g.clients c d bounded_handing t x k
happens_bounded sounds g (arrived s) b j c d t x k = client_at-takes Bounded g s j c d t k x (λ o e. bounded_landed g (entry_of s) o c x)
happens_bounded sounds g led b j c d t x k = subst Bounded (same-Some c d (sym t ∙ k)) x
happens_bounded sounds g forgave b j c d t x k = subst Bounded (same-Some c d (sym t ∙ k)) x
happens_bounded sounds g failed b j c d t x k = subst Bounded (same-Some c d (sym t ∙ k)) x

abbrev AllBounded : Gate → Type 0
AllBounded g = (m : ℕ) (c : Client) → client_at g.clients m ≡ Some c → Bounded c

next_bounded : Sounds → (g : Gate) (e : Event) → IsSoundGate g → AllBounded g → AllBounded (next g e)
next_bounded sounds g e b a j d h = by g.dead refl
  where
    who : g.dead ≡ false → (o : Option Client) → client_at g.clients j ≡ o → Bounded d
    who live (Some c) t = happens_bounded sounds g e b j c d t (a j c t) (ap (λ (x : Gate). client_at x.clients j) (sym (is_alive g e live)) ∙ h)
    who live None t =
        let n = (AreTouched-next g e live).comes j d t h in
        subst Bounded (sym n.is) (record { gone = λ k. absurd (false≢true k); subs = omega arith; own = tt; asked = omega arith })

    by : (q : Bool) → g.dead ≡ q → Bounded d
    by true q = a j d (ap (λ (x : Gate). client_at x.clients j) (sym (next-dead g e q)) ∙ h)
    by false q = who q (client_at g.clients j) refl

restored_bounded : (cap : ℕ) (tokens : List Token) (most : ℕ) (head : Head) (sent : List Shown) (journal : List Line) (g : Gate) → Restores (gate_at_start cap tokens most head sent) journal g → AllBounded g
restored_bounded cap tokens most head sent journal g r m c h =
    absurd (not_client_at-replicate most m c (ap (λ (x : Gate). client_at x.clients m) (sym r.leads.gate) ∙ h))

runs_bounded : Adds → Starts → Sounds → (cap : ℕ) (g : Gate) → Runs cap g → AllBounded g
runs_bounded adds starts sounds cap _ (begins tokens most head journal g r) = restored_bounded cap tokens most head [] journal g r
runs_bounded adds starts sounds cap _ (goes_on h e w r) = next_bounded sounds h e (IsSoundGate-Runs adds starts sounds cap h r) (runs_bounded adds starts sounds cap h r)
runs_bounded adds starts sounds cap _ (begins_again h disk tokens most i r l x) = restored_bounded cap tokens most h.head h.sent disk i x

-- ---- behind a sync

not_less : (a b : ℕ) → nat_lt a b ≡ false → b ≤ a
not_less a b h = grind (arith, nat_tests)

is_synced : (c d : Client) → released c ≡ d → (d.unsynced ≡ []) × (d.dropped ≡ false → length (text_shown (by_others c.sendable)) ≤ most_piled)
is_synced c d e = by (c.dropped || is_slow c) refl e
  where
    by : (t : Bool) → (c.dropped || is_slow c) ≡ t → cond t (dropping c) (record c { unsynced = []; sendable = c.sendable ++ c.unsynced }) ≡ d
        → (d.unsynced ≡ []) × (d.dropped ≡ false → length (text_shown (by_others c.sendable)) ≤ most_piled)
    by true t s = (ap (λ (x : Client). x.unsynced) (sym s), λ k. absurd (false≢true (sym k ∙ ap (λ (x : Client). x.dropped) (sym s))))
    by false t s = (ap (λ (x : Client). x.unsynced) (sym s), λ k. not_less most_piled (length (text_shown (by_others c.sendable))) (or-both_false c.dropped (is_slow c) t).1)

pub IsBounded-Runs : Adds → Starts → Sounds → (cap : ℕ) (g : Gate) → Runs cap g → (m : ℕ) (c : Client) → client_at g.clients m ≡ Some c → IsBounded g m c
IsBounded-Runs adds starts sounds cap g r m c h =
    let b = runs_bounded adds starts sounds cap g r m c h in
    record {
      gone = b.gone;
      subs = b.subs;
      numbers = λ own. stand_once c.given own c.subs b.own;
      asked = b.asked;
      synced = λ live d k. is_synced c d (same-at_all released g.clients m c d h (ap (λ (x : Gate). client_at x.clients m) (sym (is_alive g synced live)) ∙ k));
    }

-- ---- places

marks_length : (slots : Slots) → length (marks_in slots) ≡ length slots
marks_length [] = refl
marks_length (s ∷ ss) = ap suc (marks_length ss)

at_length : (m : ℕ) (f : Client → Client) (slots : Slots) → length (at_client m f slots) ≡ length slots
at_length m f [] = refl
at_length zero f (s ∷ ss) = refl
at_length (suc m) f (s ∷ ss) = ap suc (at_length m f ss)

all_length : (f : Client → Client) (slots : Slots) → length (at_all f slots) ≡ length slots
all_length f [] = refl
all_length f (s ∷ ss) = ap suc (all_length f ss)

set_length : {X : Type 0} (xs : List X) (m : ℕ) (x : X) → length (set xs m x) ≡ length xs
set_length [] m x = refl
set_length (y ∷ ys) zero x = refl
set_length (y ∷ ys) (suc m) x = ap suc (set_length ys m x)

by_marks : (old new : Slots) (ms : List (Option Mark)) → marks_in new ≡ ms → length ms ≡ length old → length new ≡ length old
by_marks old new ms e l = sym (marks_length new) ∙ (ap length e ∙ l)

happens_places : (g : Gate) (e : Event) → length (happens g e).clients ≡ length g.clients
happens_places g (presented m token) = by (token_for g m token)
  where
    by : (o : Option Token) → length (if_some o g (came_as g m)).clients ≡ length g.clients
    by None = refl
    by (Some t) = let x = Some (mark_of (fresh g.entries t (at_text g t))) in
        by_marks g.clients (came_as g m t).clients (set (marks_in g.clients) m x) (ap (λ (x : Sign). x.slots) (sign-came_as g m t)) (set_length (marks_in g.clients) m x ∙ marks_length g.clients)
happens_places g (message m text) = by_marks g.clients (said g m text).clients _ (marks_in-said g m text) (by (client_at g.clients m))
  where
    test_by : (c : Client) (b : Bool) → length (cond b (marks_in (at_client m (saying text) g.clients)) (marks_in g.clients)) ≡ length g.clients
    test_by c true = marks_length (at_client m (saying text) g.clients) ∙ at_length m (saying text) g.clients
    test_by c false = marks_length g.clients

    by : (o : Option Client) → length (if_some o (marks_in g.clients) (λ c. cond (may_say c) (marks_in (at_client m (saying text) g.clients)) (marks_in g.clients))) ≡ length g.clients
    by None = marks_length g.clients
    by (Some c) = test_by c (may_say c)
happens_places g (gone m) = by_marks g.clients (went g m).clients _ (ap (λ (x : Sign). x.slots) (sign-went g m)) (by (client_at g.clients m))
  where
    by : (o : Option Client) → length (if_some o (marks_in g.clients) (λ c. set (marks_in g.clients) m None)) ≡ length g.clients
    by None = marks_length g.clients
    by (Some c) = set_length (marks_in g.clients) m None ∙ marks_length g.clients
happens_places g (known tokens) = all_length (checked tokens) g.clients
happens_places g ticked = all_length (beating g.entries) g.clients
happens_places g synced = all_length released g.clients
happens_places g (handed m) = at_length m handing g.clients
happens_places g (arrived s) = by_marks g.clients (takes g s).clients (marks_in g.clients) (marks_in-takes g s) (marks_length g.clients)
happens_places g led = refl
happens_places g forgave = refl
happens_places g failed = refl

pub length-next_clients : (g : Gate) (e : Event) → length (next g e).clients ≡ length g.clients
length-next_clients g e = by g.dead
  where
    by : (t : Bool) → length (cond t g (happens g e)).clients ≡ length g.clients
    by true = refl
    by false = happens_places g e

-- ---- numbers of the machine's subscriptions

happens_last : Sounds → (g : Gate) (e : Event) → IsSoundGate g → (happens g e).machine.frame.last ≤ 1 + g.machine.frame.last
happens_last sounds g (presented m token) b = by (token_for g m token)
  where
    by : (o : Option Token) → (if_some o g (came_as g m)).machine.frame.last ≤ 1 + g.machine.frame.last
    by None = omega arith
    by (Some t) = let l = last-with_session g t.role in omega (arith, l)
happens_last sounds g (message m text) b = by (client_at g.clients m)
  where
    test_by : (c : Client) (t : Bool) → (cond t (hears g m c text) g).machine.frame.last ≤ 1 + g.machine.frame.last
    test_by c true =
        let asked = record g { clients = at_client m (saying text) g.clients } in
        le-IsDone_last asked m c (done_for asked m c text (said_by text)) (all_done sounds asked m c text (said_by text) b.state refl)
    test_by c false = omega arith

    by : (o : Option Client) → (if_some o g (λ c. cond (may_say c) (hears g m c text) g)).machine.frame.last ≤ 1 + g.machine.frame.last
    by None = omega arith
    by (Some c) = test_by c (may_say c)
happens_last sounds g (gone m) b = by (client_at g.clients m)
  where
    left : Gate
    left = record g { clients = set g.clients m None }

    without : Client → Gate
    without a = let i = all_swept left (map (λ s. s.feed) a.subs) in settles (all_rested i (filter (is_of_role a.role) i.seats))

    by : (o : Option Client) → (if_some o g without).machine.frame.last ≤ 1 + g.machine.frame.last
    by None = omega arith
    by (Some a) =
        let ks = map (λ (s : Sub). s.feed) a.subs in let i = all_swept left ks in
        let l = last-all_rested i (filter (is_of_role a.role) i.seats) in let k = last-all_swept left ks in
        omega (arith, l, k)
happens_last sounds g (known tokens) b = omega arith
happens_last sounds g ticked b = omega arith
happens_last sounds g synced b = omega arith
happens_last sounds g (handed m) b = omega arith
happens_last sounds g (arrived s) b = by (is_some (fault_of g s)) (was_taken g s) (stepped (map fact_of s.requests) g.machine) refl
  where
    by : (x y : Bool) (o : Option Outcome) → stepped (map fact_of s.requests) g.machine ≡ o
        → (cond x (record g { dead = true }) (cond y g (if_some o g (landed g (entry_of s))))).machine.frame.last ≤ 1 + g.machine.frame.last
    by true y o e = omega arith
    by false true o e = omega arith
    by false false None e = omega arith
    by false false (Some o) e = let l = (IsLed-stepped sounds (map fact_of s.requests) g.machine o e).last in omega (arith, l)
happens_last sounds g led b = omega arith
happens_last sounds g forgave b = omega arith
happens_last sounds g failed b = omega arith

pub le-next_last : Sounds → (g : Gate) (e : Event) → IsSoundGate g → (next g e).machine.frame.last ≤ 1 + g.machine.frame.last
le-next_last sounds g e b = by g.dead
  where
    by : (t : Bool) → (cond t g (happens g e)).machine.frame.last ≤ 1 + g.machine.frame.last
    by true = omega arith
    by false = happens_last sounds g e b

-- An event tells a client at last, in one word, that this is all.
use Rattle.std.proofs.Common.{◌≡◌, ℕ, ◌⊎◌, inl, inr, Bool, true, false, cond, ◌||◌, List, [], ◌∷◌, ◌++◌, length, map, Option, Some, None, option_map, refl, ap, ◌∙◌, sym, subst, append-nil}
use Rattle.std.specs.Prelude.{◌+◌, ◌==◌, flat_map, is_some}
use Rattle.std.specs.List.{list_any}
use Rattle.std.proofs.lemmas.Bool.{false≢true, eqb-true, eqb-false}
use Rattle.iv_rows.specs.Options.{if_some}
use Rattle.iv_access.specs.Rights.{Name}
use Rattle.iv_machine.specs.Act.{Command, Line, reply, change, ended, subscribe, subscribed}
use Rattle.iv_machine.specs.Machine.{Outcome, step}
use Rattle.iv_message.specs.Told.{Told, alive, changed, granted, opened, over, settled}
use Rattle.iv_clients.specs.Clients.{Client, Sub, answered, at_client, beating, checked, client_at, dropping, following, handing, is_slow, may_say, opens, own_line, own_lines, released, saying, settling, staying, telling, told, told_one, at_all}
use Rattle.iv_clients.specs.Feeds.{Feed, rel_read}
use Rattle.iv_records.specs.Journal.{Entry, said_by, shape_for}
use Rattle.iv_clients.specs.Tokens.{Token}
use Rattle.iv_clients.proofs.Slots.{client_at-at_all, client_at-at_other_client, client_at-at_client, same-Some}
use Rattle.iv_gate.specs.Events.{Event, presented, message, gone, known, ticked, synced, handed, failed, happens, next, arrived, forgave, led}
use Rattle.iv_gate.specs.Gate.{Gate, columns_in, done_for, entered, feed_begun, granted_by, hears, in_session, is_accepted, next_own, reply_in, reply_to, said, settles, told_of, entries_of, reply_told, next_position}
use Rattle.iv_gate.specs.Laws.{IsSettledBy, is_word}
use Rattle.iv_gate.specs.Replies.{ByClient, told_by}
use Rattle.iv_gate.specs.Runs.{Runs, begins, goes_on, begins_again}
use Rattle.iv_gate.proofs.GrownTexts.{append-associative}
use Rattle.iv_gate.proofs.SoundRuns.{Starts, not_client_at-Restores, IsSoundGate-Runs}
use Rattle.iv_gate.proofs.MessageEffects.{HasAnswered, IsDone, answers, asks, opens as reads_more, all_done, told-told_one, is_word-reply_told}
use Rattle.iv_gate.proofs.MessageNews.{request_there, subscribe_there}
use Rattle.iv_gate.proofs.EventNews.{same-presented, same-at_all, told-checked, told-handing, told_by-append, told-released, either-gone}
use Rattle.iv_gate.proofs.ReplyPlaces.{any_of_both, or_true}
use Rattle.iv_gate.proofs.OwnReplies.{asked, Grown-done_for}
use Rattle.iv_gate.proofs.SoundEvents.{told-answered}
use Rattle.iv_gate.proofs.SoundCommands.{Adds, IsSoundGate, Seer, Sounds, or_none, seer-telling}
use Rattle.iv_gate.proofs.EventMarks.{next-alive as is_alive, next-dead, AreTouched-next, cond-same}
use Rattle.iv_gate.proofs.ClientFacts.{Later, step_told}
use Rattle.iv_gate.proofs.ShapeTexts.{all_made, list_any-all_false}
use Rattle.iv_gate.specs.Arriving.{Step, entry_of, fact_of, fault_of, was_taken, landed, newly, takes}
use Rattle.iv_steps.specs.Steps.{stepped}

-- ---- what a command tells

no_words : (ts us : List Told) → list_any is_word ts ≡ false → list_any is_word us ≡ false → list_any is_word (ts ++ us) ≡ false
no_words ts us h k = any_of_both is_word ts us ∙ (λ i. h i || k i)

line_words : (feeds : List Feed) (l : Line) (s : Sub) → list_any is_word (own_line feeds l s) ≡ false
line_words feeds (reply n r) s = refl
line_words feeds (change n k rows) s = by (k == s.feed)
  where
    by : (b : Bool) → list_any is_word (cond b (changed s.own rows ∷ []) []) ≡ false
    by true = refl
    by false = refl
line_words feeds (ended n k why rows) s = by (k == s.feed)
  where
    by : (b : Bool) → list_any is_word (cond b (over s.own (rel_read feeds k) why rows ∷ []) []) ≡ false
    by true = refl
    by false = refl

subs_words : (feeds : List Feed) (l : Line) (xs : List Sub) → list_any is_word (flat_map (own_line feeds l) xs) ≡ false
subs_words feeds l [] = refl
subs_words feeds l (x ∷ xs) = no_words (own_line feeds l x) (flat_map (own_line feeds l) xs) (line_words feeds l x) (subs_words feeds l xs)

lines_words : (feeds : List Feed) (ls : List Line) (xs : List Sub) → list_any is_word (own_lines feeds ls xs) ≡ false
lines_words feeds [] xs = refl
lines_words feeds (l ∷ ls) xs = no_words (flat_map (own_line feeds l) xs) (own_lines feeds ls xs) (subs_words feeds l xs) (lines_words feeds ls xs)

grants_words : (names : List Name) → list_any is_word (map granted names) ≡ false
grants_words [] = refl
grants_words (n ∷ names) = grants_words names

told_words : (g : Gate) (k : Command) (o : Outcome) (c : Client) → list_any is_word (told_of g k.act o c) ≡ false
told_words g k o c = no_words (own_lines g.feeds o.lines c.subs) _ (lines_words g.feeds o.lines c.subs) (by (is_accepted (reply_in o.lines)))
  where
    by : (b : Bool) → list_any is_word (cond b (map granted (granted_by o.state.frame k.act c.role)) []) ≡ false
    by true = grants_words (granted_by o.state.frame k.act c.role)
    by false = refl

-- ---- before this is all

abbrev is_some_told : List Told → Bool
is_some_told [] = false
is_some_told (t ∷ ts) = true

-- it was told no word yet, and the word that this is all is owed where it was told something
record Owes (c d : Client) : Type 0 where
  more : List Told
  text : told d ≡ told c ++ more
  plain : list_any is_word more ≡ false
  owed : d.owed ≡ (c.owed || is_some_told more)

owes_same : (c d : Client) → told d ≡ told c → d.owed ≡ c.owed → Owes c d
owes_same c d t o = record { more = []; text = t ∙ sym (append-nil (told c)); plain = refl; owed = o ∙ sym (or_none c.owed) }

owes_then : (b c d : Client) → Owes b c → Owes c d → Owes b d
owes_then b c d x y = record {
  more = x.more ++ y.more;
  text = y.text ∙ (ap (λ z. z ++ y.more) x.text ∙ append-associative (told b) x.more y.more);
  plain = no_words x.more y.more x.plain y.plain;
  owed = y.owed ∙ (ap (λ z. z || is_some_told y.more) x.owed ∙ by b.owed x.more);
}
  where
    by : (o : Bool) (ts : List Told) → ((o || is_some_told ts) || is_some_told y.more) ≡ (o || is_some_told (ts ++ y.more))
    by true ts = refl
    by false [] = refl
    by false (t ∷ ts) = refl

-- it is told one thing that is no word
owes_one : (t : Told) (c d : Client) → is_word t ≡ false → told d ≡ told c ++ t ∷ [] → d.owed ≡ true → Owes c d
owes_one t c d h e o = record { more = t ∷ []; text = e; plain = ap (λ z. z || false) h; owed = o ∙ sym (or_true c.owed) }

owed_telling : (es : List Entry) (ts : List Told) (c : Client) → (telling es ts c).owed ≡ (c.owed || is_some_told ts)
owed_telling es [] c = sym (or_none c.owed)
owed_telling es (t ∷ ts) c = owed_telling es ts (told_one es t c) ∙ sym (or_true c.owed)

owes_ran : (g : Gate) (k : Command) (c : Client) → Owes c (staying (step g.machine k).lines (telling g.entries (told_of g k.act (step g.machine k) c) c))
owes_ran g k c = let ts = told_of g k.act (step g.machine k) c in record {
  more = told_of g k.act (step g.machine k) c;
  text = ap (λ (v : Seer). v.told) (seer-telling g.entries ts c);
  plain = told_words g k (step g.machine k) c;
  owed = owed_telling g.entries ts c;
}

owes_stepped : (g : Gate) (es : List Entry) (o : Outcome) (c : Client) → Owes c (staying o.lines (telling es (step_told g o c) c))
owes_stepped g es o c = record {
  more = step_told g o c;
  text = ap (λ (v : Seer). v.told) (seer-telling es (step_told g o c) c);
  plain = no_words (own_lines g.feeds o.lines c.subs) _ (lines_words g.feeds o.lines c.subs) (grants_words (newly g.machine.frame o.state.frame c.role));
  owed = owed_telling es (step_told g o c) c;
}

owes_shape : (es more : List Entry) (c : Client) → Owes c (telling es (shape_for c.role more) c)
owes_shape es more c = record {
  more = shape_for c.role more;
  text = ap (λ (v : Seer). v.told) (seer-telling es (shape_for c.role more) c);
  plain = list_any-all_false is_word (shape_for c.role more) (all_made (λ t. is_word t ≡ false) (λ role line. refl) c.role more);
  owed = owed_telling es (shape_for c.role more) c;
}

-- ---- what is done for a message

answer_owes : (g : Gate) (m : ℕ) (h : Gate) → HasAnswered g m h → (j : ℕ) (x : Client) → client_at g.clients j ≡ Some x → Later (λ n c d. Owes c d) h.clients j x
answer_owes g m h a j x t = by (m == j) refl
  where
    by : (b : Bool) → (m == j) ≡ b → Later (λ n c d. Owes c d) h.clients j x
    by true q =
        let same = eqb-true m j q in
        record {
          now = a.change x;
          there = ap (λ z. client_at z j) a.clients ∙ (ap (λ n. client_at (at_client n a.change g.clients) j) same ∙ (client_at-at_client j a.change g.clients ∙ ap (option_map a.change) t));
          so = owes_one a.text x (a.change x) a.plain (a.told x) (a.owed x);
        }
    by false q = record { now = x; there = ap (λ z. client_at z j) a.clients ∙ (client_at-at_other_client m j a.change g.clients (eqb-false m j q) ∙ t); so = owes_same x x refl refl }

done_owes : (g : Gate) (m : ℕ) (a : Client) (h : Gate) → IsDone g m a h → (j : ℕ) (x : Client) → client_at g.clients j ≡ Some x → Later (λ n c d. Owes c d) h.clients j x
done_owes g m a h (answers r) j x t = answer_owes g m h r j x t
done_owes g m a h (asks id q name n s heard same) j x t =
    let k = in_session n q.act in let r = reply_to g k in let more = entries_of (next_position g) q name r in let before = entered g more in let es = g.entries ++ more in
    let text = reply_told before id name r in
    let first = told_one es text x in
    let hears : Client → Client = λ c. staying (step g.machine k).lines (telling es (told_of g k.act (step g.machine k) c) c) in
    let all : (c : Client) → Owes c (telling es (shape_for (hears c).role more) (hears c)) =
    λ c. owes_then c (hears c) _ (owes_ran before k c) (owes_shape es more (hears c)) in
    subst (λ (i : Gate). Later (λ n c d. Owes c d) i.clients j x) (sym same)
    (request_there g m id q name n s heard Owes j x t (λ own. owes_then x first _ (owes_one text x first (is_word-reply_told before id name r) (told-told_one es text x) refl) (all first)) (λ ne. all x))
done_owes g m a h (reads_more r) j x t =
    let i = r.first in let k = in_session r.session (subscribe r.rel) in let n = i.machine.frame.last + 1 in
    let h0 = feed_begun i m r.id r.session r.role r.rel (subscribed n) in
    let text = opened r.id (next_own i m) (columns_in i.machine r.rel) in
    let first = following n (told_one i.entries text x) in
    let ran = owes_ran h0 k first in
    subscribe_there g m a h r Owes j x t
    (λ same. owes_then x _ _ (owes_then x first _ (owes_one text x first refl (told-told_one i.entries text x) refl) ran) (owes_same _ _ (r.behind.told _) (r.behind.owed _)))
    (λ ne. owes_ran h0 k x)

-- ---- and then this is all

-- something is told, and then by one word that this is all
pub record EndsSettled (ts : List Told) : Type 0 where
  pub first : Told
  pub more : List Told
  pub all : ts ≡ (first ∷ more) ++ settled ∷ []
  pub plain : list_any is_word (first ∷ more) ≡ false

-- it was told nothing, or something and that this is all
record Ends (c d : Client) : Type 0 where
  more : List Told
  text : told d ≡ told c ++ more
  ends : (more ≡ []) ⊎ EndsSettled more
  owed : d.owed ≡ false

ends_same : (c d : Client) → told d ≡ told c → d.owed ≡ false → Ends c d
ends_same c d t o = record { more = []; text = t ∙ sym (append-nil (told c)); ends = inl refl; owed = o }

ends_settled : (es : List Entry) (c d : Client) → c.owed ≡ false → Owes c d → Ends c (settling es d)
ends_settled es c d o x = by x.more x.text x.plain d.owed refl (x.owed ∙ ap (λ z. z || is_some_told x.more) o)
  where
    by : (ts : List Told) → told d ≡ told c ++ ts → list_any is_word ts ≡ false → (b : Bool) → d.owed ≡ b → d.owed ≡ is_some_told ts → Ends c (cond b (record (told_one es settled d) { owed = false }) d)
    by [] t p true e f = absurd (false≢true (sym f ∙ e))
    by [] t p false e f = ends_same c d (t ∙ append-nil (told c)) e
    by (s ∷ ts) t p true e f = record {
      more = (s ∷ ts) ++ settled ∷ [];
      text = told-told_one es settled d ∙ (ap (λ z. z ++ settled ∷ []) t ∙ append-associative (told c) (s ∷ ts) (settled ∷ []));
      ends = inr (record { first = s; more = ts; all = refl; plain = p });
      owed = refl;
    }
    by (s ∷ ts) t p false e f = absurd (false≢true (sym e ∙ f))

ends_as : (c d e : Client) → Ends c d → told e ≡ told d → e.owed ≡ d.owed → Ends c e
ends_as c d e x t o = record { more = x.more; text = t ∙ x.text; ends = x.ends; owed = o ∙ x.owed }

module _ (sounds : Sounds) (g : Gate) (b : IsSoundGate g) (m : ℕ) (text : List ℕ) where
  abbrev did : Client → Gate
  did a = done_for (asked g m text) m a text (said_by text)

  heard_ends : (a : Client) (j : ℕ) (x : Client) → client_at (asked g m text).clients j ≡ Some x → x.owed ≡ false → Later (λ n c d. Ends c d) (settles (did a)).clients j x
  heard_ends a j x t o =
      let p = done_owes (asked g m text) m a (did a) (all_done sounds (asked g m text) m a text (said_by text) b.state refl) j x t in
      record {
        now = settling (did a).entries p.now;
        there = client_at-at_all (settling (did a).entries) (did a).clients j ∙ ap (option_map (settling (did a).entries)) p.there;
        so = ends_settled (did a).entries x p.now o p.so;
      }

  own_ends : (c d : Client) → client_at g.clients m ≡ Some c → c.owed ≡ false → client_at (hears g m c text).clients m ≡ Some d → Ends c d
  own_ends c d t o k =
      let there : client_at (asked g m text).clients m ≡ Some (saying text c) =
      client_at-at_client m (saying text) g.clients ∙ ap (option_map (saying text)) t in
      let p = heard_ends c m (saying text c) there o in
      let last : client_at (hears g m c text).clients m ≡ Some (answered c p.now) = client_at-at_client m (answered c) (settles (did c)).clients ∙ ap (option_map (answered c)) p.there in
      let x : Ends c p.now = record { more = p.so.more; text = p.so.text; ends = p.so.ends; owed = p.so.owed } in
      subst (Ends c) (same-Some (answered c p.now) d (sym last ∙ k)) (ends_as c p.now (answered c p.now) x (told-answered c p.now (Grown-done_for g m c text p.now there p.there)) refl)

  other_ends : (a : Client) (j : ℕ) (c d : Client) → (m ≡ j → ⊥) → client_at g.clients j ≡ Some c → c.owed ≡ false → client_at (hears g m a text).clients j ≡ Some d → Ends c d
  other_ends a j c d ne t o k =
      let p = heard_ends a j c (client_at-at_other_client m j (saying text) g.clients ne ∙ t) o in
      subst (Ends c) (same-Some p.now d (sym p.there ∙ (sym (client_at-at_other_client m j (answered a) (settles (did a)).clients ne) ∙ k))) p.so

  said_ends : (j : ℕ) (c d : Client) → client_at g.clients j ≡ Some c → c.owed ≡ false → client_at (said g m text).clients j ≡ Some d → Ends c d
  said_ends j c d t o k = by (m == j) refl
    where
      same : client_at g.clients j ≡ Some d → Ends c d
      same x = let e = same-Some c d (sym t ∙ x) in ends_same c d (ap told (sym e)) (ap (λ (z : Client). z.owed) (sym e) ∙ o)

      own : m ≡ j → Ends c d
      own e = this (may_say c) (sym (ap (λ z. client_at (if_some z g (λ a. cond (may_say a) (hears g m a text) g)).clients m) at) ∙ (ap (client_at (said g m text).clients) e ∙ k))
        where
          at : client_at g.clients m ≡ Some c
          at = ap (client_at g.clients) e ∙ t

          this : (q : Bool) → client_at (cond q (hears g m c text) g).clients m ≡ Some d → Ends c d
          this true x = own_ends c d at o x
          this false x = same (sym (ap (client_at g.clients) e) ∙ x)

      test : (m ≡ j → ⊥) → (a : Client) (q : Bool) → client_at (cond q (hears g m a text) g).clients j ≡ Some d → Ends c d
      test ne a true x = other_ends a j c d ne t o x
      test ne a false x = same x

      other : (m ≡ j → ⊥) → (z : Option Client) → client_at (if_some z g (λ a. cond (may_say a) (hears g m a text) g)).clients j ≡ Some d → Ends c d
      other ne None x = same x
      other ne (Some a) x = test ne a (may_say a) x

      by : (q : Bool) → (m == j) ≡ q → Ends c d
      by true e = own (eqb-true m j e)
      by false e = other (eqb-false m j e) (client_at g.clients m) k

-- ---- each event

-- who is there is told what the event settles, if it is not to go, and is owed nothing
record IsTold (e : Event) (c d : Client) : Type 0 where
  told : d.dropped ≡ false → IsSettledBy e (told_by c d)
  owed : d.owed ≡ false

-- where the same is told
told_none : (c d : Client) → told d ≡ told c → told_by c d ≡ []
told_none c d e = told_by-append c d [] (e ∙ sym (append-nil (told c)))

is_told : (e : Event) (c d : Client) → IsSettledBy e [] → (d.dropped ≡ false → told d ≡ told c) → d.owed ≡ c.owed → c.owed ≡ false → IsTold e c d
is_told e c d n t o h = record { told = λ s. subst (IsSettledBy e) (sym (told_none c d (t s))) n; owed = o ∙ h }

still_told : (e : Event) (c d : Client) → IsSettledBy e [] → c ≡ d → c.owed ≡ false → IsTold e c d
still_told e c d n same h = is_told e c d n (λ s. ap told (sym same)) (ap (λ (x : Client). x.owed) (sym same)) h

-- who is owed nothing is not told that this is all
settling_none : (es : List Entry) (c : Client) → c.owed ≡ false → settling es c ≡ c
settling_none es c h = ap (λ b. cond b (record (told_one es settled c) { owed = false }) c) h

owed_dropping : (b : Bool) (c d : Client) → d.owed ≡ c.owed → (cond b (dropping c) d).owed ≡ c.owed
owed_dropping true c d h = refl
owed_dropping false c d h = h

owed_checked : (tokens : List Token) (c : Client) → (checked tokens c).owed ≡ c.owed
owed_checked tokens c = cond-same (λ (x : Client). x.owed) (opens tokens c) c (dropping c) c.owed refl refl

owed_handing : (c : Client) → (handing c).owed ≡ c.owed
owed_handing c = cond-same (λ (x : Client). x.owed) (length c.sendable == 0) c (record c { sendable = []; asked = 0; handed = c.handed ++ c.sendable ∷ [] }) c.owed refl refl

by_message : (m : ℕ) (text : List ℕ) (c d : Client) → Ends c d → IsTold (message m text) c d
by_message m text c d x = record { told = λ s. by (subst (λ z. (z ≡ []) ⊎ EndsSettled z) (sym (told_by-append c d x.more x.text)) x.ends); owed = x.owed }
  where
    by : (told_by c d ≡ []) ⊎ EndsSettled (told_by c d) → IsSettledBy (message m text) (told_by c d)
    by (inl n) = inl n
    by (inr a) = inr (a.first, a.more, a.all, a.plain)

-- a step
landed_ends : (g : Gate) (e : Entry) (o : Outcome) (j : ℕ) (c d : Client) → client_at g.clients j ≡ Some c → c.owed ≡ false → client_at (landed g e o).clients j ≡ Some d → Ends c d
landed_ends g e o j c d t none k =
    let es = g.entries ++ e ∷ [] in
    let first : Client → Client = λ (x : Client). staying o.lines (telling es (step_told g o x) x) in
    let shapes : Client → Client = λ (x : Client). telling es (shape_for x.role (e ∷ [])) x in
    let there : client_at (landed g e o).clients j ≡ Some (settling es (shapes (first c))) =
    client_at-at_all (settling es) (at_all shapes (at_all first g.clients)) j ∙ ap (option_map (settling es)) (client_at-at_all shapes (at_all first g.clients) j ∙ ap (option_map shapes) (client_at-at_all first g.clients j ∙ ap (option_map first) t)) in
    subst (Ends c) (same-Some (settling es (shapes (first c))) d (sym there ∙ k))
    (ends_settled es c (shapes (first c)) none (owes_then c (first c) (shapes (first c)) (owes_stepped g es o c) (owes_shape es (e ∷ []) (first c))))

by_step : (s : Step) (c d : Client) → Ends c d → IsTold (arrived s) c d
by_step s c d x = record { told = λ stays. by (subst (λ z. (z ≡ []) ⊎ EndsSettled z) (sym (told_by-append c d x.more x.text)) x.ends); owed = x.owed }
  where
    by : (told_by c d ≡ []) ⊎ EndsSettled (told_by c d) → IsSettledBy (arrived s) (told_by c d)
    by (inl n) = inl n
    by (inr a) = inr (a.first, a.more, a.all, a.plain)

takes_told : (g : Gate) (s : Step) (j : ℕ) (c d : Client) → client_at g.clients j ≡ Some c → c.owed ≡ false → client_at (takes g s).clients j ≡ Some d → IsTold (arrived s) c d
takes_told g s j c d t none k = by (is_some (fault_of g s)) (was_taken g s) (stepped (map fact_of s.requests) g.machine) k
  where
    same : client_at g.clients j ≡ Some d → IsTold (arrived s) c d
    same i = still_told (arrived s) c d (inl refl) (same-Some c d (sym t ∙ i)) none

    by : (x y : Bool) (o : Option Outcome) → client_at (cond x (record g { dead = true }) (cond y g (if_some o g (landed g (entry_of s))))).clients j ≡ Some d → IsTold (arrived s) c d
    by true y o i = same i
    by false true o i = same i
    by false false None i = same i
    by false false (Some o) i = by_step s c d (landed_ends g (entry_of s) o j c d t none i)

happens_told : Sounds → (g : Gate) (e : Event) → IsSoundGate g → (j : ℕ) (c d : Client) → client_at g.clients j ≡ Some c → c.owed ≡ false → client_at (happens g e).clients j ≡ Some d → IsTold e c d
happens_told sounds g (presented m token) b j c d t o k =
    still_told (presented m token) c d refl (same-presented g b m token j c d t k) o
happens_told sounds g (message m text) b j c d t o k = by_message m text c d (said_ends sounds g b m text j c d t o k)
happens_told sounds g (gone m) b j c d t o k =
    either-gone sounds g b m j c d t k (IsTold (gone m) c d) (λ e. still_told (gone m) c d refl e o) (λ es e. still_told (gone m) c d refl (sym (settling_none es c o) ∙ e) o)
happens_told sounds g (known tokens) b j c d t o k =
    let e = same-at_all (checked tokens) g.clients j c d t k in
    is_told (known tokens) c d refl (told-checked tokens c d e) (ap (λ (x : Client). x.owed) (sym e) ∙ owed_checked tokens c) o
happens_told sounds g ticked b j c d t o k =
    subst (IsTold ticked c) (same-at_all (beating g.entries) g.clients j c d t k) (record { told = λ s. told_by-append c (beating g.entries c) (alive ∷ []) (told-told_one g.entries alive c); owed = o })
happens_told sounds g synced b j c d t o k =
    let e = same-at_all released g.clients j c d t k in
    is_told synced c d refl (told-released c d e)
    (ap (λ (x : Client). x.owed) (sym e) ∙ owed_dropping (c.dropped || is_slow c) c (record c { unsynced = []; sendable = c.sendable ++ c.unsynced }) refl) o
happens_told sounds g (handed m) b j c d t o k = by (m == j) refl
  where
    by : (q : Bool) → (m == j) ≡ q → IsTold (handed m) c d
    by true q =
        let e = same-Some (handing c) d (ap (option_map handing) (sym t) ∙ (sym (client_at-at_client j handing g.clients) ∙ (ap (λ i. client_at (at_client i handing g.clients) j) (sym (eqb-true m j q)) ∙ k))) in
        is_told (handed m) c d refl (λ s. told-handing c d e) (ap (λ (x : Client). x.owed) (sym e) ∙ owed_handing c) o
    by false q = still_told (handed m) c d refl (same-Some c d (sym t ∙ (sym (client_at-at_other_client m j handing g.clients (eqb-false m j q)) ∙ k))) o
happens_told sounds g (arrived x) b j c d t o k = takes_told g x j c d t o k
happens_told sounds g led b j c d t o k = still_told led c d refl (same-Some c d (sym t ∙ k)) o
happens_told sounds g forgave b j c d t o k = still_told forgave c d refl (same-Some c d (sym t ∙ k)) o
happens_told sounds g failed b j c d t o k = still_told failed c d refl (same-Some c d (sym t ∙ k)) o

-- ---- over runs

abbrev OwesNothing : Gate → Type 0
OwesNothing g = (m : ℕ) (c : Client) → client_at g.clients m ≡ Some c → c.owed ≡ false

next_told : Sounds → (g : Gate) (e : Event) → IsSoundGate g → g.dead ≡ false → (j : ℕ) (c d : Client) → client_at g.clients j ≡ Some c → c.owed ≡ false → client_at (next g e).clients j ≡ Some d → IsTold e c d
next_told sounds g e b live j c d t o k = happens_told sounds g e b j c d t o (ap (λ (x : Gate). client_at x.clients j) (sym (is_alive g e live)) ∙ k)

next_owes : Sounds → (g : Gate) (e : Event) → IsSoundGate g → OwesNothing g → OwesNothing (next g e)
next_owes sounds g e b a j d k = by g.dead refl
  where
    there : g.dead ≡ false → (o : Option Client) → client_at g.clients j ≡ o → d.owed ≡ false
    there live None h = ap (λ (x : Client). x.owed) ((AreTouched-next g e live).comes j d h k).is
    there live (Some c) h = (next_told sounds g e b live j c d h (a j c h) k).owed

    by : (q : Bool) → g.dead ≡ q → d.owed ≡ false
    by true q = a j d (ap (λ (x : Gate). client_at x.clients j) (sym (next-dead g e q)) ∙ k)
    by false q = there q (client_at g.clients j) refl

runs_owe : Adds → Starts → Sounds → (cap : ℕ) (g : Gate) → Runs cap g → OwesNothing g
runs_owe adds starts sounds cap _ (begins tokens most head journal g r) m c x = absurd (not_client_at-Restores cap tokens most head [] journal g r m c x)
runs_owe adds starts sounds cap _ (goes_on h e w r) m c x = next_owes sounds h e (IsSoundGate-Runs adds starts sounds cap h r) (runs_owe adds starts sounds cap h r) m c x
runs_owe adds starts sounds cap _ (begins_again h disk tokens most i r l y) m c x = absurd (not_client_at-Restores cap tokens most h.head h.sent disk i y m c x)

pub IsSettledBy-Runs : Adds → Starts → Sounds → (cap : ℕ) (g : Gate) (e : Event) → Runs cap g → g.dead ≡ false
    → ByClient g e (λ m c d. IsSettledBy e (told_by c d))
IsSettledBy-Runs adds starts sounds cap g e r live m c d x y =
    (next_told sounds g e (IsSoundGate-Runs adds starts sounds cap g r) live m c d x.there
    (runs_owe adds starts sounds cap g r m c x.there) y.there).told y.stays

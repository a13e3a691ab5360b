-- A client is told nothing that is a reply, but by a message of its own that is heard.
use Rattle.std.proofs.Common.{◌≡◌, ℕ, ◌⊎◌, inl, inr, Bool, true, false, not, cond, ◌||◌, List, [], ◌∷◌, ◌++◌, length, map, set, Option, Some, None, option_map, refl, ap, ◌∙◌, sym, subst, append-nil, suc, arith}
use Rattle.std.specs.Prelude.{◌==◌, ◌&&◌, filter, flat_map}
use Rattle.std.specs.List.{list_any, AllByRecursion}
use Rattle.std.proofs.lemmas.Bool.{false≢true, eqb-true, eqb-false}
use Rattle.std.proofs.lemmas.List.Concat.{flat_map-append}
use Rattle.iv_rows.specs.Options.{if_some}
use Rattle.iv_access.specs.Rights.{Name}
use Rattle.iv_machine.specs.Act.{begin, Command, Line, reply, change, ended}
use Rattle.iv_machine.specs.Machine.{step, Outcome}
use Rattle.iv_message.specs.Told.{Told, over, settled, made, alive, granted}
use Rattle.iv_clients.specs.Clients.{Client, Shown, Slots, Sub, all_shown, answered, at_all, at_client, beating, checked, client_at, dropping, fresh, handing, is_slow, may_say, moved, opens, own_line, own_lines, released, saying, settling, staying, telling, told, told_one}
use Rattle.iv_clients.specs.Feeds.{Feed, ends_in, is_end, is_of_role, rel_read}
use Rattle.iv_records.specs.Journal.{Entry, said_by}
use Rattle.iv_clients.specs.Tokens.{Token}
use Rattle.iv_clients.proofs.Slots.{client_at-at_all, client_at-at_other_client, client_at-at_client, is_free-client_at, same-Some, client_at-set_other, not_None-Some}
use Rattle.iv_gate.specs.Events.{Event, presented, message, gone, known, ticked, synced, handed, failed, happens, arrived, forgave, led}
use Rattle.iv_gate.specs.Gate.{Gate, all_rested, all_swept, done_for, hears, in_session, token_for, said, seated, settles, told_of, went, with_session, at_text, granted_by, is_accepted, reply_to}
use Rattle.iv_gate.specs.Replies.{heard_by, is_reply, replies}
use Rattle.iv_gate.specs.Seen.{is_end_of}
use Rattle.iv_gate.proofs.GrownTexts.{append-associative}
use Rattle.iv_gate.proofs.SameFeeds.{list_any-moved_sub}
use Rattle.iv_gate.proofs.ReplyPlaces.{list_any-append_front, list_any-append_back, replies-none, or_true, replies-granted, replies-own_lines}
use Rattle.iv_gate.proofs.SoundCommands.{Seer, list_any-filter, seer, seer-told_one, seer-telling}
use Rattle.iv_gate.proofs.NumberSums.{eq-turned, or-both_false}
use Rattle.iv_gate.proofs.EventMarks.{came_as, client_at-is_gone, Opens-token_for}
use Rattle.iv_gate.proofs.ClientFacts.{Kit, Later, to_all_rested, to_all_swept, to_done, to_settles, to_then, to_with, step_told, to_takes}
use Rattle.iv_gate.specs.Arriving.{Step, entry_of, newly, takes}

-- ---- numbers of a client

abbrev pub is_own : ℕ → List Sub → Bool
is_own own xs = list_any (λ (y : Sub). own == y.own) xs

abbrev pub ends_for : ℕ → List Told → Bool
ends_for own ts = list_any (is_end_of own) ts

-- a number that lines take away is told its end
any_both : {X : Type 0} (p q r : X → Bool) (xs : List X) → list_any (λ x. p x && (q x || r x)) xs ≡ true → (list_any (λ x. p x && q x) xs ≡ true) ⊎ (list_any (λ x. p x && r x) xs ≡ true)
any_both p q r [] h = inl h
any_both p q r (x ∷ xs) h = by (p x) (q x) (r x) h (any_both p q r xs)
  where
    more : (a b : Bool) → (list_any (λ y. p y && q y) xs ≡ true) ⊎ (list_any (λ y. p y && r y) xs ≡ true)
        → ((a || list_any (λ y. p y && q y) xs) ≡ true) ⊎ ((b || list_any (λ y. p y && r y) xs) ≡ true)
    more a b (inl k) = inl (ap (λ z. a || z) k ∙ or_true a)
    more a b (inr k) = inr (ap (λ z. b || z) k ∙ or_true b)

    by : (a b c : Bool) → ((a && (b || c)) || list_any (λ y. p y && (q y || r y)) xs) ≡ true
        → (list_any (λ y. p y && (q y || r y)) xs ≡ true → (list_any (λ y. p y && q y) xs ≡ true) ⊎ (list_any (λ y. p y && r y) xs ≡ true))
        → (((a && b) || list_any (λ y. p y && q y) xs) ≡ true) ⊎ (((a && c) || list_any (λ y. p y && r y) xs) ≡ true)
    by true true c k rest = inl refl
    by true false true k rest = inr refl
    by true false false k rest = more false false (rest k)
    by false b c k rest = more false false (rest k)

line_ends : (own : ℕ) (feeds : List Feed) (l : Line) (s : Sub) → ((own == s.own) && is_end s.feed l) ≡ true → ends_for own (own_line feeds l s) ≡ true
line_ends own feeds (reply n r) s h = absurd (no (own == s.own) h)
  where
    no : (b : Bool) → (b && false) ≡ true → ⊥
    no true k = false≢true k
    no false k = false≢true k
line_ends own feeds (change n k rows) s h = absurd (no (own == s.own) h)
  where
    no : (b : Bool) → (b && false) ≡ true → ⊥
    no true k = false≢true k
    no false k = false≢true k
line_ends own feeds (ended n k why rows) s h = by (own == s.own) (s.feed == k) refl refl h
  where
    by : (a b : Bool) → (own == s.own) ≡ a → (s.feed == k) ≡ b → (a && b) ≡ true → ends_for own (cond (k == s.feed) (over s.own (rel_read feeds k) why rows ∷ []) []) ≡ true
    by true true e f g = ap (λ z. ends_for own (cond z (over s.own (rel_read feeds k) why rows ∷ []) [])) (eq-turned s.feed k f) ∙ ap (λ z. z || false) e
    by true false e f g = absurd (false≢true g)
    by false b e f g = absurd (false≢true g)

subs_end : (own : ℕ) (feeds : List Feed) (l : Line) (xs : List Sub) → list_any (λ (x : Sub). (own == x.own) && is_end x.feed l) xs ≡ true → ends_for own (flat_map (own_line feeds l) xs) ≡ true
subs_end own feeds l [] h = h
subs_end own feeds l (x ∷ xs) h = by ((own == x.own) && is_end x.feed l) refl h (subs_end own feeds l xs)
  where
    by : (b : Bool) → ((own == x.own) && is_end x.feed l) ≡ b → (b || list_any (λ (y : Sub). (own == y.own) && is_end y.feed l) xs) ≡ true
        → (list_any (λ (y : Sub). (own == y.own) && is_end y.feed l) xs ≡ true → ends_for own (flat_map (own_line feeds l) xs) ≡ true) → ends_for own (own_line feeds l x ++ flat_map (own_line feeds l) xs) ≡ true
    by true e k more = list_any-append_front (is_end_of own) (own_line feeds l x) (flat_map (own_line feeds l) xs) (line_ends own feeds l x e)
    by false e k more = list_any-append_back (is_end_of own) (own_line feeds l x) (flat_map (own_line feeds l) xs) (more k)

lines_end : (own : ℕ) (feeds : List Feed) (ls : List Line) (xs : List Sub) → list_any (λ (x : Sub). (own == x.own) && ends_in ls x.feed) xs ≡ true → ends_for own (own_lines feeds ls xs) ≡ true
lines_end own feeds [] xs h = absurd (false≢true (sym (none xs) ∙ h))
  where
    and_no : (b : Bool) → (b && false) ≡ false
    and_no true = refl
    and_no false = refl

    none : (ys : List Sub) → list_any (λ (x : Sub). (own == x.own) && false) ys ≡ false
    none [] = refl
    none (y ∷ ys) = (λ i. and_no (own == y.own) i || none ys i)
lines_end own feeds (l ∷ ls) xs h = by (any_both (λ (x : Sub). own == x.own) (λ x. is_end x.feed l) (λ x. ends_in ls x.feed) xs h) (lines_end own feeds ls xs)
  where
    by : (list_any (λ (x : Sub). (own == x.own) && is_end x.feed l) xs ≡ true) ⊎ (list_any (λ (x : Sub). (own == x.own) && ends_in ls x.feed) xs ≡ true)
        → (list_any (λ (x : Sub). (own == x.own) && ends_in ls x.feed) xs ≡ true → ends_for own (own_lines feeds ls xs) ≡ true) → ends_for own (own_lines feeds (l ∷ ls) xs) ≡ true
    by (inl k) more = list_any-append_front (is_end_of own) (flat_map (own_line feeds l) xs) (own_lines feeds ls xs) (subs_end own feeds l xs k)
    by (inr k) more = list_any-append_back (is_end_of own) (flat_map (own_line feeds l) xs) (own_lines feeds ls xs) (more k)

taken_away : (own : ℕ) (q : Sub → Bool) (xs : List Sub) → is_own own xs ≡ true → is_own own (filter (λ x. not (q x)) xs) ≡ false → list_any (λ (x : Sub). (own == x.own) && q x) xs ≡ true
taken_away own q [] h k = h
taken_away own q (x ∷ xs) h k = by (own == x.own) (q x) refl h k (taken_away own q xs)
  where
    by : (a b : Bool) → (own == x.own) ≡ a → (a || is_own own xs) ≡ true → is_own own (cond (not b) (x ∷ filter (λ y. not (q y)) xs) (filter (λ y. not (q y)) xs)) ≡ false
        → (is_own own xs ≡ true → is_own own (filter (λ y. not (q y)) xs) ≡ false → list_any (λ (y : Sub). (own == y.own) && q y) xs ≡ true) → ((a && b) || list_any (λ (y : Sub). (own == y.own) && q y) xs) ≡ true
    by true true e f g more = refl
    by true false e f g more = absurd (false≢true (sym (or-both_false (own == x.own) _ g).0 ∙ e))
    by false true e f g more = more f g
    by false false e f g more = more f (or-both_false (own == x.own) _ g).1

-- ---- steps in which it is replied nothing

pub record Hears (c d : Client) : Type 0 where
  pub more : List Told
  pub text : told d ≡ told c ++ more
  pub quiet : replies more ≡ []
  pub role : d.role ≡ c.role
  pub messages : d.messages ≡ c.messages
  pub given : d.given ≡ c.given
  -- a number that is lost is told its end, and none comes
  pub none : (own : ℕ) → is_own own c.subs ≡ false → is_own own d.subs ≡ false
  pub lost : (own : ℕ) → is_own own c.subs ≡ true → is_own own d.subs ≡ false → ends_for own more ≡ true

-- where what it was told and what it follows are the same
hears_alike : (c d : Client) → told d ≡ told c → d.role ≡ c.role → d.messages ≡ c.messages → d.given ≡ c.given → ((own : ℕ) → is_own own d.subs ≡ is_own own c.subs) → Hears c d
hears_alike c d t r m g s = record {
  more = [];
  text = t ∙ sym (append-nil (told c));
  quiet = refl;
  role = r;
  messages = m;
  given = g;
  none = λ own h. s own ∙ h;
  lost = λ own h k. absurd (false≢true (sym k ∙ (s own ∙ h)));
}

pub Hears-itself : (c : Client) → Hears c c
Hears-itself c = hears_alike c c refl refl refl refl (λ own. refl)

pub Hears-trans : (b c d : Client) → Hears b c → Hears c d → Hears b d
Hears-trans b c d x y = record {
  more = x.more ++ y.more;
  text = y.text ∙ (ap (λ z. z ++ y.more) x.text ∙ append-associative (told b) x.more y.more);
  quiet = replies-none x.more y.more x.quiet y.quiet;
  role = y.role ∙ x.role;
  messages = y.messages ∙ x.messages;
  given = y.given ∙ x.given;
  none = λ own h. y.none own (x.none own h);
  lost = λ own h k. by own h k (is_own own c.subs) refl;
}
  where
    by : (own : ℕ) → is_own own b.subs ≡ true → is_own own d.subs ≡ false → (t : Bool) → is_own own c.subs ≡ t → ends_for own (x.more ++ y.more) ≡ true
    by own h k true e = list_any-append_back (is_end_of own) x.more y.more (y.lost own e k)
    by own h k false e = list_any-append_front (is_end_of own) x.more y.more (x.lost own h e)

-- it is told one thing that is no reply
pub hears_one : (es : List Entry) (t : Told) (c : Client) → is_reply t ≡ false → Hears c (told_one es t c)
hears_one es t c h = record {
  more = t ∷ [];
  text = ap (λ (v : Seer). v.told) (seer-told_one es t c);
  quiet = ap (λ b. cond b (t ∷ []) []) h;
  role = refl;
  messages = refl;
  given = refl;
  none = λ own e. e;
  lost = λ own e k. absurd (false≢true (sym k ∙ e));
}

pub Hears-telling : (es : List Entry) (ts : List Told) (c : Client) → AllByRecursion (λ t. is_reply t ≡ false) ts → Hears c (telling es ts c)
Hears-telling es [] c a = Hears-itself c
Hears-telling es (t ∷ ts) c a =
    Hears-trans c (told_one es t c) (telling es ts (told_one es t c)) (hears_one es t c a.0) (Hears-telling es ts (told_one es t c) a.1)

pub Hears-settling : (es : List Entry) (c : Client) → Hears c (settling es c)
Hears-settling es c = by c.owed
  where
    by : (b : Bool) → Hears c (cond b (record (told_one es settled c) { owed = false }) c)
    by true = let x = hears_one es settled c refl in record { more = x.more; text = x.text; quiet = x.quiet; role = refl; messages = refl; given = refl; none = x.none; lost = x.lost }
    by false = Hears-itself c

hears_outcome : (feeds : List Feed) (ls : List Line) (es : List Entry) (grants : List Told) (c : Client) → replies grants ≡ [] → Hears c (staying ls (telling es (own_lines feeds ls c.subs ++ grants) c))
hears_outcome feeds ls es grants c none = record {
  more = ts;
  text = ap (λ (v : Seer). v.told) same;
  quiet = replies-none (own_lines feeds ls c.subs) grants (replies-own_lines feeds ls c.subs) none;
  role = ap (λ (v : Seer). v.role) same;
  messages = ap (λ (v : Seer). v.messages) same;
  given = ap (λ (v : Seer). v.given) same;
  none = λ own h. left own ∙ list_any-filter own (λ x. not (ends_in ls x.feed)) c.subs h;
  lost = λ own h e. list_any-append_front (is_end_of own) (own_lines feeds ls c.subs) grants
      (lines_end own feeds ls c.subs (taken_away own (λ x. ends_in ls x.feed) c.subs h (sym (left own) ∙ e)));
}
  where
    ts : List Told
    ts = own_lines feeds ls c.subs ++ grants

    same : seer (telling es ts c) ≡ record (seer c) { told = told c ++ ts }
    same = seer-telling es ts c

    left : (own : ℕ) → is_own own (filter (λ x. not (ends_in ls x.feed)) (telling es ts c).subs) ≡ is_own own (filter (λ x. not (ends_in ls x.feed)) c.subs)
    left own = ap (λ (v : Seer). is_own own (filter (λ x. not (ends_in ls x.feed)) v.subs)) same

pub Hears-staying : (c : Client) (g : Gate) (k : Command)
    → Hears c (staying (step g.machine k).lines (telling g.entries (told_of g k.act (step g.machine k) c) c))
Hears-staying c g k = hears_outcome g.feeds (step g.machine k).lines g.entries _ c (by (is_accepted (reply_to g k)))
  where
    by : (b : Bool) → replies (cond b (map granted (granted_by (step g.machine k).state.frame k.act c.role)) []) ≡ []
    by true = replies-granted (granted_by (step g.machine k).state.frame k.act c.role)
    by false = refl

pub hears_stepped : (c : Client) (g : Gate) (es : List Entry) (o : Outcome) → Hears c (staying o.lines (telling es (step_told g o c) c))
hears_stepped c g es o = hears_outcome g.feeds o.lines es (map granted (newly g.machine.frame o.state.frame c.role)) c (replies-granted (newly g.machine.frame o.state.frame c.role))

pub Hears-moved : (c : Client) (t k : ℕ) → Hears c (moved t k c)
Hears-moved c t k = hears_alike c (moved t k c) refl refl refl refl (λ own. list_any-moved_sub t k own c.subs)

-- ---- others

-- what another client does, and what happens besides
apart : (m : ℕ) → Kit m (λ j c d. (m ≡ j → ⊥) → Hears c d)
apart m = record {
  same = λ j c n. Hears-itself c;
  chain = λ j b c d x y n. Hears-trans b c d (x n) (y n);
  hear = λ j c g k n. Hears-staying c g k;
  rest = λ j c es n. Hears-settling es c;
  tell = λ c es t n. absurd (n refl);
  show = λ j c es role line n. hears_one es (made role line) c refl;
  follow = λ c k n. absurd (n refl);
  move = λ c t k n. absurd (n refl);
  close = λ c own n. absurd (n refl);
}

abbrev pub Apart : ℕ → ℕ → Client → Client → Type 0
Apart m j c d = (m ≡ j → ⊥) → Hears c d

same_client : (slots : Slots) (j : ℕ) (c d : Client) → client_at slots j ≡ Some c → client_at slots j ≡ Some d → Hears c d
same_client slots j c d h k = subst (Hears c) (same-Some c d (sym h ∙ k)) (Hears-itself c)

apart_of : (m : ℕ) (slots : Slots) (j : ℕ) (c d : Client) → (m ≡ j → ⊥) → Later (Apart m) slots j c → client_at slots j ≡ Some d → Hears c d
apart_of m slots j c d n p h = subst (Hears c) (same-Some p.now d (sym p.there ∙ h)) (p.so n)

came_apart : (g : Gate) (m : ℕ) (token : List ℕ) (j : ℕ) (c d : Client) (o : Option Token) → token_for g m token ≡ o → client_at g.clients j ≡ Some c
    → client_at (if_some o g (came_as g m)).clients j ≡ Some d → Hears c d
came_apart g m token j c d None e h k = same_client g.clients j c d h k
came_apart g m token j c d (Some t) e h k =
    let i = with_session g t.role in
    let p = to_with m (Apart m) (apart m) g t.role j c h in
    let there : client_at (came_as g m t).clients j ≡ Some p.now = client_at-set_other m j (Some (fresh i.entries t (at_text i t))) i.clients ne ∙ p.there in
    subst (Hears c) (same-Some p.now d (sym there ∙ k)) (p.so ne)
  where
    ne : m ≡ j → ⊥
    ne same = false≢true (sym (is_free-client_at m c g.clients (ap (client_at g.clients) same ∙ h)) ∙ (Opens-token_for g m token t e).free)

heard_apart : (g : Gate) (m : ℕ) (text : List ℕ) (j : ℕ) (c d b : Client) → (m ≡ j → ⊥) → client_at g.clients j ≡ Some c → client_at (hears g m b text).clients j ≡ Some d → Hears c d
heard_apart g m text j c d b ne h k =
    let asked = record g { clients = at_client m (saying text) g.clients } in let did = done_for asked m b text (said_by text) in
    let leads = to_then m (Apart m) (apart m) asked.clients did.clients (settles did).clients (to_done m (Apart m) (apart m) asked b text (said_by text)) (to_settles m (Apart m) (apart m) did) in
    apart_of m (settles did).clients j c d ne (leads j c (client_at-at_other_client m j (saying text) g.clients ne ∙ h)) (sym (client_at-at_other_client m j (answered b) (settles did).clients ne) ∙ k)

said_apart : (g : Gate) (m : ℕ) (text : List ℕ) (j : ℕ) (c d : Client) → heard_by j c (message m text) ≡ None → client_at g.clients j ≡ Some c → client_at (said g m text).clients j ≡ Some d → Hears c d
said_apart g m text j c d u h k = by (m == j) refl u
  where
    test : (m ≡ j → ⊥) → (b : Client) (e : Bool) → client_at (cond e (hears g m b text) g).clients j ≡ Some d → Hears c d
    test ne b true y = heard_apart g m text j c d b ne h y
    test ne b false y = same_client g.clients j c d h y

    other : (m ≡ j → ⊥) → (o : Option Client) → client_at (if_some o g (λ b. cond (may_say b) (hears g m b text) g)).clients j ≡ Some d → Hears c d
    other ne None x = same_client g.clients j c d h x
    other ne (Some b) x = test ne b (may_say b) x

    own : m ≡ j → (e : Bool) → may_say c ≡ e → cond e (Some text) None ≡ None → Hears c d
    own same true t v = absurd (not_None-Some text v)
    own same false t v = same_client g.clients j c d h
        (sym (ap (λ o. client_at (if_some o g (λ b. cond (may_say b) (hears g m b text) g)).clients j) (ap (client_at g.clients) same ∙ h) ∙ ap (λ e. client_at (cond e (hears g m c text) g).clients j) t) ∙ k)

    by : (b : Bool) → (m == j) ≡ b → cond (b && may_say c) (Some text) None ≡ None → Hears c d
    by true e v = own (eqb-true m j e) (may_say c) refl v
    by false e v = other (eqb-false m j e) (client_at g.clients m) k

went_apart : (g : Gate) (m j : ℕ) (c d : Client) → (m ≡ j → ⊥) → client_at g.clients j ≡ Some c → client_at (went g m).clients j ≡ Some d → Hears c d
went_apart g m j c d ne h k = by (client_at g.clients m) k
  where
    left : Gate
    left = record g { clients = set g.clients m None }

    gone_as : (b : Client) → client_at (let i = all_swept left (map (λ s. s.feed) b.subs) in settles (all_rested i (filter (is_of_role b.role) i.seats))).clients j ≡ Some d → Hears c d
    gone_as b x =
        let i = all_swept left (map (λ s. s.feed) b.subs) in let r = all_rested i (filter (is_of_role b.role) i.seats) in
        let leads = to_then m (Apart m) (apart m) left.clients i.clients (settles r).clients (to_all_swept m (Apart m) (apart m) left (map (λ s. s.feed) b.subs))
        (to_then m (Apart m) (apart m) i.clients r.clients (settles r).clients (to_all_rested m (Apart m) (apart m) i (filter (is_of_role b.role) i.seats)) (to_settles m (Apart m) (apart m) r)) in
        apart_of m (settles r).clients j c d ne (leads j c (client_at-set_other m j None g.clients ne ∙ h)) x

    by : (o : Option Client) → client_at (if_some o g (λ b. let i = all_swept left (map (λ s. s.feed) b.subs) in settles (all_rested i (filter (is_of_role b.role) i.seats)))).clients j ≡ Some d → Hears c d
    by None x = same_client g.clients j c d h x
    by (Some b) x = gone_as b x

takes_apart : (g : Gate) (s : Step) (j : ℕ) (c d : Client) → client_at g.clients j ≡ Some c → client_at (takes g s).clients j ≡ Some d → Hears c d
takes_apart g s j c d h k =
    let other : suc j ≡ j → ⊥ = λ e. omega (arith, e) in
    apart_of (suc j) (takes g s).clients j c d other
    (to_takes (suc j) (Apart (suc j)) (apart (suc j)) g s (λ o e i x n. hears_stepped x g (g.entries ++ entry_of s ∷ []) o) j c h) k

is_dropped : (c d : Client) → dropping c ≡ d → d.dropped ≡ false → Hears c d
is_dropped c d e s = absurd (false≢true (sym s ∙ sym (ap (λ (x : Client). x.dropped) e)))

every_made : (f : Client → Client) (slots : Slots) (j : ℕ) (c d : Client) → client_at slots j ≡ Some c → client_at (at_all f slots) j ≡ Some d → f c ≡ d
every_made f slots j c d h k = same-Some (f c) d (ap (option_map f) (sym h) ∙ (sym (client_at-at_all f slots j) ∙ k))

checked_apart : (tokens : List Token) (c d : Client) → checked tokens c ≡ d → d.dropped ≡ false → Hears c d
checked_apart tokens c d e s = by (opens tokens c) e
  where
    by : (b : Bool) → cond b c (dropping c) ≡ d → Hears c d
    by true x = subst (Hears c) x (Hears-itself c)
    by false x = is_dropped c d x s

released_apart : (c d : Client) → released c ≡ d → d.dropped ≡ false → Hears c d
released_apart c d e s = by (c.dropped || is_slow c) e
  where
    by : (b : Bool) → cond b (dropping c) (record c { unsynced = []; sendable = c.sendable ++ c.unsynced }) ≡ d → Hears c d
    by true x = is_dropped c d x s
    by false x = subst (Hears c) x (hears_alike c (record c { unsynced = []; sendable = c.sendable ++ c.unsynced })
        (ap (map (λ (s : Shown). s.told)) (ap (λ z. flat_map (λ ss. ss) c.handed ++ z) (append-nil (c.sendable ++ c.unsynced)))) refl refl refl (λ own. refl))

handed_shown : (c : Client) → all_shown (record c { sendable = []; asked = 0; handed = c.handed ++ c.sendable ∷ [] }) ≡ all_shown c
handed_shown c =
    ap (λ z. z ++ c.unsynced) (flat_map-append (λ ss. ss) c.handed (c.sendable ∷ []) ∙ ap (λ z. flat_map (λ ss. ss) c.handed ++ z) (append-nil c.sendable))
    ∙ append-associative (flat_map (λ ss. ss) c.handed) c.sendable c.unsynced

handing_apart : (c d : Client) → handing c ≡ d → Hears c d
handing_apart c d e = by (length c.sendable == 0) e
  where
    by : (b : Bool) → cond b c (record c { sendable = []; asked = 0; handed = c.handed ++ c.sendable ∷ [] }) ≡ d → Hears c d
    by true x = subst (Hears c) x (Hears-itself c)
    by false x = subst (Hears c) x (hears_alike c (record c { sendable = []; asked = 0; handed = c.handed ++ c.sendable ∷ [] }) (ap (map (λ (s : Shown). s.told)) (handed_shown c)) refl refl refl (λ own. refl))

handed_apart : (g : Gate) (m j : ℕ) (c d : Client) → client_at g.clients j ≡ Some c → client_at (at_client m handing g.clients) j ≡ Some d → Hears c d
handed_apart g m j c d h k = by (m == j) refl
  where
    by : (b : Bool) → (m == j) ≡ b → Hears c d
    by true e = handing_apart c d (same-Some (handing c) d (ap (option_map handing) (sym h) ∙ (sym (client_at-at_client j handing g.clients) ∙ (ap (λ i. client_at (at_client i handing g.clients) j) (sym (eqb-true m j e)) ∙ k))))
    by false e = same_client g.clients j c d h (sym (client_at-at_other_client m j handing g.clients (eqb-false m j e)) ∙ k)

-- by whatever is no message of its own that is heard
pub Hears-happens : (g : Gate) (e : Event) (j : ℕ) (c d : Client) → client_at g.clients j ≡ Some c → client_at (happens g e).clients j ≡ Some d → d.dropped ≡ false → heard_by j c e ≡ None → Hears c d
Hears-happens g (presented m token) j c d h k s u = came_apart g m token j c d (token_for g m token) refl h k
Hears-happens g (message m text) j c d h k s u = said_apart g m text j c d u h k
Hears-happens g (gone m) j c d h k s u = by (m == j) refl
  where
    by : (b : Bool) → (m == j) ≡ b → Hears c d
    by true e = absurd (not_None-Some d (sym k ∙ client_at-is_gone g (gone m) j e))
    by false e = went_apart g m j c d (eqb-false m j e) h k
Hears-happens g (known tokens) j c d h k s u = checked_apart tokens c d (every_made (checked tokens) g.clients j c d h k) s
Hears-happens g ticked j c d h k s u =
    let x = hears_one g.entries alive c refl in
    subst (Hears c) (every_made (beating g.entries) g.clients j c d h k) (record { more = x.more; text = x.text; quiet = x.quiet; role = refl; messages = refl; given = refl; none = x.none; lost = x.lost })
Hears-happens g synced j c d h k s u = released_apart c d (every_made released g.clients j c d h k) s
Hears-happens g (handed m) j c d h k s u = handed_apart g m j c d h k
Hears-happens g (arrived x) j c d h k s u = takes_apart g x j c d h k
Hears-happens g led j c d h k s u = same_client g.clients j c d h k
Hears-happens g forgave j c d h k s u = same_client g.clients j c d h k
Hears-happens g failed j c d h k s u = same_client g.clients j c d h k

-- ---- a session is begun

-- beginning a session tells nobody anything
abbrev pub BeginsQuietly : Gate → Type 0
BeginsQuietly g = (n : ℕ) (role : Name) (c : Client) → told_of g (begin role) (step g.machine (in_session n (begin role))) c ≡ []

-- a session may have been begun for it
pub record Began (g : Gate) (c d : Client) : Type 0 where
  pub hears : Hears c d
  pub first : BeginsQuietly g → hears.more ≡ []

pub Began-itself : (g : Gate) (c : Client) → Began g c c
unfolding Hears-itself hears_alike
Began-itself g c = record { hears = Hears-itself c; first = λ q. refl }

-- a session is begun for it
pub Later-seated : (g : Gate) (n : ℕ) (role : Name) (m : ℕ) (c : Client) → client_at g.clients m ≡ Some c → Later (λ j x y. Began g x y) (seated g n role).clients m c
unfolding Hears-staying hears_outcome
Later-seated g n role m c e =
    let h = record g { seats = g.seats ++ record { session = n; role = role } ∷ [] } in let k = in_session n (begin role) in
    let f : Client → Client = λ d. staying (step h.machine k).lines (telling h.entries (told_of h k.act (step h.machine k) d) d) in
    record {
      now = f c;
      there = client_at-at_all f g.clients m ∙ ap (option_map f) e;
      so = record { hears = Hears-staying c h k; first = λ q. q n role c };
    }

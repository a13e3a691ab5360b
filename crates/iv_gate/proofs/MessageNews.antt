-- What a client is told by a message: nothing of what is read, or what one command of the machine tells.
use Rattle.std.proofs.Common.{◌≡◌, ℕ, ◌+◌, ◌≤◌, Bool, true, false, cond, not, ◌||◌, List, [], ◌∷◌, ◌++◌, length, map, ℤ, Option, Some, None, option_map, refl, ap, ◌∙◌, sym, subst, arith, append-nil}
use Rattle.std.specs.Prelude.{◌==◌, filter, flat_map}
use Rattle.std.specs.List.{AllByRecursion, list_any}
use Rattle.std.proofs.lemmas.Bool.{false≢true, eqb-true, eqb-false}
use Rattle.std.proofs.lemmas.List.{length-append}
use Rattle.std.proofs.lemmas.List.Concat.{flat_map-append}
use Rattle.serde_json.specs.Data.{Data}
use Rattle.iv_rows.specs.Cell.{Cell}
use Rattle.iv_machine.specs.Act.{subscribe, Command, reply, change, Reply, subscribed}
use Rattle.iv_machine.specs.Changing.{opened_by}
use Rattle.iv_machine.specs.Machine.{difference, lines_told, step, Outcome}
use Rattle.iv_machine.specs.Sound.{IsSoundState}
use Rattle.iv_machine.specs.State.{Subscription, shown, State}
use Rattle.iv_message.specs.Told.{Told, changed, granted, opened}
use Rattle.iv_clients.specs.Bounds.{most_subs}
use Rattle.iv_clients.specs.Clients.{Client, Slots, Sub, at_client, client_at, following, own_line, own_lines, staying, telling, told, told_one}
use Rattle.iv_clients.specs.Feeds.{Feed, ends_in}
use Rattle.iv_records.specs.Journal.{Entry, is_shared, shape_for, Request, requests_in}
use Rattle.iv_clients.proofs.Slots.{client_at-at_all, client_at-at_other_client, client_at-at_client}
use Rattle.iv_gate.specs.Gate.{Gate, columns_in, entered, feed_begun, in_session, is_accepted, next_own, ran, reply_in, reply_to, done_in, told_of, entries_of, granted_by, replies_to, reply_told, next_position}
use Rattle.iv_gate.proofs.QuietCommands.{flat_map-own_line, le-step_last}
use Rattle.iv_gate.proofs.GrownTexts.{append-associative}
use Rattle.iv_gate.proofs.NewSubscriptions.{eq-le_next, le-feed_of}
use Rattle.iv_gate.proofs.SoundSteps.{AllByRecursion-map}
use Rattle.iv_gate.proofs.SoundCommands.{IsFollowing, IsSoundClient, IsSoundGate, Seer, any_more, seer, seer-telling}
use Rattle.iv_gate.proofs.CommandLines.{lines-subscribe}
use Rattle.iv_gate.proofs.NumberSums.{eq-false_turned, eq-itself}
use Rattle.iv_gate.proofs.ClientFacts.{Later}
use Rattle.iv_gate.proofs.MessageEffects.{AreCalm, HasAnswered, HasRead, IsDone, IsSaid, answers, asks, opens, le-length_filter, is_news, le-nat_lt, told-told_one, is_news-reply_told, is_made-reply_told}
use Rattle.iv_gate.specs.Laws.{is_made}
use Rattle.iv_gate.proofs.ShapeTexts.{all_made, filter-all_true}
use Rattle.iv_once.specs.Names.{Ask}
use Rattle.iv_access.specs.Rights.{Name}

-- ---- what one client is told by it

pub record IsCalm (c d : Client) : Type 0 where
  pub more : List Told
  pub told : told d ≡ told c ++ more
  pub calm : AreCalm more
  pub unmade : filter is_made more ≡ []

-- what one outcome of the machine tells, which changes what is shared, with what is granted by it; and after that what entries make of the shape
pub record IsToldOutcome (g h : Gate) (o : Outcome) (grants : List Told) (added : List Entry) (c d : Client) : Type 0 where
  pub machine : h.machine ≡ o.state
  pub entries : h.entries ≡ g.entries ++ added
  pub front : List Told
  pub back : List Told
  pub told : told d ≡ told c ++ (front ++ ((own_lines g.feeds o.lines c.subs ++ grants) ++ back))
  pub calm : AreCalm front × AreCalm back
  pub unmade : filter is_made front ≡ []
  pub shape : filter is_made back ≡ shape_for c.role added
  pub subs : d.subs ≡ filter (λ s. not (ends_in o.lines s.feed)) c.subs

-- what a command grants
abbrev pub grants_of : State → Command → Name → List Told
grants_of s k role = let o = step s k in cond (is_accepted (reply_in o.lines)) (map granted (granted_by o.state.frame k.act role)) []

-- of a command
pub record IsToldOf (g h : Gate) (c d : Client) : Type 0 where
  pub command : Command
  pub shared : is_shared command.act ≡ true
  pub said : IsSaid command.act
  pub request : Request
  pub name : Option Ask
  pub asks : request.act ≡ command.act
  pub by : IsToldOutcome g h (step g.machine command) (grants_of g.machine command c.role) (entries_of (next_position g) request name (reply_to g command)) c d

-- the contents of what it reads by its next number
pub record IsToldContents (c d : Client) : Type 0 where
  pub before : List (List Cell)
  pub after : List (List Cell)
  pub front : List Told
  pub back : List Told
  pub told : told d ≡ told c ++ (front ++ (changed (c.given + 1) (difference before after) ∷ back))
  pub calm : AreCalm front × AreCalm back
  pub unmade : (filter is_made front ≡ []) × (filter is_made back ≡ [])
  pub given : c.given + 1 ≤ d.given
  pub follows : list_any (λ (x : Sub). (c.given + 1) == x.own) d.subs ≡ true
  pub some : difference before after ≡ [] → ⊥

pub data Hears (g h : Gate) (c d : Client) : Type 0 where
  quietly : IsCalm c d → requests_in h.entries ≡ requests_in g.entries → Hears g h c d
  by_command : IsToldOf g h c d → Hears g h c d
  by_contents : IsToldContents c d → requests_in h.entries ≡ requests_in g.entries → Hears g h c d

abbrev is_filled : {X : Type 0} → List X → Bool
is_filled [] = false
is_filled (x ∷ xs) = true

pub not_empty : {X : Type 0} (x : X) (xs : List X) → x ∷ xs ≡ [] → ⊥
not_empty x xs e = false≢true (sym (ap is_filled e))

pub IsCalm-same_told : (c d : Client) → told d ≡ told c → IsCalm c d
IsCalm-same_told c d e = record { more = []; told = e ∙ sym (append-nil (told c)); calm = tt; unmade = refl }

pub AreCalm-one : (t : Told) → is_news t ≡ false → AreCalm (t ∷ [])
AreCalm-one t h = (h, tt)

-- ---- a subscribe

no_end : (o : List (List Cell × ℤ)) (e : Subscription) (n : ℕ) (r : Reply) (k : ℕ) → ends_in (reply n r ∷ lines_told None e o) k ≡ false
no_end [] e n r k = refl
no_end (p ∷ ps) e n r k = refl

stay_all : (o : List (List Cell × ℤ)) (e : Subscription) (n : ℕ) (r : Reply) (xs : List Sub) → filter (λ s. not (ends_in (reply n r ∷ lines_told None e o) s.feed)) xs ≡ xs
stay_all o e n r [] = refl
stay_all o e n r (x ∷ xs) =
    let rest = filter (λ s. not (ends_in (reply n r ∷ lines_told None e o) s.feed)) xs in
    ap (λ b. cond (not b) (x ∷ rest) rest) (no_end o e n r x.feed) ∙ ap (λ z. x ∷ z) (stay_all o e n r xs)

change_silent : (feeds : List Feed) (n t : ℕ) (rows : List (List Cell × ℤ)) (xs : List Sub) → AllByRecursion (λ (s : Sub). (t == s.feed) ≡ false) xs → flat_map (own_line feeds (change n t rows)) xs ≡ []
change_silent feeds n t rows [] a = refl
change_silent feeds n t rows (x ∷ xs) a = (λ i. cond (a.0 i) (changed x.own rows ∷ []) [] ++ change_silent feeds n t rows xs a.1 i)

-- who follows others hears nothing of it
others_silent : (feeds : List Feed) (o : List (List Cell × ℤ)) (e : Subscription) (n : ℕ) (r : Reply) (xs : List Sub) → AllByRecursion (λ (s : Sub). (e.number == s.feed) ≡ false) xs
    → own_lines feeds (reply n r ∷ lines_told None e o) xs ≡ []
others_silent feeds [] e n r xs a = ap (λ z. z ++ []) (flat_map-own_line feeds n r xs)
others_silent feeds (p ∷ ps) e n r xs a = (λ i. flat_map-own_line feeds n r xs i ++ (change_silent feeds e.session e.number (p ∷ ps) xs a i ++ []))

-- and who follows it under its newest number hears its rows
abbrev news_of : ℕ → List (List Cell × ℤ) → List Told
news_of own [] = []
news_of own (p ∷ ps) = changed own (p ∷ ps) ∷ []

this_told : (feeds : List Feed) (o : List (List Cell × ℤ)) (e : Subscription) (n : ℕ) (r : Reply) (own : ℕ) (xs : List Sub) → AllByRecursion (λ (s : Sub). (e.number == s.feed) ≡ false) xs
    → own_lines feeds (reply n r ∷ lines_told None e o) (xs ++ record { own = own; feed = e.number } ∷ []) ≡ news_of own o
this_told feeds [] e n r own xs a = ap (λ z. z ++ []) (flat_map-own_line feeds n r (xs ++ record { own = own; feed = e.number } ∷ []))
this_told feeds (p ∷ ps) e n r own xs a =
    (λ i. flat_map-own_line feeds n r (xs ++ record { own = own; feed = e.number } ∷ []) i ++ (this i ++ []))
  where
    this : flat_map (own_line feeds (change e.session e.number (p ∷ ps))) (xs ++ record { own = own; feed = e.number } ∷ []) ≡ changed own (p ∷ ps) ∷ []
    this =
        flat_map-append (own_line feeds (change e.session e.number (p ∷ ps))) xs (record { own = own; feed = e.number } ∷ [])
        ∙ (λ i. change_silent feeds e.session e.number (p ∷ ps) xs a i ++ (cond (eq-itself e.number i) (changed own (p ∷ ps) ∷ []) [] ++ []))

no_names : (b : Bool) → cond b (map granted []) [] ≡ []
no_names true = refl
no_names false = refl

-- what all clients hear of a subscribe that is accepted
module _ (g : Gate) (m : ℕ) (a0 : Client) (h : Gate) (r : HasRead g m a0 h) where
  abbrev i : Gate
  i = r.first

  abbrev t : ℕ
  t = i.machine.frame.last + 1

  abbrev k : Command
  k = in_session r.session (subscribe r.rel)

  abbrev h0 : Gate
  h0 = feed_begun i m r.id r.session r.role r.rel (subscribed t)

  abbrev rows : List (List Cell × ℤ)
  rows = difference (shown i.machine t) (shown (step i.machine k).state t)

  abbrev e0 : Subscription
  e0 = opened_by i.machine.frame r.session r.rel

  lines : (step i.machine k).lines ≡ reply r.session (subscribed (i.machine.frame.last + 1))
      ∷ lines_told None (opened_by i.machine.frame r.session r.rel) (difference (shown i.machine (i.machine.frame.last + 1)) (shown (step i.machine (in_session r.session (subscribe r.rel))).state (i.machine.frame.last + 1)))
  lines = lines-subscribe i.machine r.session r.rel r.accepted r.state

  abbrev hears : Client → Client
  hears x = staying (step i.machine k).lines (telling h0.entries (told_of h0 k.act (step i.machine k) x) x)

  silent : (x : Client) → told_of h0 k.act (step i.machine k) x ≡ own_lines h0.feeds (reply r.session (subscribed t) ∷ lines_told None e0 rows) x.subs
  silent x =
      (λ j. own_lines h0.feeds (lines j) x.subs ++ no_names (is_accepted (reply_in (step i.machine k).lines)) j)
      ∙ append-nil (own_lines h0.feeds (reply r.session (subscribed t) ∷ lines_told None e0 rows) x.subs)

  hears_told : (x : Client) → told (hears x) ≡ told x ++ own_lines h0.feeds (reply r.session (subscribed t) ∷ lines_told None e0 rows) x.subs
  hears_told x = ap (λ (v : Seer). v.told) (seer-telling h0.entries (told_of h0 k.act (step i.machine k) x) x) ∙ ap (λ z. told x ++ z) (silent x)

  hears_subs : (x : Client) → (hears x).subs ≡ x.subs
  hears_subs x =
      ap (λ (v : Seer). filter (λ s. not (ends_in (step i.machine k).lines s.feed)) v.subs) (seer-telling h0.entries (told_of h0 k.act (step i.machine k) x) x)
      ∙ (ap (λ z. filter (λ (s : Sub). not (ends_in z s.feed)) x.subs) lines ∙ stay_all rows e0 r.session (subscribed t) x.subs)

  hears_given : (x : Client) → (hears x).given ≡ x.given
  hears_given x = ap (λ (v : Seer). v.given) (seer-telling h0.entries (told_of h0 k.act (step i.machine k) x) x)

  apart : IsSoundGate g → (x : Client) → IsSoundClient g.machine g.feeds (seer x) → AllByRecursion (λ (s : Sub). (e0.number == s.feed) ≡ false) x.subs
  apart b x a = AllByRecursion-map {P = IsFollowing g.machine g.feeds (seer x)} {Q = λ (s : Sub). (t == s.feed) ≡ false}
      (λ s y. eq-false_turned s.feed t (eq-le_next s.feed i.machine.frame.last (subst (λ z. s.feed ≤ z) (sym r.last) (le-feed_of g b s.feed y.feed y.found)))) x.subs a.follows

  abbrev opening : Client → Client
  opening x = following t (told_one i.entries (opened r.id (next_own i m) (columns_in i.machine r.rel)) x)

  -- who asked
  asker : IsSoundGate g → (x : Client) → IsSoundClient g.machine g.feeds (seer x) → Hears g h x (r.behind.change (hears (opening x)))
  asker b x a = by rows refl
    where
      text : Told
      text = opened r.id (next_own i m) (columns_in i.machine r.rel)

      now : Client
      now = r.behind.change (hears (opening x))

      told_now : (o : List (List Cell × ℤ)) → rows ≡ o → told now ≡ told x ++ (text ∷ news_of (x.given + 1) o)
      told_now o e =
          r.behind.told (hears (opening x)) ∙ (hears_told (opening x)
          ∙ ((λ j. told-told_one i.entries text x j ++ this_told h0.feeds rows e0 r.session (subscribed t) (x.given + 1) x.subs (apart b x a) j)
          ∙ (append-associative (told x) (text ∷ []) (news_of (x.given + 1) rows) ∙ ap (λ z. told x ++ (text ∷ news_of (x.given + 1) z)) e)))

      by : (o : List (List Cell × ℤ)) → rows ≡ o → Hears g h x now
      by [] e = quietly (record { more = text ∷ []; told = told_now [] e; calm = (refl, tt); unmade = refl }) (ap requests_in (r.behind.entries ∙ r.entries))
      by (p ∷ ps) e = by_contents (record {
        before = shown i.machine t;
        after = shown (step i.machine k).state t;
        front = text ∷ [];
        back = [];
        told = told_now (p ∷ ps) e ∙ ap (λ z. told x ++ (text ∷ changed (x.given + 1) z ∷ [])) (sym e);
        calm = ((refl, tt), tt);
        unmade = (refl, refl);
        some = λ z. not_empty p ps (sym e ∙ z);
        given = subst (λ z. x.given + 1 ≤ z) (sym (r.behind.given (hears (opening x)) ∙ hears_given (opening x))) (omega arith);
        follows = r.behind.owns (x.given + 1) (hears (opening x))
            ∙ (ap (list_any (λ (s : Sub). (x.given + 1) == s.own)) (hears_subs (opening x))
            ∙ (any_more (λ (s : Sub). (x.given + 1) == s.own) x.subs (record { own = x.given + 1; feed = t } ∷ []) ∙ found_last (list_any (λ (s : Sub). (x.given + 1) == s.own) x.subs)));
      }) (ap requests_in (r.behind.entries ∙ r.entries))
        where
          found_last : (d : Bool) → (d || (((x.given + 1) == (x.given + 1)) || false)) ≡ true
          found_last true = refl
          found_last false = ap (λ z. z || false) (eq-itself (x.given + 1))

  other : IsSoundGate g → (x : Client) → IsSoundClient g.machine g.feeds (seer x) → Hears g h x (hears x)
  other b x a = quietly (IsCalm-same_told x (hears x) (hears_told x ∙ (ap (λ z. told x ++ z) (others_silent h0.feeds rows e0 r.session (subscribed t) x.subs (apart b x a)) ∙ append-nil (told x)))) (ap requests_in (r.behind.entries ∙ r.entries))

  -- who is there behind it
  pub subscribe_there : (P : Client → Client → Type 0) (j : ℕ) (x : Client) → client_at g.clients j ≡ Some x → (m ≡ j → P x (r.behind.change (hears (opening x)))) → ((m ≡ j → ⊥) → P x (hears x))
      → Later (λ n c d. P c d) h.clients j x
  subscribe_there P j x e this others = by (m == j) refl
    where
      was : client_at i.clients j ≡ Some x
      was = ap (λ z. client_at z j) r.clients ∙ e

      ask : Client → Client
      ask = told_one i.entries (opened r.id (next_own i m) (columns_in i.machine r.rel))

      slots : Slots
      slots = at_client m (told_one i.entries (opened r.id (next_own i m) (columns_in i.machine r.rel))) i.clients

      by : (d : Bool) → (m == j) ≡ d → Later (λ n c y. P c y) h.clients j x
      by true q =
          let same : m ≡ j = eqb-true m j q in
          let first : client_at slots j ≡ Some (ask x) = ap (λ n. client_at (at_client n ask i.clients) j) same ∙ (client_at-at_client j ask i.clients ∙ ap (option_map ask) was) in
          let second : client_at h0.clients j ≡ Some (opening x) =
          ap (λ n. client_at (at_client n (following t) slots) j) same ∙ (client_at-at_client j (following t) slots ∙ ap (option_map (following t)) first) in
          let third : client_at (ran h0 k).clients j ≡ Some (hears (opening x)) = client_at-at_all hears h0.clients j ∙ ap (option_map hears) second in
          record {
            now = r.behind.change (hears (opening x));
            there = ap (λ z. client_at z j) r.behind.clients ∙ (ap (λ n. client_at (at_client n r.behind.change (ran h0 k).clients) j) same
                ∙ (client_at-at_client j r.behind.change (ran h0 k).clients ∙ ap (option_map r.behind.change) third));
            so = this same;
          }
      by false q =
          let ne = eqb-false m j q in
          let second : client_at h0.clients j ≡ Some x =
          client_at-at_other_client m j (following t) slots ne ∙ (client_at-at_other_client m j ask i.clients ne ∙ was) in
          let third : client_at (ran h0 k).clients j ≡ Some (hears x) = client_at-at_all hears h0.clients j ∙ ap (option_map hears) second in
          record {
            now = hears x;
            there = ap (λ z. client_at z j) r.behind.clients ∙ (client_at-at_other_client m j r.behind.change (ran h0 k).clients ne ∙ third);
            so = others ne;
          }

  heard_subscribe : IsSoundGate g → (j : ℕ) (x : Client) → client_at g.clients j ≡ Some x → x.dropped ≡ false → Later (λ n c d. Hears g h c d) h.clients j x
  heard_subscribe b j x e live = subscribe_there (Hears g h) j x e (λ same. asker b x (b.clients j x e live)) (λ ne. other b x (b.clients j x e live))

  bounded_subscribe : (j : ℕ) (x : Client) → client_at g.clients j ≡ Some x → (m ≡ j → length x.subs ≡ length a0.subs) → length x.subs ≤ most_subs → Later (λ n c d. length d.subs ≤ most_subs) h.clients j x
  bounded_subscribe j x e same_many few = subscribe_there (λ c d. length d.subs ≤ most_subs) j x e
      (λ same.
      let many : length (r.behind.change (hears (opening x))).subs ≡ length x.subs + 1 =
      r.behind.many (hears (opening x)) ∙ (ap length (hears_subs (opening x)) ∙ length-append x.subs (record { own = x.given + 1; feed = t } ∷ [])) in
      let l = le-nat_lt (length a0.subs) most_subs r.room in let is = same_many same in
      omega (arith, many, l, is))
      (λ ne. subst (λ (z : List Sub). length z ≤ most_subs) (sym (hears_subs x)) few)

-- ---- an outcome that all hear

-- the lines, what is granted, and what it makes of the shape, after what it was told in front
module _ (g h : Gate) (o : Outcome) (added : List Entry) (machine : h.machine ≡ o.state) (entries : h.entries ≡ g.entries ++ added) (es fs : List Entry) where
  abbrev pub hears_whole : (Client → List Told) → Client → Client
  hears_whole grants y = let z = staying o.lines (telling es (own_lines g.feeds o.lines y.subs ++ grants y) y) in telling fs (shape_for z.role added) z

  pub told_whole : (grants : Client → List Told) (front : List Told) (x y : Client) → grants y ≡ grants x → AreCalm front → filter is_made front ≡ [] → told y ≡ told x ++ front → y.subs ≡ x.subs → y.role ≡ x.role
      → IsToldOutcome g h o (grants x) added x (hears_whole grants y)
  told_whole grants front x y same c unmade t subs role = record {
    machine = machine;
    entries = entries;
    front = front;
    back = back;
    told = ap (λ (v : Seer). v.told) (seer-telling fs back z)
        ∙ (ap (λ w. w ++ back) lines
        ∙ (append-associative (told x) (front ++ (own_lines g.feeds o.lines x.subs ++ grants x)) back
        ∙ ap (λ w. told x ++ w) (append-associative front (own_lines g.feeds o.lines x.subs ++ grants x) back)));
    calm = (c, all_made (λ u. is_news u ≡ false) (λ r line. refl) z.role added);
    unmade = unmade;
    shape = filter-all_true is_made back (all_made (λ u. is_made u ≡ true) (λ r line. refl) z.role added) ∙ ap (λ r. shape_for r added) (z_role ∙ role);
    subs = ap (λ (v : Seer). v.subs) (seer-telling fs back z)
        ∙ (ap (λ (v : Seer). filter (λ w. not (ends_in o.lines w.feed)) v.subs) (seer-telling es ts y) ∙ ap (filter (λ w. not (ends_in o.lines w.feed))) subs);
  }
    where
      ts : List Told
      ts = own_lines g.feeds o.lines y.subs ++ grants y

      z : Client
      z = staying o.lines (telling es (own_lines g.feeds o.lines y.subs ++ grants y) y)

      back : List Told
      back = shape_for (staying o.lines (telling es (own_lines g.feeds o.lines y.subs ++ grants y) y)).role added

      z_role : (staying o.lines (telling es (own_lines g.feeds o.lines y.subs ++ grants y) y)).role ≡ y.role
      z_role = ap (λ (v : Seer). v.role) (seer-telling es ts y)

      lines : told (staying o.lines (telling es (own_lines g.feeds o.lines y.subs ++ grants y) y)) ≡ told x ++ (front ++ (own_lines g.feeds o.lines x.subs ++ grants x))
      lines =
          ap (λ (v : Seer). v.told) (seer-telling es ts y)
          ∙ ((λ i. t i ++ (own_lines g.feeds o.lines (subs i) ++ same i)) ∙ append-associative (told x) front (own_lines g.feeds o.lines x.subs ++ grants x))

-- ---- a request

module _ (g : Gate) (m : ℕ) (id : Option Data) (q : Request) (name : Option Ask) (n : ℕ) (s : is_shared q.act ≡ true) (said : IsSaid q.act) where
  abbrev asking : Command
  asking = in_session n q.act

  abbrev making : List Entry
  making = entries_of (next_position g) q name (reply_to g (in_session n q.act))

  abbrev before : Gate
  before = replies_to g m id q name (reply_to g (in_session n q.act))

  abbrev text : Told
  text = reply_told (entered g (entries_of (next_position g) q name (reply_to g (in_session n q.act)))) id name (reply_to g (in_session n q.act))

  abbrev hears_all : Client → Client
  hears_all x = let k = in_session n q.act in let es = g.entries ++ entries_of (next_position g) q name (reply_to g k) in let z = staying (step g.machine k).lines (telling es (told_of g k.act (step g.machine k) x) x) in
      telling es (shape_for z.role (entries_of (next_position g) q name (reply_to g k))) z

  -- by what it was told in front
  one_hears : (front : List Told) (x y : Client) → AreCalm front → filter is_made front ≡ [] → told y ≡ told x ++ front → y.subs ≡ x.subs → y.role ≡ x.role → Hears g (done_in g m id q name n) x (hears_all y)
  one_hears front x y c unmade h subs role = by_command (record {
    command = in_session n q.act;
    shared = s;
    said = said;
    request = q;
    name = name;
    asks = refl;
    by = told_whole g (done_in g m id q name n) (step g.machine (in_session n q.act)) (entries_of (next_position g) q name (reply_to g (in_session n q.act))) refl refl
        (g.entries ++ entries_of (next_position g) q name (reply_to g (in_session n q.act))) (g.entries ++ entries_of (next_position g) q name (reply_to g (in_session n q.act)))
        (λ w. grants_of g.machine (in_session n q.act) w.role) front x y (ap (grants_of g.machine (in_session n q.act)) role) c unmade h subs role;
  })

  pub request_there : (P : Client → Client → Type 0) (j : ℕ) (x : Client) → client_at g.clients j ≡ Some x
      → (m ≡ j → P x (hears_all (told_one (g.entries ++ entries_of (next_position g) q name (reply_to g (in_session n q.act))) text x))) → ((m ≡ j → ⊥) → P x (hears_all x))
      → Later (λ i c d. P c d) (done_in g m id q name n).clients j x
  request_there P j x t this others = by (m == j) refl
    where
      es : List Entry
      es = g.entries ++ entries_of (next_position g) q name (reply_to g (in_session n q.act))

      hears_lines : Client → Client
      hears_lines y = staying (step g.machine (in_session n q.act)).lines (telling es (told_of g q.act (step g.machine (in_session n q.act)) y) y)

      heard : (y : Client) → client_at before.clients j ≡ Some y → client_at (done_in g m id q name n).clients j ≡ Some (hears_all y)
      heard y h =
          client_at-at_all (λ c. telling es (shape_for c.role making) c) (ran before asking).clients j
          ∙ ap (option_map (λ c. telling es (shape_for c.role making) c)) (client_at-at_all hears_lines before.clients j ∙ ap (option_map hears_lines) h)

      by : (d : Bool) → (m == j) ≡ d → Later (λ i c y. P c y) (done_in g m id q name n).clients j x
      by true e =
          let same = eqb-true m j e in
          let first : client_at before.clients j ≡ Some (told_one es text x) =
          ap (λ i. client_at (at_client i (told_one es text) g.clients) j) same ∙ (client_at-at_client j (told_one es text) g.clients ∙ ap (option_map (told_one es text)) t) in
          record { now = hears_all (told_one es text x); there = heard (told_one es text x) first; so = this same }
      by false e = record {
        now = hears_all x;
        there = heard x (client_at-at_other_client m j (told_one es text) g.clients (eqb-false m j e) ∙ t);
        so = others (eqb-false m j e);
      }

  heard_request : (j : ℕ) (x : Client) → client_at g.clients j ≡ Some x → Later (λ i c d. Hears g (done_in g m id q name n) c d) (done_in g m id q name n).clients j x
  heard_request j x t =
      let h = entered g (entries_of (next_position g) q name (reply_to g (in_session n q.act))) in let r = reply_to g (in_session n q.act) in
      request_there (Hears g (done_in g m id q name n)) j x t
      (λ same. one_hears (text ∷ []) x (told_one (g.entries ++ entries_of (next_position g) q name r) text x) (is_news-reply_told h id name r, tt) (ap (λ b. cond b (text ∷ []) []) (is_made-reply_told h id name r))
      (told-told_one (g.entries ++ entries_of (next_position g) q name r) text x) refl refl)
      (λ ne. one_hears [] x x tt refl (sym (append-nil (told x))) refl refl)

  fewer_heard : (x : Client) → length (hears_all x).subs ≤ length x.subs
  fewer_heard x =
      let k = in_session n q.act in let es = g.entries ++ entries_of (next_position g) q name (reply_to g k) in
      let z = staying (step g.machine k).lines (telling es (told_of g k.act (step g.machine k) x) x) in
      subst (λ (w : List Sub). length w ≤ length x.subs)
      (sym (ap (λ (v : Seer). v.subs) (seer-telling es (shape_for z.role (entries_of (next_position g) q name (reply_to g k))) z)
      ∙ ap (λ (v : Seer). filter (λ s. not (ends_in (step g.machine k).lines s.feed)) v.subs) (seer-telling es (told_of g k.act (step g.machine k) x) x)))
      (le-length_filter (λ s. not (ends_in (step g.machine k).lines s.feed)) x.subs)

  bounded_request : (j : ℕ) (x : Client) → client_at g.clients j ≡ Some x → length x.subs ≤ most_subs → Later (λ i c d. length d.subs ≤ most_subs) (done_in g m id q name n).clients j x
  bounded_request j x t few =
      request_there (λ c d. length d.subs ≤ most_subs) j x t
      (λ same. let l = fewer_heard (told_one (g.entries ++ entries_of (next_position g) q name (reply_to g (in_session n q.act))) text x) in omega (arith, l, few)) (λ ne. let l = fewer_heard x in omega (arith, l, few))

-- ---- any message

heard_answer : (g : Gate) (m : ℕ) (h : Gate) → HasAnswered g m h → (j : ℕ) (x : Client) → client_at g.clients j ≡ Some x → Later (λ n c d. Hears g h c d) h.clients j x
heard_answer g m h a j x t = by (m == j) refl
  where
    by : (d : Bool) → (m == j) ≡ d → Later (λ n c y. Hears g h c y) h.clients j x
    by true q =
        let same = eqb-true m j q in
        record {
          now = a.change x;
          there = ap (λ z. client_at z j) a.clients ∙ (ap (λ n. client_at (at_client n a.change g.clients) j) same ∙ (client_at-at_client j a.change g.clients ∙ ap (option_map a.change) t));
          so = quietly (record { more = a.text ∷ []; told = a.told x; calm = AreCalm-one a.text a.calm; unmade = ap (λ b. cond b (a.text ∷ []) []) a.unmade }) a.entries;
        }
    by false q = record {
      now = x;
      there = ap (λ z. client_at z j) a.clients ∙ (client_at-at_other_client m j a.change g.clients (eqb-false m j q) ∙ t);
      so = quietly (IsCalm-same_told x x refl) a.entries;
    }

pub Later-IsDone : (g : Gate) (m : ℕ) (a : Client) (h : Gate) → IsSoundGate g → IsDone g m a h → (j : ℕ) (x : Client) → client_at g.clients j ≡ Some x → x.dropped ≡ false → Later (λ n c d. Hears g h c d) h.clients j x
Later-IsDone g m c h b (answers a) j x t live = heard_answer g m h a j x t
Later-IsDone g m c h b (asks id q name n s said same) j x t live =
    subst (λ i. Later (λ n y d. Hears g i y d) i.clients j x) (sym same) (heard_request g m id q name n s said j x t)
Later-IsDone g m c h b (opens r) j x t live = heard_subscribe g m c h r b j x t live

-- ---- how many it follows

-- who is bounded before a message is so behind it
pub Later-IsDone_subs : (g : Gate) (m : ℕ) (a : Client) (h : Gate) → IsSoundState g.machine → IsDone g m a h → (j : ℕ) (x : Client) → client_at g.clients j ≡ Some x → (m ≡ j → length x.subs ≡ length a.subs)
    → length x.subs ≤ most_subs → Later (λ n c d. length d.subs ≤ most_subs) h.clients j x
Later-IsDone_subs g m a h b (answers r) j x t asker few = by (m == j) refl
  where
    by : (d : Bool) → (m == j) ≡ d → Later (λ n c y. length y.subs ≤ most_subs) h.clients j x
    by true q =
        let same = eqb-true m j q in let l = r.fewer x in
        record {
          now = r.change x;
          there = ap (λ z. client_at z j) r.clients ∙ (ap (λ n. client_at (at_client n r.change g.clients) j) same ∙ (client_at-at_client j r.change g.clients ∙ ap (option_map r.change) t));
          so = omega (arith, l, few);
        }
    by false q =
        record { now = x; there = ap (λ z. client_at z j) r.clients ∙ (client_at-at_other_client m j r.change g.clients (eqb-false m j q) ∙ t); so = few }
Later-IsDone_subs g m a h b (asks id q name n s said same) j x t asker few =
    subst (λ i. Later (λ n c d. length d.subs ≤ most_subs) i.clients j x) (sym same) (bounded_request g m id q name n s said j x t few)
Later-IsDone_subs g m a h b (opens r) j x t asker few = bounded_subscribe g m a h r j x t asker few

-- ---- numbers of the machine's subscriptions

pub le-IsDone_last : (g : Gate) (m : ℕ) (a : Client) (h : Gate) → IsDone g m a h → h.machine.frame.last ≤ 1 + g.machine.frame.last
le-IsDone_last g m a h (answers r) = let l = r.last in omega (arith, l)
le-IsDone_last g m a h (asks id q name n s said same) = subst (λ (i : Gate). i.machine.frame.last ≤ 1 + g.machine.frame.last) (sym same) (le-step_last g.machine n q.act)
le-IsDone_last g m a h (opens r) =
    let l = le-step_last r.first.machine r.session (subscribe r.rel) in let first = r.last in let behind = r.behind.last in omega (arith, l, first, behind)

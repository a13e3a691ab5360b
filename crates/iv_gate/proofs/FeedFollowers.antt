-- The steps of an event keep each feed followed, by clients of its role.
use Rattle.std.proofs.Common.{◌≡◌, ℕ, zero, suc, ◌+◌, Bool, true, false, not, cond, ◌||◌, List, [], ◌∷◌, ◌++◌, set, Option, Some, None, refl, ap, ◌∙◌, sym, subst, arith, ◌≤◌}
use Rattle.std.specs.Prelude.{◌==◌, filter}
use Rattle.std.specs.List.{AllByRecursion, list_any}
use Rattle.std.proofs.lemmas.Bool.{false≢true, eqb-true, or_left, or_right}
use Rattle.iv_machine.specs.Act.{Act, subscribe, unsubscribe, Command, Line, Refusal}
use Rattle.iv_machine.specs.Changing.{after}
use Rattle.iv_machine.specs.Machine.{outcome, settled, step, Outcome}
use Rattle.iv_machine.specs.Refusing.{refusal}
use Rattle.iv_machine.specs.State.{State}
use Rattle.iv_clients.specs.Clients.{Client, Slots, Sub, at_all, at_client, client_at, is_followed, staying, telling, told}
use Rattle.iv_clients.specs.Feeds.{Feed, ends_in, without_feed}
use Rattle.iv_clients.proofs.Slots.{client_at-at_all, IsFrom-option_map, same-Some, not_None-Some}
use Rattle.iv_gate.specs.Gate.{Gate, in_session, ran, shut, told_of, went_on}
use Rattle.iv_gate.proofs.SoundSteps.{AllByRecursion-map, client_at-one_changed, AllByRecursion-filter}
use Rattle.iv_gate.proofs.SoundCommands.{Seer, AllByRecursion-filter_not, seer, seer-telling}
use Rattle.iv_message.specs.Told.{Told}

-- ---- who follows

pub or-implies : (a b c d : Bool) → (a ≡ true → c ≡ true) → (b ≡ true → d ≡ true) → (a || b) ≡ true → (c || d) ≡ true
or-implies true b c d f g h = ap (λ z. z || d) (f refl)
or-implies false b true d f g h = refl
or-implies false b false d f g h = g h

abbrev pub follows : ℕ → List Sub → Bool
follows k subs = list_any (λ (s : Sub). k == s.feed) subs

pub is_followed-at_all : (k : ℕ) (f : Client → Client) (slots : Slots) → ((c : Client) → follows k c.subs ≡ true → follows k (f c).subs ≡ true) → is_followed k slots ≡ true → is_followed k (at_all f slots) ≡ true
is_followed-at_all k f [] g h = h
is_followed-at_all k f (None ∷ ss) g h = is_followed-at_all k f ss g h
is_followed-at_all k f (Some c ∷ ss) g h = or-implies (follows k c.subs) (is_followed k ss) (follows k (f c).subs) (is_followed k (at_all f ss)) (g c) (is_followed-at_all k f ss g) h

pub is_followed-at_client : (k m : ℕ) (f : Client → Client) (slots : Slots) → ((c : Client) → client_at slots m ≡ Some c → follows k c.subs ≡ true → follows k (f c).subs ≡ true)
    → is_followed k slots ≡ true → is_followed k (at_client m f slots) ≡ true
is_followed-at_client k m f [] g h = h
is_followed-at_client k zero f (None ∷ ss) g h = h
is_followed-at_client k zero f (Some c ∷ ss) g h =
    or-implies (follows k c.subs) (is_followed k ss) (follows k (f c).subs) (is_followed k ss) (g c refl) (λ e. e) h
is_followed-at_client k (suc m) f (None ∷ ss) g h = is_followed-at_client k m f ss g h
is_followed-at_client k (suc m) f (Some c ∷ ss) g h = or-implies (follows k c.subs) (is_followed k ss) (follows k c.subs) (is_followed k (at_client m f ss)) (λ e. e) (is_followed-at_client k m f ss g) h

pub is_followed-at_one : (k m : ℕ) (f : Client → Client) (slots : Slots) (c : Client) → client_at slots m ≡ Some c → follows k (f c).subs ≡ true → is_followed k (at_client m f slots) ≡ true
is_followed-at_one k m f [] c t h = absurd (not_None-Some c (sym t))
is_followed-at_one k zero f (None ∷ ss) c t h = absurd (not_None-Some c (sym t))
is_followed-at_one k zero f (Some d ∷ ss) c t h = or_left (follows k (f d).subs) (is_followed k ss) (ap (λ (x : Client). follows k (f x).subs) (same-Some d c t) ∙ h)
is_followed-at_one k (suc m) f (None ∷ ss) c t h = is_followed-at_one k m f ss c t h
is_followed-at_one k (suc m) f (Some d ∷ ss) c t h = or_right (follows k d.subs) (is_followed k (at_client m f ss)) (is_followed-at_one k m f ss c t h)

-- who goes takes what it follows alone
pub is_followed-set_None : (k m : ℕ) (slots : Slots) (c : Client) → client_at slots m ≡ Some c → follows k c.subs ≡ false → is_followed k slots ≡ true → is_followed k (set slots m None) ≡ true
is_followed-set_None k m [] c t n h = h
is_followed-set_None k zero (None ∷ ss) c t n h = h
is_followed-set_None k zero (Some d ∷ ss) c t n h = by (follows k d.subs) (ap (λ (x : Client). follows k x.subs) (same-Some d c t) ∙ n) h
  where
    by : (b : Bool) → b ≡ false → (b || is_followed k ss) ≡ true → is_followed k ss ≡ true
    by true e g = absurd (false≢true (sym e))
    by false e g = g
is_followed-set_None k (suc m) (None ∷ ss) c t n h = is_followed-set_None k m ss c t n h
is_followed-set_None k (suc m) (Some d ∷ ss) c t n h = or-implies (follows k d.subs) (is_followed k ss) (follows k d.subs) (is_followed k (set ss m None)) (λ e. e) (is_followed-set_None k m ss c t n) h

pub is_followed-set : (k m : ℕ) (x : Option Client) (slots : Slots) → client_at slots m ≡ None → is_followed k slots ≡ true
    → is_followed k (set slots m x) ≡ true
is_followed-set k m x [] t h = h
is_followed-set k zero None (None ∷ ss) t h = h
is_followed-set k zero (Some d) (None ∷ ss) t h = or_right (follows k d.subs) (is_followed k ss) h
is_followed-set k zero x (Some c ∷ ss) t h = absurd (not_None-Some c t)
is_followed-set k (suc m) x (None ∷ ss) t h = is_followed-set k m x ss t h
is_followed-set k (suc m) x (Some d ∷ ss) t h = or-implies (follows k d.subs) (is_followed k ss) (follows k d.subs) (is_followed k (set ss m x)) (λ e. e) (is_followed-set k m x ss t) h

-- ---- in whose role

-- each number that the client follows was given, and a feed of that number is of the client's role
abbrev pub Fits : ℕ → List Feed → Client → Type 0
Fits last fs c = (k : ℕ) → follows k c.subs ≡ true → (k ≤ last) × AllByRecursion (λ (f : Feed). (k == f.number) ≡ true → f.role ≡ c.role) fs

abbrev pub AreFit : ℕ → List Feed → Slots → Type 0
AreFit last fs slots = (m : ℕ) (c : Client) → client_at slots m ≡ Some c → Fits last fs c

-- it follows no more than it did, in the same role
pub record Shrinks (f : Client → Client) : Type 0 where
  pub role : (c : Client) → (f c).role ≡ c.role
  pub fewer : (c : Client) (k : ℕ) → follows k (f c).subs ≡ true → follows k c.subs ≡ true

pub Shrinks-same_subs : (f : Client → Client) → ((c : Client) → (f c).role ≡ c.role) → ((c : Client) → (f c).subs ≡ c.subs) → Shrinks f
Shrinks-same_subs f r s = record { role = r; fewer = λ c k h. sym (ap (follows k) (s c)) ∙ h }

-- some feeds fewer, and a later number
fits_less : (last new : ℕ) (fs gs : List Feed) (c d : Client) → last ≤ new → d.role ≡ c.role → ((k : ℕ) → follows k d.subs ≡ true → follows k c.subs ≡ true)
    → ((P : Feed → Type 0) → AllByRecursion P fs → AllByRecursion P gs) → Fits last fs c → Fits new gs d
fits_less last new fs gs c d l role fewer less a k h =
    let x = a k (fewer k h) in let given = x.0 in (
      omega (arith, l, given),
      subst (λ r. AllByRecursion (λ (f : Feed). (k == f.number) ≡ true → f.role ≡ r) gs) (sym role) (less (λ (f : Feed). (k == f.number) ≡ true → f.role ≡ c.role) x.1),
    )

pub AreFit-at_client : (last : ℕ) (fs : List Feed) (m : ℕ) (f : Client → Client) (slots : Slots) → Shrinks f → AreFit last fs slots → AreFit last fs (at_client m f slots)
AreFit-at_client last fs m f slots s a = client_at-one_changed (λ i c. Fits last fs c) m f slots (λ c h. fits_less last last fs fs c (f c) (omega arith) (s.role c) (s.fewer c) (λ P b. b) (a m c h)) (λ j c ne h. a j c h)

pub AreFit-at_all : (last new : ℕ) (fs gs : List Feed) (f : Client → Client) (slots : Slots) → last ≤ new → ((P : Feed → Type 0) → AllByRecursion P fs → AllByRecursion P gs) → Shrinks f
    → AreFit last fs slots → AreFit new gs (at_all f slots)
AreFit-at_all last new fs gs f slots l less s a m d e =
    let o = IsFrom-option_map f (client_at slots m) d (sym (client_at-at_all f slots m) ∙ e) in
    subst (Fits new gs) o.same (fits_less last new fs gs o.old (f o.old) l (s.role o.old) (s.fewer o.old) less (a m o.old o.there))

pub follows-filter : (k : ℕ) (q : Sub → Bool) (xs : List Sub) → follows k (filter q xs) ≡ true → follows k xs ≡ true
follows-filter k q [] h = h
follows-filter k q (x ∷ xs) h = by (q x) h (follows-filter k q xs)
  where
    by : (b : Bool) → follows k (cond b (x ∷ filter q xs) (filter q xs)) ≡ true → (follows k (filter q xs) ≡ true → follows k xs ≡ true) → ((k == x.feed) || follows k xs) ≡ true
    by true t more = or-implies (k == x.feed) (follows k (filter q xs)) (k == x.feed) (follows k xs) (λ e. e) more t
    by false t more = or_right (k == x.feed) (follows k xs) (more t)

-- ---- what is followed

-- each feed is followed, but for some numbers
abbrev pub AreFollowed : (ℕ → Bool) → List Feed → Slots → Type 0
AreFollowed but fs slots = AllByRecursion (λ (f : Feed). but f.number ≡ false → is_followed f.number slots ≡ true) fs

pub record IsUsing (but : ℕ → Bool) (g : Gate) : Type 0 where
  pub followed : AreFollowed but g.feeds g.clients
  pub fit : AreFit g.machine.frame.last g.feeds g.clients

abbrev pub none_but : ℕ → Bool
none_but k = false

-- ---- a command: who follows

kept_sub : (k : ℕ) (ls : List Line) (xs : List Sub) → ends_in ls k ≡ false → follows k xs ≡ true → follows k (filter (λ (s : Sub). not (ends_in ls s.feed)) xs) ≡ true
kept_sub k ls [] e h = h
kept_sub k ls (x ∷ xs) e h = by (k == x.feed) refl (ends_in ls x.feed) refl h (kept_sub k ls xs e)
  where
    left : List Sub
    left = filter (λ (s : Sub). not (ends_in ls s.feed)) xs

    by : (b : Bool) → (k == x.feed) ≡ b → (d : Bool) → ends_in ls x.feed ≡ d → (b || follows k xs) ≡ true → (follows k xs ≡ true → follows k left ≡ true)
        → follows k (cond (not d) (x ∷ filter (λ (s : Sub). not (ends_in ls s.feed)) xs) (filter (λ (s : Sub). not (ends_in ls s.feed)) xs)) ≡ true
    by true q true w t more = absurd (false≢true (sym e ∙ (ap (ends_in ls) (eqb-true k x.feed q) ∙ w)))
    by true q false w t more = or_left (k == x.feed) (follows k left) q
    by false q true w t more = more t
    by false q false w t more = or_right (k == x.feed) (follows k left) (more t)

went_followed : (but : ℕ → Bool) (g : Gate) (o : Outcome) (ts : Client → List Told) → AreFollowed but g.feeds g.clients → AreFollowed but (went_on g o ts).feeds (went_on g o ts).clients
went_followed but g o ts a =
    AllByRecursion-filter_not (λ (f : Feed). but f.number ≡ false → is_followed f.number (at_all hears g.clients) ≡ true)
    (λ (f : Feed). ends_in o.lines f.number) g.feeds
    (AllByRecursion-map {P = λ (f : Feed). but f.number ≡ false → is_followed f.number g.clients ≡ true}
    {Q = λ (f : Feed). ends_in o.lines f.number ≡ false → but f.number ≡ false → is_followed f.number (at_all hears g.clients) ≡ true}
    (λ f h e n. is_followed-at_all f.number hears g.clients (λ c t. heard f.number c e t) (h n)) g.feeds a)
  where
    hears : Client → Client
    hears c = staying o.lines (telling g.entries (ts c) c)

    heard : (n : ℕ) (c : Client) → ends_in o.lines n ≡ false → follows n c.subs ≡ true → follows n (hears c).subs ≡ true
    heard n c e t = kept_sub n o.lines (telling g.entries (ts c) c).subs e (ap (λ v. follows n v.subs) (seer-telling g.entries (ts c) c) ∙ t)

last_by : (s : State) (k : Command) (o : Option Refusal) → s.frame.last ≤ (outcome s k o).state.frame.last
last_by s k (Some r) = omega arith
last_by s k None = by k.act
  where
    by : (act : Act) → s.frame.last ≤ (settled act (after s k.session act)).frame.last
    by (subscribe rel) = omega arith
    by _ = omega arith

pub last_kept : (s : State) (k : Command) → s.frame.last ≤ (step s k).state.frame.last
last_kept s k = last_by s k (refusal s k.session k.act)

went_fit : (last : ℕ) (g : Gate) (o : Outcome) (ts : Client → List Told) → last ≤ o.state.frame.last → AreFit last g.feeds g.clients → AreFit (went_on g o ts).machine.frame.last (went_on g o ts).feeds (went_on g o ts).clients
went_fit last g o ts l a =
    AreFit-at_all last o.state.frame.last g.feeds (went_on g o ts).feeds hears g.clients l (λ P b. AllByRecursion-filter P (λ (f : Feed). not (ends_in o.lines f.number)) g.feeds b)
    (record { role = λ c. ap (λ (v : Seer). v.role) (seen c); fewer = λ c n h. sym (ap (λ (v : Seer). follows n v.subs) (seen c)) ∙ follows-filter n (λ (s : Sub). not (ends_in o.lines s.feed)) _ h }) a
  where
    hears : Client → Client
    hears c = staying o.lines (telling g.entries (ts c) c)

    seen : (c : Client) → seer (telling g.entries (ts c) c) ≡ record (seer c) { told = told c ++ ts c }
    seen c = seer-telling g.entries (ts c) c

pub IsUsing-went_on : (but : ℕ → Bool) (g : Gate) (o : Outcome) (ts : Client → List Told) → g.machine.frame.last ≤ o.state.frame.last → IsUsing but g → IsUsing but (went_on g o ts)
IsUsing-went_on but g o ts l a = record { followed = went_followed but g o ts a.followed; fit = went_fit g.machine.frame.last g o ts l a.fit }

pub IsUsing-ran : (but : ℕ → Bool) (g : Gate) (k : Command) → IsUsing but g → IsUsing but (ran g k)
IsUsing-ran but g k a = IsUsing-went_on but g (step g.machine k) (told_of g k.act (step g.machine k)) (last_kept g.machine k) a

-- ---- subscriptions that are opened and closed

last_more : (s : State) (n : ℕ) (rel : List ℕ) (o : Option Refusal) → o ≡ None → s.frame.last + 1 ≤ (outcome s (in_session n (subscribe rel)) o).state.frame.last
last_more s n rel None h = omega arith
last_more s n rel (Some r) h = absurd (not_None-Some r h)

-- the new subscription is a feed already, which its client follows
pub IsUsing-subscribe : (g : Gate) (n : ℕ) (rel : List ℕ) → refusal g.machine n (subscribe rel) ≡ None → AreFollowed none_but g.feeds g.clients → AreFit (g.machine.frame.last + 1) g.feeds g.clients
    → IsUsing none_but (ran g (in_session n (subscribe rel)))
IsUsing-subscribe g n rel accepted followed fit = record {
  followed = went_followed none_but g (step g.machine (in_session n (subscribe rel))) (told_of g (subscribe rel) (step g.machine (in_session n (subscribe rel)))) followed;
  fit = went_fit (g.machine.frame.last + 1) g (step g.machine (in_session n (subscribe rel))) (told_of g (subscribe rel) (step g.machine (in_session n (subscribe rel)))) (last_more g.machine n rel (refusal g.machine n (subscribe rel)) accepted) fit;
}

pub IsUsing-shut : (but : ℕ → Bool) (g : Gate) (f : Feed) → AreFollowed but (without_feed f.number g.feeds) g.clients → AreFit g.machine.frame.last g.feeds g.clients → IsUsing but (shut g f)
IsUsing-shut but g f a fit =
    let k = f.number in IsUsing-ran but (record g { feeds = without_feed k g.feeds }) (in_session f.session (unsubscribe k)) (record {
      followed = a;
      fit = λ m c e j i. let x = fit m c e j i in (x.0, AllByRecursion-filter (λ (y : Feed). (j == y.number) ≡ true → y.role ≡ c.role) (λ (y : Feed). not (k == y.number)) g.feeds x.1);
    })

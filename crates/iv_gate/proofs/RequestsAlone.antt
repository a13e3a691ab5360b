-- The machine accepts with nobody there what it accepts among sessions and subscriptions, and changes the same: so requests lead back.
use Rattle.std.proofs.Common.{◌≡◌, ℕ, Bool, true, false, not, cond, List, [], ◌∷◌, Option, Some, None, option_map, is_some, length, refl, ap, ◌∙◌, sym, subst}
use Rattle.std.specs.Prelude.{◌&&◌, option_and_then, unwrap_or}
use Rattle.std.specs.List.{list_all}
use Rattle.std.proofs.lemmas.Bool.{false≢true}
use Rattle.iv_zset.specs.Limits.{within}
use Rattle.iv_algebra.specs.Plans.{Lists}
use Rattle.iv_bind.specs.Catalogs.{CatalogEntry}
use Rattle.iv_access.specs.Access.{role_number}
use Rattle.iv_access.specs.Privileges.{role_of}
use Rattle.iv_access.specs.Rights.{Name, Rights}
use Rattle.iv_machine.specs.Act.{Act, begin, finish, create_role, create_table, create_view, grant, revoke, grant_role, revoke_role, row_security, create_policy, drop_policy, subscribe, unsubscribe, write, Command, Refusal, limit, unknown_role}
use Rattle.iv_machine.specs.Changing.{after}
use Rattle.iv_machine.specs.Machine.{outcome, reply_to, settled, step}
use Rattle.iv_machine.specs.Refusing.{entries_present, first, frame_refusal, or_else, refusal, rows_refusal, session_test, test, tests_by}
use Rattle.iv_machine.specs.State.{State, Frame, Session, Subscription, actor, is_within}
use Rattle.iv_records.specs.Journal.{Request, is_shared}
use Rattle.iv_records.proofs.CutParts.{Found-option_and_then}
use Rattle.iv_clients.proofs.Slots.{same-Some, not_None-Some}
use Rattle.iv_gate.specs.Gate.{in_session, is_accepted, reply_in}
use Rattle.iv_gate.specs.Replies.{ActsAs}
use Rattle.iv_gate.specs.Arriving.{fact_of}
use Rattle.iv_gate.proofs.SoundRequests.{None-is_accepted}
use Rattle.iv_gate.proofs.MachineLists.{None-or_else_first, None-or_else_later}
use Rattle.iv_steps.specs.Steps.{carried, passed, shared}

-- ---- states

-- all that is shared is the same; sessions, subscriptions and their numbers are not
pub record SameShared (s t : State) : Type 0 where
  pub cap : s.frame.cap ≡ t.frame.cap
  pub rights : s.frame.rights ≡ t.frame.rights
  pub catalog : s.frame.catalog ≡ t.frame.catalog
  pub rows : s.rows ≡ t.rows

pub all_same : (s : State) → SameShared s s
all_same s = record { cap = refl; rights = refl; catalog = refl; rows = refl }

pub same_then : (s t u : State) → SameShared s t → SameShared t u → SameShared s u
same_then s t u h k = record { cap = h.cap ∙ k.cap; rights = h.rights ∙ k.rights; catalog = h.catalog ∙ k.catalog; rows = h.rows ∙ k.rows }

-- a state of these parts
abbrev pub state_of : ℕ → Rights → List CatalogEntry → List Session → List Subscription → ℕ → Lists → State
state_of cap R C ss es last T = record { frame = record { cap = cap; rights = R; catalog = C; sessions = ss; subscriptions = es; last = last }; rows = T }

-- nobody is there but the session of a request
abbrev pub alone : ℕ → Rights → List CatalogEntry → ℕ → ℕ → Lists → State
alone cap R C role last T = state_of cap R C (record { number = 1; role = role } ∷ []) [] last T

-- ---- what is accepted

pub is_accepted-reply_to : (f : Frame) (act : Act) → is_accepted (reply_to f act) ≡ true
is_accepted-reply_to f (begin name) = refl
is_accepted-reply_to f finish = refl
is_accepted-reply_to f (create_role name) = refl
is_accepted-reply_to f (create_table name owner columns) = refl
is_accepted-reply_to f (create_view name owner query) = refl
is_accepted-reply_to f (grant rel privileges to) = refl
is_accepted-reply_to f (revoke rel privileges to) = refl
is_accepted-reply_to f (grant_role group to) = refl
is_accepted-reply_to f (revoke_role group to) = refl
is_accepted-reply_to f (row_security rel enable force) = refl
is_accepted-reply_to f (create_policy p) = refl
is_accepted-reply_to f (drop_policy rel name) = refl
is_accepted-reply_to f (subscribe rel) = refl
is_accepted-reply_to f (unsubscribe k) = refl
is_accepted-reply_to f (write entries) = refl

-- what a command leads to that is accepted
abbrev pub changed : State → Command → State
changed s k = settled k.act (after s k.session k.act)

pub accepted_state : (s : State) (k : Command) → refusal s k.session k.act ≡ None → (step s k).state ≡ changed s k
accepted_state s k h = ap (λ o. (outcome s k o).state) h

pub passed-refusal : (s : State) (act : Act) → refusal s 1 act ≡ None → passed act s ≡ Some (changed s (in_session 1 act))
passed-refusal s act h = ap (λ o. cond (is_some o) None (Some (step s (in_session 1 act)).state)) h ∙ ap Some (accepted_state s (in_session 1 act) h)

pub state-refused : (s : State) (k : Command) → is_accepted (reply_in (step s k).lines) ≡ false → (step s k).state ≡ s
state-refused s k h = by (refusal s k.session k.act) h
  where
    by : (o : Option Refusal) → is_accepted (reply_in (outcome s k o).lines) ≡ false → (outcome s k o).state ≡ s
    by None e = absurd (false≢true (sym e ∙ is_accepted-reply_to s.frame k.act))
    by (Some r) e = refl

-- ---- what changes nothing that is shared

plain_changed : (s : State) (n : ℕ) (act : Act) → is_shared act ≡ false → SameShared (settled act (after s n act)) s
plain_changed s n (begin name) h = record { cap = refl; rights = refl; catalog = refl; rows = refl }
plain_changed s n finish h = record { cap = refl; rights = refl; catalog = refl; rows = refl }
plain_changed s n (subscribe rel) h = record { cap = refl; rights = refl; catalog = refl; rows = refl }
plain_changed s n (unsubscribe k) h = record { cap = refl; rights = refl; catalog = refl; rows = refl }
plain_changed s n _ h = absurd (false≢true (sym h))

pub SameShared-step : (s : State) (k : Command) → is_shared k.act ≡ false → SameShared (step s k).state s
SameShared-step s k h = by (refusal s k.session k.act)
  where
    by : (o : Option Refusal) → SameShared (outcome s k o).state s
    by None = plain_changed s k.session k.act h
    by (Some r) = all_same s

-- ---- an entry among others and alone

or_else_later : (o p q : Option Refusal) → (p ≡ None → q ≡ None) → or_else o p ≡ None → or_else o q ≡ None
or_else_later None p q k h = k h
or_else_later (Some r) p q k h = h

-- with no subscription there is no view that may be beyond the limits
fewer : (x y : Bool) → or_else (test (not (x && y)) limit) None ≡ None → or_else (test (not (x && true)) limit) None ≡ None
fewer true y h = refl
fewer false y h = h

-- the tests that look at the frame are those of the rights and the catalog
frame_tests : (cap : ℕ) (R : Rights) (C : List CatalogEntry) (ss : List Session) (es : List Subscription) (last later : ℕ) (T : Lists) (n role : ℕ) (act : Act)
    → is_shared act ≡ true → first (tests_by (state_of cap R C ss es last T).frame n role act) ≡ None
    → frame_refusal (alone cap R C role later T).frame 1 act ≡ None
frame_tests cap R C ss es last later T n role (begin name) x h = absurd (false≢true x)
frame_tests cap R C ss es last later T n role finish x h = absurd (false≢true x)
frame_tests cap R C ss es last later T n role (subscribe rel) x h = absurd (false≢true x)
frame_tests cap R C ss es last later T n role (unsubscribe k) x h = absurd (false≢true x)
frame_tests cap R C ss es last later T n role _ x h = h

-- those that look at rows are fewer
rows_tests : (cap : ℕ) (R : Rights) (C : List CatalogEntry) (ss : List Session) (es : List Subscription) (last later : ℕ) (T : Lists) (n role : ℕ) (act : Act)
    → is_shared act ≡ true → rows_refusal (state_of cap R C ss es last T) n act ≡ None → rows_refusal (alone cap R C role later T) 1 act ≡ None
rows_tests cap R C ss es last later T n role (begin name) x h = absurd (false≢true x)
rows_tests cap R C ss es last later T n role finish x h = absurd (false≢true x)
rows_tests cap R C ss es last later T n role (subscribe rel) x h = absurd (false≢true x)
rows_tests cap R C ss es last later T n role (unsubscribe k) x h = absurd (false≢true x)
rows_tests cap R C ss es last later T n role (write entries) x h =
    let s = state_of cap R C ss es last T in
    or_else_later (entries_present C 1 entries T) _ _
    (fewer (list_all (λ e. within cap ((after s n (write entries)).rows e.rel)) C) (list_all (is_within (after s n (write entries))) es)) h
rows_tests cap R C ss es last later T n role _ x h = refl

both_none : (o p : Option Refusal) → o ≡ None → p ≡ None → or_else o p ≡ None
both_none o p h k = (λ i. or_else (h i) (k i))

still_accepted : (cap : ℕ) (R : Rights) (C : List CatalogEntry) (ss : List Session) (es : List Subscription) (last later : ℕ) (T : Lists) (n role : ℕ) (act : Act)
    → is_shared act ≡ true → actor (state_of cap R C ss es last T).frame n ≡ role
    → refusal (state_of cap R C ss es last T) n act ≡ None → refusal (alone cap R C role later T) 1 act ≡ None
still_accepted cap R C ss es last later T n role act x acts h =
    let s = state_of cap R C ss es last T in let t = alone cap R C role later T in
    let f : first (tests_by s.frame n (actor s.frame n) act) ≡ None = None-or_else_later (session_test s.frame n act) _ (None-or_else_first (frame_refusal s.frame n act) (rows_refusal s n act) h) in
    both_none (frame_refusal t.frame 1 act) (rows_refusal t 1 act)
    (frame_tests cap R C ss es last later T n role act x (subst (λ r. first (tests_by s.frame n r act) ≡ None) acts f))
    (rows_tests cap R C ss es last later T n role act x (None-or_else_later (frame_refusal s.frame n act) (rows_refusal s n act) h))

-- where a request leads that is carried out alone
abbrev pub left : ℕ → Rights → List CatalogEntry → ℕ → ℕ → Lists → Act → State
left cap R C role last T act = settled finish (after (settled act (after (alone cap R C role last T) 1 act)) 1 finish)

-- what is shared is changed alike
left_is_shared : (cap : ℕ) (R : Rights) (C : List CatalogEntry) (ss : List Session) (es : List Subscription) (last : ℕ) (T : Lists) (n role : ℕ) (act : Act)
    → is_shared act ≡ true → left cap R C role 0 T act ≡ shared (settled act (after (state_of cap R C ss es last T) n act))
left_is_shared cap R C ss es last T n role (begin name) x = absurd (false≢true x)
left_is_shared cap R C ss es last T n role finish x = absurd (false≢true x)
left_is_shared cap R C ss es last T n role (subscribe rel) x = absurd (false≢true x)
left_is_shared cap R C ss es last T n role (unsubscribe k) x = absurd (false≢true x)
left_is_shared cap R C ss es last T n role _ x = refl

-- the session can be finished
pub refusal-finish : (cap : ℕ) (R : Rights) (C : List CatalogEntry) (role last : ℕ) (T : Lists) (act : Act) → is_shared act ≡ true
    → refusal (settled act (after (alone cap R C role last T) 1 act)) 1 finish ≡ None
refusal-finish cap R C role last T (begin name) x = absurd (false≢true x)
refusal-finish cap R C role last T finish x = absurd (false≢true x)
refusal-finish cap R C role last T (subscribe rel) x = absurd (false≢true x)
refusal-finish cap R C role last T (unsubscribe k) x = absurd (false≢true x)
refusal-finish cap R C role last T _ x = refl

-- and nobody is left
pub left-shared : (cap : ℕ) (R : Rights) (C : List CatalogEntry) (role : ℕ) (T : Lists) (act : Act) → is_shared act ≡ true → left cap R C role 0 T act ≡ shared (left cap R C role 0 T act)
left-shared cap R C role T act x = let e = left_is_shared cap R C [] [] 0 T 1 role act x in e ∙ ap shared (sym e)

-- ---- one request

-- a session is begun for a role that is known
begins : (cap : ℕ) (R : Rights) (C : List CatalogEntry) (last : ℕ) (T : Lists) (role : Name) (place : ℕ) → role_of R role ≡ Some place
    → refusal (state_of cap R C [] [] last T) 1 (begin role) ≡ None
begins cap R C last T role place known = ap (λ (o : Option ℕ). or_else (or_else (test (not (is_some o)) unknown_role) None) None) known

carried_alone : (cap : ℕ) (R : Rights) (C : List CatalogEntry) (ss : List Session) (es : List Subscription) (last : ℕ) (T : Lists) (n place : ℕ) (q : Request)
    → is_shared q.act ≡ true → role_of R q.role ≡ Some place → actor (state_of cap R C ss es last T).frame n ≡ role_number R q.role
    → refusal (state_of cap R C ss es last T) n q.act ≡ None
    → carried (fact_of q) (state_of cap R C [] [] 0 T) ≡ Some (left cap R C (role_number R q.role) 0 T q.act)
carried_alone cap R C ss es last T n place q x known acts h =
    let role = role_number R q.role in
    let t = state_of cap R C [] [] 0 T in let u = alone cap R C role 0 T in let v = settled q.act (after u 1 q.act) in
    let begun : passed (begin q.role) t ≡ Some u = passed-refusal t (begin q.role) (begins cap R C 0 T q.role place known) in
    let acted : passed q.act u ≡ Some v = passed-refusal u q.act (still_accepted cap R C ss es last 0 T n role q.act x acts h) in
    let ended : passed finish v ≡ Some (left cap R C role 0 T q.act) = passed-refusal v finish (refusal-finish cap R C role 0 T q.act x) in
    ap (λ b. cond b (option_and_then (passed finish) (option_and_then (passed q.act) (passed (begin q.role) t))) None) x
    ∙ (ap (λ o. option_and_then (passed finish) (option_and_then (passed q.act) o)) begun ∙ (ap (option_and_then (passed finish)) acted ∙ ended))

-- what is accepted in a session of the request's role leads, carried out where nobody is, to the same
pub carried-fact_of : (s : State) (n : ℕ) (q : Request) → ActsAs s n q.role → is_shared q.act ≡ true → is_accepted (reply_in (step s (in_session n q.act)).lines) ≡ true
    → carried (fact_of q) (shared s) ≡ Some (shared (step s (in_session n q.act)).state)
carried-fact_of s n q a x y =
    let k = in_session n q.act in let R = s.frame.rights in
    let here : refusal s n q.act ≡ None = None-is_accepted s k (refusal s n q.act) y in
    let number : role_number R q.role ≡ a.place = ap (λ o. unwrap_or o (length R.roles)) a.known in
    let acting : actor s.frame n ≡ a.place = ap (λ (o : Option Session). unwrap_or (option_map (λ (z : Session). z.role) o) (length R.roles)) a.session in
    carried_alone s.frame.cap R s.frame.catalog s.frame.sessions s.frame.subscriptions s.frame.last s.rows n a.place q x a.known (acting ∙ sym number) here
    ∙ ap Some (left_is_shared s.frame.cap R s.frame.catalog s.frame.sessions s.frame.subscriptions s.frame.last s.rows n (role_number R q.role) q.act x
    ∙ ap shared (sym (accepted_state s k here)))

-- what is shared stays by what does not change it
pub shared-SameShared : (s t : State) → SameShared s t → shared s ≡ shared t
shared-SameShared s t a = λ i. record { frame = record { cap = a.cap i; rights = a.rights i; catalog = a.catalog i; sessions = []; subscriptions = []; last = 0 }; rows = a.rows i }

-- ---- what was carried out

record WasPassed (act : Act) (s t : State) : Type 0 where
  accepted : refusal s 1 act ≡ None
  is : t ≡ changed s (in_session 1 act)

was_passed : (act : Act) (s t : State) → passed act s ≡ Some t → WasPassed act s t
was_passed act s t h = by (refusal s 1 act) refl h
  where
    by : (o : Option Refusal) → refusal s 1 act ≡ o → cond (is_some o) None (Some (step s (in_session 1 act)).state) ≡ Some t → WasPassed act s t
    by None e k = record { accepted = e; is = sym (same-Some (step s (in_session 1 act)).state t k) ∙ accepted_state s (in_session 1 act) e }
    by (Some r) e k = absurd (not_None-Some t (sym k))

-- what a request that was carried out where nobody is had accepted, and where it led
pub record WasLed (s t : State) (q : Request) : Type 0 where
  pub shared : is_shared q.act ≡ true
  pub begun : refusal (state_of s.frame.cap s.frame.rights s.frame.catalog [] [] 0 s.rows) 1 (begin q.role) ≡ None
  pub acted : refusal (alone s.frame.cap s.frame.rights s.frame.catalog (role_number s.frame.rights q.role) 0 s.rows) 1 q.act ≡ None
  pub ended : t ≡ left s.frame.cap s.frame.rights s.frame.catalog (role_number s.frame.rights q.role) 0 s.rows q.act

pub WasLed-carried : (s t : State) (q : Request) → carried (fact_of q) (shared s) ≡ Some t → WasLed s t q
WasLed-carried s t q h = by (is_shared q.act) refl h
  where
    by : (b : Bool) → is_shared q.act ≡ b → cond b (option_and_then (passed finish) (option_and_then (passed q.act) (passed (begin q.role) (shared s)))) None ≡ Some t → WasLed s t q
    by false e k = absurd (not_None-Some t (sym k))
    by true e k =
        let R = s.frame.rights in let role = role_number R q.role in
        let u = alone s.frame.cap R s.frame.catalog role 0 s.rows in
        let last = Found-option_and_then (passed finish) (option_and_then (passed q.act) (passed (begin q.role) (shared s))) t k in
        let mid = Found-option_and_then (passed q.act) (passed (begin q.role) (shared s)) last.of last.there in
        let one = was_passed (begin q.role) (shared s) mid.of mid.there in
        let begun : mid.of ≡ u = one.is in
        let two = was_passed q.act u last.of (ap (passed q.act) (sym begun) ∙ mid.is) in
        let three = was_passed finish (changed u (in_session 1 q.act)) t (ap (passed finish) (sym two.is) ∙ last.is) in
        record { shared = e; begun = one.accepted; acted = two.accepted; ended = three.is }

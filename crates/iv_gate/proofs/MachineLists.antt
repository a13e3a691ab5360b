-- What the gateway needs of options, lists, and the commands, relations and subscriptions of the machine.
use Rattle.std.proofs.Common.{◌≡◌, ◌≢◌, ℕ, ◌+◌, ◌≤◌, Bool, true, false, not, cond, ◌||◌, List, [], ◌∷◌, ◌++◌, Option, Some, None, is_some, refl, ap, ◌∙◌, sym, arith}
use Rattle.std.specs.Prelude.{◌==◌, find, filter, flat_map, nat_lt, length}
use Rattle.std.specs.List.{list_any}
use Rattle.std.proofs.lemmas.Bool.{false≢true}
use Rattle.std.proofs.lemmas.Bool.Decides.{nat_tests}
use Rattle.iv_rows.specs.Options.{if_some}
use Rattle.iv_bind.specs.Catalogs.{CatalogEntry, named}
use Rattle.iv_access.specs.Rights.{Name}
use Rattle.iv_machine.specs.Act.{Act, finish, Command, Refusal}
use Rattle.iv_machine.specs.Changing.{insert_subscription}
use Rattle.iv_machine.specs.Machine.{difference, line_for, lines_told}
use Rattle.iv_machine.specs.Reached.{AreGiven}
use Rattle.iv_machine.specs.Refusing.{or_else, test}
use Rattle.iv_machine.specs.State.{State, Subscription, rel_of, shown, subscription_of}
use Rattle.iv_machine.specs.declared.Cause.{Cause}
use Rattle.iv_clients.specs.Feeds.{ends_in, is_end}
use Rattle.iv_clients.proofs.Slots.{not_None-Some}

-- ---- options and lists

pub None-or_else_first : (o p : Option Refusal) → or_else o p ≡ None → o ≡ None
None-or_else_first None p h = refl
None-or_else_first (Some r) p h = absurd (not_None-Some r h)

pub None-or_else_later : (o p : Option Refusal) → or_else o p ≡ None → p ≡ None
None-or_else_later None p h = h
None-or_else_later (Some r) p h = absurd (not_None-Some r h)

pub test-None : (b : Bool) (r : Refusal) → test b r ≡ None → b ≡ false
test-None true r h = absurd (not_None-Some r h)
test-None false r h = refl

pub None-is_some : {X : Type 0} (o : Option X) → is_some o ≡ false → o ≡ None
None-is_some None h = refl
None-is_some (Some x) h = absurd (false≢true (sym h))

pub Some-is_some : {X : Type 0} (o : Option X) → is_some o ≡ true → (x : X) × (o ≡ Some x)
Some-is_some None h = absurd (false≢true h)
Some-is_some (Some x) h = (x, refl)

pub Some-not_is_some : {X : Type 0} (o : Option X) → not (is_some o) ≡ false → (x : X) × (o ≡ Some x)
Some-not_is_some None h = absurd (false≢true (sym h))
Some-not_is_some (Some x) h = (x, refl)

find_kept : {X : Type 0} (p : X → Bool) (xs zs : List X) (x : X) → find p xs ≡ Some x → find p (xs ++ zs) ≡ Some x
find_kept p [] zs x h = absurd (not_None-Some x (sym h))
find_kept p (y ∷ ys) zs x h = by (p y) (λ e. find_kept p ys zs x e) h
  where
    by : (b : Bool) → (find p ys ≡ Some x → find p (ys ++ zs) ≡ Some x) → cond b (Some y) (find p ys) ≡ Some x → cond b (Some y) (find p (ys ++ zs)) ≡ Some x
    by true more e = e
    by false more e = more e

pub find-append : {X : Type 0} (p : X → Bool) (xs zs : List X) (o : Option X) → find p xs ≡ o → is_some o ≡ true → find p (xs ++ zs) ≡ find p xs
find-append p xs zs None e h = absurd (false≢true h)
find-append p xs zs (Some x) e h = find_kept p xs zs x e ∙ sym e

pub find-filter : {X : Type 0} (p q : X → Bool) (xs : List X) → ((x : X) → p x ≡ true → q x ≡ true) → find p (filter q xs) ≡ find p xs
find-filter p q [] k = refl
find-filter p q (y ∷ ys) k = by (q y) refl (p y) refl (find-filter p q ys k)
  where
    by : (b : Bool) → q y ≡ b → (d : Bool) → p y ≡ d → find p (filter q ys) ≡ find p ys → find p (cond b (y ∷ filter q ys) (filter q ys)) ≡ cond d (Some y) (find p ys)
    by true e true f more = ap (λ z. cond z (Some y) (find p (filter q ys))) f
    by true e false f more = ap (λ z. cond z (Some y) (find p (filter q ys))) f ∙ more
    by false e true f more = absurd (false≢true (sym e ∙ k y f))
    by false e false f more = more

some_same : {X : Type 0} (a b : X) → Some a ≡ Some b → a ≡ b
some_same a b h = cc

-- the first that passes p stays the first where it passes q too
pub find-filter_left : {X : Type 0} (p q : X → Bool) (xs : List X) (x : X) → find p xs ≡ Some x → q x ≡ true → find p (filter q xs) ≡ Some x
find-filter_left p q [] x h k = absurd (not_None-Some x (sym h))
find-filter_left p q (y ∷ ys) x h k = by (p y) refl h (q y) refl (λ f. find-filter_left p q ys x f k)
  where
    by : (b : Bool) → p y ≡ b → cond b (Some y) (find p ys) ≡ Some x → (d : Bool) → q y ≡ d → (find p ys ≡ Some x → find p (filter q ys) ≡ Some x) → find p (cond d (y ∷ filter q ys) (filter q ys)) ≡ Some x
    by true e f true g more = ap (λ z. cond z (Some y) (find p (filter q ys))) e ∙ f
    by true e f false g more = absurd (false≢true (sym g ∙ (ap q (some_same y x f) ∙ k)))
    by false e f true g more = ap (λ z. cond z (Some y) (find p (filter q ys))) e ∙ more f
    by false e f false g more = more f

pub true-find : {X : Type 0} (p : X → Bool) (xs : List X) (x : X) → find p xs ≡ Some x → p x ≡ true
true-find p [] x h = absurd (not_None-Some x (sym h))
true-find p (y ∷ ys) x h = by (p y) refl h (true-find p ys x)
  where
    by : (b : Bool) → p y ≡ b → cond b (Some y) (find p ys) ≡ Some x → (find p ys ≡ Some x → p x ≡ true) → p x ≡ true
    by true e f more = ap p (sym (some_same y x f)) ∙ e
    by false e f more = more f

pub true-cond_Some : (b : Bool) (l i : ℕ) → cond b (Some l) None ≡ Some i → (b ≡ true) × (Some l ≡ Some i)
true-cond_Some true l i h = (refl, h)
true-cond_Some false l i h = absurd (not_None-Some i (sym h))

-- ---- commands that finish no session

-- the gateway finishes a session that nobody needs, and none by another command
abbrev pub is_kept : Act → Bool
is_kept finish = false
is_kept _ = true

pub not_finish-is_kept : (k : Command) (n : ℕ) → is_kept k.act ≡ true → k ≢ record { session = n; act = finish }
not_finish-is_kept k n h e = false≢true (ap (λ (x : Command). is_kept x.act) (sym e) ∙ h)

-- ---- relations

-- a relation that is the same has the same number
pub rel_of-named : (old new : List CatalogEntry) (rel : Name) (e : CatalogEntry) → named old rel ≡ Some e → named new rel ≡ Some e → rel_of new rel ≡ rel_of old rel
rel_of-named old new rel e a b = ap (λ o. if_some o (length new) (λ (x : CatalogEntry). x.rel)) b ∙ sym (ap (λ o. if_some o (length old) (λ (x : CatalogEntry). x.rel)) a)

-- ---- subscriptions

-- a subscription keeps standing where it is not closed
pub find-insert_subscription : (k : ℕ) (e x : Subscription) (es : List Subscription) → (k == e.number) ≡ false → find (λ (f : Subscription). k == f.number) es ≡ Some x → find (λ (f : Subscription). k == f.number) (insert_subscription e es) ≡ Some x
find-insert_subscription k e x [] n h = absurd (not_None-Some x (sym h))
find-insert_subscription k e x (f ∷ fs) n h = by (nat_lt e.session f.session) h (find-insert_subscription k e x fs n)
  where
    skip : (d : Bool) → cond d (Some f) (find (λ (y : Subscription). k == y.number) fs) ≡ Some x → (find (λ (y : Subscription). k == y.number) fs ≡ Some x → find (λ (y : Subscription). k == y.number) (insert_subscription e fs) ≡ Some x)
        → cond d (Some f) (find (λ (y : Subscription). k == y.number) (insert_subscription e fs)) ≡ Some x
    skip true g more = g
    skip false g more = more g

    by : (b : Bool) → find (λ (y : Subscription). k == y.number) (f ∷ fs) ≡ Some x → (find (λ (y : Subscription). k == y.number) fs ≡ Some x → find (λ (y : Subscription). k == y.number) (insert_subscription e fs) ≡ Some x)
        → find (λ (y : Subscription). k == y.number) (cond b (e ∷ f ∷ fs) (f ∷ insert_subscription e fs)) ≡ Some x
    by true g more = ap (λ z. cond z (Some e) (find (λ (y : Subscription). k == y.number) (f ∷ fs))) n ∙ g
    by false g more = skip (k == f.number) g more

pub eq-le_last : (k last : ℕ) → k ≤ last → (k == (last + 1)) ≡ false
eq-le_last k last h = grind (arith, nat_tests)

above_all : (last n : ℕ) → n ≤ last → ((last + 1) == n) ≡ false
above_all last n h = grind (arith, nat_tests)

pub find-next_number : (last : ℕ) (es : List Subscription) → AreGiven last es → find (λ (f : Subscription). (last + 1) == f.number) es ≡ None
find-next_number last [] h = refl
find-next_number last (e ∷ es) h = ap (λ z. cond z (Some e) (find (λ (f : Subscription). (last + 1) == f.number) es)) (above_all last e.number h.0) ∙ find-next_number last es h.1

pub le-subscription_of : (last k : ℕ) (x : Subscription) (es : List Subscription) → AreGiven last es → subscription_of es k ≡ Some x → k ≤ last
le-subscription_of last k x [] g h = absurd (not_None-Some x (sym h))
le-subscription_of last k x (e ∷ es) g h = by (k == e.number) refl h (le-subscription_of last k x es g.1)
  where
    same : (a b m : ℕ) → (a == b) ≡ true → b ≤ m → a ≤ m
    same a b m e h = grind (arith, nat_tests)

    by : (b : Bool) → (k == e.number) ≡ b → cond b (Some e) (subscription_of es k) ≡ Some x → (subscription_of es k ≡ Some x → k ≤ last) → k ≤ last
    by true q f more = same k e.number last q g.0
    by false q f more = more f

-- ---- what ends is told

or_right : (b c : Bool) → c ≡ true → (b || c) ≡ true
or_right true c h = refl
or_right false c h = h

pub list_any-append : {X : Type 0} (p : X → Bool) (xs ys : List X) → list_any p (xs ++ ys) ≡ (list_any p xs || list_any p ys)
list_any-append p [] ys = refl
list_any-append p (x ∷ xs) ys = by (p x) (list_any-append p xs ys)
  where
    by : (b : Bool) → list_any p (xs ++ ys) ≡ (list_any p xs || list_any p ys) → (b || list_any p (xs ++ ys)) ≡ ((b || list_any p xs) || list_any p ys)
    by true h = refl
    by false h = h

pub ends_in-subscription_of : (k : ℕ) (old new : State) (ends : Subscription → Option Cause) (es : List Subscription) (x : Subscription) → subscription_of es k ≡ Some x → is_some (ends x) ≡ true
    → ends_in (flat_map (line_for old new ends) es) k ≡ true
ends_in-subscription_of k old new ends [] x h w = absurd (not_None-Some x (sym h))
ends_in-subscription_of k old new ends (e ∷ es) x h w =
    list_any-append (is_end k) (line_for old new ends e) (flat_map (line_for old new ends) es) ∙ by (k == e.number) refl h
    (λ f. ends_in-subscription_of k old new ends es x f w)
  where
    one : (o : Option Cause) → is_some o ≡ true → (k == e.number) ≡ true → list_any (is_end k) (lines_told o e (difference (shown old e.number) (shown new e.number))) ≡ true
    one None v q = absurd (false≢true v)
    one (Some why) v q = ap (λ b. b || false) q

    by : (b : Bool) → (k == e.number) ≡ b → cond b (Some e) (subscription_of es k) ≡ Some x → (subscription_of es k ≡ Some x → ends_in (flat_map (line_for old new ends) es) k ≡ true)
        → (list_any (is_end k) (line_for old new ends e) || list_any (is_end k) (flat_map (line_for old new ends) es)) ≡ true
    by true q f more = ap (λ b. b || list_any (is_end k) (flat_map (line_for old new ends) es)) (one (ends e) (ap (λ z. is_some (ends z)) (some_same e x f) ∙ w) q)
    by false q f more = or_right _ _ (more f)

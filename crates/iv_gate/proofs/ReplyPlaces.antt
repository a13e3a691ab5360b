-- Lists that grow at their end, and the replies among what is told.
use Rattle.std.proofs.Common.{◌≡◌, ℕ, zero, suc, Bool, true, false, cond, ◌||◌, List, [], ◌∷◌, ◌++◌, length, map, Some, None, refl, ap, ◌∙◌, sym, arith}
use Rattle.std.specs.Prelude.{◌==◌, Contains, filter, flat_map, slice_get}
use Rattle.std.specs.List.{list_any}
use Rattle.std.proofs.lemmas.Bool.{false≢true}
use Rattle.std.proofs.lemmas.List.Elements.{filter-append}
use Rattle.iv_access.specs.Rights.{Name}
use Rattle.iv_machine.specs.Act.{Act, Line, reply, change, ended}
use Rattle.iv_machine.specs.Machine.{Outcome}
use Rattle.iv_message.specs.Told.{Told, welcome, replied, opened, fault, unasked, changed, over, settled, granted, made, alive, placed, answered, undecided, denied}
use Rattle.iv_clients.specs.Clients.{Client, Sub, own_line, own_lines}
use Rattle.iv_clients.specs.Feeds.{Feed, rel_read}
use Rattle.iv_gate.specs.Gate.{Gate, granted_by, is_accepted, reply_in, told_of}
use Rattle.iv_gate.specs.Replies.{is_opened, is_reply, replies}

-- ---- lists

-- what stands at a place stays there
pub slice_get-append : {X : Type 0} (xs ys : List X) (i : ℕ) (x : X) → slice_get xs i ≡ Some x → slice_get (xs ++ ys) i ≡ Some x
slice_get-append [] ys i x h = absurd (none_some x h)
  where
    none_some : {X : Type 0} (x : X) → None ≡ Some x → ⊥
    none_some x e = cc
slice_get-append (y ∷ xs) ys zero x h = h
slice_get-append (y ∷ xs) ys (suc i) x h = slice_get-append xs ys i x h

pub slice_get-append_length : {X : Type 0} (xs : List X) (y : X) (ys : List X) → slice_get (xs ++ y ∷ ys) (length xs) ≡ Some y
slice_get-append_length [] y ys = refl
slice_get-append_length (x ∷ xs) y ys = slice_get-append_length xs y ys

pub or_true : (b : Bool) → (b || true) ≡ true
or_true true = refl
or_true false = refl

pub any_of_both : {X : Type 0} (p : X → Bool) (xs ys : List X) → list_any p (xs ++ ys) ≡ (list_any p xs || list_any p ys)
any_of_both p [] ys = refl
any_of_both p (x ∷ xs) ys = by (p x) (any_of_both p xs ys)
  where
    by : (b : Bool) → list_any p (xs ++ ys) ≡ (list_any p xs || list_any p ys) → (b || list_any p (xs ++ ys)) ≡ ((b || list_any p xs) || list_any p ys)
    by true h = refl
    by false h = h

pub list_any-append_front : {X : Type 0} (p : X → Bool) (xs ys : List X) → list_any p xs ≡ true → list_any p (xs ++ ys) ≡ true
list_any-append_front p xs ys h = any_of_both p xs ys ∙ ap (λ b. b || list_any p ys) h

pub list_any-append_back : {X : Type 0} (p : X → Bool) (xs ys : List X) → list_any p ys ≡ true → list_any p (xs ++ ys) ≡ true
list_any-append_back p xs ys h = any_of_both p xs ys ∙ (ap (λ b. list_any p xs || b) h ∙ or_true (list_any p xs))

-- ---- replies

pub replies-append : (xs ys : List Told) → replies (xs ++ ys) ≡ replies xs ++ replies ys
replies-append xs ys = filter-append is_reply xs ys

pub replies-none : (xs ys : List Told) → replies xs ≡ [] → replies ys ≡ [] → replies (xs ++ ys) ≡ []
replies-none xs ys h k = replies-append xs ys ∙ (λ i. h i ++ k i)

line_replies : (feeds : List Feed) (l : Line) (s : Sub) → replies (own_line feeds l s) ≡ []
line_replies feeds (reply n r) s = refl
line_replies feeds (change n k rows) s = by (k == s.feed)
  where
    by : (b : Bool) → replies (cond b (changed s.own rows ∷ []) []) ≡ []
    by true = refl
    by false = refl
line_replies feeds (ended n k why rows) s = by (k == s.feed)
  where
    by : (b : Bool) → replies (cond b (over s.own (rel_read feeds k) why rows ∷ []) []) ≡ []
    by true = refl
    by false = refl

subs_reply : (feeds : List Feed) (l : Line) (xs : List Sub) → replies (flat_map (own_line feeds l) xs) ≡ []
subs_reply feeds l [] = refl
subs_reply feeds l (x ∷ xs) = replies-none (own_line feeds l x) (flat_map (own_line feeds l) xs) (line_replies feeds l x) (subs_reply feeds l xs)

pub replies-own_lines : (feeds : List Feed) (ls : List Line) (xs : List Sub) → replies (own_lines feeds ls xs) ≡ []
replies-own_lines feeds [] xs = refl
replies-own_lines feeds (l ∷ ls) xs =
    replies-none (flat_map (own_line feeds l) xs) (own_lines feeds ls xs) (subs_reply feeds l xs) (replies-own_lines feeds ls xs)

pub replies-granted : (names : List Name) → replies (map granted names) ≡ []
replies-granted [] = refl
replies-granted (n ∷ names) = replies-granted names

-- what a client is told of a command is no reply
pub replies-told_of : (g : Gate) (act : Act) (o : Outcome) (c : Client) → replies (told_of g act o c) ≡ []
replies-told_of g act o c = replies-none (own_lines g.feeds o.lines c.subs) _ (replies-own_lines g.feeds o.lines c.subs) (by (is_accepted (reply_in o.lines)))
  where
    by : (b : Bool) → replies (cond b (map granted (granted_by o.state.frame act c.role)) []) ≡ []
    by true = replies-granted (granted_by o.state.frame act c.role)
    by false = refl

-- a subscription is opened by a reply
opens_reply : (t : Told) → is_reply t ≡ false → is_opened t ≡ false
opens_reply (welcome role) h = refl
opens_reply (replied id r) h = refl
opens_reply (opened id own columns) h = absurd (false≢true (sym h))
opens_reply (fault number) h = refl
opens_reply (unasked id why) h = refl
opens_reply (changed own rows) h = refl
opens_reply (over own rel why rows) h = refl
opens_reply settled h = refl
opens_reply (granted rel) h = refl
opens_reply (made role line) h = refl
opens_reply alive h = refl
opens_reply (placed at) h = refl
opens_reply (answered id again at answer) h = refl
opens_reply (undecided id number) h = refl
opens_reply (denied id number) h = refl

cons_none : {X : Type 0} (x : X) (xs : List X) → x ∷ xs ≡ [] → ⊥
cons_none x xs h = cc

pub filter-no_replies : (ts : List Told) → replies ts ≡ [] → filter is_opened ts ≡ []
filter-no_replies [] h = refl
filter-no_replies (t ∷ ts) h = by (is_reply t) refl h (filter-no_replies ts)
  where
    by : (b : Bool) → is_reply t ≡ b → cond b (t ∷ replies ts) (replies ts) ≡ [] → (replies ts ≡ [] → filter is_opened ts ≡ []) → filter is_opened (t ∷ ts) ≡ []
    by true e k more = absurd (cons_none t (replies ts) k)
    by false e k more = ap (λ z. cond z (t ∷ filter is_opened ts) (filter is_opened ts)) (opens_reply t e) ∙ more k

-- what stands in a list passes no test that none of it passes
pub not_nothing-filter : {X : Type 0} (p : X → Bool) (xs : List X) (x : X) → Contains xs x → p x ≡ true → filter p xs ≡ [] → ⊥
not_nothing-filter p [] x c t h = absurd (let no : ⊥ = omega (arith, c.1) in no)
not_nothing-filter p (y ∷ ys) x (zero, k, e) t h = by (p y) (ap p e ∙ t) h
  where
    by : (b : Bool) → b ≡ true → cond b (y ∷ filter p ys) (filter p ys) ≡ [] → ⊥
    by true e k = cons_none y (filter p ys) k
    by false e k = false≢true e
not_nothing-filter p (y ∷ ys) x (suc i, k, e) t h = by (p y) h (not_nothing-filter p ys x (i, omega (arith, k), e) t)
  where
    by : (b : Bool) → cond b (y ∷ filter p ys) (filter p ys) ≡ [] → (filter p ys ≡ [] → ⊥) → ⊥
    by true k more = cons_none y (filter p ys) k
    by false k more = more k

-- What is told of a name is what the laws let be told: it may be done, has to wait, has its answer, or is barred.
use Rattle.std.proofs.Common.{◌≡◌, ◌⊎◌, inl, inr, ℕ, zero, suc, ◌+◌, ◌<◌, ◌≤◌, Bool, true, false, cond, not, ◌||◌, List, [], ◌∷◌, ◌++◌, take, Option, Some, None, is_some, refl, ap, ◌∙◌, sym, subst, arith, append-nil}
use Rattle.std.specs.Prelude.{◌&&◌, ◌≢◌, Contains, bytes_eq, drop, filter, nat_le, nat_lt, reverse}
use Rattle.std.specs.List.{AllByRecursion}
use Rattle.std.proofs.lemmas.Bool.{ltb-true, false≢true}
use Rattle.std.proofs.lemmas.List.{reverse-append}
use Rattle.std.proofs.lemmas.List.Elements.{All-contains, All-from_recursion, Contains-append_left, Contains-append_right, Contains-push}
use Rattle.iv_records.specs.Journal.{names_in}
use Rattle.iv_records.specs.Names.{limits}
use Rattle.iv_once.specs.Laws.{Among}
use Rattle.iv_once.specs.Names.{Ask, Known, Named, Own, find_named, is_over, is_place, learned, named, own_of, spent_by}
use Rattle.iv_once.proofs.HolderEntries.{Among-find_named}
use Rattle.iv_once.proofs.Lists.{Among-append, Among-take, and-both_true, append-associative, bytes_eq-itself, is_place-itself, le-nat_le, le-nat_lt_false, lt-nat_le_false, not_None-Some, same-Some, same-bytes_eq, same-is_place, take-take_more}
use Rattle.iv_gate.specs.Arriving.{first_known, is_new, not_new}
use Rattle.iv_gate.specs.Gate.{Gate, Log, known_at, known_by, known_of, names_of, number_here, place_at, spent_in, is_follower}
use Rattle.iv_gate.specs.Replies as replies
use Rattle.iv_gate.specs.Replies.{HasToWait, IsAnswer, IsBarred, MayBeDone, NoneAnswers, another, count_of, elsewhere, foreign, foreign_yet, late, many, names_by, refused_by, refused_often, remembered_by}
use Rattle.iv_gate.proofs.NameVerdicts.{IsFree, IsUsed, count_is, epoch_is, found_in_more, own_at, own_other, own_same, spent_by-count_by, used_first, used_more}
use Rattle.iv_gate.proofs.NumberSums.{or-both_false}

abbrev names_with : List ℕ → List Named → List Named
names_with holder es = filter (λ e. bytes_eq e.ask.holder holder) es

-- each name of the journal was new at its turn
abbrev pub AreNew : Gate → Type 0
AreNew g = first_known 1 (names_in g.entries) (known_at g.head) ≡ None

-- ---- what is kept of a holder is the last of its names in the journal

take-append_take : {X : Type 0} (m n : ℕ) (a b : List X) → m ≤ n → take m (a ++ take n b) ≡ take m (a ++ b)
take-append_take zero n a b l = refl
take-append_take (suc m) n [] b l = take-take_more (suc m) n b l
take-append_take (suc m) n (x ∷ a) b l = ap (λ z. x ∷ z) (take-append_take m n a b (omega (arith, l)))

reverse-cons_append : (e : Named) (a b : List Named) → reverse a ++ (e ∷ b) ≡ reverse (e ∷ a) ++ b
reverse-cons_append e a b = sym (ap (λ z. z ++ b) (reverse-append (e ∷ []) a) ∙ append-associative (reverse a) (e ∷ []) b)

recent_known : (es : List Named) (k : Known) (holder : List ℕ) → take 64 (own_of k holder).recent ≡ (own_of k holder).recent
    → (own_of (known_by k es) holder).recent ≡ take 64 (reverse (names_with holder es) ++ (own_of k holder).recent)
recent_known [] k holder h = sym h
recent_known (e ∷ es) k holder h = by (bytes_eq e.ask.holder holder) refl (recent_known es (learned limits (named e) k) holder)
  where
    o : Own
    o = own_of k holder

    more : Known
    more = learned limits (named e) k

    by : (d : Bool) → bytes_eq e.ask.holder holder ≡ d
        → (take 64 (own_of (learned limits (named e) k) holder).recent ≡ (own_of (learned limits (named e) k) holder).recent
        → (own_of (known_by (learned limits (named e) k) es) holder).recent ≡ take 64 (reverse (names_with holder es) ++ (own_of (learned limits (named e) k) holder).recent))
        → (own_of (known_by (learned limits (named e) k) es) holder).recent ≡ take 64 (reverse (cond d (e ∷ names_with holder es) (names_with holder es)) ++ (own_of k holder).recent)
    by true q rest =
        let same : (own_of more holder).recent ≡ take 64 (e ∷ o.recent) = ap (λ (x : Own). x.recent) (own_same e k holder q) in
        let short : take 64 (own_of more holder).recent ≡ (own_of more holder).recent = subst (λ z. take 64 z ≡ z) (sym same) (take-take_more 64 64 (e ∷ o.recent) (omega arith)) in
        rest short
        ∙ (ap (λ z. take 64 (reverse (names_with holder es) ++ z)) same
        ∙ (take-append_take 64 64 (reverse (names_with holder es)) (e ∷ o.recent) (omega arith)
        ∙ ap (take 64) (reverse-cons_append e (names_with holder es) o.recent)))
    by false q rest =
        let same : (own_of more holder).recent ≡ o.recent = ap (λ (x : Own). x.recent) (own_other e k holder q) in
        rest (subst (λ z. take 64 z ≡ z) (sym same) h) ∙ ap (λ z. take 64 (reverse (names_with holder es) ++ z)) same

pub recent-remembered_by : (g : Gate) (holder : List ℕ) → (own_of (known_of g) holder).recent ≡ remembered_by g holder
recent-remembered_by g holder =
    let none : (own_of (known_at g.head) holder).recent ≡ [] = ap (λ (o : Own). o.recent) (own_at g.head holder) in
    recent_known (names_in g.entries) (known_at g.head) holder (subst (λ z. take 64 z ≡ z) (sym none) refl)
    ∙ (ap (λ z. take 64 (reverse (names_by g holder) ++ z)) none ∙ ap (take 64) (append-nil (reverse (names_by g holder))))

among_filtered : (p : Named → Bool) (x : Named) (xs : List Named) → Among x (filter p xs) → Among x xs × (p x ≡ true)
among_filtered p x [] h = absurd h
among_filtered p x (y ∷ ys) h = by (p y) refl h (among_filtered p x ys)
  where
    by : (b : Bool) → p y ≡ b → Among x (cond b (y ∷ filter p ys) (filter p ys)) → (Among x (filter p ys) → Among x ys × (p x ≡ true)) → Among x (y ∷ ys) × (p x ≡ true)
    by true e (inl i) more = (inl i, ap p (sym i) ∙ e)
    by true e (inr i) more = let m = more i in (inr m.0, m.1)
    by false e i more = let m = more i in (inr m.0, m.1)

contains_among : (x : Named) (xs : List Named) → Among x xs → Contains xs x
contains_among x [] h = absurd h
contains_among x (y ∷ ys) (inl h) = subst (λ z. Contains (z ∷ ys) x) (sym h) (Contains-append_left (x ∷ []) ys x (Contains-push [] x))
contains_among x (y ∷ ys) (inr h) = Contains-append_right (y ∷ []) ys x (contains_among x ys h)

-- ---- elements

each_among : (xs ys : List Named) → ((y : Named) → Among y ys → Among y xs) → AllByRecursion (λ y. Among y xs) ys
each_among xs [] f = tt
each_among xs (y ∷ ys) f = (f y (inl refl), each_among xs ys (λ z h. f z (inr h)))

Among-Contains : (x : Named) (xs : List Named) → Contains xs x → Among x xs
Among-Contains x xs h = All-contains (λ y. Among y xs) xs x (All-from_recursion (λ y. Among y xs) xs (each_among xs xs (λ y i. i))) h

Among-recent : (g : Gate) (holder : List ℕ) (x : Named) → Contains (remembered_by g holder) x → Among x (own_of (known_of g) holder).recent
Among-recent g holder x h = subst (Among x) (sym (recent-remembered_by g holder)) (Among-Contains x (remembered_by g holder) h)

Contains-remembered_by : (g : Gate) (holder : List ℕ) (x : Named) → Among x (own_of (known_of g) holder).recent → Contains (remembered_by g holder) x
Contains-remembered_by g holder x h = contains_among x (remembered_by g holder) (subst (Among x) (recent-remembered_by g holder) h)

Among-reverse : (x : Named) (xs : List Named) → Among x (reverse xs) → Among x xs
Among-reverse x [] h = h
Among-reverse x (e ∷ es) h = by (Among-append x (reverse es) (e ∷ []) (subst (Among x) (reverse-append (e ∷ []) es) h)) (Among-reverse x es)
  where
    by : Among x (reverse es) ⊎ Among x (e ∷ []) → (Among x (reverse es) → Among x es) → Among x (e ∷ es)
    by (inl i) rest = inr (rest i)
    by (inr (inl i)) rest = inl i
    by (inr (inr i)) rest = absurd i

-- what is remembered is a name of the holder's
Among-take_reverse : (n : ℕ) (x : Named) (xs : List Named) → Among x (take n (reverse xs)) → Among x xs
Among-take_reverse n x xs h = Among-reverse x xs (Among-take n x (reverse xs) h)

-- ---- of names that were new each at its turn none is remembered twice

abbrev AreApart : List Named → Type 0
AreApart [] = Unit {0}
AreApart (e ∷ es) = (find_named e.ask.name es ≡ None) × AreApart es

not_found-take : (n : ℕ) (name : List ℕ) (es : List Named) → find_named name es ≡ None → find_named name (take n es) ≡ None
not_found-take zero name es h = refl
not_found-take (suc n) name [] h = refl
not_found-take (suc n) name (e ∷ es) h = by (bytes_eq e.ask.name name) h (λ k. not_found-take n name es k)
  where
    by : (b : Bool) → cond b (Some e) (find_named name es) ≡ None → (find_named name es ≡ None → find_named name (take n es) ≡ None) → cond b (Some e) (find_named name (take n es)) ≡ None
    by true k more = absurd (not_None-Some e k)
    by false k more = more k

AreApart-take : (n : ℕ) (es : List Named) → AreApart es → AreApart (take n es)
AreApart-take zero es h = tt
AreApart-take (suc n) [] h = tt
AreApart-take (suc n) (e ∷ es) h = (not_found-take n e.ask.name es h.0, AreApart-take n es h.1)

-- a name that is there is found
is_found : (x : Named) (es : List Named) → Among x es → is_some (find_named x.ask.name es) ≡ true
is_found x [] h = absurd h
is_found x (e ∷ es) (inl h) = ap (λ b. is_some (cond b (Some e) (find_named x.ask.name es))) (ap (λ (z : Named). bytes_eq z.ask.name x.ask.name) h ∙ bytes_eq-itself x.ask.name)
is_found x (e ∷ es) (inr h) = by (bytes_eq e.ask.name x.ask.name) (is_found x es h)
  where
    by : (b : Bool) → is_some (find_named x.ask.name es) ≡ true → is_some (cond b (Some e) (find_named x.ask.name es)) ≡ true
    by true k = refl
    by false k = k

not_found : (x : Named) (es : List Named) → Among x es → find_named x.ask.name es ≡ None → ⊥
not_found x es h n = false≢true (sym (ap is_some n) ∙ is_found x es h)

find_named-AreApart : (x : Named) (es : List Named) → AreApart es → Among x es → find_named x.ask.name es ≡ Some x
find_named-AreApart x [] a h = absurd h
find_named-AreApart x (e ∷ es) a (inl h) =
    ap (λ b. cond b (Some e) (find_named x.ask.name es)) (ap (λ (z : Named). bytes_eq z.ask.name x.ask.name) h ∙ bytes_eq-itself x.ask.name) ∙ ap Some h
find_named-AreApart x (e ∷ es) a (inr h) = by (bytes_eq e.ask.name x.ask.name) refl (find_named-AreApart x es a.1 h)
  where
    by : (b : Bool) → bytes_eq e.ask.name x.ask.name ≡ b → find_named x.ask.name es ≡ Some x → cond b (Some e) (find_named x.ask.name es) ≡ Some x
    by true q k = absurd (not_found x es h (subst (λ n. find_named n es ≡ None) (same-bytes_eq e.ask.name x.ask.name q) a.0))
    by false q k = k

-- what is new, in parts
record IsFresh (k : Known) (e : Named) : Type 0 where
  none : find_named e.ask.name (own_of k e.ask.holder).recent ≡ None
  reached : e.ask.at.count ≤ (own_of k e.ask.holder).count

fresh_is : (k : Known) (e : Named) → is_new k e.ask ≡ true → IsFresh k e
fresh_is k e h = by (find_named e.ask.name o.recent) refl h
  where
    o : Own
    o = own_of k e.ask.holder

    by : (f : Option Named) → find_named e.ask.name (own_of k e.ask.holder).recent ≡ f → (not (is_some f) && (nat_le e.ask.at.count o.count && nat_le o.count (e.ask.at.count + 64))) ≡ true → IsFresh k e
    by (Some x) q t = absurd (false≢true t)
    by None q t = record { none = q; reached = le-nat_le e.ask.at.count o.count (and-both_true (nat_le e.ask.at.count o.count) (nat_le o.count (e.ask.at.count + 64)) t).0 }

-- the first is new, and the others are after it
new_in_turn : (n : ℕ) (e : Named) (es : List Named) (k : Known) → first_known n (e ∷ es) k ≡ None → IsFresh k e × (first_known (n + 1) es (learned limits (named e) k) ≡ None)
new_in_turn n e es k h = by (is_new k e.ask) refl h
  where
    by : (b : Bool) → is_new k e.ask ≡ b → cond b (first_known (n + 1) es (learned limits (named e) k)) (Some (not_new n)) ≡ None → IsFresh k e × (first_known (n + 1) es (learned limits (named e) k) ≡ None)
    by true q g = (fresh_is k e q, g)
    by false q g = absurd (not_None-Some (not_new n) g)

apart_known : (n : ℕ) (es : List Named) (k : Known) (holder : List ℕ) → first_known n es k ≡ None → AreApart (own_of k holder).recent → AreApart (own_of (known_by k es) holder).recent
apart_known n [] k holder h a = a
apart_known n (e ∷ es) k holder h a = apart_known (n + 1) es (learned limits (named e) k) holder t.1 (by (bytes_eq e.ask.holder holder) refl)
  where
    t : IsFresh k e × (first_known (n + 1) es (learned limits (named e) k) ≡ None)
    t = new_in_turn n e es k h

    by : (d : Bool) → bytes_eq e.ask.holder holder ≡ d → AreApart (own_of (learned limits (named e) k) holder).recent
    by true q =
        let none = subst (λ z. find_named e.ask.name (own_of k z).recent ≡ None) (same-bytes_eq e.ask.holder holder q) t.0.none in
        subst (λ (o : Own). AreApart o.recent) (sym (own_same e k holder q)) (AreApart-take 64 (e ∷ (own_of k holder).recent) (none, a))
    by false q = subst (λ (o : Own). AreApart o.recent) (sym (own_other e k holder q)) a

find_named-remembered_by : (g : Gate) → AreNew g → (holder : List ℕ) (x : Named) → Contains (remembered_by g holder) x → find_named x.ask.name (own_of (known_of g) holder).recent ≡ Some x
find_named-remembered_by g new holder x h =
    find_named-AreApart x (own_of (known_of g) holder).recent
    (apart_known 1 (names_in g.entries) (known_at g.head) holder new (subst (λ (o : Own). AreApart o.recent) (sym (own_at g.head holder)) tt))
    (Among-recent g holder x h)

-- ---- each name of the journal is remembered, or is more names ago than that

abbrev WasUsed : Named → Own → Type 0
WasUsed x o = (j : ℕ) × IsUsed x.ask.name x.ask.at j o

used_on : (es : List Named) (k : Known) (holder : List ℕ) (x : Named) → WasUsed x (own_of k holder) → WasUsed x (own_of (known_by k es) holder)
used_on [] k holder x u = u
used_on (e ∷ es) k holder x u = used_on es (learned limits (named e) k) holder x (by (bytes_eq e.ask.holder holder) refl)
  where
    by : (d : Bool) → bytes_eq e.ask.holder holder ≡ d → WasUsed x (own_of (learned limits (named e) k) holder)
    by true q = subst (WasUsed x) (sym (own_same e k holder q)) (suc u.0, used_more x.ask.name x.ask.at u.0 e (own_of k holder) u.1)
    by false q = subst (WasUsed x) (sym (own_other e k holder q)) u

was_used : (n : ℕ) (es : List Named) (k : Known) (holder : List ℕ) (x : Named) → first_known n es k ≡ None → Among x (names_with holder es) → WasUsed x (own_of (known_by k es) holder)
was_used n [] k holder x h i = absurd i
was_used n (e ∷ es) k holder x h i = by (bytes_eq e.ask.holder holder) refl i (was_used (n + 1) es (learned limits (named e) k) holder x t.1)
  where
    t : IsFresh k e × (first_known (n + 1) es (learned limits (named e) k) ≡ None)
    t = new_in_turn n e es k h

    here : bytes_eq e.ask.holder holder ≡ true → WasUsed e (own_of (learned limits (named e) k) holder)
    here q = subst (WasUsed e) (sym (own_same e k holder q))
        (0, used_first e (own_of k holder) (subst (λ z. e.ask.at.count ≤ (own_of k z).count) (same-bytes_eq e.ask.holder holder q) t.0.reached))

    by : (d : Bool) → bytes_eq e.ask.holder holder ≡ d → Among x (cond d (e ∷ names_with holder es) (names_with holder es))
        → (Among x (names_with holder es) → WasUsed x (own_of (known_by (learned limits (named e) k) es) holder)) → WasUsed x (own_of (known_by (learned limits (named e) k) es) holder)
    by true q (inl s) rest = used_on es (learned limits (named e) k) holder x (subst (λ z. WasUsed z (own_of (learned limits (named e) k) holder)) s (here q))
    by true q (inr j) rest = rest j
    by false q j rest = rest j

-- ---- as laws say it

-- a request is the one that was entered
same_ask : (a : Ask) (x : Named) → bytes_eq x.ask.holder a.holder ≡ true → x.ask.name ≡ a.name → (is_place x.ask.at a.at && bytes_eq x.ask.digest a.digest) ≡ true → x.ask ≡ a
same_ask a x h n t =
    let p = and-both_true (is_place x.ask.at a.at) (bytes_eq x.ask.digest a.digest) t in
    let holder = same-bytes_eq x.ask.holder a.holder h in let at = same-is_place x.ask.at a.at p.0 in let digest = same-bytes_eq x.ask.digest a.digest p.1 in
    λ i. record { holder = holder i; name = n i; at = at i; digest = digest i }

-- another request is not that one
not_same_ask : (a : Ask) (x : Named) → (is_place x.ask.at a.at && bytes_eq x.ask.digest a.digest) ≡ false → x.ask ≢ a
not_same_ask a x t h = false≢true (sym t ∙ (ap (λ (z : Ask). is_place z.at a.at && bytes_eq z.digest a.digest) h ∙ (λ i. is_place-itself a.at i && bytes_eq-itself a.digest i)))

pub IsAnswer-find_named : (g : Gate) (a : Ask) (x : Named) → find_named a.name (own_of (known_of g) a.holder).recent ≡ Some x → (is_place x.ask.at a.at && bytes_eq x.ask.digest a.digest) ≡ true
    → IsAnswer (remembered_by g a.holder) a x.answer
IsAnswer-find_named g a x f t =
    let m = Among-find_named a.name (own_of (known_of g) a.holder).recent x f in
    let there = Among-take_reverse 64 x (names_by g a.holder) (subst (Among x) (recent-remembered_by g a.holder) m.0) in
    let same = same_ask a x (among_filtered (λ (e : Named). bytes_eq e.ask.holder a.holder) x (names_in g.entries) there).1 m.1 t in
    (x.refused, subst (λ z. Contains (remembered_by g a.holder) (record { ask = z; refused = x.refused; answer = x.answer })) same (Contains-remembered_by g a.holder x m.0))

-- where a log is followed, and where none is
pub log_none : (o : Option Log) → is_some o ≡ false → o ≡ None
log_none None h = refl
log_none (Some l) h = absurd (false≢true (sym h))

module _ (g : Gate) (a : Ask) where
  pub IsBarred-other_digest : (x : Named) → find_named a.name (own_of (known_of g) a.holder).recent ≡ Some x → (is_place x.ask.at a.at && bytes_eq x.ask.digest a.digest) ≡ false → IsBarred g a 101
  IsBarred-other_digest x f t =
      let m = Among-find_named a.name (own_of (known_of g) a.holder).recent x f in another x (Contains-remembered_by g a.holder x m.0) m.1 (not_same_ask a x t)

  other_epoch : bytes_eq a.at.epoch (own_of (known_of g) a.holder).epoch ≡ false → a.at.epoch ≢ (place_at g.head a.holder).epoch
  other_epoch t h = false≢true (sym t ∙ (ap (bytes_eq a.at.epoch) (epoch_is g a.holder ∙ sym h) ∙ bytes_eq-itself a.at.epoch))

  pub IsBarred-other_epoch : bytes_eq a.at.epoch (own_of (known_of g) a.holder).epoch ≡ false → IsBarred g a (number_here g 103)
  IsBarred-other_epoch t = by (is_follower g) refl
    where
      by : (l : Bool) → is_follower g ≡ l → IsBarred g a (cond l 100 103)
      by true e = foreign_yet e (other_epoch t)
      by false e = foreign e (other_epoch t)

  this_epoch : bytes_eq a.at.epoch (own_of (known_of g) a.holder).epoch ≡ true → a.at.epoch ≡ (place_at g.head a.holder).epoch
  this_epoch p = same-bytes_eq a.at.epoch (own_of (known_of g) a.holder).epoch p ∙ epoch_is g a.holder

  pub IsBarred-late : bytes_eq a.at.epoch (own_of (known_of g) a.holder).epoch ≡ true → nat_lt (a.at.count + limits.names) (own_of (known_of g) a.holder).count ≡ true
      → IsBarred g a 102
  IsBarred-late p t =
      late (this_epoch p) (subst (λ n. a.at.count + 64 < n) (count_is g a.holder) (ltb-true (a.at.count + 64) (own_of (known_of g) a.holder).count t))

  -- what has to wait here is decided elsewhere while others lead the log
  waits_here : (is_follower g ≡ false → HasToWait g a 104) → HasToWait g a (number_here g 104)
  waits_here w = by (is_follower g) refl
    where
      by : (l : Bool) → is_follower g ≡ l → HasToWait g a (cond l 100 104)
      by true e = elsewhere e
      by false e = w e

  pub HasToWait-ahead : nat_lt (own_of (known_of g) a.holder).count a.at.count ≡ true → HasToWait g a (number_here g 104)
  HasToWait-ahead t = waits_here (λ l. replies.ahead l (subst (λ n. n < a.at.count) (count_is g a.holder) (ltb-true (own_of (known_of g) a.holder).count a.at.count t)))

  abbrev spent : ℕ
  spent = spent_by (spent_in (names_in (drop g.forgiven g.entries))) a.holder

  spent_is : spent_by (spent_in (names_in (drop g.forgiven g.entries))) a.holder ≡ refused_by g a.holder
  spent_is = spent_by-count_by (names_in (drop g.forgiven g.entries)) a.holder

  pub HasToWait-is_over : is_over (names_of g) a.holder ≡ true → HasToWait g a (number_here g 104)
  HasToWait-is_over t = waits_here (λ l. by l (nat_le limits.refusals spent) (nat_le limits.holders (known_of g).holders) ((known_of g).owns a.holder) refl refl refl t)
    where
      by : is_follower g ≡ false → (r h : Bool) (o : Option Own) → nat_le limits.refusals spent ≡ r → nat_le limits.holders (known_of g).holders ≡ h → (known_of g).owns a.holder ≡ o
          → (r || (h && not (is_some o))) ≡ true → HasToWait g a 104
      by l true h o e f k u = refused_often l (subst (λ n. limits.refusals ≤ n) spent_is (le-nat_le limits.refusals spent e))
      by l false true None e f k u = many l (le-nat_le limits.holders (known_of g).holders f) k
      by l false true (Some o) e f k u = absurd (false≢true u)
      by l false false o e f k u = absurd (false≢true u)

  -- who is over nothing, and ahead of nothing, has nothing to wait for where it is decided
  pub not_HasToWait : is_follower g ≡ false → is_over (names_of g) a.holder ≡ false → nat_lt (own_of (known_of g) a.holder).count a.at.count ≡ false → (number : ℕ) → HasToWait g a number → ⊥
  not_HasToWait l w d _ (elsewhere t) = false≢true (sym l ∙ t)
  not_HasToWait l w d _ (replies.ahead z t) =
      let here : a.at.count ≤ count_of g a.holder = subst (λ n. a.at.count ≤ n) (count_is g a.holder) (le-nat_lt_false (own_of (known_of g) a.holder).count a.at.count d) in
      omega (arith, t, here)
  not_HasToWait l w d _ (refused_often z t) =
      let b = or-both_false (nat_le limits.refusals spent) (nat_le limits.holders (known_of g).holders && not (is_some ((known_of g).owns a.holder))) w in
      let less : refused_by g a.holder < limits.refusals = subst (λ n. n < limits.refusals) spent_is (lt-nat_le_false limits.refusals spent b.0) in
      omega (arith, t, less)
  not_HasToWait l w d _ (many y t n) =
      let b = or-both_false (nat_le limits.refusals spent) (nat_le limits.holders (known_of g).holders && not (is_some ((known_of g).owns a.holder))) w in
      no_room (nat_le limits.holders (known_of g).holders) refl (ap (λ (o : Option Own). nat_le limits.holders (known_of g).holders && not (is_some o)) (sym n) ∙ b.1)
    where
      no_room : (h : Bool) → nat_le limits.holders (known_of g).holders ≡ h → (h && true) ≡ false → ⊥
      no_room true e z = false≢true (sym z)
      no_room false e z = let x = lt-nat_le_false limits.holders (known_of g).holders e in omega (arith, t, x)

  -- no name that is remembered bears its name
  pub NoneAnswers-remembered_by : find_named a.name (own_of (known_of g) a.holder).recent ≡ None → NoneAnswers (remembered_by g a.holder) a
  NoneAnswers-remembered_by n answer h =
      let x : Named = record { ask = a; refused = h.0; answer = answer } in not_found x (own_of (known_of g) a.holder).recent (Among-recent g a.holder x h.1) n

  -- the one that bears its name is another's
  pub NoneAnswers-other_digest : AreNew g → (x : Named) → find_named a.name (own_of (known_of g) a.holder).recent ≡ Some x → (is_place x.ask.at a.at && bytes_eq x.ask.digest a.digest) ≡ false
      → NoneAnswers (remembered_by g a.holder) a
  NoneAnswers-other_digest new x f t answer h =
      let y : Named = record { ask = a; refused = h.0; answer = answer } in
      not_same_ask a x t (ap (λ (z : Named). z.ask) (same-Some x y (sym f ∙ find_named-remembered_by g new a.holder y h.1)))

  -- nothing bars what is free, and nothing in the journal answers it
  pub MayBeDone-IsFree : AreNew g → IsFree (names_of g) a → MayBeDone g a
  MayBeDone-IsFree new f = record { new = none; free = free }
    where
      o : Own
      o = own_of (known_of g) a.holder

      kept : (own_of (known_of g) a.holder).count ≤ a.at.count + 64
      kept = le-nat_lt_false (a.at.count + 64) (own_of (known_of g) a.holder).count f.recent

      none : NoneAnswers (names_by g a.holder) a
      none answer h =
          let x : Named = record { ask = a; refused = h.0; answer = answer } in
          let u = was_used 1 (names_in g.entries) (known_at g.head) a.holder x new (Among-Contains x (names_by g a.holder) h.1) in
          let c = u.1.count in let k = kept in
          false≢true (sym (ap is_some f.none) ∙ found_in_more a.name (suc u.0) (own_of (known_of g) a.holder).recent (u.1.found (omega (arith, c, k))))

      free : (number : ℕ) → IsBarred g a number → ⊥
      free _ (another e there same other) =
          not_found e (own_of (known_of g) a.holder).recent (Among-recent g a.holder e there) (ap (λ n. find_named n (own_of (known_of g) a.holder).recent) same ∙ f.none)
      free _ (late e l) = let k : count_of g a.holder ≤ a.at.count + 64 = subst (λ n. n ≤ a.at.count + 64) (count_is g a.holder) kept in omega (arith, l, k)
      free _ (foreign l n) = n (this_epoch f.epoch)
      free _ (foreign_yet l n) = n (this_epoch f.epoch)

-- Of names that were new each at its turn, none is there twice with one place; and the verdict on a name, as it is told.
use Rattle.std.proofs.Common.{◌≡◌, ℕ, zero, suc, ◌+◌, ◌<◌, ◌≤◌, Bool, true, false, cond, not, List, [], ◌∷◌, take, length, Option, Some, None, is_some, refl, ap, ◌∙◌, sym, subst, arith}
use Rattle.std.specs.Prelude.{◌&&◌, ◌++◌, bytes_eq, count_by, filter, nat_le, nat_lt, unwrap_or, option_map}
use Rattle.std.proofs.lemmas.Bool.Decides.{nat_tests}
use Rattle.iv_records.specs.Journal.{names_in}
use Rattle.iv_records.specs.Names.{limits, place_text}
use Rattle.iv_once.specs.Names.{Ask, Known, Limits, Named, Names, Own, Place, carry, by_count, by_found, find_named, is_over, is_place, learned, named, own_of, spent_by, spent_more, verdict, with_entry, Verdict}
use Rattle.iv_once.specs.Names as verdicts
use Rattle.iv_once.specs.Laws.{times}
use Rattle.iv_once.proofs.Lists.{and-both_true, bytes_eq-itself, le-nat_le, le-nat_lt_false, same-bytes_eq, same-is_place, not_None-Some, take-take_more, plus-zero_left}
use Rattle.iv_gate.specs.Arriving as arriving
use Rattle.iv_gate.specs.Arriving.{first_known, is_new}
use Rattle.iv_gate.specs.Gate.{Gate, known_by, known_of, place_of, spent_in, Head, place_at, known_at}
use Rattle.iv_gate.specs.Replies.{count_of, place_after}
use Rattle.std.proofs.lemmas.List.Sums.{sum_by-cons}

abbrev pub names_of : List ℕ → List Named → List Named
names_of holder es = filter (λ e. bytes_eq e.ask.holder holder) es

-- ---- what a name adds

pub own_same : (e : Named) (k : Known) (holder : List ℕ) → bytes_eq e.ask.holder holder ≡ true → own_of (learned limits (named e) k) holder ≡ with_entry limits.names e (own_of k holder)
own_same e k holder t =
    let o = own_of k e.ask.holder in
    ap (λ b. unwrap_or (cond b (Some (with_entry limits.names e o)) (k.owns holder)) (record { epoch = k.epoch; count = 0; recent = [] })) t
    ∙ ap (λ z. with_entry limits.names e (own_of k z)) (same-bytes_eq e.ask.holder holder t)

pub own_other : (e : Named) (k : Known) (holder : List ℕ) → bytes_eq e.ask.holder holder ≡ false → own_of (learned limits (named e) k) holder ≡ own_of k holder
own_other e k holder t =
    let o = own_of k e.ask.holder in
    ap (λ b. unwrap_or (cond b (Some (with_entry limits.names e o)) (k.owns holder)) (record { epoch = k.epoch; count = 0; recent = [] })) t

-- ---- a name that stands

-- j entries of the holder came after one with the name, whose place was not ahead then: while that is kept, it is among the last ones
pub record IsUsed (name : List ℕ) (at : Place) (j : ℕ) (o : Own) : Type 0 where
  pub count : at.count + (1 + j) ≤ o.count
  pub found : j < 64 → is_some (find_named name (take (suc j) o.recent)) ≡ true

found_here : (name : List ℕ) (e : Named) (es : List Named) → bytes_eq e.ask.name name ≡ true → is_some (find_named name (e ∷ es)) ≡ true
found_here name e es t = ap (λ b. is_some (cond b (Some e) (find_named name es))) t

found_behind : (name : List ℕ) (e : Named) (es : List Named) → is_some (find_named name es) ≡ true → is_some (find_named name (e ∷ es)) ≡ true
found_behind name e es h = by (bytes_eq e.ask.name name)
  where
    by : (b : Bool) → is_some (cond b (Some e) (find_named name es)) ≡ true
    by true = refl
    by false = h

pub found_in_more : (name : List ℕ) (k : ℕ) (es : List Named) → is_some (find_named name (take k es)) ≡ true → is_some (find_named name es) ≡ true
found_in_more name zero es h = cc h
found_in_more name (suc k) [] h = h
found_in_more name (suc k) (e ∷ es) h = by (bytes_eq e.ask.name name) h (λ g. found_in_more name k es g)
  where
    by : (b : Bool) → is_some (cond b (Some e) (find_named name (take k es))) ≡ true → (is_some (find_named name (take k es)) ≡ true → is_some (find_named name es) ≡ true)
        → is_some (cond b (Some e) (find_named name es)) ≡ true
    by true g more = refl
    by false g more = more g

pub used_first : (e : Named) (o : Own) → e.ask.at.count ≤ o.count → IsUsed e.ask.name e.ask.at 0 (with_entry limits.names e o)
used_first e o h = record { count = omega (arith, h); found = λ l. found_here e.ask.name e [] (bytes_eq-itself e.ask.name) }

pub used_more : (name : List ℕ) (at : Place) (j : ℕ) (e : Named) (o : Own) → IsUsed name at j o → IsUsed name at (suc j) (with_entry limits.names e o)
used_more name at j e o u = record {
  count = let c = u.count in omega (arith, c);
  found = λ l. found_behind name e (take (suc j) (take 63 o.recent))
      (ap (λ z. is_some (find_named name z)) (take-take_more (suc j) 63 o.recent (omega (arith, l))) ∙ u.found (omega (arith, l)));
}

true_le : (m n : ℕ) → m ≤ n → nat_le m n ≡ true
true_le m n h = grind (arith, nat_tests)

no_both : (b : Bool) → b ≡ true → not b ≡ true → ⊥
no_both true f g = cc g
no_both false f g = cc f

-- it is not new
used_is_known : (e : Named) (k : Known) (j : ℕ) → IsUsed e.ask.name e.ask.at j (own_of k e.ask.holder) → is_new k e.ask ≡ true → ⊥
used_is_known e k j u h =
    let o = own_of k e.ask.holder in let early = nat_le e.ask.at.count o.count in let late = nat_le o.count (e.ask.at.count + 64) in
    let parts = and-both_true (not (is_some (find_named e.ask.name o.recent))) (early && late) h in
    let l : o.count ≤ e.ask.at.count + 64 = le-nat_le o.count (e.ask.at.count + 64) (and-both_true early late parts.1).1 in
    let c = u.count in
    no_both (is_some (find_named e.ask.name o.recent)) (found_in_more e.ask.name (suc j) o.recent (u.found (omega (arith, c, l)))) parts.0

abbrev NoneLeft : List Named → Type 0
NoneLeft es = (n : ℕ) (k : Known) (holder name : List ℕ) (at : Place) (j : ℕ) → first_known n es k ≡ None → IsUsed name at j (own_of k holder) → times name at (names_of holder es) ≡ 0

-- one more in front, where none is left after it
left_in_front : (e : Named) (es : List Named) → NoneLeft es → NoneLeft (e ∷ es)
left_in_front e es rest n k holder name at j h u = by (is_new k e.ask) refl h
  where
    more : Known
    more = learned limits (named e) k

    here : first_known (n + 1) es more ≡ None → is_new k e.ask ≡ true → bytes_eq e.ask.holder holder ≡ true → (b : Bool) → (bytes_eq e.ask.name name && is_place e.ask.at at) ≡ b
        → cond b 1 0 + times name at (names_of holder es) ≡ 0
    here g t q true r =
        let p = and-both_true (bytes_eq e.ask.name name) (is_place e.ask.at at) r in
        let at_one : IsUsed e.ask.name at j (own_of k holder) = subst (λ z. IsUsed z at j (own_of k holder)) (sym (same-bytes_eq e.ask.name name p.0)) u in
        let placed : IsUsed e.ask.name e.ask.at j (own_of k holder) = subst (λ z. IsUsed e.ask.name z j (own_of k holder)) (sym (same-is_place e.ask.at at p.1)) at_one in
        absurd (used_is_known e k j (subst (λ z. IsUsed e.ask.name e.ask.at j (own_of k z)) (sym (same-bytes_eq e.ask.holder holder q)) placed) t)
    here g t q false r =
        plus-zero_left (times name at (names_of holder es))
        ∙ rest (n + 1) more holder name at (suc j) g (subst (IsUsed name at (suc j)) (sym (own_same e k holder q)) (used_more name at j e (own_of k holder) u))

    whose : first_known (n + 1) es more ≡ None → is_new k e.ask ≡ true → (d : Bool) → bytes_eq e.ask.holder holder ≡ d → times name at (cond d (e ∷ names_of holder es) (names_of holder es)) ≡ 0
    whose g t true q = here g t q (bytes_eq e.ask.name name && is_place e.ask.at at) refl
    whose g t false q = rest (n + 1) more holder name at j g (subst (IsUsed name at j) (sym (own_other e k holder q)) u)

    by : (b : Bool) → is_new k e.ask ≡ b → cond b (first_known (n + 1) es more) (Some (arriving.not_new n)) ≡ None → times name at (names_of holder (e ∷ es)) ≡ 0
    by true t g = whose g t (bytes_eq e.ask.holder holder) refl
    by false t g = absurd (not_None-Some (arriving.not_new n) g)

none_left : (es : List Named) → NoneLeft es
none_left [] n k holder name at j h u = refl
none_left (e ∷ es) n k holder name at j h u = left_in_front e es (none_left es) n k holder name at j h u

abbrev AreOnce : List Named → Type 0
AreOnce es = (n : ℕ) (k : Known) (holder name : List ℕ) (at : Place) → first_known n es k ≡ None → times name at (names_of holder es) ≤ 1

once_in_front : (e : Named) (es : List Named) → AreOnce es → AreOnce (e ∷ es)
once_in_front e es rest n k holder name at h = by (is_new k e.ask) refl h
  where
    more : Known
    more = learned limits (named e) k

    early : is_new k e.ask ≡ true → e.ask.at.count ≤ (own_of k e.ask.holder).count
    early t =
        let o = own_of k e.ask.holder in let a = nat_le e.ask.at.count o.count in let b = nat_le o.count (e.ask.at.count + 64) in
        le-nat_le e.ask.at.count o.count (and-both_true a b (and-both_true (not (is_some (find_named e.ask.name o.recent))) (a && b) t).1).0

    here : first_known (n + 1) es more ≡ None → is_new k e.ask ≡ true → bytes_eq e.ask.holder holder ≡ true → (b : Bool) → (bytes_eq e.ask.name name && is_place e.ask.at at) ≡ b
        → cond b 1 0 + times name at (names_of holder es) ≤ 1
    here g t q true r =
        let p = and-both_true (bytes_eq e.ask.name name) (is_place e.ask.at at) r in let o = own_of k holder in
        let first : IsUsed e.ask.name e.ask.at 0 (with_entry limits.names e o) = used_first e o (subst (λ z. e.ask.at.count ≤ (own_of k z).count) (same-bytes_eq e.ask.holder holder q) (early t)) in
        let named_so : IsUsed name e.ask.at 0 (with_entry limits.names e o) = subst (λ z. IsUsed z e.ask.at 0 (with_entry limits.names e o)) (same-bytes_eq e.ask.name name p.0) first in
        let placed : IsUsed name at 0 (with_entry limits.names e o) = subst (λ z. IsUsed name z 0 (with_entry limits.names e o)) (same-is_place e.ask.at at p.1) named_so in
        let none = none_left es (n + 1) more holder name at 0 g (subst (IsUsed name at 0) (sym (own_same e k holder q)) placed) in
        omega (arith, none)
    here g t q false r = let once = rest (n + 1) more holder name at g in omega (arith, once)

    whose : first_known (n + 1) es more ≡ None → is_new k e.ask ≡ true → (d : Bool) → bytes_eq e.ask.holder holder ≡ d → times name at (cond d (e ∷ names_of holder es) (names_of holder es)) ≤ 1
    whose g t true q = here g t q (bytes_eq e.ask.name name && is_place e.ask.at at) refl
    whose g t false q = rest (n + 1) more holder name at g

    by : (b : Bool) → is_new k e.ask ≡ b → cond b (first_known (n + 1) es more) (Some (arriving.not_new n)) ≡ None → times name at (names_of holder (e ∷ es)) ≤ 1
    by true t g = whose g t (bytes_eq e.ask.holder holder) refl
    by false t g = absurd (not_None-Some (arriving.not_new n) g)

all_once : (es : List Named) → AreOnce es
all_once [] n k holder name at h = omega arith
all_once (e ∷ es) n k holder name at h = once_in_front e es (all_once es) n k holder name at h

pub le-times_first_known : (n : ℕ) (es : List Named) (k : Known) (holder name : List ℕ) (at : Place) → first_known n es k ≡ None
    → times name at (names_of holder es) ≤ 1
le-times_first_known n es k holder name at h = all_once es n k holder name at h

-- ---- one name more

-- names after names are new at their turns
pub first_known-append : (n : ℕ) (es fs : List Named) (k : Known) → first_known n es k ≡ None → ((m : ℕ) → first_known m fs (known_by k es) ≡ None) → first_known n (es ++ fs) k ≡ None
first_known-append n [] fs k h more = more n
first_known-append n (e ∷ es) fs k h more = by (is_new k e.ask) h (λ g. first_known-append (n + 1) es fs (learned limits (named e) k) g more)
  where
    by : (b : Bool) → cond b (first_known (n + 1) es (learned limits (named e) k)) (Some (arriving.not_new n)) ≡ None
        → (first_known (n + 1) es (learned limits (named e) k) ≡ None → first_known (n + 1) (es ++ fs) (learned limits (named e) k) ≡ None)
        → cond b (first_known (n + 1) (es ++ fs) (learned limits (named e) k)) (Some (arriving.not_new n)) ≡ None
    by true g go = go g
    by false g go = g

-- what is carried out is new
pub is_new-verdict : (n : Names) (a : Ask) → n.limits ≡ limits → verdict n a ≡ carry → is_new n.known a ≡ true
is_new-verdict n a same h = by (find_named a.name o.recent) refl h
  where
    o : Own
    o = own_of n.known a.holder

    most : n.limits.names ≡ 64
    most = ap (λ (l : Limits). l.names) same

    count : find_named a.name o.recent ≡ None → (late over ahead : Bool) → nat_lt (a.at.count + n.limits.names) o.count ≡ late → nat_lt o.count a.at.count ≡ ahead
        → cond late verdicts.late (cond over verdicts.over (cond ahead verdicts.ahead carry)) ≡ carry → is_new n.known a ≡ true
    count f true over ahead l e g = cc g
    count f false true ahead l e g = cc g
    count f false false true l e g = cc g
    count f false false false l e g =
        let early : nat_le a.at.count o.count ≡ true = true_le a.at.count o.count (le-nat_lt_false o.count a.at.count e) in
        let kept : o.count ≤ a.at.count + 64 = let z = le-nat_lt_false (a.at.count + n.limits.names) o.count l in omega (arith, z, most) in
        λ i. not (is_some (f i)) && (early i && true_le o.count (a.at.count + 64) kept i)

    place : find_named a.name o.recent ≡ None → (b : Bool) → cond b (by_count n o a) verdicts.foreign ≡ carry → is_new n.known a ≡ true
    place f false g = cc g
    place f true g = count f (nat_lt (a.at.count + n.limits.names) o.count) (is_over n a.holder) (nat_lt o.count a.at.count) refl refl g

    entry : (e : Named) (b : Bool) → cond b (verdicts.again e.answer) verdicts.another ≡ carry → is_new n.known a ≡ true
    entry e true g = cc g
    entry e false g = cc g

    by : (f : Option Named) → find_named a.name o.recent ≡ f → by_found n o a f ≡ carry → is_new n.known a ≡ true
    by None e g = place e (bytes_eq a.at.epoch o.epoch) g
    by (Some x) e g = entry x (is_place x.ask.at a.at && bytes_eq x.ask.digest a.digest) g

-- ---- what is known of a holder

-- its epoch is the journal's, and its count goes on by one a name
pub known_own : (es : List Named) (k : Known) (holder : List ℕ)
    → ((own_of (known_by k es) holder).epoch ≡ (own_of k holder).epoch) × ((own_of (known_by k es) holder).count ≡ (own_of k holder).count + length (names_of holder es))
known_own [] k holder = (refl, omega arith)
known_own (e ∷ es) k holder = by (bytes_eq e.ask.holder holder) refl (known_own es (learned limits (named e) k) holder)
  where
    now : Own
    now = own_of (known_by (learned limits (named e) k) es) holder

    by : (d : Bool) → bytes_eq e.ask.holder holder ≡ d
        → (now.epoch ≡ (own_of (learned limits (named e) k) holder).epoch) × (now.count ≡ (own_of (learned limits (named e) k) holder).count + length (names_of holder es))
        → (now.epoch ≡ (own_of k holder).epoch) × (now.count ≡ (own_of k holder).count + length (cond d (e ∷ names_of holder es) (names_of holder es)))
    by true q h =
        let c : (own_of (learned limits (named e) k) holder).count ≡ (own_of k holder).count + 1 = ap (λ (o : Own). o.count) (own_same e k holder q) in let n = h.1 in
        (h.0 ∙ ap (λ (o : Own). o.epoch) (own_same e k holder q), omega (arith, n, c))
    by false q h = (h.0 ∙ ap (λ (o : Own). o.epoch) (own_other e k holder q), h.1 ∙ ap (λ (o : Own). o.count + length (names_of holder es)) (own_other e k holder q))

-- a holder who stands there, of whom no name is known
abbrev own_with : Place → Own
own_with p = record { epoch = p.epoch; count = p.count; recent = [] }

-- so it is before the first entry, where the journal's head says
pub own_at : (h : Head) (holder : List ℕ) → own_of (known_at h) holder ≡ own_with (place_at h holder)
own_at h holder = by (h.places holder)
  where
    by : (o : Option Place) → unwrap_or {T = Own} (option_map (λ (p : Place). own_with p) o) (own_with (record { epoch = h.epoch; count = 0 })) ≡ own_with (unwrap_or o (record { epoch = h.epoch; count = 0 }))
    by None = refl
    by (Some p) = refl

pub epoch_is : (g : Gate) (holder : List ℕ) → (own_of (known_of g) holder).epoch ≡ (place_at g.head holder).epoch
epoch_is g holder = (known_own (names_in g.entries) (known_at g.head) holder).0 ∙ ap (λ (o : Own). o.epoch) (own_at g.head holder)

pub count_is : (g : Gate) (holder : List ℕ) → (own_of (known_of g) holder).count ≡ count_of g holder
count_is g holder = (known_own (names_in g.entries) (known_at g.head) holder).1 ∙ ap (λ (o : Own). o.count + length (names_of holder (names_in g.entries))) (own_at g.head holder)

-- where its names stand, as laws say it
pub place_text-place_after : (g : Gate) (holder : List ℕ) → place_text (place_of g holder) ≡ place_after g holder 0
place_text-place_after g holder =
    let c : (own_of (known_of g) holder).count ≡ count_of g holder + 0 = let n = count_is g holder in omega (arith, n) in
    λ i. place_text (record { epoch = epoch_is g holder i; count = c i })

-- ---- what is spent

pub spent_by-count_by : (es : List Named) (holder : List ℕ)
    → spent_by (spent_in es) holder ≡ count_by (λ (e : Named). e.refused && bytes_eq e.ask.holder holder) es
spent_by-count_by [] holder = refl
spent_by-count_by (e ∷ es) holder = by e.refused (bytes_eq e.ask.holder holder) refl (spent_by-count_by es holder) (spent_by-count_by es e.ask.holder) ∙ sym (sum_by-cons (λ (x : Named). cond (x.refused && bytes_eq x.ask.holder holder) 1 0) e es)
  where
    count : List ℕ → ℕ
    count h = count_by (λ (x : Named). x.refused && bytes_eq x.ask.holder h) es

    by : (r d : Bool) → bytes_eq e.ask.holder holder ≡ d → spent_by (spent_in es) holder ≡ count holder → spent_by (spent_in es) e.ask.holder ≡ count e.ask.holder
        → spent_by (spent_more (spent_in es) (cond r (Some e.ask.holder) None)) holder ≡ cond (r && d) 1 0 + count holder
    by false d q h k = h ∙ sym (plus-zero_left (count holder))
    by true false q h k = ap (λ b. unwrap_or (cond b (Some (spent_by (spent_in es) e.ask.holder + 1)) (spent_in es holder)) 0) q ∙ (h ∙ sym (plus-zero_left (count holder)))
    by true true q h k =
        let same : count e.ask.holder ≡ count holder = ap count (same-bytes_eq e.ask.holder holder q) in
        ap (λ b. unwrap_or (cond b (Some (spent_by (spent_in es) e.ask.holder + 1)) (spent_in es holder)) 0) q ∙ (let f : spent_by (spent_in es) e.ask.holder + 1 ≡ 1 + count holder = omega (arith, k, same) in f)

-- ---- why a request gets its verdict

-- nothing that is kept of its holder says anything of it: no name that is kept is its own, and its place is of that epoch, and not too old
pub record IsFree (n : Names) (a : Ask) : Type 0 where
  pub none : find_named a.name (own_of n.known a.holder).recent ≡ None
  pub epoch : bytes_eq a.at.epoch (own_of n.known a.holder).epoch ≡ true
  pub recent : nat_lt (a.at.count + n.limits.names) (own_of n.known a.holder).count ≡ false

pub data Reason (n : Names) (a : Ask) : Verdict → Type 0 where
  is_again : (x : Named) → find_named a.name (own_of n.known a.holder).recent ≡ Some x → (is_place x.ask.at a.at && bytes_eq x.ask.digest a.digest) ≡ true → Reason n a (verdicts.again x.answer)
  is_another : (x : Named) → find_named a.name (own_of n.known a.holder).recent ≡ Some x → (is_place x.ask.at a.at && bytes_eq x.ask.digest a.digest) ≡ false → Reason n a verdicts.another
  is_foreign : find_named a.name (own_of n.known a.holder).recent ≡ None → bytes_eq a.at.epoch (own_of n.known a.holder).epoch ≡ false → Reason n a verdicts.foreign
  is_late : find_named a.name (own_of n.known a.holder).recent ≡ None → bytes_eq a.at.epoch (own_of n.known a.holder).epoch ≡ true
      → nat_lt (a.at.count + n.limits.names) (own_of n.known a.holder).count ≡ true → Reason n a verdicts.late
  has_to_wait : IsFree n a → is_over n a.holder ≡ true → Reason n a verdicts.over
  is_ahead : IsFree n a → nat_lt (own_of n.known a.holder).count a.at.count ≡ true → Reason n a verdicts.ahead
  is_carried : IsFree n a → is_over n a.holder ≡ false → nat_lt (own_of n.known a.holder).count a.at.count ≡ false → Reason n a carry

pub Reason-verdict : (n : Names) (a : Ask) → Reason n a (verdict n a)
Reason-verdict n a = by (find_named a.name (own_of n.known a.holder).recent) refl
  where
    o : Own
    o = own_of n.known a.holder

    count : find_named a.name (own_of n.known a.holder).recent ≡ None → bytes_eq a.at.epoch (own_of n.known a.holder).epoch ≡ true
        → (l w d : Bool) → nat_lt (a.at.count + n.limits.names) (own_of n.known a.holder).count ≡ l → is_over n a.holder ≡ w → nat_lt (own_of n.known a.holder).count a.at.count ≡ d
        → Reason n a (cond l verdicts.late (cond w verdicts.over (cond d verdicts.ahead carry)))
    count f p true w d e i j = is_late f p e
    count f p false true d e i j = has_to_wait (record { none = f; epoch = p; recent = e }) i
    count f p false false true e i j = is_ahead (record { none = f; epoch = p; recent = e }) j
    count f p false false false e i j = is_carried (record { none = f; epoch = p; recent = e }) i j

    place : find_named a.name (own_of n.known a.holder).recent ≡ None → (b : Bool) → bytes_eq a.at.epoch (own_of n.known a.holder).epoch ≡ b
        → Reason n a (cond b (by_count n (own_of n.known a.holder) a) verdicts.foreign)
    place f true e = count f e (nat_lt (a.at.count + n.limits.names) o.count) (is_over n a.holder) (nat_lt o.count a.at.count) refl refl refl
    place f false e = is_foreign f e

    entry : (x : Named) → find_named a.name (own_of n.known a.holder).recent ≡ Some x → (b : Bool) → (is_place x.ask.at a.at && bytes_eq x.ask.digest a.digest) ≡ b
        → Reason n a (cond b (verdicts.again x.answer) verdicts.another)
    entry x f true e = is_again x f e
    entry x f false e = is_another x f e

    by : (f : Option Named) → find_named a.name (own_of n.known a.holder).recent ≡ f → Reason n a (by_found n (own_of n.known a.holder) a f)
    by None f = place f (bytes_eq a.at.epoch o.epoch) refl
    by (Some x) f = entry x f (is_place x.ask.at a.at && bytes_eq x.ask.digest a.digest) refl

-- Each name is carried out once, whatever happens.
use Rattle.std.proofs.Common.{◌≡◌, ◌⊎◌, inl, inr, ℕ, ◌+◌, ◌≤◌, Bool, true, false, cond, List, [], ◌∷◌, ◌++◌, drop, take, Option, Some, None, refl, ap, ◌∙◌, sym, subst, arith}
use Rattle.std.specs.Prelude.{◌&&◌, ◌||◌, not, bytes_eq, nat_lt}
use Rattle.std.specs.List.{AllByRecursion, list_any}
use Rattle.std.proofs.lemmas.Bool.{false≢true}
use Rattle.iv_once.specs.Names.{Limits, Ask, Named, named, plain, renewed, Journal, Own, Known, Verdict, carry, again, another, late, foreign, ahead, over, by_found, find_named, followed, is_over, is_place, learned, own_of, verdict}
use Rattle.iv_once.specs.Runs.{Answer, says, undecided, Run, acts_of, history, journal, kept, known, names, start}
use Rattle.iv_once.specs.Laws.{Among, AreKept, AreOnce, HasAnswer, HasReason, own}
use Rattle.iv_once.proofs.Lists.{Among-take, and-both_true, append-associative, not_same-bytes_eq, append-take_drop_append, is_place-itself, bytes_eq-itself, le-nat_lt_false, lt-nat_lt, Among-own_back, Among-own_append, Among-own_front, same-bytes_eq, same-is_place}
use Rattle.iv_once.proofs.HolderEntries.{AreIn, IsBase, IsOwn, IsBase-followed, IsBase-nothing_known, followed-append, Among-find_named, own_of-learned_named, own_of-learned_renewed}

-- ---- epochs that were seen

pub false-not : (b : Bool) → not b ≡ true → b ≡ false
false-not true h = absurd (false≢true h)
false-not false h = refl

pub or-both_false : (b c : Bool) → (b || c) ≡ false → (b ≡ false) × (c ≡ false)
or-both_false true c h = absurd (false≢true (sym h))
or-both_false false c h = (refl, h)

pub or_right : (b c : Bool) → c ≡ true → (b || c) ≡ true
or_right true c h = refl
or_right false c h = h

pub or_left : (b c : Bool) → b ≡ true → (b || c) ≡ true
or_left true c h = refl
or_left false c h = absurd (false≢true h)

-- ---- what is sound

abbrev pub IsSeen : List (List ℕ) → List ℕ → Type 0
IsSeen seen epoch = list_any (bytes_eq epoch) seen ≡ true

-- the epoch of each entry with a name was seen
abbrev pub AreSeen : List (List ℕ) → Journal → Type 0
AreSeen seen j = (holder : List ℕ) (e : Named) → Among e (own holder j) → IsSeen seen e.ask.at.epoch

-- no entry of a holder that copies did not have is of its epoch now
abbrev pub IsApart : Journal → Known → Type 0
IsApart gone k = (holder : List ℕ) (e : Named) → Among e (own holder gone) → e.ask.at.epoch ≡ (own_of k holder).epoch → ⊥

-- nor after any part of the entries is lost
abbrev pub AreApart : Limits → Journal → Known → Journal → Type 0
AreApart l gone k [] = IsApart gone k
AreApart l gone k (x ∷ j) = IsApart gone (followed l k (x ∷ j)) × AreApart l gone k j

pub record IsSound (l : Limits) (d : Run) : Type 0 where
  pub base : IsBase l d.first d.past
  pub ins : (holder : List ℕ) → AreIn l.names (own holder (journal d))
  pub once : AreOnce (history d)
  pub apart : AreApart l d.gone d.first (d.waiting ++ d.lines)
  pub seen : AreSeen d.seen (history d)
  pub acts : d.acts ≡ acts_of (journal d)
  pub held : AllByRecursion (HasAnswer (history d)) d.held
  pub told : AllByRecursion (HasAnswer (kept d ++ d.gone)) d.told

pub IsSound-start : (l : Limits) (epoch : List ℕ) → IsSound l (start epoch)
IsSound-start l epoch = record {
  base = IsBase-nothing_known l epoch;
  ins = λ holder. tt;
  once = λ holder name at. omega arith;
  apart = λ holder e a. absurd a;
  seen = λ holder e a. absurd a;
  acts = refl;
  held = tt;
  told = tt;
}

pub AreKept-IsSound : (l : Limits) (d : Run) → IsSound l d → AreKept l d
AreKept-IsSound l d s = λ holder. subst (λ j. IsOwn l (own_of (known l d) holder) (own holder j)) (append-associative d.waiting d.lines d.past) (IsBase-followed l d.first d.past (d.waiting ++ d.lines) s.base holder)

-- ---- epochs

pub IsSeen-cons : (x epoch : List ℕ) (seen : List (List ℕ)) → IsSeen seen epoch → IsSeen (x ∷ seen) epoch
IsSeen-cons x epoch seen h = or_right (bytes_eq epoch x) (list_any (bytes_eq epoch) seen) h

pub IsSeen-head : (epoch : List ℕ) (seen : List (List ℕ)) → IsSeen (epoch ∷ seen) epoch
IsSeen-head epoch seen = or_left (bytes_eq epoch epoch) (list_any (bytes_eq epoch) seen) (bytes_eq-itself epoch)

-- what was seen is not drawn
pub not_same-IsSeen : (x epoch : List ℕ) (seen : List (List ℕ)) → IsSeen seen x → list_any (bytes_eq epoch) seen ≡ false → x ≡ epoch → ⊥
not_same-IsSeen x epoch seen h f e = false≢true (sym f ∙ ap (λ z. list_any (bytes_eq z) seen) (sym e) ∙ h)

pub IsApart-AreApart : (l : Limits) (gone : Journal) (k : Known) (j : Journal) → AreApart l gone k j → IsApart gone (followed l k j)
IsApart-AreApart l gone k [] s = s
IsApart-AreApart l gone k (x ∷ j) s = s.0

pub AreApart-append_back : (l : Limits) (gone : Journal) (k : Known) (a b : Journal) → AreApart l gone k (a ++ b) → AreApart l gone k b
AreApart-append_back l gone k [] b s = s
AreApart-append_back l gone k (x ∷ a) b s = AreApart-append_back l gone k a b s.1

-- over a new first record
pub AreApart-append_front : (l : Limits) (gone : Journal) (k : Known) (w j : Journal) → AreApart l gone k (w ++ j) → AreApart l gone (followed l k j) (w ++ [])
AreApart-append_front l gone k [] j s = IsApart-AreApart l gone k j s
AreApart-append_front l gone k (x ∷ w) j s = (subst (λ z. IsApart gone (learned l x z)) (followed-append l k w j) s.0, AreApart-append_front l gone k w j s.1)

pub IsApart-named : (l : Limits) (gone : Journal) (k : Known) (e : Named) → IsApart gone k → IsApart gone (learned l (named e) k)
IsApart-named l gone k e s = λ holder x a h. s holder x a (h ∙ (own_of-learned_named l e k holder).0)

pub IsApart-renewed : (l : Limits) (gone : Journal) (k : Known) (other epoch : List ℕ) (seen : List (List ℕ)) → AreSeen seen gone → list_any (bytes_eq epoch) seen ≡ false → IsApart gone k → IsApart gone (learned l (renewed other epoch) k)
IsApart-renewed l gone k other epoch seen a f s = λ holder x among h. by holder x among h (own_of-learned_renewed l other epoch k holder)
  where
    by : (holder : List ℕ) (x : Named) → Among x (own holder gone) → x.ask.at.epoch ≡ (own_of (learned l (renewed other epoch) k) holder).epoch
        → ((own_of (learned l (renewed other epoch) k) holder).epoch ≡ epoch) ⊎ (own_of (learned l (renewed other epoch) k) holder ≡ own_of k holder) → ⊥
    by holder x among h (inl e) = not_same-IsSeen x.ask.at.epoch epoch seen (a holder x among) f (h ∙ e)
    by holder x among h (inr e) = s holder x among (h ∙ ap (λ (o : Own). o.epoch) e)

-- ---- why a verdict is given

pub holder-Among_own : (holder : List ℕ) (e : Named) (j : Journal) → Among e (own holder j) → e.ask.holder ≡ holder
holder-Among_own holder e [] a = absurd a
holder-Among_own holder e (named x ∷ j) a = by (bytes_eq x.ask.holder holder) refl a (holder-Among_own holder e j)
  where
    by : (b : Bool) → bytes_eq x.ask.holder holder ≡ b → Among e (cond b (x ∷ own holder j) (own holder j)) → (Among e (own holder j) → e.ask.holder ≡ holder) → e.ask.holder ≡ holder
    by false t a more = more a
    by true t (inl h) more = ap (λ (z : Named). z.ask.holder) (sym h) ∙ same-bytes_eq x.ask.holder holder t
    by true t (inr h) more = more h
holder-Among_own holder e (plain request ∷ j) a = holder-Among_own holder e j a
holder-Among_own holder e (renewed other epoch ∷ j) a = holder-Among_own holder e j a

same_ask : (a b : Ask) → a.holder ≡ b.holder → a.name ≡ b.name → a.at ≡ b.at → a.digest ≡ b.digest → a ≡ b
same_ask a b h n p d = λ i. record { holder = h i; name = n i; at = p i; digest = d i }

entry_reason : (l : Limits) (d : Run) (a : Ask) (x : Named) → Among x (own a.holder (journal d)) → x.ask.name ≡ a.name → (b : Bool) → (is_place x.ask.at a.at && bytes_eq x.ask.digest a.digest) ≡ b → HasReason l d a (cond b (again x.answer) another)
entry_reason l d a x among n true t =
    let parts = and-both_true (is_place x.ask.at a.at) (bytes_eq x.ask.digest a.digest) t in
    let one : x.ask ≡ a = same_ask x.ask a (holder-Among_own a.holder x (journal d) among) n (same-is_place x.ask.at a.at parts.0) (same-bytes_eq x.ask.digest a.digest parts.1) in
    (x.refused, subst (λ (z : Ask). Among (record { ask = z; refused = x.refused; answer = x.answer }) (own a.holder (journal d))) one among)
entry_reason l d a x among n false t = (x, among, n, λ p q. false≢true (sym t ∙ ((λ i. is_place (p i) a.at && bytes_eq (q i) a.digest) ∙ (λ i. is_place-itself a.at i && bytes_eq-itself a.digest i))))

ahead_reason : (l : Limits) (d : Run) (a : Ask) (o : Own) → IsOwn l o (own a.holder (journal d)) → find_named a.name (take l.names (own a.holder (journal d))) ≡ None → a.at.epoch ≡ (own_of (known l d) a.holder).epoch → o.count ≤ a.at.count + l.names → is_over (names l d) a.holder ≡ false
    → (b : Bool) → nat_lt o.count a.at.count ≡ b → HasReason l d a (cond b ahead carry)
ahead_reason l d a o k f e m w true t = let h = lt-nat_lt o.count a.at.count t in let n = k.0 in (omega (arith, h, n), w)
ahead_reason l d a o k f e m w false t = let h = le-nat_lt_false o.count a.at.count t in let n = k.0 in (f, e, omega (arith, h, n), omega (arith, m, n), w)

over_reason : (l : Limits) (d : Run) (a : Ask) (v : Verdict) → (is_over (names l d) a.holder ≡ false → HasReason l d a v) → (b : Bool) → is_over (names l d) a.holder ≡ b → HasReason l d a (cond b over v)
over_reason l d a v h true t = t
over_reason l d a v h false t = h t

late_reason : (l : Limits) (d : Run) (a : Ask) (o : Own) (v : Verdict) → IsOwn l o (own a.holder (journal d)) → (o.count ≤ a.at.count + l.names → HasReason l d a v) → (b : Bool) → nat_lt (a.at.count + l.names) o.count ≡ b → HasReason l d a (cond b late v)
late_reason l d a o v k h true t = let m = lt-nat_lt (a.at.count + l.names) o.count t in let n = k.0 in omega (arith, m, n)
late_reason l d a o v k h false t = h (le-nat_lt_false (a.at.count + l.names) o.count t)

foreign_reason : (l : Limits) (d : Run) (a : Ask) (v : Verdict) → (a.at.epoch ≡ (own_of (known l d) a.holder).epoch → HasReason l d a v) → (b : Bool) → bytes_eq a.at.epoch (own_of (known l d) a.holder).epoch ≡ b → HasReason l d a (cond b v foreign)
foreign_reason l d a v h true t = h (same-bytes_eq a.at.epoch (own_of (known l d) a.holder).epoch t)
foreign_reason l d a v h false t = not_same-bytes_eq a.at.epoch (own_of (known l d) a.holder).epoch t

place_reason : (l : Limits) (d : Run) (a : Ask) → IsOwn l (own_of (known l d) a.holder) (own a.holder (journal d)) → find_named a.name (take l.names (own a.holder (journal d))) ≡ None → HasReason l d a (by_found (names l d) (own_of (known l d) a.holder) a None)
place_reason l d a k f =
    let o = own_of (known l d) a.holder in
    let last : Verdict = cond (nat_lt o.count a.at.count) ahead carry in
    let middle : Verdict = cond (is_over (names l d) a.holder) over last in
    let front : Verdict = cond (nat_lt (a.at.count + l.names) o.count) late middle in
    foreign_reason l d a front (λ e. late_reason l d a o middle k (λ m. over_reason l d a last (λ w. ahead_reason l d a o k f e m w (nat_lt o.count a.at.count) refl) (is_over (names l d) a.holder) refl) (nat_lt (a.at.count + l.names) o.count) refl) (bytes_eq a.at.epoch o.epoch) refl

found_reason : (l : Limits) (d : Run) (a : Ask) → IsOwn l (own_of (known l d) a.holder) (own a.holder (journal d)) → (f : Option Named) → find_named a.name (take l.names (own a.holder (journal d))) ≡ f → HasReason l d a (by_found (names l d) (own_of (known l d) a.holder) a f)
found_reason l d a k None e = place_reason l d a k e
found_reason l d a k (Some x) e =
    let m = Among-find_named a.name (take l.names (own a.holder (journal d))) x e in
    entry_reason l d a x (Among-take l.names x (own a.holder (journal d)) m.0) m.1 (is_place x.ask.at a.at && bytes_eq x.ask.digest a.digest) refl

pub HasReason-AreKept : (l : Limits) (d : Run) (a : Ask) → AreKept l d → HasReason l d a (verdict (names l d) a)
HasReason-AreKept l d a k =
    found_reason l d a (k a.holder) (find_named a.name (own_of (known l d) a.holder).recent) (ap (find_named a.name) (sym (k a.holder).1))

-- ---- answers in the journal

pub has_back : (w j : Journal) (a : Ask) (x : Answer) → HasAnswer j (a, x) → HasAnswer (w ++ j) (a, x)
has_back w j a (says answer) h = (h.0, Among-own_back a.holder (record { ask = a; refused = h.0; answer = answer }) w j h.1)
has_back w j a (undecided rule) h = tt

pub AllByRecursion-HasAnswer_back : (w j : Journal) (ts : List (Ask × Answer)) → AllByRecursion (HasAnswer j) ts → AllByRecursion (HasAnswer (w ++ j)) ts
AllByRecursion-HasAnswer_back w j [] h = tt
AllByRecursion-HasAnswer_back w j ((a, x) ∷ ts) h = (has_back w j a x h.0, AllByRecursion-HasAnswer_back w j ts h.1)

pub AllByRecursion-append : {X : Type 0} (P : X → Type 0) (xs ys : List X) → AllByRecursion P xs → AllByRecursion P ys → AllByRecursion P (xs ++ ys)
AllByRecursion-append P [] ys h k = k
AllByRecursion-append P (x ∷ xs) ys h k = (h.0, AllByRecursion-append P xs ys h.1 k)

-- a copy has it, or lacks it
has_parted : (n : ℕ) (j gone : Journal) (a : Ask) (x : Answer) → HasAnswer (j ++ gone) (a, x) → HasAnswer (drop n j ++ (take n j ++ gone)) (a, x)
has_parted n j gone a (undecided rule) h = tt
has_parted n j gone a (says answer) h =
    let e : Named = record { ask = a; refused = h.0; answer = answer } in
    (h.0, by (Among-own_append a.holder e (take n j) (drop n j ++ gone) (subst (λ z. Among e (own a.holder z)) (sym (append-take_drop_append n j gone)) h.1)))
  where
    by : Among (record { ask = a; refused = h.0; answer = answer }) (own a.holder (take n j)) ⊎ Among (record { ask = a; refused = h.0; answer = answer }) (own a.holder (drop n j ++ gone))
        → Among (record { ask = a; refused = h.0; answer = answer }) (own a.holder (drop n j ++ (take n j ++ gone)))
    by (inl k) = let e : Named = record { ask = a; refused = h.0; answer = answer } in Among-own_back a.holder e (drop n j) (take n j ++ gone) (Among-own_front a.holder e (take n j) gone k)
    by (inr k) = let e : Named = record { ask = a; refused = h.0; answer = answer } in last (Among-own_append a.holder e (drop n j) gone k)
      where
        last : Among (record { ask = a; refused = h.0; answer = answer }) (own a.holder (drop n j)) ⊎ Among (record { ask = a; refused = h.0; answer = answer }) (own a.holder gone)
            → Among (record { ask = a; refused = h.0; answer = answer }) (own a.holder (drop n j ++ (take n j ++ gone)))
        last (inl m) = let e : Named = record { ask = a; refused = h.0; answer = answer } in Among-own_front a.holder e (drop n j) (take n j ++ gone) m
        last (inr m) = let e : Named = record { ask = a; refused = h.0; answer = answer } in Among-own_back a.holder e (drop n j) (take n j ++ gone) (Among-own_back a.holder e (take n j) gone m)

pub AllByRecursion-parted : (n : ℕ) (j gone : Journal) (ts : List (Ask × Answer)) → AllByRecursion (HasAnswer (j ++ gone)) ts → AllByRecursion (HasAnswer (drop n j ++ (take n j ++ gone))) ts
AllByRecursion-parted n j gone [] h = tt
AllByRecursion-parted n j gone ((a, x) ∷ ts) h = (has_parted n j gone a x h.0, AllByRecursion-parted n j gone ts h.1)

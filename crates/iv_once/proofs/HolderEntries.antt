-- What is kept of a holder is what its entries say.
use Rattle.std.proofs.Common.{◌≡◌, ◌⊎◌, inl, inr, ℕ, zero, suc, ◌+◌, ◌<◌, ◌≤◌, Bool, true, false, cond, List, [], ◌∷◌, ◌++◌, take, length, Option, Some, None, refl, ap, ◌∙◌, sym, subst, arith}
use Rattle.std.specs.Prelude.{◌==◌, ◌&&◌, bytes_eq, option_map, unwrap_or}
use Rattle.std.proofs.lemmas.Bool.{eqb-true}
use Rattle.iv_once.specs.Names.{Limits, Place, Named, Entry, named, plain, renewed, Journal, Own, Known, find_named, followed, is_place, learned, own_of}
use Rattle.iv_once.specs.Runs.{in_epoch, nothing_known}
use Rattle.iv_once.specs.Laws.{Among, own, times}
use Rattle.iv_once.proofs.Lists.{bytes_eq-itself, same-bytes_eq, same-Some, not_None-Some, take-cons_take, plus-zero_left, and-both_true}

-- ---- what one holder's entries are

-- when an entry came, its place was not ahead, all entries behind its place were known, and none of them bore its name
abbrev pub AreIn : ℕ → List Named → Type 0
AreIn most [] = Unit {0}
AreIn most (e ∷ es) = (e.ask.at.count ≤ length es) × (length es ≤ e.ask.at.count + most) × (find_named e.ask.name (take most es) ≡ None) × AreIn most es

pub in_rest : (most : ℕ) (holder : List ℕ) (x : Entry) (j : Journal) → AreIn most (own holder (x ∷ j)) → AreIn most (own holder j)
in_rest most holder (named e) j s = by (bytes_eq e.ask.holder holder) s
  where
    by : (c : Bool) → AreIn most (cond c (e ∷ own holder j) (own holder j)) → AreIn most (own holder j)
    by true h = h.3
    by false h = h
in_rest most holder (plain request) j s = s
in_rest most holder (renewed other epoch) j s = s

pub AreIn-append_back : (most : ℕ) (holder : List ℕ) (a b : Journal) → AreIn most (own holder (a ++ b)) → AreIn most (own holder b)
AreIn-append_back most holder [] b s = s
AreIn-append_back most holder (x ∷ a) b s = AreIn-append_back most holder a b (in_rest most holder x (a ++ b) s)

apart_counts : (a n k : ℕ) (b : Bool) → a ≤ n → suc n ≤ k → ((a == k) && b) ≡ true → ⊥
apart_counts a n k b h l t = let e : (a == k) ≡ true = (and-both_true (a == k) b t).0 in absurd (differ a k e (omega (arith, h, l)))
  where
    differ : (a k : ℕ) → (a == k) ≡ true → a < k → ⊥
    differ a k e h = let s = eqb-true a k e in omega (arith, s, h)

-- entries that all came before the place do not have it
pub none_old : (most : ℕ) (name : List ℕ) (at : Place) (es : List Named) → AreIn most es → length es ≤ at.count → times name at es ≡ 0
none_old most name at [] s l = refl
none_old most name at (e ∷ es) s l = by (bytes_eq e.ask.name name && is_place e.ask.at at) refl (none_old most name at es s.3 (omega (arith, l)))
  where
    by : (b : Bool) → (bytes_eq e.ask.name name && is_place e.ask.at at) ≡ b → times name at es ≡ 0 → cond b 1 0 + times name at es ≡ 0
    by false t more = plus-zero_left (times name at es) ∙ more
    by true t more = absurd (apart_counts e.ask.at.count (length es) at.count (bytes_eq e.ask.at.epoch at.epoch) s.0 (omega (arith, l)) (and-both_true (bytes_eq e.ask.name name) (is_place e.ask.at at) t).1)

if_none : (b : Bool) (e : Named) (o : Option Named) → cond b (Some e) o ≡ None → (b ≡ false) × (o ≡ None)
if_none true e o h = absurd (not_None-Some e h)
if_none false e o h = (refl, h)

-- what is not among the last ones, and has a place behind which all are among the last ones, is nowhere
pub times-find_named : (most k : ℕ) (name : List ℕ) (at : Place) (es : List Named) → find_named name (take k es) ≡ None → AreIn most es → length es ≤ at.count + k → times name at es ≡ 0
times-find_named most k name at [] h s l = refl
times-find_named most zero name at (e ∷ es) h s l = none_old most name at (e ∷ es) s (omega (arith, l))
times-find_named most (suc k) name at (e ∷ es) h s l =
    let parts = if_none (bytes_eq e.ask.name name) e (find_named name (take k es)) h in
    ap (λ b. cond (b && is_place e.ask.at at) 1 0 + times name at es) parts.0
    ∙ (plus-zero_left (times name at es) ∙ times-find_named most k name at es parts.1 s.3 (omega (arith, l)))

-- what is Among-find_named
pub Among-find_named : (name : List ℕ) (es : List Named) (e : Named) → find_named name es ≡ Some e → Among e es × (e.ask.name ≡ name)
Among-find_named name [] e h = absurd (not_None-Some e (sym h))
Among-find_named name (x ∷ es) e h = by (bytes_eq x.ask.name name) refl h (Among-find_named name es e)
  where
    by : (b : Bool) → bytes_eq x.ask.name name ≡ b → cond b (Some x) (find_named name es) ≡ Some e → (find_named name es ≡ Some e → Among e es × (e.ask.name ≡ name)) → Among e (x ∷ es) × (e.ask.name ≡ name)
    by true t k more = let s = same-Some x e k in (inl s, subst (λ (z : Named). z.ask.name ≡ name) s (same-bytes_eq x.ask.name name t))
    by false t k more = let m = more k in (inr m.0, m.1)

-- what is Among-find_named among fewer is Among-find_named among more
found_more : (name : List ℕ) (k n : ℕ) (es : List Named) (e : Named) → k ≤ n → find_named name (take k es) ≡ Some e → find_named name (take n es) ≡ Some e
found_more name zero n es e l h = absurd (not_None-Some e (sym h))
found_more name (suc k) zero es e l h = absurd (omega (arith, l))
found_more name (suc k) (suc n) [] e l h = h
found_more name (suc k) (suc n) (x ∷ es) e l h = by (bytes_eq x.ask.name name) h (found_more name k n es e (omega (arith, l)))
  where
    by : (b : Bool) → cond b (Some x) (find_named name (take k es)) ≡ Some e → (find_named name (take k es) ≡ Some e → find_named name (take n es) ≡ Some e) → cond b (Some x) (find_named name (take n es)) ≡ Some e
    by true h more = h
    by false h more = more h

-- an entry behind which there are no more than k is Among-find_named among the last k
pub find_named-Among : (most k : ℕ) (e : Named) (es : List Named) → k ≤ most → AreIn most es → Among e es → length es ≤ e.ask.at.count + k → find_named e.ask.name (take k es) ≡ Some e
find_named-Among most k e [] m s a l = absurd a
find_named-Among most zero e (x ∷ es) m s a l = absurd (ahead e (x ∷ es) s a (omega (arith, l)))
  where
    ahead : (e : Named) (es : List Named) → AreIn most es → Among e es → length es ≤ e.ask.at.count → ⊥
    ahead e [] s a l = a
    ahead e (x ∷ es) s (inl h) l = let c : e.ask.at.count ≤ length es = subst (λ (z : Named). z.ask.at.count ≤ length es) h s.0 in omega (arith, c, l)
    ahead e (x ∷ es) s (inr h) l = ahead e es s.3 h (omega (arith, l))
find_named-Among most (suc k) e (x ∷ es) m s (inl h) l = ap (λ b. cond b (Some x) (find_named e.ask.name (take k es))) (subst (λ (z : Named). bytes_eq x.ask.name z.ask.name ≡ true) h (bytes_eq-itself x.ask.name)) ∙ ap (λ (z : Named). Some z) h
find_named-Among most (suc k) e (x ∷ es) m s (inr h) l = by (bytes_eq x.ask.name e.ask.name) refl (find_named-Among most k e es (omega (arith, m)) s.3 h (omega (arith, l)))
  where
    by : (b : Bool) → bytes_eq x.ask.name e.ask.name ≡ b → find_named e.ask.name (take k es) ≡ Some e → cond b (Some x) (find_named e.ask.name (take k es)) ≡ Some e
    by false t f = f
    by true t f = absurd (not_None-Some e (sym (found_more e.ask.name k most es e (omega (arith, m)) f) ∙ subst (λ n. find_named n (take most es) ≡ None) (same-bytes_eq x.ask.name e.ask.name t) s.2))

-- ---- what is kept follows the journal

abbrev pub IsOwn : Limits → Own → List Named → Type 0
IsOwn l o es = (o.count ≡ length es) × (o.recent ≡ take l.names es)

abbrev pub IsBase : Limits → Known → Journal → Type 0
IsBase l k j = (holder : List ℕ) → IsOwn l (own_of k holder) (own holder j)

pub IsBase-followed : (l : Limits) (k : Known) (past j : Journal) → IsBase l k past → IsBase l (followed l k j) (j ++ past)
IsBase-followed l k past [] s = s
IsBase-followed l k past (plain request ∷ j) s = IsBase-followed l k past j s
IsBase-followed l k past (named e ∷ j) s = λ holder. by holder (bytes_eq e.ask.holder holder) refl (IsBase-followed l k past j s)
  where
    by : (holder : List ℕ) (b : Bool) → bytes_eq e.ask.holder holder ≡ b → IsBase l (followed l k j) (j ++ past) → let o = own_of (followed l k j) e.ask.holder in
        IsOwn l (unwrap_or (cond b (Some (record { epoch = o.epoch; count = o.count + 1; recent = take l.names (e ∷ o.recent) })) ((followed l k j).owns holder)) (record { epoch = (followed l k j).epoch; count = 0; recent = [] }))
        (cond b (e ∷ own holder (j ++ past)) (own holder (j ++ past)))
    by holder false t h = h holder
    by holder true t h =
        let o = h e.ask.holder in
        let same : e.ask.holder ≡ holder = same-bytes_eq e.ask.holder holder t in
        let n : (own_of (followed l k j) e.ask.holder).count ≡ length (own holder (j ++ past)) = subst (λ z. (own_of (followed l k j) e.ask.holder).count ≡ length (own z (j ++ past))) same o.0 in
        let r : (own_of (followed l k j) e.ask.holder).recent ≡ take l.names (own holder (j ++ past)) = subst (λ z. (own_of (followed l k j) e.ask.holder).recent ≡ take l.names (own z (j ++ past))) same o.1 in
        (omega (arith, n), ap (λ z. take l.names (e ∷ z)) r ∙ take-cons_take l.names e (own holder (j ++ past)))
IsBase-followed l k past (renewed other epoch ∷ j) s = λ holder. by holder (bytes_eq other holder) refl (IsBase-followed l k past j s)
  where
    by : (holder : List ℕ) (b : Bool) → bytes_eq other holder ≡ b → IsBase l (followed l k j) (j ++ past) → let o = own_of (followed l k j) other in
        IsOwn l (unwrap_or (cond b (Some (record { epoch = epoch; count = o.count; recent = o.recent })) ((followed l k j).owns holder)) (record { epoch = (followed l k j).epoch; count = 0; recent = [] })) (own holder (j ++ past))
    by holder false t h = h holder
    by holder true t h = let same : other ≡ holder = same-bytes_eq other holder t in subst (λ z. IsOwn l (own_of (followed l k j) other) (own z (j ++ past))) same (h other)

none : (m : ℕ) → [] ≡ take {A = Named} m []
none zero = refl
none (suc m) = refl

pub IsBase-nothing_known : (l : Limits) (epoch : List ℕ) → IsBase l (nothing_known epoch) []
IsBase-nothing_known l epoch = λ holder. (refl, none l.names)

-- a new epoch changes nothing else
pub IsBase-in_epoch : (l : Limits) (epoch : List ℕ) (k : Known) (j : Journal) → IsBase l k j → IsBase l (in_epoch epoch k) j
IsBase-in_epoch l epoch k j s = λ holder. by holder (k.owns holder) (s holder)
  where
    by : (holder : List ℕ) (o : Option Own) → IsOwn l (unwrap_or o (record { epoch = k.epoch; count = 0; recent = [] })) (own holder j)
        → IsOwn l (unwrap_or (option_map (λ (o : Own). record o { epoch = epoch }) o) (record { epoch = epoch; count = 0; recent = [] })) (own holder j)
    by holder None h = h
    by holder (Some o) h = h

pub followed-append : (l : Limits) (k : Known) (w j : Journal) → followed l k (w ++ j) ≡ followed l (followed l k j) (w ++ [])
followed-append l k [] j = refl
followed-append l k (x ∷ w) j = ap (learned l x) (followed-append l k w j)

-- ---- epochs

pub epoch-in_epoch : (epoch : List ℕ) (k : Known) (holder : List ℕ) → (own_of (in_epoch epoch k) holder).epoch ≡ epoch
epoch-in_epoch epoch k holder = by (k.owns holder)
  where
    by : (o : Option Own) → (unwrap_or (option_map (λ (o : Own). record o { epoch = epoch }) o) (record { epoch = epoch; count = 0; recent = [] })).epoch ≡ epoch
    by None = refl
    by (Some o) = refl

-- an entry with a name leaves the epochs, and counts no less
pub own_of-learned_named : (l : Limits) (e : Named) (k : Known) (holder : List ℕ) → ((own_of (learned l (named e) k) holder).epoch ≡ (own_of k holder).epoch) × ((own_of k holder).count ≤ (own_of (learned l (named e) k) holder).count)
own_of-learned_named l e k holder = by (bytes_eq e.ask.holder holder) refl
  where
    by : (b : Bool) → bytes_eq e.ask.holder holder ≡ b → let o = own_of k e.ask.holder in
        let n : Own = unwrap_or (cond b (Some (record { epoch = o.epoch; count = o.count + 1; recent = take l.names (e ∷ o.recent) })) (k.owns holder)) (record { epoch = k.epoch; count = 0; recent = [] }) in
        (n.epoch ≡ (own_of k holder).epoch) × ((own_of k holder).count ≤ n.count)
    by false t = (refl, omega arith)
    by true t =
        let same : e.ask.holder ≡ holder = same-bytes_eq e.ask.holder holder t in
        let c : (own_of k e.ask.holder).count ≡ (own_of k holder).count = ap (λ z. (own_of k z).count) same in
        (ap (λ z. (own_of k z).epoch) same, omega (arith, c))

-- a holder's epoch after a new one was entered, for it or for another
pub own_of-learned_renewed : (l : Limits) (other epoch : List ℕ) (k : Known) (holder : List ℕ)
    → ((own_of (learned l (renewed other epoch) k) holder).epoch ≡ epoch) ⊎ (own_of (learned l (renewed other epoch) k) holder ≡ own_of k holder)
own_of-learned_renewed l other epoch k holder = by (bytes_eq other holder)
  where
    by : (b : Bool) → let o = own_of k other in
        let n : Own = unwrap_or (cond b (Some (record { epoch = epoch; count = o.count; recent = o.recent })) (k.owns holder)) (record { epoch = k.epoch; count = 0; recent = [] }) in
        (n.epoch ≡ epoch) ⊎ (n ≡ own_of k holder)
    by false = inr refl
    by true = inl refl

-- the holder bytes_eq-itself
pub epoch-learned_renewed : (l : Limits) (epoch : List ℕ) (k : Known) (holder : List ℕ) → (own_of (learned l (renewed holder epoch) k) holder).epoch ≡ epoch
epoch-learned_renewed l epoch k holder =
    ap (λ b. (unwrap_or (cond b (Some (record { epoch = epoch; count = (own_of k holder).count; recent = (own_of k holder).recent })) (k.owns holder)) (record { epoch = k.epoch; count = 0; recent = [] })).epoch) (bytes_eq-itself holder)

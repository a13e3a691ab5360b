-- How many entries a holder is to blame for, and how many holders there are.
use Rattle.std.proofs.Common.{◌≡◌, ◌⊎◌, inl, inr, ℕ, suc, ◌+◌, ◌*◌, ◌<◌, ◌≤◌, Bool, true, false, cond, List, [], ◌∷◌, ◌++◌, drop, take, Option, Some, None, is_some, refl, ap, ◌∙◌, sym, subst, arith}
use Rattle.std.proofs.Math.Nat.{mul-suc}
use Rattle.std.specs.Prelude.{◌&&◌, ◌||◌, not, bytes_eq, nat_le, option_map, unwrap_or}
use Rattle.std.proofs.lemmas.Bool.{false≢true}
use Rattle.iv_once.specs.Names.{Limits, Ask, Entry, named, plain, renewed, Journal, Own, Known, Verdict, carry, again, another, late, foreign, ahead, over, blamed, followed, is_over, learned, own_of, spent_by, spent_more, verdict, with_own}
use Rattle.iv_once.specs.Runs.{Event, asks, does, synced, crashed, compacted, restored, forgiven, Run, after, copied, done_by, entered, history, in_epoch, is_new, journal, kept, known, names, next, noted, nothing_known, restarted, start}
use Rattle.iv_once.specs.Laws.{HasReason, HasToWait, blames, forgiveness}
use Rattle.iv_once.proofs.Lists.{append-associative, append-take_drop, append-take_drop_append, lt-nat_le_false, le-nat_le, same-bytes_eq}
use Rattle.iv_once.proofs.HolderEntries.{followed-append}
use Rattle.iv_once.proofs.NamesOnce.{IsSound, AreKept-IsSound, or-both_false, HasReason-AreKept}
use Rattle.iv_once.proofs.SoundRuns.{IsSound-after, IsSound-next, append-take_rest}

-- ---- blame

abbrev blame : List ℕ → Option (List ℕ) → ℕ
blame holder None = 0
blame holder (Some other) = cond (bytes_eq other holder) 1 0

-- the definition counts what is spent
blames_first : (holder : List ℕ) (x : Entry) (j : Journal) → blames holder (x ∷ j) ≡ blame holder (blamed x) + blames holder j
blames_first holder (named e) j = by e.refused
  where
    by : (b : Bool) → cond (b && bytes_eq e.ask.holder holder) 1 0 + blames holder j ≡ blame holder (cond b (Some e.ask.holder) None) + blames holder j
    by true = refl
    by false = refl
blames_first holder (plain request) j = omega arith
blames_first holder (renewed other epoch) j = refl

blames_both : (holder : List ℕ) (a b : Journal) → blames holder (a ++ b) ≡ blames holder a + blames holder b
blames_both holder [] b = omega arith
blames_both holder (x ∷ a) b = let h = blames_both holder a b in let m = blames_first holder x (a ++ b) in let n = blames_first holder x a in omega (arith, h, m, n)

-- it spent no more than it may, and is to blame for no more than it might ever have spent
abbrev IsBounded : ℕ → ℕ → ℕ → ℕ → Type 0
IsBounded most before spent n = (spent ≤ most) × (n ≤ before + spent)

abbrev AreBounded : Limits → ℕ → Run → Type 0
AreBounded l times d = (holder : List ℕ) → IsBounded l.refusals (l.refusals * times) (spent_by d.spent holder) (blames holder (history d))

blamed_bounded : (most before : ℕ) (spent : List ℕ → Option ℕ) (holder : List ℕ) (n : ℕ) (o : Option (List ℕ)) → IsBounded most before (spent_by spent holder) n → ((other : List ℕ) → o ≡ Some other → spent_by spent other < most)
    → IsBounded most before (spent_by (spent_more spent o) holder) (blame holder o + n)
blamed_bounded most before spent holder n None h f = (h.0, let m = h.1 in omega (arith, m))
blamed_bounded most before spent holder n (Some other) h f = by (bytes_eq other holder) refl (f other refl)
  where
    by : (b : Bool) → bytes_eq other holder ≡ b → spent_by spent other < most → IsBounded most before (unwrap_or (cond b (Some (spent_by spent other + 1)) (spent holder)) 0) (cond b 1 0 + n)
    by false t k = (h.0, let m = h.1 in omega (arith, m))
    by true t k = let e : spent_by spent other ≡ spent_by spent holder = ap (spent_by spent) (same-bytes_eq other holder t) in let m = h.1 in (omega (arith, k), omega (arith, e, m))

entered_bounded : (l : Limits) (times : ℕ) (d : Run) (x : Entry) → ((other : List ℕ) → blamed x ≡ Some other → spent_by d.spent other < l.refusals) → AreBounded l times d → AreBounded l times (entered d x)
entered_bounded l times d x f s = λ holder. subst (IsBounded l.refusals (l.refusals * times) (spent_by (spent_more d.spent (blamed x)) holder)) (sym (blames_first holder x (history d)))
    (blamed_bounded l.refusals (l.refusals * times) d.spent holder (blames holder (history d)) (blamed x) (s holder) f)

-- a restart forgives
forgiven_bounded : (l : Limits) (times : ℕ) (spent n m : ℕ) → IsBounded l.refusals (l.refusals * times) spent n → m ≤ n → IsBounded l.refusals (l.refusals * suc times) 0 m
forgiven_bounded l times spent n m s h = let a = s.0 in let b = s.1 in let e = mul-suc l.refusals times in (omega arith, omega (arith, a, b, e, h))

not_over : (l : Limits) (d : Run) (holder : List ℕ) → is_over (names l d) holder ≡ false → spent_by d.spent holder < l.refusals
not_over l d holder h = lt-nat_le_false l.refusals (spent_by d.spent holder) (or-both_false (nat_le l.refusals (spent_by d.spent holder)) (nat_le l.holders (known l d).holders && not (is_some ((known l d).owns holder))) h).0

named_blamed : (a : Ask) (refused : Bool) (answer : List ℕ) (other : List ℕ) → blamed (named (record { ask = a; refused = refused; answer = answer })) ≡ Some other → a.holder ≡ other
named_blamed a true answer other e = ap (λ o. unwrap_or o a.holder) e
named_blamed a false answer other e = absurd (false≢true (ap is_some e))

done_bounded : (l : Limits) (times : ℕ) (d : Run) (a : Ask) (answer : List ℕ) (refused : Bool) (new : List ℕ) → AreBounded l times d → (v : Verdict) → HasReason l d a v → AreBounded l times (done_by (noted d (new ∷ a.at.epoch ∷ [])) a answer refused new v)
done_bounded l times d a answer refused new s carry r =
    entered_bounded l times (noted d (new ∷ a.at.epoch ∷ [])) (named (record { ask = a; refused = refused; answer = answer })) (λ other e. subst (λ z. spent_by d.spent z < l.refusals) (named_blamed a refused answer other e) (not_over l d a.holder r.4)) s
done_bounded l times d a answer refused new s (again first) r = s
done_bounded l times d a answer refused new s another r = s
done_bounded l times d a answer refused new s late r = s
done_bounded l times d a answer refused new s foreign r = s
done_bounded l times d a answer refused new s ahead r =
    entered_bounded l times (noted d (new ∷ a.at.epoch ∷ [])) (renewed a.holder new) (λ other e. subst (λ z. spent_by d.spent z < l.refusals) (ap (λ o. unwrap_or o a.holder) e) (not_over l d a.holder r.1)) s
done_bounded l times d a answer refused new s over r = s

asks_bounded : (l : Limits) (times : ℕ) (d : Run) (a : Ask) (answer : List ℕ) (refused : Bool) (new : List ℕ) → IsSound l d → AreBounded l times d → (b : Bool) → AreBounded l times (cond b (done_by (noted d (new ∷ a.at.epoch ∷ [])) a answer refused new (verdict (names l d) a)) d)
asks_bounded l times d a answer refused new sound s false = s
asks_bounded l times d a answer refused new sound s true = done_bounded l times d a answer refused new s (verdict (names l d) a) (HasReason-AreKept l d a (AreKept-IsSound l d sound))

-- what a copy has and what it lacks
parted_blames : (holder : List ℕ) (n : ℕ) (j gone : Journal) → blames holder (drop n j ++ (take n j ++ gone)) ≡ blames holder (j ++ gone)
parted_blames holder n j gone =
    let a = blames_both holder (drop n j) (take n j ++ gone) in
    let b = blames_both holder (take n j) gone in
    let c = blames_both holder j gone in
    let d = blames_both holder (take n j) (drop n j) in
    let e : blames holder (take n j ++ drop n j) ≡ blames holder j = ap (blames holder) (append-take_drop n j) in
    omega (arith, a, b, c, d, e)

crashed_bounded : (l : Limits) (times : ℕ) (d : Run) (n : ℕ) → AreBounded l times d → AreBounded l (suc times) (next l d (crashed n))
crashed_bounded l times d n s = λ holder.
    let h : blames holder (take n d.waiting ++ (((drop n d.waiting ++ d.lines) ++ d.past) ++ d.gone)) ≡ blames holder (history d) = ap (blames holder) (append-take_rest n d.waiting d.lines d.past d.gone) in
    let m = blames_both holder (take n d.waiting) (((drop n d.waiting ++ d.lines) ++ d.past) ++ d.gone) in
    forgiven_bounded l times (spent_by d.spent holder) (blames holder (history d)) (blames holder (((drop n d.waiting ++ d.lines) ++ d.past) ++ d.gone)) (s holder) (omega (arith, h, m))

more_bounded : (l : Limits) (times : ℕ) (d : Run) → AreBounded l times d → AreBounded l (suc times) d
more_bounded l times d s = λ holder. let a = (s holder).0 in let b = (s holder).1 in let e = mul-suc l.refusals times in (a, omega (arith, b, e))

restored_bounded : (l : Limits) (times : ℕ) (d : Run) (n : ℕ) (new : List ℕ) → AreBounded l times d → (b : Bool) → AreBounded l (suc times) (cond b (restarted (copied l (noted d (new ∷ [])) n new)) d)
restored_bounded l times d n new s false = more_bounded l times d s
restored_bounded l times d n new s true = λ holder.
    let e = parted_blames holder n (kept d) d.gone in
    let m = blames_both holder d.waiting (kept d ++ d.gone) in
    let h : blames holder (d.waiting ++ (kept d ++ d.gone)) ≡ blames holder (history d) =
    ap (blames holder) (sym (append-associative d.waiting (kept d) d.gone)) in
    forgiven_bounded l times (spent_by d.spent holder) (blames holder (history d)) (blames holder (drop n (kept d) ++ (take n (kept d) ++ d.gone))) (s holder) (omega (arith, e, m, h))

-- what one event forgives
next_bounded : (l : Limits) (times : ℕ) (d : Run) (e : Event) → IsSound l d → AreBounded l times d → AreBounded l (times + forgiveness (e ∷ [])) (next l d e)
next_bounded l times d (asks a answer refused new) sound s = subst (λ z. AreBounded l z (next l d (asks a answer refused new))) (omega arith) (asks_bounded l times d a answer refused new sound s (is_new new (a.at.epoch ∷ d.seen)))
next_bounded l times d (does request) sound s = subst (λ z. AreBounded l z (next l d (does request))) (omega arith) (entered_bounded l times d (plain request) (λ other e. absurd (false≢true (ap is_some e))) s)
next_bounded l times d synced sound s = subst (λ z. AreBounded l z (next l d synced)) (omega arith) synced_bounded
  where
    synced_bounded : AreBounded l times (next l d synced)
    synced_bounded = λ holder. let h : blames holder (((d.waiting ++ d.lines) ++ d.past) ++ d.gone) ≡ blames holder (history d) = ap (λ j. blames holder (j ++ d.gone)) (append-associative d.waiting d.lines d.past) in let a = (s holder).0 in let b = (s holder).1 in (a, omega (arith, b, h))
next_bounded l times d (crashed n) sound s = subst (λ z. AreBounded l z (next l d (crashed n))) (omega arith) (crashed_bounded l times d n s)
next_bounded l times d compacted sound s = subst (λ z. AreBounded l z (next l d compacted)) (omega arith) s
next_bounded l times d (restored n new) sound s = subst (λ z. AreBounded l z (next l d (restored n new))) (omega arith) (restored_bounded l times d n new s (is_new new d.seen))
next_bounded l times d forgiven sound s = subst (λ z. AreBounded l z (next l d forgiven)) (omega arith) forgives
  where
    forgives : AreBounded l (suc times) (next l d forgiven)
    forgives = λ holder. forgiven_bounded l times (spent_by d.spent holder) (blames holder (history d)) (blames holder (history d)) (s holder) (omega arith)

forgiveness_first : (e : Event) (es : List Event) → forgiveness (e ∷ []) + forgiveness es ≡ forgiveness (e ∷ es)
forgiveness_first (asks a answer refused new) es = omega arith
forgiveness_first (does request) es = omega arith
forgiveness_first synced es = omega arith
forgiveness_first (crashed n) es = omega arith
forgiveness_first compacted es = omega arith
forgiveness_first (restored n new) es = omega arith
forgiveness_first forgiven es = omega arith

after_bounded : (l : Limits) (times : ℕ) (d : Run) (es : List Event) → IsSound l d → AreBounded l times d → AreBounded l (times + forgiveness es) (after l d es)
after_bounded l times d [] sound s = subst (λ z. AreBounded l z d) (omega arith) s
after_bounded l times d (e ∷ es) sound s =
    let h = forgiveness_first e es in
    subst (λ z. AreBounded l z (after l (next l d e) es)) (omega (arith, h)) (after_bounded l (times + forgiveness (e ∷ [])) (next l d e) es (IsSound-next l d e sound) (next_bounded l times d e sound s))

pub le-blames : (l : Limits) (epoch : List ℕ) (es : List Event) (holder : List ℕ) → IsSound l (start epoch) → blames holder (history (after l (start epoch) es)) ≤ l.refusals * (1 + forgiveness es)
le-blames l epoch es holder sound =
    let b = after_bounded l 0 (start epoch) es sound (λ h. (omega arith, omega arith)) holder in
    let m = b.0 in
    let n = b.1 in
    let one : 1 + forgiveness es ≡ suc (0 + forgiveness es) = omega arith in
    let e : l.refusals * (1 + forgiveness es) ≡ l.refusals * (0 + forgiveness es) + l.refusals = ap (λ z. l.refusals * z) one ∙ mul-suc l.refusals (0 + forgiveness es) in
    omega (arith, m, n, e)

-- ---- who has to wait

-- no more was spent than the journal has
abbrev IsSpent : Run → Type 0
IsSpent d = (holder : List ℕ) → spent_by d.spent holder ≤ blames holder (journal d)

spent_first : (spent : List ℕ → Option ℕ) (holder : List ℕ) (n : ℕ) (o : Option (List ℕ)) → spent_by spent holder ≤ n → spent_by (spent_more spent o) holder ≤ blame holder o + n
spent_first spent holder n None h = omega (arith, h)
spent_first spent holder n (Some other) h = by (bytes_eq other holder) refl
  where
    by : (b : Bool) → bytes_eq other holder ≡ b → unwrap_or (cond b (Some (spent_by spent other + 1)) (spent holder)) 0 ≤ cond b 1 0 + n
    by false t = omega (arith, h)
    by true t = let e : spent_by spent other ≡ spent_by spent holder = ap (spent_by spent) (same-bytes_eq other holder t) in omega (arith, e, h)

entered_spent : (d : Run) (x : Entry) → IsSpent d → IsSpent (entered d x)
entered_spent d x s = λ holder. let h = spent_first d.spent holder (blames holder (journal d)) (blamed x) (s holder) in let m = blames_first holder x (journal d) in omega (arith, h, m)

done_spent : (d : Run) (a : Ask) (answer : List ℕ) (refused : Bool) (new : List ℕ) → IsSpent d → (v : Verdict) → IsSpent (done_by (noted d (new ∷ a.at.epoch ∷ [])) a answer refused new v)
done_spent d a answer refused new s carry = entered_spent d (named (record { ask = a; refused = refused; answer = answer })) s
done_spent d a answer refused new s (again first) = s
done_spent d a answer refused new s another = s
done_spent d a answer refused new s late = s
done_spent d a answer refused new s foreign = s
done_spent d a answer refused new s ahead = entered_spent d (renewed a.holder new) s
done_spent d a answer refused new s over = s

asks_spent : (l : Limits) (d : Run) (a : Ask) (answer : List ℕ) (refused : Bool) (new : List ℕ) → IsSpent d → (b : Bool) → IsSpent (cond b (done_by (noted d (new ∷ a.at.epoch ∷ [])) a answer refused new (verdict (names l d) a)) d)
asks_spent l d a answer refused new s false = s
asks_spent l d a answer refused new s true = done_spent d a answer refused new s (verdict (names l d) a)

restored_spent : (l : Limits) (d : Run) (n : ℕ) (new : List ℕ) → IsSpent d → (b : Bool) → IsSpent (cond b (restarted (copied l (noted d (new ∷ [])) n new)) d)
restored_spent l d n new s false = s
restored_spent l d n new s true = λ holder. omega arith

next_spent : (l : Limits) (d : Run) (e : Event) → IsSpent d → IsSpent (next l d e)
next_spent l d (asks a answer refused new) s = asks_spent l d a answer refused new s (is_new new (a.at.epoch ∷ d.seen))
next_spent l d (does request) s = entered_spent d (plain request) s
next_spent l d synced s = λ holder. let h : blames holder ((d.waiting ++ d.lines) ++ d.past) ≡ blames holder (journal d) = ap (blames holder) (append-associative d.waiting d.lines d.past) in let m = s holder in omega (arith, h, m)
next_spent l d (crashed n) s = λ holder. omega arith
next_spent l d compacted s = s
next_spent l d (restored n new) s = restored_spent l d n new s (is_new new d.seen)
next_spent l d forgiven s = λ holder. omega arith

after_spent : (l : Limits) (d : Run) (es : List Event) → IsSpent d → IsSpent (after l d es)
after_spent l d [] s = s
after_spent l d (e ∷ es) s = after_spent l (next l d e) es (next_spent l d e s)

waits_by : (l : Limits) (d : Run) (holder : List ℕ) → IsSpent d → (b c e : Bool) → nat_le l.refusals (spent_by d.spent holder) ≡ b → nat_le l.holders (known l d).holders ≡ c → (b || (c && e)) ≡ true → (l.refusals ≤ blames holder (journal d)) ⊎ (l.holders ≤ (known l d).holders)
waits_by l d holder s true c e t u h = let m = le-nat_le l.refusals (spent_by d.spent holder) t in let n = s holder in inl (omega (arith, m, n))
waits_by l d holder s false true e t u h = inr (le-nat_le l.holders (known l d).holders u)
waits_by l d holder s false false e t u h = absurd (false≢true h)

pub HasToWait-after : (l : Limits) (epoch : List ℕ) (es : List Event) (a : Ask) → IsSound l (start epoch) → HasToWait l (after l (start epoch) es) a
HasToWait-after l epoch es a sound = λ v.
    let d = after l (start epoch) es in
    let r : is_over (names l d) a.holder ≡ true =
    subst (HasReason l d a) v (HasReason-AreKept l d a (AreKept-IsSound l d (IsSound-after l (start epoch) es sound))) in
    waits_by l d a.holder (after_spent l (start epoch) es (λ holder. omega arith)) (nat_le l.refusals (spent_by d.spent a.holder)) (nat_le l.holders (known l d).holders) (not (is_some ((known l d).owns a.holder))) refl refl r

-- ---- holders

abbrev AreSame : Known → Known → Type 0
AreSame k m = (k.holders ≡ m.holders) × ((holder : List ℕ) → is_some (k.owns holder) ≡ is_some (m.owns holder))

same_own : (l : Limits) (k m : Known) (holder : List ℕ) (o p : Own) → AreSame k m → AreSame (with_own k holder o) (with_own m holder p)
same_own l k m holder o p s = ((λ i. cond (s.1 holder i) (s.0 i) (s.0 i + 1)), λ other. by other (bytes_eq holder other))
  where
    by : (other : List ℕ) (b : Bool) → is_some (cond b (Some o) (k.owns other)) ≡ is_some (cond b (Some p) (m.owns other))
    by other true = refl
    by other false = s.1 other

same_learned : (l : Limits) (x : Entry) (k m : Known) → AreSame k m → AreSame (learned l x k) (learned l x m)
same_learned l (plain request) k m s = s
same_learned l (named e) k m s = same_own l k m e.ask.holder (record { epoch = (own_of k e.ask.holder).epoch; count = (own_of k e.ask.holder).count + 1; recent = take l.names (e ∷ (own_of k e.ask.holder).recent) })
    (record { epoch = (own_of m e.ask.holder).epoch; count = (own_of m e.ask.holder).count + 1; recent = take l.names (e ∷ (own_of m e.ask.holder).recent) }) s
same_learned l (renewed holder epoch) k m s = same_own l k m holder (record { epoch = epoch; count = (own_of k holder).count; recent = (own_of k holder).recent }) (record { epoch = epoch; count = (own_of m holder).count; recent = (own_of m holder).recent }) s

same_followed : (l : Limits) (k m : Known) (j : Journal) → AreSame k m → AreSame (followed l k j) (followed l m j)
same_followed l k m [] s = s
same_followed l k m (x ∷ j) s = same_learned l x (followed l k j) (followed l m j) (same_followed l k m j s)

same_in_epoch : (epoch : List ℕ) (k : Known) → AreSame (in_epoch epoch k) k
same_in_epoch epoch k = (refl, λ holder. by (k.owns holder))
  where
    by : (o : Option Own) → is_some (option_map (λ (o : Own). record o { epoch = epoch }) o) ≡ is_some o
    by None = refl
    by (Some o) = refl

followed_both : (l : Limits) (k : Known) (a b : Journal) → followed l k (a ++ b) ≡ followed l (followed l k b) a
followed_both l k [] b = refl
followed_both l k (x ∷ a) b = ap (learned l x) (followed_both l k a b)

holders_learned : (l : Limits) (x : Entry) (k : Known) → k.holders ≤ (learned l x k).holders
holders_learned l (plain request) k = omega arith
holders_learned l (named e) k = by (is_some (k.owns e.ask.holder))
  where
    by : (b : Bool) → k.holders ≤ cond b k.holders (k.holders + 1)
    by true = omega arith
    by false = omega arith
holders_learned l (renewed holder epoch) k = by (is_some (k.owns holder))
  where
    by : (b : Bool) → k.holders ≤ cond b k.holders (k.holders + 1)
    by true = omega arith
    by false = omega arith

holders_back : (l : Limits) (k : Known) (a b : Journal) → (followed l k b).holders ≤ (followed l k (a ++ b)).holders
holders_back l k [] b = omega arith
holders_back l k (x ∷ a) b = let h = holders_back l k a b in let m = holders_learned l x (followed l k (a ++ b)) in omega (arith, h, m)

-- what the first record says of is what its entries are of; and there are no more than may be
record AreFew (l : Limits) (d : Run) : Type 0 where
  same : AreSame d.first (followed l (nothing_known []) d.past)
  few : (known l d).holders ≤ l.holders

room : (l : Limits) (d : Run) (holder : List ℕ) → (known l d).holders ≤ l.holders → is_over (names l d) holder ≡ false → cond (is_some ((known l d).owns holder)) (known l d).holders ((known l d).holders + 1) ≤ l.holders
room l d holder few h = by (is_some ((known l d).owns holder)) (nat_le l.holders (known l d).holders) refl (or-both_false (nat_le l.refusals (spent_by d.spent holder)) (nat_le l.holders (known l d).holders && not (is_some ((known l d).owns holder))) h).1
  where
    by : (b c : Bool) → nat_le l.holders (known l d).holders ≡ c → (c && not b) ≡ false → cond b (known l d).holders ((known l d).holders + 1) ≤ l.holders
    by true c t k = few
    by false false t k = let m = lt-nat_le_false l.holders (known l d).holders t in omega (arith, m)
    by false true t k = absurd (false≢true (sym k))

done_few : (l : Limits) (d : Run) (a : Ask) (answer : List ℕ) (refused : Bool) (new : List ℕ) → AreFew l d → (v : Verdict) → HasReason l d a v → AreFew l (done_by (noted d (new ∷ a.at.epoch ∷ [])) a answer refused new v)
done_few l d a answer refused new s carry r = record { same = s.same; few = room l d a.holder s.few r.4 }
done_few l d a answer refused new s (again first) r = record { same = s.same; few = s.few }
done_few l d a answer refused new s another r = record { same = s.same; few = s.few }
done_few l d a answer refused new s late r = record { same = s.same; few = s.few }
done_few l d a answer refused new s foreign r = record { same = s.same; few = s.few }
done_few l d a answer refused new s ahead r = record { same = s.same; few = room l d a.holder s.few r.1 }
done_few l d a answer refused new s over r = record { same = s.same; few = s.few }

asks_few : (l : Limits) (d : Run) (a : Ask) (answer : List ℕ) (refused : Bool) (new : List ℕ) → IsSound l d → AreFew l d → (b : Bool) → AreFew l (cond b (done_by (noted d (new ∷ a.at.epoch ∷ [])) a answer refused new (verdict (names l d) a)) d)
asks_few l d a answer refused new sound s false = s
asks_few l d a answer refused new sound s true =
    done_few l d a answer refused new s (verdict (names l d) a) (HasReason-AreKept l d a (AreKept-IsSound l d sound))

copied_few : (l : Limits) (d : Run) (n : ℕ) (new : List ℕ) → AreFew l d → AreFew l (restarted (copied l (noted d (new ∷ [])) n new))
copied_few l d n new s =
    let k = followed l (nothing_known new) (drop n (kept d)) in
    let z : AreSame (nothing_known new) (nothing_known []) = (refl, λ holder. refl) in
    let e = same_in_epoch new k in
    let f = same_followed l (nothing_known new) (nothing_known []) (drop n (kept d)) z in
    let g = holders_back l (nothing_known []) (take n (kept d)) (drop n (kept d)) in
    let c : (followed l (nothing_known []) (take n (kept d) ++ drop n (kept d))).holders ≡ (followed l (nothing_known []) (kept d)).holders = ap (λ j. (followed l (nothing_known []) j).holders) (append-take_drop n (kept d)) in
    let p : (followed l (nothing_known []) (kept d)).holders ≡ (followed l (followed l (nothing_known []) d.past) d.lines).holders = ap (λ (k : Known). k.holders) (followed_both l (nothing_known []) d.lines d.past) in
    let q = (same_followed l d.first (followed l (nothing_known []) d.past) d.lines s.same).0 in
    let m = holders_back l d.first d.waiting d.lines in
    let w = s.few in
    let u = f.0 in
    record { same = (f.0, λ holder. e.1 holder ∙ f.1 holder); few = omega (arith, g, c, p, q, m, w, u) }

restored_few : (l : Limits) (d : Run) (n : ℕ) (new : List ℕ) → AreFew l d → (b : Bool) → AreFew l (cond b (restarted (copied l (noted d (new ∷ [])) n new)) d)
restored_few l d n new s false = s
restored_few l d n new s true = copied_few l d n new s

next_few : (l : Limits) (d : Run) (e : Event) → IsSound l d → AreFew l d → AreFew l (next l d e)
next_few l d (asks a answer refused new) sound s = asks_few l d a answer refused new sound s (is_new new (a.at.epoch ∷ d.seen))
next_few l d (does request) sound s = record { same = s.same; few = s.few }
next_few l d synced sound s = record { same = s.same; few = s.few }
next_few l d (crashed n) sound s =
    let m = holders_back l d.first (take n d.waiting) (drop n d.waiting ++ d.lines) in
    let e : (followed l d.first (take n d.waiting ++ (drop n d.waiting ++ d.lines))).holders ≡ (known l d).holders = ap (λ j. (followed l d.first j).holders) (append-take_drop_append n d.waiting d.lines) in
    let w = s.few in
    record { same = s.same; few = omega (arith, m, e, w) }
next_few l d compacted sound s = record {
  same = subst (AreSame (followed l d.first d.lines)) (sym (followed_both l (nothing_known []) d.lines d.past)) (same_followed l d.first (followed l (nothing_known []) d.past) d.lines s.same);
  few = subst (λ (k : Known). k.holders ≤ l.holders) (followed-append l d.first d.waiting d.lines) s.few;
}
next_few l d (restored n new) sound s = restored_few l d n new s (is_new new d.seen)
next_few l d forgiven sound s = record { same = s.same; few = s.few }

after_few : (l : Limits) (d : Run) (es : List Event) → IsSound l d → AreFew l d → AreFew l (after l d es)
after_few l d [] sound s = s
after_few l d (e ∷ es) sound s = after_few l (next l d e) es (IsSound-next l d e sound) (next_few l d e sound s)

pub le-holders : (l : Limits) (epoch : List ℕ) (es : List Event) → IsSound l (start epoch) → (known l (after l (start epoch) es)).holders ≤ l.holders
le-holders l epoch es sound = (after_few l (start epoch) es sound (record { same = (refl, λ holder. refl); few = omega arith })).few

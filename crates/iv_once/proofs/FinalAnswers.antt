-- What was told to stay undecided for ever is not carried out afterwards.
use Rattle.std.proofs.Common.{◌≡◌, ◌⊎◌, inl, inr, ℕ, suc, ◌+◌, ◌≤◌, Bool, true, false, cond, List, [], ◌∷◌, ◌++◌, drop, take, length, refl, ap, ◌∙◌, sym, subst, arith}
use Rattle.std.specs.Prelude.{◌&&◌, bytes_eq}
use Rattle.std.specs.List.{list_any}
use Rattle.iv_once.specs.Names.{Limits, Place, Ask, Entry, named, plain, renewed, Journal, Own, Known, Verdict, carry, again, another, late, foreign, ahead, over, followed, is_place, learned, own_of, verdict}
use Rattle.iv_once.specs.Runs.{Answer, says, undecided, asked, Event, asks, does, synced, crashed, compacted, restored, forgiven, Run, acted, after, answered, copied, done_by, entered, history, is_new, journal, kept, known, names, next, noted, nothing_known, restarted, start}
use Rattle.iv_once.specs.Laws.{Among, AreFinal, HasReason, IsFinal, own, times}
use Rattle.iv_once.proofs.Lists.{Among-append, and-both_true, append-associative, append-take_drop, same-bytes_eq, same-is_place, times-append}
use Rattle.iv_once.proofs.HolderEntries.{epoch-in_epoch, followed-append, own_of-learned_named, own_of-learned_renewed, epoch-learned_renewed}
use Rattle.iv_once.proofs.NamesOnce.{IsSeen, IsSound, AreKept-IsSound, not_same-IsSeen, false-not, or-both_false, HasReason-AreKept, IsSeen-head, IsSeen-cons}
use Rattle.iv_once.proofs.SoundRuns.{IsSound-next, times-parted, append-take_rest}

-- ---- behind a place

-- the holder is in another epoch, or has at least so many entries
abbrev pub IsPast : ℕ → List ℕ → List ℕ → Known → Type 0
IsPast most holder epoch k = (own_of k holder).epoch ≡ epoch → most ≤ (own_of k holder).count

-- none of the entries leads into the epoch
abbrev pub AreOther : List ℕ → Journal → Type 0
AreOther epoch [] = Unit {0}
AreOther epoch (named e ∷ j) = AreOther epoch j
AreOther epoch (plain request ∷ j) = AreOther epoch j
AreOther epoch (renewed holder x ∷ j) = (x ≡ epoch → ⊥) × AreOther epoch j

other_first : (epoch : List ℕ) (x : Entry) (j : Journal) → AreOther epoch (x ∷ j) → AreOther epoch (x ∷ [])
other_first epoch (named e) j h = tt
other_first epoch (plain request) j h = tt
other_first epoch (renewed holder x) j h = (h.0, tt)

other_rest : (epoch : List ℕ) (x : Entry) (j : Journal) → AreOther epoch (x ∷ j) → AreOther epoch j
other_rest epoch (named e) j h = h
other_rest epoch (plain request) j h = h
other_rest epoch (renewed holder x) j h = h.1

other_back : (epoch : List ℕ) (a b : Journal) → AreOther epoch (a ++ b) → AreOther epoch b
other_back epoch [] b h = h
other_back epoch (x ∷ a) b h = other_back epoch a b (other_rest epoch x (a ++ b) h)

past_entered : (l : Limits) (most : ℕ) (holder epoch : List ℕ) (k : Known) (x : Entry) → IsPast most holder epoch k → AreOther epoch (x ∷ []) → IsPast most holder epoch (learned l x k)
past_entered l most holder epoch k (named e) p h =
    λ q. let n = own_of-learned_named l e k holder in let m = p (sym n.0 ∙ q) in let c = n.1 in omega (arith, m, c)
past_entered l most holder epoch k (plain request) p h = p
past_entered l most holder epoch k (renewed other x) p h = λ q. by q (own_of-learned_renewed l other x k holder)
  where
    by : (own_of (learned l (renewed other x) k) holder).epoch ≡ epoch → ((own_of (learned l (renewed other x) k) holder).epoch ≡ x) ⊎ (own_of (learned l (renewed other x) k) holder ≡ own_of k holder) → most ≤ (own_of (learned l (renewed other x) k) holder).count
    by q (inl e) = absurd (h.0 (sym e ∙ q))
    by q (inr e) = let c : (own_of (learned l (renewed other x) k) holder).count ≡ (own_of k holder).count = ap (λ (o : Own). o.count) e in let m = p (sym (ap (λ (o : Own). o.epoch) e) ∙ q) in omega (arith, c, m)

past_followed : (l : Limits) (most : ℕ) (holder epoch : List ℕ) (k : Known) (w j : Journal) → IsPast most holder epoch (followed l k j) → AreOther epoch w → IsPast most holder epoch (followed l k (w ++ j))
past_followed l most holder epoch k [] j p h = p
past_followed l most holder epoch k (x ∷ w) j p h = past_entered l most holder epoch (followed l k (w ++ j)) x (past_followed l most holder epoch k w j p (other_rest epoch x w h)) (other_first epoch x w h)

-- ---- it stays so

pub record Stays (l : Limits) (most : ℕ) (holder epoch : List ℕ) (d : Run) : Type 0 where
  pub seen : IsSeen d.seen epoch
  pub disk : IsPast most holder epoch (followed l d.first d.lines)
  pub others : AreOther epoch d.waiting

pub IsPast-Stays : (l : Limits) (most : ℕ) (holder epoch : List ℕ) (d : Run) → Stays l most holder epoch d → IsPast most holder epoch (known l d)
IsPast-Stays l most holder epoch d s = past_followed l most holder epoch d.first d.waiting d.lines s.disk s.others

module _ (l : Limits) (most : ℕ) (holder epoch : List ℕ) (d : Run) (s : Stays l most holder epoch d) where
  done_stays : (a : Ask) (answer : List ℕ) (refused : Bool) (new : List ℕ) → list_any (bytes_eq new) d.seen ≡ false → (v : Verdict) → Stays l most holder epoch (done_by (noted d (new ∷ a.at.epoch ∷ [])) a answer refused new v)
  done_stays a answer refused new f carry = record { seen = IsSeen-cons new epoch (a.at.epoch ∷ d.seen) (IsSeen-cons a.at.epoch epoch d.seen s.seen); disk = s.disk; others = s.others }
  done_stays a answer refused new f (again first) = record { seen = IsSeen-cons new epoch (a.at.epoch ∷ d.seen) (IsSeen-cons a.at.epoch epoch d.seen s.seen); disk = s.disk; others = s.others }
  done_stays a answer refused new f another = record { seen = IsSeen-cons new epoch (a.at.epoch ∷ d.seen) (IsSeen-cons a.at.epoch epoch d.seen s.seen); disk = s.disk; others = s.others }
  done_stays a answer refused new f late = record { seen = IsSeen-cons new epoch (a.at.epoch ∷ d.seen) (IsSeen-cons a.at.epoch epoch d.seen s.seen); disk = s.disk; others = s.others }
  done_stays a answer refused new f foreign = record { seen = IsSeen-cons new epoch (a.at.epoch ∷ d.seen) (IsSeen-cons a.at.epoch epoch d.seen s.seen); disk = s.disk; others = s.others }
  done_stays a answer refused new f ahead = record { seen = IsSeen-cons new epoch (a.at.epoch ∷ d.seen) (IsSeen-cons a.at.epoch epoch d.seen s.seen); disk = s.disk; others = (λ q. not_same-IsSeen epoch new d.seen s.seen f (sym q), s.others) }
  done_stays a answer refused new f over = record { seen = IsSeen-cons new epoch (a.at.epoch ∷ d.seen) (IsSeen-cons a.at.epoch epoch d.seen s.seen); disk = s.disk; others = s.others }

  asks_stays : (a : Ask) (answer : List ℕ) (refused : Bool) (new : List ℕ) (b : Bool) → is_new new (a.at.epoch ∷ d.seen) ≡ b → Stays l most holder epoch (cond b (done_by (noted d (new ∷ a.at.epoch ∷ [])) a answer refused new (verdict (names l d) a)) d)
  asks_stays a answer refused new false t = s
  asks_stays a answer refused new true t = done_stays a answer refused new (or-both_false (bytes_eq new a.at.epoch) (list_any (bytes_eq new) d.seen) (false-not (list_any (bytes_eq new) (a.at.epoch ∷ d.seen)) t)).1 (verdict (names l d) a)

  restored_stays : (n : ℕ) (new : List ℕ) (b : Bool) → is_new new d.seen ≡ b → Stays l most holder epoch (cond b (restarted (copied l (noted d (new ∷ [])) n new)) d)
  restored_stays n new false t = s
  restored_stays n new true t = record {
    seen = IsSeen-cons new epoch d.seen s.seen;
    disk = λ q. absurd (not_same-IsSeen epoch new d.seen s.seen (false-not (list_any (bytes_eq new) d.seen) t) (sym q ∙ epoch-in_epoch new (followed l (nothing_known new) (drop n (kept d))) holder));
    others = tt;
  }

  pub stays_next : (e : Event) → Stays l most holder epoch (next l d e)
  stays_next (asks a answer refused new) = asks_stays a answer refused new (is_new new (a.at.epoch ∷ d.seen)) refl
  stays_next (does request) = record { seen = s.seen; disk = s.disk; others = s.others }
  stays_next synced = record { seen = s.seen; disk = past_followed l most holder epoch d.first d.waiting d.lines s.disk s.others; others = tt }
  stays_next (crashed n) = record { seen = s.seen; disk = past_followed l most holder epoch d.first (drop n d.waiting) d.lines s.disk (other_back epoch (take n d.waiting) (drop n d.waiting) (subst (AreOther epoch) (sym (append-take_drop n d.waiting)) s.others)); others = tt }
  stays_next compacted = record { seen = s.seen; disk = s.disk; others = s.others }
  stays_next (restored n new) = restored_stays n new (is_new new d.seen) refl
  stays_next forgiven = record { seen = s.seen; disk = s.disk; others = s.others }

-- ---- nothing more is carried out

-- a request of that name and place is not carried out
not_carried : (l : Limits) (d : Run) (a b : Ask) → IsSound l d → IsPast (suc (a.at.count + l.names)) a.holder a.at.epoch (known l d) → HasReason l d b carry → b.holder ≡ a.holder → b.at ≡ a.at → ⊥
not_carried l d a b s p r h q =
    let e : a.at.epoch ≡ (own_of (known l d) a.holder).epoch = subst (λ z. a.at.epoch ≡ (own_of (known l d) z).epoch) h (ap (λ (z : Place). z.epoch) (sym q) ∙ r.1) in
    let m = p (sym e) in
    let c = (AreKept-IsSound l d s a.holder).0 in
    let n : length (own a.holder (journal d)) ≤ a.at.count + l.names = subst (λ z. length (own z (journal d)) ≤ a.at.count + l.names) h (subst (λ (z : Place). length (own b.holder (journal d)) ≤ z.count + l.names) q r.3) in
    omega (arith, m, c, n)

same_times : (b : Bool) (n : ℕ) → (b ≡ true → ⊥) → cond b 1 0 + n ≤ n
same_times true n h = absurd (h refl)
same_times false n h = omega arith

carried_times : (a b : Ask) (refused : Bool) (answer : List ℕ) (j : Journal) → (b.holder ≡ a.holder → b.at ≡ a.at → ⊥) → (c : Bool) → bytes_eq b.holder a.holder ≡ c
    → times a.name a.at (cond c (record { ask = b; refused = refused; answer = answer } ∷ own a.holder j) (own a.holder j)) ≤ times a.name a.at (own a.holder j)
carried_times a b refused answer j h false t = omega arith
carried_times a b refused answer j h true t = same_times (bytes_eq b.name a.name && is_place b.at a.at) (times a.name a.at (own a.holder j)) (λ k. h (same-bytes_eq b.holder a.holder t) (same-is_place b.at a.at (and-both_true (bytes_eq b.name a.name) (is_place b.at a.at) k).1))

done_times : (l : Limits) (d : Run) (a b : Ask) (answer : List ℕ) (refused : Bool) (new : List ℕ) → IsSound l d → IsPast (suc (a.at.count + l.names)) a.holder a.at.epoch (known l d) → (v : Verdict) → HasReason l d b v
    → times a.name a.at (own a.holder (history (done_by (noted d (new ∷ b.at.epoch ∷ [])) b answer refused new v))) ≤ times a.name a.at (own a.holder (history d))
done_times l d a b answer refused new s p carry r = carried_times a b refused answer (history d) (not_carried l d a b s p r) (bytes_eq b.holder a.holder) refl
done_times l d a b answer refused new s p (again first) r = omega arith
done_times l d a b answer refused new s p another r = omega arith
done_times l d a b answer refused new s p late r = omega arith
done_times l d a b answer refused new s p foreign r = omega arith
done_times l d a b answer refused new s p ahead r = omega arith
done_times l d a b answer refused new s p over r = omega arith

asks_times : (l : Limits) (d : Run) (a b : Ask) (answer : List ℕ) (refused : Bool) (new : List ℕ) → IsSound l d → IsPast (suc (a.at.count + l.names)) a.holder a.at.epoch (known l d) → (c : Bool)
    → times a.name a.at (own a.holder (history (cond c (done_by (noted d (new ∷ b.at.epoch ∷ [])) b answer refused new (verdict (names l d) b)) d))) ≤ times a.name a.at (own a.holder (history d))
asks_times l d a b answer refused new s p false = omega arith
asks_times l d a b answer refused new s p true =
    done_times l d a b answer refused new s p (verdict (names l d) b) (HasReason-AreKept l d b (AreKept-IsSound l d s))

restored_times : (l : Limits) (d : Run) (a : Ask) (n : ℕ) (new : List ℕ) (c : Bool) → times a.name a.at (own a.holder (history (cond c (restarted (copied l (noted d (new ∷ [])) n new)) d))) ≤ times a.name a.at (own a.holder (history d))
restored_times l d a n new false = omega arith
restored_times l d a n new true =
    let e = times-parted a.holder a.name a.at n (kept d) d.gone in
    let m = times-append a.holder a.name a.at d.waiting (kept d ++ d.gone) in
    let h : times a.name a.at (own a.holder (d.waiting ++ (kept d ++ d.gone))) ≡ times a.name a.at (own a.holder (history d)) = ap (λ j. times a.name a.at (own a.holder j)) (sym (append-associative d.waiting (kept d) d.gone)) in
    omega (arith, e, m, h)

next_times : (l : Limits) (d : Run) (a : Ask) → IsSound l d → IsPast (suc (a.at.count + l.names)) a.holder a.at.epoch (known l d) → (e : Event) → times a.name a.at (own a.holder (history (next l d e))) ≤ times a.name a.at (own a.holder (history d))
next_times l d a s p (asks b answer refused new) = asks_times l d a b answer refused new s p (is_new new (b.at.epoch ∷ d.seen))
next_times l d a s p (does request) = omega arith
next_times l d a s p synced =
    let h : times a.name a.at (own a.holder (((d.waiting ++ d.lines) ++ d.past) ++ d.gone)) ≡ times a.name a.at (own a.holder (history d)) = ap (λ j. times a.name a.at (own a.holder (j ++ d.gone))) (append-associative d.waiting d.lines d.past) in omega (arith, h)
next_times l d a s p (crashed n) =
    let h : times a.name a.at (own a.holder (take n d.waiting ++ (((drop n d.waiting ++ d.lines) ++ d.past) ++ d.gone))) ≡ times a.name a.at (own a.holder (history d)) = ap (λ j. times a.name a.at (own a.holder j)) (append-take_rest n d.waiting d.lines d.past d.gone) in
    let m = times-append a.holder a.name a.at (take n d.waiting) (((drop n d.waiting ++ d.lines) ++ d.past) ++ d.gone) in
    omega (arith, h, m)
next_times l d a s p compacted = omega arith
next_times l d a s p (restored n new) = restored_times l d a n new (is_new new d.seen)
next_times l d a s p forgiven = omega arith

after_times : (l : Limits) (d : Run) (a : Ask) → IsSound l d → Stays l (suc (a.at.count + l.names)) a.holder a.at.epoch d → (es : List Event) → times a.name a.at (own a.holder (history (after l d es))) ≤ times a.name a.at (own a.holder (history d))
after_times l d a s t [] = omega arith
after_times l d a s t (e ∷ es) =
    let one = next_times l d a s (IsPast-Stays l (suc (a.at.count + l.names)) a.holder a.at.epoch d t) e in
    let more = after_times l (next l d e) a (IsSound-next l d e s) (stays_next l (suc (a.at.count + l.names)) a.holder a.at.epoch d t e) es in
    omega (arith, one, more)

-- ---- what is held, and told

abbrev IsPastFor : Limits → Ask → Known → Type 0
IsPastFor l a k = IsPast (suc (a.at.count + l.names)) a.holder a.at.epoch k

abbrev IsHeld : Limits → Run → Type 0
IsHeld l d = (a : Ask) (rule : ℕ) → IsFinal rule → Among (a, undecided rule) d.held → IsSeen d.seen a.at.epoch × IsPastFor l a (known l d)

abbrev IsTold : Limits → Run → Type 0
IsTold l d = (a : Ask) (rule : ℕ) → IsFinal rule → Among (a, undecided rule) d.told → Stays l (suc (a.at.count + l.names)) a.holder a.at.epoch d

abbrev rule_of : Answer → ℕ
rule_of (says answer) = 0
rule_of (undecided rule) = rule

not_final : (n rule : ℕ) → n ≡ rule → (n ≡ 102 → ⊥) → (n ≡ 103 → ⊥) → IsFinal rule → ⊥
not_final n rule e h k (inl x) = h (e ∙ x)
not_final n rule e h k (inr x) = k (e ∙ x)

answered_held : (l : Limits) (d : Run) (a : Ask) (x : Answer) → ((rule : ℕ) → IsFinal rule → x ≡ undecided rule → IsSeen d.seen a.at.epoch × IsPastFor l a (known l d)) → IsHeld l d → IsHeld l (answered d a x)
answered_held l d a x f h b rule i (inl e) = subst (λ (z : Ask). IsSeen d.seen z.at.epoch × IsPastFor l z (known l d)) (ap (λ (z : Ask × Answer). z.0) e) (f rule i (ap (λ (z : Ask × Answer). z.1) e))
answered_held l d a x f h b rule i (inr k) = h b rule i k

decided_held : (l : Limits) (d : Run) (a : Ask) (x : Answer) → (rule_of x ≡ 102 → ⊥) → (rule_of x ≡ 103 → ⊥) → IsHeld l d → IsHeld l (answered d a x)
decided_held l d a x m n h = answered_held l d a x (λ rule i e. absurd (not_final (rule_of x) rule (ap rule_of e) m n i)) h

noted_held : (l : Limits) (d : Run) (x y : List ℕ) → IsHeld l d → IsHeld l (noted d (x ∷ y ∷ []))
noted_held l d x y h = λ a rule i k. let s = h a rule i k in (IsSeen-cons x a.at.epoch (y ∷ d.seen) (IsSeen-cons y a.at.epoch d.seen s.0), s.1)

entered_held : (l : Limits) (d : Run) (x : Entry) (seen : List (List ℕ)) → ((a : Ask) (rule : ℕ) → IsFinal rule → Among (a, undecided rule) d.held → IsSeen seen a.at.epoch) → ((a : Ask) → IsSeen seen a.at.epoch → AreOther a.at.epoch (x ∷ [])) → IsHeld l d → IsHeld l (entered d x)
entered_held l d x seen g f h = λ a rule i k. let s = h a rule i k in (s.0, past_entered l (suc (a.at.count + l.names)) a.holder a.at.epoch (known l d) x s.1 (f a (g a rule i k)))

module _ (l : Limits) (d : Run) (s : IsSound l d) (h : IsHeld l d) where
  done_held : (a : Ask) (answer : List ℕ) (refused : Bool) (new : List ℕ) → list_any (bytes_eq new) d.seen ≡ false → list_any (bytes_eq new) (a.at.epoch ∷ d.seen) ≡ false → (v : Verdict) → HasReason l d a v → IsHeld l (done_by (noted d (new ∷ a.at.epoch ∷ [])) a answer refused new v)
  done_held a answer refused new f g carry r =
      decided_held l (acted (entered (noted d (new ∷ a.at.epoch ∷ [])) (named (record { ask = a; refused = refused; answer = answer }))) (asked a)) a (says answer) (λ e. omega (arith, e)) (λ e. omega (arith, e))
      (entered_held l (noted d (new ∷ a.at.epoch ∷ [])) (named (record { ask = a; refused = refused; answer = answer })) d.seen (λ b rule i k. (h b rule i k).0) (λ b z. tt) (noted_held l d new a.at.epoch h))
  done_held a answer refused new f g (again first) r = decided_held l (noted d (new ∷ a.at.epoch ∷ [])) a (says first) (λ e. omega (arith, e)) (λ e. omega (arith, e)) (noted_held l d new a.at.epoch h)
  done_held a answer refused new f g another r = decided_held l (noted d (new ∷ a.at.epoch ∷ [])) a (undecided 101) (λ e. omega (arith, e)) (λ e. omega (arith, e)) (noted_held l d new a.at.epoch h)
  done_held a answer refused new f g over r = decided_held l (noted d (new ∷ a.at.epoch ∷ [])) a (undecided 104) (λ e. omega (arith, e)) (λ e. omega (arith, e)) (noted_held l d new a.at.epoch h)
  done_held a answer refused new f g late r =
      let c = (AreKept-IsSound l d s a.holder).0 in
      answered_held l (noted d (new ∷ a.at.epoch ∷ [])) a (undecided 102) (λ rule i e. (IsSeen-cons new a.at.epoch (a.at.epoch ∷ d.seen) (IsSeen-head a.at.epoch d.seen), λ q. omega (arith, c, r))) (noted_held l d new a.at.epoch h)
  done_held a answer refused new f g foreign r =
      answered_held l (noted d (new ∷ a.at.epoch ∷ [])) a (undecided 103) (λ rule i e. (IsSeen-cons new a.at.epoch (a.at.epoch ∷ d.seen) (IsSeen-head a.at.epoch d.seen), λ q. absurd (r (sym q)))) (noted_held l d new a.at.epoch h)
  done_held a answer refused new f g ahead r =
      answered_held l (entered (noted d (new ∷ a.at.epoch ∷ [])) (renewed a.holder new)) a (undecided 103)
      (λ rule i e. (IsSeen-cons new a.at.epoch (a.at.epoch ∷ d.seen) (IsSeen-head a.at.epoch d.seen), λ q. absurd (not_same-IsSeen a.at.epoch new (a.at.epoch ∷ d.seen) (IsSeen-head a.at.epoch d.seen) g (sym q ∙ epoch-learned_renewed l new (known l d) a.holder))))
      (entered_held l (noted d (new ∷ a.at.epoch ∷ [])) (renewed a.holder new) d.seen (λ b rule i k. (h b rule i k).0) (λ b z. (λ q. not_same-IsSeen b.at.epoch new d.seen z f (sym q), tt)) (noted_held l d new a.at.epoch h))

  asks_held : (a : Ask) (answer : List ℕ) (refused : Bool) (new : List ℕ) (b : Bool) → is_new new (a.at.epoch ∷ d.seen) ≡ b → IsHeld l (cond b (done_by (noted d (new ∷ a.at.epoch ∷ [])) a answer refused new (verdict (names l d) a)) d)
  asks_held a answer refused new false t = h
  asks_held a answer refused new true t =
      let g = false-not (list_any (bytes_eq new) (a.at.epoch ∷ d.seen)) t in
      done_held a answer refused new (or-both_false (bytes_eq new a.at.epoch) (list_any (bytes_eq new) d.seen) g).1 g (verdict (names l d) a) (HasReason-AreKept l d a (AreKept-IsSound l d s))

  restored_held : (n : ℕ) (new : List ℕ) (b : Bool) → IsHeld l (cond b (restarted (copied l (noted d (new ∷ [])) n new)) d)
  restored_held n new false = h
  restored_held n new true = λ a rule i k. absurd k

  next_held : (e : Event) → IsHeld l (next l d e)
  next_held (asks a answer refused new) = asks_held a answer refused new (is_new new (a.at.epoch ∷ d.seen)) refl
  next_held (does request) = entered_held l d (plain request) d.seen (λ a rule i k. (h a rule i k).0) (λ a z. tt) h
  next_held synced = λ a rule i k. absurd k
  next_held (crashed n) = λ a rule i k. absurd k
  next_held compacted = λ a rule i k. let z = h a rule i k in (z.0, subst (IsPastFor l a) (followed-append l d.first d.waiting d.lines) z.1)
  next_held (restored n new) = restored_held n new (is_new new d.seen)
  next_held forgiven = h

module _ (l : Limits) (d : Run) (h : IsHeld l d) (t : IsTold l d) where
  now : (e : Event) (a : Ask) (rule : ℕ) → IsFinal rule → Among (a, undecided rule) d.told → Stays l (suc (a.at.count + l.names)) a.holder a.at.epoch (next l d e)
  now e a rule i k = stays_next l (suc (a.at.count + l.names)) a.holder a.at.epoch d (t a rule i k) e

  told_now : (a : Ask) (rule : ℕ) → IsFinal rule → Among (a, undecided rule) d.held ⊎ Among (a, undecided rule) d.told → Stays l (suc (a.at.count + l.names)) a.holder a.at.epoch (next l d synced)
  told_now a rule i (inl k) = let z = h a rule i k in record { seen = z.0; disk = z.1; others = tt }
  told_now a rule i (inr k) = now synced a rule i k

  asks_told : (a : Ask) (answer : List ℕ) (refused : Bool) (new : List ℕ) (v : Verdict) → (done_by (noted d (new ∷ a.at.epoch ∷ [])) a answer refused new v).told ≡ d.told
  asks_told a answer refused new carry = refl
  asks_told a answer refused new (again first) = refl
  asks_told a answer refused new another = refl
  asks_told a answer refused new late = refl
  asks_told a answer refused new foreign = refl
  asks_told a answer refused new ahead = refl
  asks_told a answer refused new over = refl

  asked_told : (a : Ask) (answer : List ℕ) (refused : Bool) (new : List ℕ) (b : Bool) → (cond b (done_by (noted d (new ∷ a.at.epoch ∷ [])) a answer refused new (verdict (names l d) a)) d).told ≡ d.told
  asked_told a answer refused new true = asks_told a answer refused new (verdict (names l d) a)
  asked_told a answer refused new false = refl

  restored_told : (n : ℕ) (new : List ℕ) (b : Bool) → (cond b (restarted (copied l (noted d (new ∷ [])) n new)) d).told ≡ d.told
  restored_told n new true = refl
  restored_told n new false = refl

  next_told : (e : Event) → IsTold l (next l d e)
  next_told (asks b answer refused new) = λ a rule i k. now (asks b answer refused new) a rule i (subst (Among (a, undecided rule)) (asked_told b answer refused new (is_new new (b.at.epoch ∷ d.seen))) k)
  next_told (does request) = λ a rule i k. now (does request) a rule i k
  next_told synced = λ a rule i k. told_now a rule i (Among-append (a, undecided rule) d.held d.told k)
  next_told (crashed n) = λ a rule i k. now (crashed n) a rule i k
  next_told compacted = λ a rule i k. now compacted a rule i k
  next_told (restored n new) = λ a rule i k. now (restored n new) a rule i (subst (Among (a, undecided rule)) (restored_told n new (is_new new d.seen)) k)
  next_told forgiven = λ a rule i k. now forgiven a rule i k

told_after : (l : Limits) (d : Run) (es : List Event) → IsSound l d → IsHeld l d → IsTold l d → IsTold l (after l d es)
told_after l d [] s h t = t
told_after l d (e ∷ es) s h t = told_after l (next l d e) es (IsSound-next l d e s) (next_held l d s h e) (next_told l d h t e)

pub AreFinal-IsSound : (l : Limits) (epoch : List ℕ) (es : List Event) → IsSound l (start epoch) → IsSound l (after l (start epoch) es) → AreFinal l (after l (start epoch) es)
AreFinal-IsSound l epoch es b s = λ a rule i k. after_times l (after l (start epoch) es) a s (told_after l (start epoch) es b (λ a rule i k. absurd k) (λ a rule i k. absurd k) a rule i k)

-- Whatever happens keeps a run sound.
use Rattle.std.proofs.Common.{◌≡◌, ◌⊎◌, inl, inr, ℕ, ◌+◌, ◌≤◌, Bool, true, false, cond, List, [], ◌∷◌, ◌++◌, drop, take, Some, refl, ap, ◌∙◌, sym, subst, arith}
use Rattle.std.specs.Prelude.{◌&&◌, bytes_eq}
use Rattle.std.specs.List.{AllByRecursion, list_any}
use Rattle.iv_once.specs.Names.{Limits, Place, Ask, Named, named, plain, renewed, Journal, Own, Known, Verdict, carry, again, another, late, foreign, ahead, over, by_found, find_named, followed, is_place, own_of, verdict}
use Rattle.iv_once.specs.Runs.{Answer, says, undecided, asked, given, Event, asks, does, synced, crashed, compacted, restored, forgiven, Run, acted, acts_of, after, answered, copied, done_by, entered, history, in_epoch, is_new, journal, kept, known, names, next, noted, nothing_known, restarted, start}
use Rattle.iv_once.specs.Laws.{Among, AreAlike, AreOnce, AreRemembered, HasAnswer, HasReason, own, times}
use Rattle.iv_once.proofs.Lists.{and-both_true, append-associative, append-take_drop, append-take_drop_append, is_place-itself, bytes_eq-itself, times-elsewhere, append-none, same-Among_once, Among-own_back, Among-own_append, Among-own_front, same-bytes_eq, same-is_place, times-append}
use Rattle.iv_once.proofs.HolderEntries.{AreIn, IsBase, IsBase-followed, IsBase-in_epoch, IsBase-nothing_known, epoch-in_epoch, AreIn-append_back, times-find_named, find_named-Among}
use Rattle.iv_once.proofs.NamesOnce.{AreApart, AreSeen, IsApart, IsSeen, IsSound, AllByRecursion-HasAnswer_back, AllByRecursion-append, AllByRecursion-parted, AreApart-append_back, AreApart-append_front, IsApart-AreApart, IsApart-named, IsApart-renewed, AreKept-IsSound, not_same-IsSeen, false-not, or-both_false, HasReason-AreKept, IsSeen-head, IsSeen-cons, IsSound-start}

-- ---- what changes no entry

noted_sound : (l : Limits) (d : Run) (a b : List ℕ) → IsSound l d → IsSound l (noted d (a ∷ b ∷ []))
noted_sound l d a b s = record { base = s.base; ins = s.ins; once = s.once; apart = s.apart; seen = λ holder e h. IsSeen-cons a e.ask.at.epoch (b ∷ d.seen) (IsSeen-cons b e.ask.at.epoch d.seen (s.seen holder e h)); acts = s.acts; held = s.held; told = s.told }

answered_sound : (l : Limits) (d : Run) (a : Ask) (x : Answer) → HasAnswer (history d) (a, x) → IsSound l d → IsSound l (answered d a x)
answered_sound l d a x h s = record { base = s.base; ins = s.ins; once = s.once; apart = s.apart; seen = s.seen; acts = s.acts; held = (h, s.held); told = s.told }

-- ---- what enters

plain_sound : (l : Limits) (d : Run) (request : List ℕ) → IsSound l d → IsSound l (acted (entered d (plain request)) (given request))
plain_sound l d request s = record {
  base = s.base;
  ins = s.ins;
  once = s.once;
  apart = (IsApart-AreApart l d.gone d.first (d.waiting ++ d.lines) s.apart, s.apart);
  seen = s.seen;
  acts = ap (λ z. given request ∷ z) s.acts;
  held = AllByRecursion-HasAnswer_back (plain request ∷ []) (history d) d.held s.held;
  told = s.told;
}

renewed_sound : (l : Limits) (d : Run) (holder epoch : List ℕ) (before : List (List ℕ)) → AreSeen before (history d) → list_any (bytes_eq epoch) before ≡ false → IsSound l d → IsSound l (entered d (renewed holder epoch))
renewed_sound l d holder epoch before b f s = record {
  base = s.base;
  ins = s.ins;
  once = s.once;
  apart = (IsApart-renewed l d.gone (followed l d.first (d.waiting ++ d.lines)) holder epoch before (λ h e a. b h e (Among-own_back h e (journal d) d.gone a)) f (IsApart-AreApart l d.gone d.first (d.waiting ++ d.lines) s.apart), s.apart);
  seen = s.seen;
  acts = s.acts;
  held = AllByRecursion-HasAnswer_back (renewed holder epoch ∷ []) (history d) d.held s.held;
  told = s.told;
}

-- no entry has its name and place
never : (l : Limits) (d : Run) (a : Ask) → IsSound l d → HasReason l d a carry → times a.name a.at (own a.holder (history d)) ≡ 0
never l d a s r =
    let here : times a.name a.at (own a.holder (journal d)) ≡ 0 =
    times-find_named l.names l.names a.name a.at (own a.holder (journal d)) r.0 (s.ins a.holder) r.3 in
    let there : times a.name a.at (own a.holder d.gone) ≡ 0 = times-elsewhere a.name a.at (own a.holder d.gone) (λ e k h. IsApart-AreApart l d.gone d.first (d.waiting ++ d.lines) s.apart a.holder e k (h ∙ r.1)) in
    times-append a.holder a.name a.at (journal d) d.gone ∙ (λ i. here i + there i)

named_ins : (most : ℕ) (a : Ask) (refused : Bool) (answer : List ℕ) (j : Journal) → AreIn most (record { ask = a; refused = refused; answer = answer } ∷ own a.holder j) → ((holder : List ℕ) → AreIn most (own holder j))
    → (holder : List ℕ) → (b : Bool) → bytes_eq a.holder holder ≡ b → AreIn most (cond b (record { ask = a; refused = refused; answer = answer } ∷ own holder j) (own holder j))
named_ins most a refused answer j h s holder false t = s holder
named_ins most a refused answer j h s holder true t = subst (λ z. AreIn most (record { ask = a; refused = refused; answer = answer } ∷ own z j)) (same-bytes_eq a.holder holder t) h

once_here : (a : Ask) (name : List ℕ) (at : Place) (n : ℕ) → (bytes_eq a.name name && is_place a.at at ≡ true → n ≡ 0) → n ≤ 1 → (b : Bool) → (bytes_eq a.name name && is_place a.at at) ≡ b → cond b 1 0 + n ≤ 1
once_here a name at n h l true t = let z = h t in omega (arith, z)
once_here a name at n h l false t = omega (arith, l)

named_once : (a : Ask) (refused : Bool) (answer : List ℕ) (j : Journal) → times a.name a.at (own a.holder j) ≡ 0 → AreOnce j
    → (holder name : List ℕ) (at : Place) → (b : Bool) → bytes_eq a.holder holder ≡ b → times name at (cond b (record { ask = a; refused = refused; answer = answer } ∷ own holder j) (own holder j)) ≤ 1
named_once a refused answer j n s holder name at false t = s holder name at
named_once a refused answer j n s holder name at true t =
    let same : a.holder ≡ holder = same-bytes_eq a.holder holder t in
    once_here a name at (times name at (own holder j)) (λ k. let parts = and-both_true (bytes_eq a.name name) (is_place a.at at) k in
    let p : a.name ≡ name = same-bytes_eq a.name name parts.0 in
    let q : a.at ≡ at = same-is_place a.at at parts.1 in
    sym (λ i. times (p i) (q i) (own (same i) j)) ∙ n) (s holder name at) (bytes_eq a.name name && is_place a.at at) refl

named_seen : (a : Ask) (refused : Bool) (answer : List ℕ) (j : Journal) (seen : List (List ℕ)) → IsSeen seen a.at.epoch → AreSeen seen j
    → (holder : List ℕ) (e : Named) → (b : Bool) → Among e (cond b (record { ask = a; refused = refused; answer = answer } ∷ own holder j) (own holder j)) → IsSeen seen e.ask.at.epoch
named_seen a refused answer j seen h s holder e false k = s holder e k
named_seen a refused answer j seen h s holder e true (inl k) = subst (λ (z : Named). IsSeen seen z.ask.at.epoch) k h
named_seen a refused answer j seen h s holder e true (inr k) = s holder e k

named_has : (a : Ask) (refused : Bool) (answer : List ℕ) (j : Journal) → HasAnswer (named (record { ask = a; refused = refused; answer = answer }) ∷ j) (a, says answer)
named_has a refused answer j = (refused, subst (λ b. Among (record { ask = a; refused = refused; answer = answer }) (cond b (record { ask = a; refused = refused; answer = answer } ∷ own a.holder j) (own a.holder j))) (sym (bytes_eq-itself a.holder)) (inl refl))

named_sound : (l : Limits) (d : Run) (a : Ask) (answer : List ℕ) (refused : Bool) → HasReason l d a carry → IsSeen d.seen a.at.epoch → IsSound l d
    → IsSound l (answered (acted (entered d (named (record { ask = a; refused = refused; answer = answer }))) (asked a)) a (says answer))
named_sound l d a answer refused r seen s =
    let e : Named = record { ask = a; refused = refused; answer = answer } in
    record {
      base = s.base;
      ins = λ holder. named_ins l.names a refused answer (journal d) (r.2, r.3, r.0, s.ins a.holder) s.ins holder (bytes_eq a.holder holder) refl;
      once = λ holder name at. named_once a refused answer (history d) (never l d a s r) s.once holder name at (bytes_eq a.holder holder) refl;
      apart =
          (IsApart-named l d.gone (followed l d.first (d.waiting ++ d.lines)) e (IsApart-AreApart l d.gone d.first (d.waiting ++ d.lines) s.apart), s.apart);
      seen = λ holder x k. named_seen a refused answer (history d) d.seen seen s.seen holder x (bytes_eq a.holder holder) k;
      acts = ap (λ z. asked a ∷ z) s.acts;
      held = (named_has a refused answer (history d), AllByRecursion-HasAnswer_back (named e ∷ []) (history d) d.held s.held);
      told = s.told;
    }

-- ---- a request with a name

done_sound : (l : Limits) (d : Run) (a : Ask) (answer : List ℕ) (refused : Bool) (epoch : List ℕ) → list_any (bytes_eq epoch) d.seen ≡ false → IsSound l d → (v : Verdict) → HasReason l d a v → IsSound l (done_by (noted d (epoch ∷ a.at.epoch ∷ [])) a answer refused epoch v)
done_sound l d a answer refused epoch f s carry r = named_sound l (noted d (epoch ∷ a.at.epoch ∷ [])) a answer refused r (IsSeen-cons epoch a.at.epoch (a.at.epoch ∷ d.seen) (IsSeen-head a.at.epoch d.seen)) (noted_sound l d epoch a.at.epoch s)
done_sound l d a answer refused epoch f s (again first) r =
    answered_sound l (noted d (epoch ∷ a.at.epoch ∷ [])) a (says first) (r.0, Among-own_front a.holder (record { ask = a; refused = r.0; answer = first }) (journal d) d.gone r.1) (noted_sound l d epoch a.at.epoch s)
done_sound l d a answer refused epoch f s another r = answered_sound l (noted d (epoch ∷ a.at.epoch ∷ [])) a (undecided 101) tt (noted_sound l d epoch a.at.epoch s)
done_sound l d a answer refused epoch f s late r = answered_sound l (noted d (epoch ∷ a.at.epoch ∷ [])) a (undecided 102) tt (noted_sound l d epoch a.at.epoch s)
done_sound l d a answer refused epoch f s foreign r = answered_sound l (noted d (epoch ∷ a.at.epoch ∷ [])) a (undecided 103) tt (noted_sound l d epoch a.at.epoch s)
done_sound l d a answer refused epoch f s ahead r =
    answered_sound l (entered (noted d (epoch ∷ a.at.epoch ∷ [])) (renewed a.holder epoch)) a (undecided 103) tt (renewed_sound l (noted d (epoch ∷ a.at.epoch ∷ [])) a.holder epoch d.seen s.seen f (noted_sound l d epoch a.at.epoch s))
done_sound l d a answer refused epoch f s over r = answered_sound l (noted d (epoch ∷ a.at.epoch ∷ [])) a (undecided 104) tt (noted_sound l d epoch a.at.epoch s)

asks_sound : (l : Limits) (d : Run) (a : Ask) (answer : List ℕ) (refused : Bool) (epoch : List ℕ) → IsSound l d → (b : Bool) → is_new epoch (a.at.epoch ∷ d.seen) ≡ b → IsSound l (cond b (done_by (noted d (epoch ∷ a.at.epoch ∷ [])) a answer refused epoch (verdict (names l d) a)) d)
asks_sound l d a answer refused epoch s false t = s
asks_sound l d a answer refused epoch s true t =
    done_sound l d a answer refused epoch (or-both_false (bytes_eq epoch a.at.epoch) (list_any (bytes_eq epoch) d.seen) (false-not (list_any (bytes_eq epoch) (a.at.epoch ∷ d.seen)) t)).1 s (verdict (names l d) a) (HasReason-AreKept l d a (AreKept-IsSound l d s))

-- ---- the disk

synced_sound : (l : Limits) (d : Run) → IsSound l d → IsSound l (next l d synced)
synced_sound l d s =
    let e : (d.waiting ++ d.lines) ++ d.past ≡ journal d = append-associative d.waiting d.lines d.past in
    let h : ((d.waiting ++ d.lines) ++ d.past) ++ d.gone ≡ history d = ap (λ j. j ++ d.gone) e in
    record {
      base = s.base;
      ins = λ holder. subst (λ j. AreIn l.names (own holder j)) (sym e) (s.ins holder);
      once = subst AreOnce (sym h) s.once;
      apart = s.apart;
      seen = subst (AreSeen d.seen) (sym h) s.seen;
      acts = s.acts ∙ ap acts_of (sym e);
      held = tt;
      told = subst (λ j. AllByRecursion (HasAnswer j) (d.held ++ d.told)) (sym h)
          (AllByRecursion-append (HasAnswer (history d)) d.held d.told s.held (subst (λ j. AllByRecursion (HasAnswer j) d.told) (sym (append-associative d.waiting (kept d) d.gone)) (AllByRecursion-HasAnswer_back d.waiting (kept d ++ d.gone) d.told s.told)));
    }

-- what is left of what waited is the back of it
pub rest_is : (n : ℕ) (w l p : Journal) → take n w ++ ((drop n w ++ l) ++ p) ≡ w ++ (l ++ p)
rest_is n w l p = ap (λ z. take n w ++ z) (append-associative (drop n w) l p) ∙ append-take_drop_append n w (l ++ p)

pub append-take_rest : (n : ℕ) (w l p g : Journal) → take n w ++ (((drop n w ++ l) ++ p) ++ g) ≡ (w ++ (l ++ p)) ++ g
append-take_rest n w l p g = sym (append-associative (take n w) ((drop n w ++ l) ++ p) g) ∙ ap (λ z. z ++ g) (rest_is n w l p)

once_back : (a b : Journal) → AreOnce (a ++ b) → AreOnce b
once_back a b h = λ holder name at. let n = h holder name at in let m = times-append holder name at a b in omega (arith, n, m)

seen_back : (seen : List (List ℕ)) (a b : Journal) → AreSeen seen (a ++ b) → AreSeen seen b
seen_back seen a b h = λ holder e k. h holder e (Among-own_back holder e a b k)

crashed_sound : (l : Limits) (d : Run) (n : ℕ) → IsSound l d → IsSound l (next l d (crashed n))
crashed_sound l d n s =
    let e = rest_is n d.waiting d.lines d.past in
    let h = append-take_rest n d.waiting d.lines d.past d.gone in
    let all = ((drop n d.waiting ++ d.lines) ++ d.past) ++ d.gone in
    let told : drop n d.waiting ++ (kept d ++ d.gone) ≡ ((drop n d.waiting ++ d.lines) ++ d.past) ++ d.gone = sym (append-associative (drop n d.waiting) (kept d) d.gone) ∙ ap (λ z. z ++ d.gone) (sym (append-associative (drop n d.waiting) d.lines d.past)) in
    record {
      base = s.base;
      ins = λ holder. AreIn-append_back l.names holder (take n d.waiting) ((drop n d.waiting ++ d.lines) ++ d.past) (subst (λ j. AreIn l.names (own holder j)) (sym e) (s.ins holder));
      once = once_back (take n d.waiting) all (subst AreOnce (sym h) s.once);
      apart = AreApart-append_back l d.gone d.first (take n d.waiting) (drop n d.waiting ++ d.lines) (subst (AreApart l d.gone d.first) (sym (append-take_drop_append n d.waiting d.lines)) s.apart);
      seen = seen_back d.seen (take n d.waiting) all (subst (AreSeen d.seen) (sym h) s.seen);
      acts = refl;
      held = tt;
      told = subst (λ j. AllByRecursion (HasAnswer j) d.told) told (AllByRecursion-HasAnswer_back (drop n d.waiting) (kept d ++ d.gone) d.told s.told);
    }

compacted_sound : (l : Limits) (d : Run) → IsSound l d → IsSound l (next l d compacted)
compacted_sound l d s = record {
  base = IsBase-followed l d.first d.past d.lines s.base;
  ins = s.ins;
  once = s.once;
  apart = AreApart-append_front l d.gone d.first d.waiting d.lines s.apart;
  seen = s.seen;
  acts = s.acts;
  held = s.held;
  told = s.told;
}

-- ---- copies

-- what a copy has and what it lacks are what there was
pub times-parted : (holder name : List ℕ) (at : Place) (n : ℕ) (j gone : Journal) → times name at (own holder (drop n j ++ (take n j ++ gone))) ≡ times name at (own holder (j ++ gone))
times-parted holder name at n j gone =
    let a = times-append holder name at (drop n j) (take n j ++ gone) in
    let b = times-append holder name at (take n j) gone in
    let c = times-append holder name at j gone in
    let d = times-append holder name at (take n j) (drop n j) in
    let e : times name at (own holder (take n j ++ drop n j)) ≡ times name at (own holder j) = ap (λ z. times name at (own holder z)) (append-take_drop n j) in
    omega (arith, a, b, c, d, e)

seen_parted : (seen : List (List ℕ)) (n : ℕ) (j gone : Journal) → AreSeen seen (j ++ gone) → AreSeen seen (drop n j ++ (take n j ++ gone))
seen_parted seen n j gone s = λ holder e k. by holder e (Among-own_append holder e (drop n j) (take n j ++ gone) k)
  where
    whole : (holder : List ℕ) (e : Named) → Among e (own holder (take n j ++ (drop n j ++ gone))) → IsSeen seen e.ask.at.epoch
    whole holder e k = s holder e (subst (λ z. Among e (own holder z)) (append-take_drop_append n j gone) k)

    rest : (holder : List ℕ) (e : Named) → Among e (own holder (take n j)) ⊎ Among e (own holder gone) → IsSeen seen e.ask.at.epoch
    rest holder e (inl k) = whole holder e (Among-own_front holder e (take n j) (drop n j ++ gone) k)
    rest holder e (inr k) = whole holder e (Among-own_back holder e (take n j) (drop n j ++ gone) (Among-own_back holder e (drop n j) gone k))

    by : (holder : List ℕ) (e : Named) → Among e (own holder (drop n j)) ⊎ Among e (own holder (take n j ++ gone)) → IsSeen seen e.ask.at.epoch
    by holder e (inl k) = whole holder e (Among-own_back holder e (take n j) (drop n j ++ gone) (Among-own_front holder e (drop n j) gone k))
    by holder e (inr k) = rest holder e (Among-own_append holder e (take n j) gone k)

-- nothing that copies lack is of an epoch that was not seen
all_apart : (l : Limits) (epoch : List ℕ) (k : Known) (gone : Journal) (seen : List (List ℕ)) → AreSeen seen gone → list_any (bytes_eq epoch) seen ≡ false → IsApart gone (in_epoch epoch k)
all_apart l epoch k gone seen s f = λ holder e a h. not_same-IsSeen e.ask.at.epoch epoch seen (s holder e a) f (h ∙ epoch-in_epoch epoch k holder)

copied_sound : (l : Limits) (d : Run) (n : ℕ) (epoch : List ℕ) → list_any (bytes_eq epoch) d.seen ≡ false → IsSound l d → IsSound l (restarted (copied l (noted d (epoch ∷ [])) n epoch))
copied_sound l d n epoch f s =
    let j = kept d in
    let h : d.waiting ++ (j ++ d.gone) ≡ history d = sym (append-associative d.waiting j d.gone) in
    let seen : AreSeen d.seen (drop n j ++ (take n j ++ d.gone)) = seen_parted d.seen n j d.gone (seen_back d.seen d.waiting (j ++ d.gone) (subst (AreSeen d.seen) (sym h) s.seen)) in
    let k = followed l (nothing_known epoch) (drop n j) in
    let once : AreOnce (j ++ d.gone) = once_back d.waiting (j ++ d.gone) (subst AreOnce (sym h) s.once) in
    record {
      base = IsBase-in_epoch l epoch k (drop n j) (subst (IsBase l k) (append-none (drop n j)) (IsBase-followed l (nothing_known epoch) [] (drop n j) (IsBase-nothing_known l epoch)));
      ins = λ holder. AreIn-append_back l.names holder (take n j) (drop n j) (subst (λ z. AreIn l.names (own holder z)) (sym (append-take_drop n j)) (AreIn-append_back l.names holder d.waiting j (s.ins holder)));
      once = λ holder name at. subst (λ z. z ≤ 1) (sym (times-parted holder name at n j d.gone)) (once holder name at);
      apart = all_apart l epoch k (take n j ++ d.gone) d.seen (seen_back d.seen (drop n j) (take n j ++ d.gone) seen) f;
      seen = λ holder e a. IsSeen-cons epoch e.ask.at.epoch d.seen (seen holder e a);
      acts = refl;
      held = tt;
      told = AllByRecursion-parted n j d.gone d.told s.told;
    }

restored_sound : (l : Limits) (d : Run) (n : ℕ) (epoch : List ℕ) → IsSound l d → (b : Bool) → is_new epoch d.seen ≡ b → IsSound l (cond b (restarted (copied l (noted d (epoch ∷ [])) n epoch)) d)
restored_sound l d n epoch s false t = s
restored_sound l d n epoch s true t = copied_sound l d n epoch (false-not (list_any (bytes_eq epoch) d.seen) t) s

-- ---- all

pub IsSound-next : (l : Limits) (d : Run) (e : Event) → IsSound l d → IsSound l (next l d e)
IsSound-next l d (asks a answer refused epoch) s = asks_sound l d a answer refused epoch s (is_new epoch (a.at.epoch ∷ d.seen)) refl
IsSound-next l d (does request) s = plain_sound l d request s
IsSound-next l d synced s = synced_sound l d s
IsSound-next l d (crashed n) s = crashed_sound l d n s
IsSound-next l d compacted s = compacted_sound l d s
IsSound-next l d (restored n epoch) s = restored_sound l d n epoch s (is_new epoch d.seen) refl
IsSound-next l d forgiven s = record { base = s.base; ins = s.ins; once = s.once; apart = s.apart; seen = s.seen; acts = s.acts; held = s.held; told = s.told }

pub IsSound-after : (l : Limits) (d : Run) (es : List Event) → IsSound l d → IsSound l (after l d es)
IsSound-after l d [] s = s
IsSound-after l d (e ∷ es) s = IsSound-after l (next l d e) es (IsSound-next l d e s)

pub IsSound-run : (l : Limits) (epoch : List ℕ) (es : List Event) → IsSound l (after l (start epoch) es)
IsSound-run l epoch es = IsSound-after l (start epoch) es (IsSound-start l epoch)

-- ---- what follows

pub all_among : {X : Type 0} (P : X → Type 0) (x : X) (xs : List X) → AllByRecursion P xs → Among x xs → P x
all_among P x [] h a = absurd a
all_among P x (y ∷ ys) h (inl e) = subst P e h.0
all_among P x (y ∷ ys) h (inr a) = all_among P x ys h.1 a

alike_entries : (l : Limits) (d : Run) (a b : Ask) (r s : List ℕ) (x y : Bool) → IsSound l d → a.holder ≡ b.holder → a.name ≡ b.name → a.at ≡ b.at
    → Among (record { ask = a; refused = x; answer = r }) (own a.holder (kept d ++ d.gone)) → Among (record { ask = b; refused = y; answer = s }) (own b.holder (kept d ++ d.gone)) → (a.digest ≡ b.digest) × (r ≡ s)
alike_entries l d a b r s x y sound h n p t u =
    let e : Named = record { ask = a; refused = x; answer = r } in
    let f : Named = record { ask = b; refused = y; answer = s } in
    let k : Among e (own b.holder (kept d ++ d.gone)) = subst (λ z. Among e (own z (kept d ++ d.gone))) h t in
    let once : AreOnce (kept d ++ d.gone) = once_back d.waiting (kept d ++ d.gone) (subst AreOnce (append-associative d.waiting (kept d) d.gone) sound.once) in
    let same : e ≡ f = same-Among_once e f b.name b.at (own b.holder (kept d ++ d.gone)) (once b.holder b.name b.at) n p refl refl k u in
    (ap (λ (z : Named). z.ask.digest) same, ap (λ (z : Named). z.answer) same)

pub AreAlike-IsSound : (l : Limits) (d : Run) → IsSound l d → AreAlike d.told
AreAlike-IsSound l d sound = λ a b r s h n p t u.
    let x = all_among (HasAnswer (kept d ++ d.gone)) (a, says r) d.told sound.told t in
    let y = all_among (HasAnswer (kept d ++ d.gone)) (b, says s) d.told sound.told u in
    alike_entries l d a b r s x.0 y.0 sound h n p x.1 y.1

remembered_by : (l : Limits) (d : Run) (e : Named) (o : Own) → find_named e.ask.name o.recent ≡ Some e → by_found (names l d) o e.ask (find_named e.ask.name o.recent) ≡ again e.answer
remembered_by l d e o f = ap (by_found (names l d) o e.ask) f ∙ ap (λ b. cond b (again e.answer) another) (λ i. is_place-itself e.ask.at i && bytes_eq-itself e.ask.digest i)

pub AreRemembered-IsSound : (l : Limits) (d : Run) → IsSound l d → AreRemembered l d
AreRemembered-IsSound l d s = λ e a m.
    let k = AreKept-IsSound l d s e.ask.holder in
    let f : find_named e.ask.name (take l.names (own e.ask.holder (journal d))) ≡ Some e = find_named-Among l.names l.names e (own e.ask.holder (journal d)) (omega arith) (s.ins e.ask.holder) a m in
    remembered_by l d e (own_of (known l d) e.ask.holder) (ap (find_named e.ask.name) k.1 ∙ f)

-- What each subscription is told behind a step, and what is left.
use Rattle.std.proofs.Common.{◌≡◌, ℕ, Bool, true, false, not, cond, List, [], ◌∷◌, ◌++◌, Option, Some, None, is_some, refl, ap, ◌∙◌, sym, subst, inl, inr, arith, eq-eqb}
use Rattle.std.specs.Prelude.{◌⊎◌, ◌==◌, filter, flat_map, option_map, ℤ, pos, ◌-ℤ◌, Contains}
use Rattle.std.specs.List.{All, AllByRecursion, IsDistinct, list_any}
use Rattle.std.proofs.lemmas.Bool.{eqb-true}
use Rattle.std.proofs.lemmas.Bool.Decides.{nat_tests}
use Rattle.std.proofs.lemmas.List.Elements.{All-nil, All-cons, All-append, All-from_recursion, Contains-append_left, Contains-append_right, Contains-push}
use Rattle.std.specs.List.Sorted.{IsStrictlySortedBy}
use Rattle.std.specs.Map.{keys_of}
use Rattle.std.proofs.lemmas.Int.{ints}
use Rattle.iv_rows.specs.Cell.{Cell}
use Rattle.iv_rows.specs.Order.{row_cmp}
use Rattle.iv_zset.specs.Limits.{copies}
use Rattle.iv_zset.specs.Weights.{Weighed}
use Rattle.iv_machine.specs.Act.{Line, finish, change, ended}
use Rattle.iv_machine.specs.Lasting.{IsToldEnd}
use Rattle.iv_machine.specs.Lines.{is_for, Precedes, AreLinesInOrder, place_of, AreInOrder}
use Rattle.iv_machine.specs.Machine.{difference, ending, line_for, lines_told, settled, weight}
use Rattle.iv_machine.specs.Reached.{AreUnique}
use Rattle.iv_rows.specs.Options.{if_some}
use Rattle.iv_machine.specs.Sound.{IsSoundState, MayRead}
use Rattle.iv_machine.specs.State.{State, Subscription, shown, subscription_of, view_shown}
use Rattle.iv_machine.specs.declared.Cause.{Cause}
use Rattle.iv_machine.proofs.RunSums.{find-has_number, held-line_for, shown-has_number}
use Rattle.iv_machine.proofs.SubscriptionPlaces.{HasRole, IsPlaced, all_go}
use Rattle.iv_machine.proofs.StepLines.{difference-IsDifference}
use Rattle.iv_machine.proofs.UniqueNumbers.{has_number, or-both_false, has_number-filter}
use Rattle.iv_machine.proofs.Readers.{subscription_of-each}
use Rattle.iv_machine.proofs.Sound.{IsKept, IsWhole, MayRead-IsWhole, IsKept-settled, IsWhole-IsSoundState}
use Rattle.iv_steps.specs.Laws.{FactsDecide, IsStep, IsTold, NoneIsBetween, NothingIsTold, RefusalsAreFound, StepsAreTold}
use Rattle.iv_steps.specs.Steps.{Fact, all_carried, among, looked_at, shared}
use Rattle.iv_steps.proofs.FactSteps.{Grows, Led-all_carried, first_refused-all_carried}

-- ---- who is left may read

none_is : (o : Option Cause) → is_some o ≡ false → o ≡ None
none_is None h = refl
none_is (Some c) h = cc

served : (s : State) (es : List Subscription) → AllByRecursion (λ f. ending s f ≡ None) (filter (λ e. not (is_some (ending s e))) es)
served s [] = tt
served s (e ∷ es) = by (is_some (ending s e)) refl (served s es)
  where
    rest : List Subscription
    rest = filter (λ f. not (is_some (ending s f))) es

    by : (b : Bool) → is_some (ending s e) ≡ b → AllByRecursion (λ f. ending s f ≡ None) rest → AllByRecursion (λ f. ending s f ≡ None) (cond (not b) (e ∷ rest) rest)
    by true h go = go
    by false h go = (none_is (ending s e) h, go)

-- the state that is left, of those who were there
abbrev left : State → State → State
left s u = settled finish (among s (shared u))

kept : (s u : State) → IsKept s.frame → IsWhole (shared u) → Grows s u → IsKept (among s (shared u)).frame
kept s u k w g = record {
  numbers = record { unique = k.numbers.unique; given = k.numbers.given };
  numbered = record { relations = w.frame.numbered.relations; guards = w.frame.numbered.guards };
  scanned = w.frame.scanned;
  names = record { roles = w.frame.names.roles; relations = w.frame.names.relations; sessions = k.names.sessions };
  roles = all_go (HasRole s.frame) (HasRole (among s (shared u)).frame) (λ e h. let more = g.roles in omega arith) s.frame.sessions k.roles;
  placed = all_go (IsPlaced s.frame) (IsPlaced (among s (shared u)).frame) (λ e p. (p.0, g.known e.rel p.1)) s.frame.subscriptions k.placed;
  ordered = k.ordered;
}

left_whole : (s u : State) → IsKept s.frame → IsWhole (shared u) → Grows s u → IsWhole (left s u)
left_whole s u k w g = record {
  frame = IsKept-settled finish (among s (shared u)) (kept s u k w g);
  kinds = w.kinds;
  limits = w.limits;
  served = served (among s (shared u)) s.frame.subscriptions;
}

pub IsSoundState-IsWhole : (s : State) → IsWhole s → IsSoundState s
IsSoundState-IsWhole s k = record {
  numbers = k.frame.numbers;
  ordered = k.frame.ordered;
  readers = All-from_recursion (MayRead s.frame) s.frame.subscriptions (MayRead-IsWhole s k);
  served = k.served;
  names = k.frame.names;
  numbered = k.frame.numbered;
  scanned = k.frame.scanned;
  roles = All-from_recursion (HasRole s.frame) s.frame.sessions k.frame.roles;
  limits = k.limits;
  kinds = k.kinds;
}

-- ---- the lines add up

adds_by : (s new : State) (es : List Subscription) (k : ℕ) (q : List Cell) (b : Bool) → has_number k s.frame.subscriptions ≡ b → has_number k new.frame.subscriptions ≡ false ⊎ (b ≡ true)
    → cond b (weight (shown s k) (shown new k) q) (pos 0) ≡ weight (shown s k) (shown new k) q
adds_by s new es k q true h n = refl
adds_by s new es k q false h (inl n) = sym (λ i. weight (shown-has_number s k h i) (shown-has_number new k n i) q)
adds_by s new es k q false h (inr n) = cc

-- ---- and stand in order, one a subscription

abbrev IsFirst : Option (ℕ × ℕ) → List Subscription → Type 0
IsFirst a es = AllByRecursion (λ f. Precedes a (place_of f)) es

abbrev IsFirstLine : Option (ℕ × ℕ) → List Line → Type 0
IsFirstLine a ls = AllByRecursion (λ m. Precedes a (is_for m)) ls

line_before : (a : Option (ℕ × ℕ)) (o : Option Cause) (e : Subscription) (ps : Weighed) (ls : List Line) → Precedes a (place_of e) → IsFirstLine a ls → IsFirstLine a (lines_told o e ps ++ ls)
line_before a (Some why) e ps ls h b = (h, b)
line_before a None e [] ls h b = b
line_before a None e (p ∷ ps) ls h b = (h, b)

line_first : (o : Option Cause) (e : Subscription) (ps : Weighed) (ls : List Line) → IsFirstLine (place_of e) ls → AreLinesInOrder ls → AreLinesInOrder (lines_told o e ps ++ ls)
line_first (Some why) e ps ls h b = (h, b)
line_first None e [] ls h b = b
line_first None e (p ∷ ps) ls h b = (h, b)

module _ (old new : State) (ends : Subscription → Option Cause) where
  all_later : (a : Option (ℕ × ℕ)) (es : List Subscription) → IsFirst a es → IsFirstLine a (flat_map (line_for old new ends) es)
  all_later a [] b = tt
  all_later a (f ∷ es) b = line_before a (ends f) f (difference (shown old f.number) (shown new f.number)) (flat_map (line_for old new ends) es) b.0 (all_later a es b.1)

  in_order : (es : List Subscription) → AreInOrder es → AreLinesInOrder (flat_map (line_for old new ends) es)
  in_order [] o = tt
  in_order (e ∷ es) o = line_first (ends e) e (difference (shown old e.number) (shown new e.number)) (flat_map (line_for old new ends) es) (all_later (place_of e) es o.0) (in_order es o.1)

  -- ---- who read reads on, or is told the end

  abbrev stays : List Subscription → List Subscription
  stays es = filter (λ e. not (is_some (ends e))) es

  abbrev GoesOn : ℕ → Subscription → List Subscription → Type 0
  GoesOn k x es = (subscription_of (stays es) k ≡ Some x) ⊎ IsToldEnd x.session k (flat_map (line_for old new ends) es)

  later : (k : ℕ) (x e : Subscription) (es : List Subscription) → IsToldEnd x.session k (flat_map (line_for old new ends) es) → IsToldEnd x.session k (flat_map (line_for old new ends) (e ∷ es))
  later k x e es t = record {
    why = t.why;
    rows = t.rows;
    line = Contains-append_right (line_for old new ends e) (flat_map (line_for old new ends) es) (ended x.session k t.why t.rows) t.line;
  }

  told : (e : Subscription) (es : List Subscription) (why : Cause) → ends e ≡ Some why → IsToldEnd e.session e.number (flat_map (line_for old new ends) (e ∷ es))
  told e es why v =
      let rows : Weighed = difference (shown old e.number) (shown new e.number) in
      let l : Line = ended e.session e.number why rows in
      record {
        why = why;
        rows = rows;
        line = Contains-append_left (line_for old new ends e) (flat_map (line_for old new ends) es) l (subst (λ o. Contains (lines_told o e rows) l) (sym v) (Contains-push [] l));
      }

  -- with one more in front, which ends or not
  abbrev Kept : ℕ → Subscription → Subscription → List Subscription → Option Cause → Type 0
  Kept k x e es o = (subscription_of (cond (not (is_some o)) (e ∷ stays es) (stays es)) k ≡ Some x) ⊎ IsToldEnd x.session k (flat_map (line_for old new ends) (e ∷ es))

  goes_on : (k : ℕ) (es : List Subscription) (x : Subscription) → subscription_of es k ≡ Some x → GoesOn k x es
  goes_on k [] x h = cc
  goes_on k (e ∷ es) x h = by (k == e.number) refl (ends e) refl h (λ f. goes_on k es x f)
    where
      others : (b : Bool) (o : Option Cause) → (k == e.number) ≡ b → b ≡ false → GoesOn k x es → Kept k x e es o
      others b None q r (inl a) = inl (ap (λ c. cond c (Some e) (subscription_of (stays es) k)) (q ∙ r) ∙ a)
      others b (Some why) q r (inl a) = inl a
      others b o q r (inr t) = inr (later k x e es t)

      this : (o : Option Cause) → ends e ≡ o → (k == e.number) ≡ true → e ≡ x → Kept k x e es o
      this None v q same = inl (ap (λ c. cond c (Some e) (subscription_of (stays es) k)) q ∙ ap Some same)
      this (Some why) v q same = inr (subst (λ (y : Subscription). IsToldEnd y.session k (flat_map (line_for old new ends) (e ∷ es))) same
          (subst (λ j. IsToldEnd e.session j (flat_map (line_for old new ends) (e ∷ es))) (sym (eqb-true k e.number q)) (told e es why v)))

      by : (b : Bool) → (k == e.number) ≡ b → (o : Option Cause) → ends e ≡ o → cond b (Some e) (subscription_of es k) ≡ Some x → (subscription_of es k ≡ Some x → GoesOn k x es)
          → (subscription_of (stays (e ∷ es)) k ≡ Some x) ⊎ IsToldEnd x.session k (flat_map (line_for old new ends) (e ∷ es))
      by true q o v f go = let same : e ≡ x = cc in subst (Kept k x e es) (sym v) (this o v q same)
      by false q o v f go = subst (Kept k x e es) (sym v) (others false o q refl (go f))

-- ---- each line tells who reads, or read

pass_number : (k j : ℕ) → (k == j) ≡ false → (j == k) ≡ false
pass_number k j h = grind (arith, nat_tests)

module _ (ends : Subscription → Option Cause) where
  abbrev pub kept_of : List Subscription → List Subscription
  kept_of es = filter (λ e. not (is_some (ends e))) es

  abbrev pub IsLeft : List Subscription → Subscription → Type 0
  IsLeft es e = subscription_of (kept_of es) e.number ≡ cond (not (is_some (ends e))) (Some e) None

  left_past : (b : Bool) (e : Subscription) (es fs : List Subscription) → list_any (λ f. e.number == f.number) fs ≡ false → AllByRecursion (IsLeft es) fs
      → AllByRecursion (λ f. subscription_of (cond b (e ∷ kept_of es) (kept_of es)) f.number ≡ cond (not (is_some (ends f))) (Some f) None) fs
  left_past b e es [] h a = tt
  left_past true e es (f ∷ fs) h a =
      let n = or-both_false (e.number == f.number) (list_any (λ g. e.number == g.number) fs) h in
      (ap (λ c. cond c (Some e) (subscription_of (kept_of es) f.number)) (pass_number e.number f.number n.0) ∙ a.0, left_past true e es fs n.1 a.1)
  left_past false e es (f ∷ fs) h a =
      let n = or-both_false (e.number == f.number) (list_any (λ g. e.number == g.number) fs) h in
      (a.0, left_past false e es fs n.1 a.1)

  own_left : (b : Bool) (e : Subscription) (es : List Subscription) → has_number e.number es ≡ false
      → subscription_of (cond b (e ∷ kept_of es) (kept_of es)) e.number ≡ cond b (Some e) None
  own_left true e es h = ap (λ c. cond c (Some e) (subscription_of (kept_of es) e.number)) (eq-eqb e.number e.number refl)
  own_left false e es h = find-has_number e.number (kept_of es) (has_number-filter e.number (λ x. not (is_some (ends x))) es h)

  -- each is found by its number where it is left, and nothing else is
  pub all_left : (es : List Subscription) → AreUnique es → AllByRecursion (IsLeft es) es
  all_left [] u = tt
  all_left (e ∷ es) u = (own_left (not (is_some (ends e))) e es u.0, left_past (not (is_some (ends e))) e es es u.0 (all_left es u.1))

  -- what holds of those that are left
  pub if_left : (P : Subscription → Type 0) (es : List Subscription) → AllByRecursion P (kept_of es) → AllByRecursion (λ e. ends e ≡ None → P e) es
  if_left P [] a = tt
  if_left P (e ∷ es) a = by (ends e) refl a (λ x. if_left P es x)
    where
      by : (o : Option Cause) → ends e ≡ o → AllByRecursion P (cond (not (is_some o)) (e ∷ kept_of es) (kept_of es)) → (AllByRecursion P (kept_of es) → AllByRecursion (λ f. ends f ≡ None → P f) es)
          → (ends e ≡ None → P e) × AllByRecursion (λ f. ends f ≡ None → P f) es
      by None h b go = ((λ n. b.0), go b.1)
      by (Some why) h b go = ((λ n. let no : Some why ≡ None = sym h ∙ n in cc), go b)

not_empty : {A : Type 0} (x : A) (xs : List A) → x ∷ xs ≡ [] → ⊥
not_empty x xs h = cc

module _ (s new : State) (es : List Subscription) (is : new.frame.subscriptions ≡ kept_of (ending new) es) where
  told_line : (e : Subscription) (o : Option Cause) (ps : Weighed) → ending new e ≡ o → ps ≡ difference (shown s e.number) (shown new e.number)
      → MayRead s.frame e → (ending new e ≡ None → MayRead new.frame e) → IsLeft (ending new) es e → subscription_of s.frame.subscriptions e.number ≡ Some e
      → All (IsTold s new) (lines_told o e ps)
  told_line e (Some why) ps v same before reads l found = All-cons (IsTold s new) (ended e.session e.number why ps) []
      (record {
        reader = record { subscription = e; found = found; session = refl; reads = before };
        ends = v;
        back = same ∙ ap (difference (shown s e.number)) (ap (λ x. if_some x [] (view_shown new)) (ap (λ fs. subscription_of fs e.number) is ∙ l ∙ ap (λ x. cond (not (is_some x)) (Some e) None) v));
      }) (All-nil (IsTold s new))
  told_line e None [] v same before reads l found = All-nil (IsTold s new)
  told_line e None (p ∷ ps) v same before reads l found = All-cons (IsTold s new) (change e.session e.number (p ∷ ps)) []
      (record {
        reader = record { subscription = e; found = ap (λ fs. subscription_of fs e.number) is ∙ l ∙ ap (λ x. cond (not (is_some x)) (Some e) None) v; session = refl; reads = reads v };
        has = not_empty p ps;
        differ = same;
      }) (All-nil (IsTold s new))

  told_lines : (fs : List Subscription) → AllByRecursion (MayRead s.frame) fs → AllByRecursion (λ e. ending new e ≡ None → MayRead new.frame e) fs → AllByRecursion (IsLeft (ending new) es) fs
      → AllByRecursion (λ e. subscription_of s.frame.subscriptions e.number ≡ Some e) fs → All (IsTold s new) (flat_map (line_for s new (ending new)) fs)
  told_lines [] a b l found = All-nil (IsTold s new)
  told_lines (e ∷ fs) a b l found = All-append (IsTold s new) (line_for s new (ending new) e) (flat_map (line_for s new (ending new)) fs)
      (told_line e (ending new e) (difference (shown s e.number) (shown new e.number)) refl refl a.0 b.0 l.0 found.0)
      (told_lines fs a.1 b.1 l.1 found.1)

-- ---- a step

told_behind : (fs : List Fact) (s u : State) → IsSoundState s → all_carried fs (shared s) ≡ Some (shared u) → IsWhole (shared u) → Grows s u → IsStep fs s (looked_at s (among s (shared u)))
told_behind fs s u k c w g = let es = s.frame.subscriptions in let new = left s u in let ends = ending (among s (shared u)) in let whole = left_whole s u (IsWhole-IsSoundState s k).frame w g in record {
  sound = IsSoundState-IsWhole new whole;
  shared = c;
  sessions = refl;
  last = refl;
  stay = refl;
  told = told_lines s new es refl es (MayRead-IsWhole s (IsWhole-IsSoundState s k)) (if_left (ending new) (MayRead new.frame) es (MayRead-IsWhole new whole)) (all_left (ending new) es k.numbers.unique) (subscription_of-each es k.numbers.unique);
  adds = λ j q. held-line_for j q s new ends es k.numbers.unique ∙ adds_by s new es j q (has_number j es) refl (unread j (has_number j es) refl);
  once = in_order s new ends es k.ordered;
  ends = λ j e h. goes_on s new ends j es e h;
}
  where
    unread : (j : ℕ) (b : Bool) → has_number j s.frame.subscriptions ≡ b → (has_number j (left s u).frame.subscriptions ≡ false) ⊎ (b ≡ true)
    unread j true h = inr refl
    unread j false h = inl (has_number-filter j (λ e. not (is_some (ending (among s (shared u)) e))) s.frame.subscriptions h)

-- with nobody there
pub IsWhole-shared : (s : State) → IsSoundState s → IsWhole (shared s)
unfolding IsDistinct
IsWhole-shared s k = record {
  frame = record {
    numbers = record { unique = tt; given = tt };
    numbered = record { relations = k.numbered.relations; guards = k.numbered.guards };
    scanned = k.scanned;
    names = record { roles = k.names.roles; relations = k.names.relations; sessions = tt };
    roles = tt;
    placed = tt;
    ordered = tt;
  };
  kinds = k.kinds;
  limits = k.limits;
  served = tt;
}

pub steps_are_told : StepsAreTold
steps_are_told fs s o k h = by (all_carried fs (shared s)) refl h
  where
    by : (t : Option State) → all_carried fs (shared s) ≡ t → option_map (λ u. looked_at s (among s u)) t ≡ Some o → IsStep fs s o
    by None c p = cc
    by (Some t) c p =
        let x = Led-all_carried fs s t c in
        let same : looked_at s (among s t) ≡ o = cc in
        subst (IsStep fs s) (ap (λ v. looked_at s (among s v)) (sym x.is) ∙ same)
        (told_behind fs s x.now k (c ∙ ap Some x.is) (x.whole (IsWhole-shared s k)) x.grows)

-- ---- of nothing

all_served : (s : State) (es : List Subscription) → AllByRecursion (λ e. ending s e ≡ None) es → filter (λ e. not (is_some (ending s e))) es ≡ es
all_served s [] h = refl
all_served s (e ∷ es) h = ap (λ o. cond (not (is_some o)) (e ∷ filter (λ f. not (is_some (ending s f))) es) (filter (λ f. not (is_some (ending s f))) es)) h.0 ∙ ap (λ fs. e ∷ fs) (all_served s es h.1)

zero : (a : ℤ) → pos 0 ≡ a -ℤ a
zero a = omega (arith, ints)

none_rise : IsStrictlySortedBy row_cmp (keys_of {K = List Cell} {X = ℤ} [])
unfolding IsStrictlySortedBy
none_rise = tt

-- nothing differs from itself
same_rows : (rows : List (List Cell)) → difference rows rows ≡ []
same_rows rows = sym (difference-IsDifference rows rows [] (record { changes = record { rising = none_rise; nonzero = All-nil _ }; weights = λ q. zero (pos (copies q rows)) }))

no_line : (e : Subscription) (o : Option Cause) (ps : Weighed) → o ≡ None → ps ≡ [] → lines_told o e ps ≡ []
no_line e o ps h k = (λ i. lines_told (h i) e (k i))

no_lines : (s new : State) (es : List Subscription) → new ≡ s → AllByRecursion (λ e. ending s e ≡ None) es → flat_map (line_for s new (ending s)) es ≡ []
no_lines s new [] i h = refl
no_lines s new (e ∷ es) i h =
    ap (λ ls. ls ++ flat_map (line_for s new (ending s)) es)
    (no_line e (ending s e) (difference (shown s e.number) (shown new e.number)) h.0 (ap (λ v. difference (shown s e.number) (shown v e.number)) i ∙ same_rows (shown s e.number)))
    ∙ no_lines s new es i h.1

pub nothing_is_told : NothingIsTold
nothing_is_told s k =
    let es = s.frame.subscriptions in
    let stays = all_served s es k.served in
    let same : left s s ≡ s = ap (λ fs. record s { frame = record s.frame { subscriptions = fs } }) stays in
    ap Some (λ i. record { state = same i; lines = no_lines s (left s s) es same k.served i })

-- ---- facts decide

is_mapped : {A B : Type 0} (f : A → B) (o : Option A) → is_some (option_map f o) ≡ is_some o
is_mapped f None = refl
is_mapped f (Some a) = refl

pub facts_decide : FactsDecide
facts_decide facts s = is_mapped (λ t. looked_at s (among s t)) (all_carried facts (shared s))

pub none_is_between : NoneIsBetween
none_is_between facts others s h = ap (option_map (λ t. looked_at s (among s t))) h

pub refusals_are_found : RefusalsAreFound
refusals_are_found facts s all =
    first_refused-all_carried 1 facts s all ∙ sym (ap not (is_mapped (λ t. looked_at s (among s t)) (all_carried facts (shared s))))

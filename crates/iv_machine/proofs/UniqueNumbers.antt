-- The numbers of subscriptions stay unique with an accepted command.
use Rattle.std.proofs.Common.{◌≡◌, ℕ, ◌+◌, ◌≤◌, Bool, true, false, cond, not, ◌||◌, List, [], ◌∷◌, map, ap, ◌∙◌, sym, refl, arith}
use Rattle.std.proofs.lemmas.Bool.Decides.{nat_tests}
use Rattle.std.specs.Prelude.{◌==◌, nat_lt, filter}
use Rattle.std.specs.List.{list_any}
use Rattle.iv_machine.specs.Act.{Act, finish, subscribe, unsubscribe}
use Rattle.iv_machine.specs.State.{State, Frame, Subscription, rel_of}
use Rattle.iv_machine.specs.Changing.{insert_subscription, after_subscriptions, after_frame}
use Rattle.iv_machine.specs.Machine.{settled}
use Rattle.iv_machine.specs.Held.{closed_by}
use Rattle.iv_machine.specs.Reached.{AreUnique, AreGiven, AreNumbersUnique}

-- some subscription has the number
abbrev pub has_number : ℕ → List Subscription → Bool
has_number k es = list_any (λ e. k == e.number) es

pub or-both_false : (b c : Bool) → (b || c) ≡ false → (b ≡ false) × (c ≡ false)
or-both_false true c h = cc
or-both_false false c h = (refl, h)

pub both_false : (b c : Bool) → b ≡ false → c ≡ false → (b || c) ≡ false
both_false b c h k = ap (λ x. x || c) h ∙ k

-- ---- one more

or_swap : (a b c : Bool) → (a || (b || c)) ≡ (b || (a || c))
or_swap true true c = refl
or_swap true false c = refl
or_swap false b c = refl

placed_has : (n : ℕ) (b : Bool) (e f : Subscription) (fs gs : List Subscription) → has_number n gs ≡ ((n == e.number) || has_number n fs) → has_number n (cond b (e ∷ f ∷ fs) (f ∷ gs)) ≡ ((n == e.number) || ((n == f.number) || has_number n fs))
placed_has n true e f fs gs h = refl
placed_has n false e f fs gs h = ap (λ b. (n == f.number) || b) h ∙ or_swap (n == f.number) (n == e.number) (has_number n fs)

pub has_number-insert_subscription : (n : ℕ) (e : Subscription) (fs : List Subscription) → has_number n (insert_subscription e fs) ≡ ((n == e.number) || has_number n fs)
has_number-insert_subscription n e [] = refl
has_number-insert_subscription n e (f ∷ fs) = placed_has n (nat_lt e.session f.session) e f fs (insert_subscription e fs) (has_number-insert_subscription n e fs)

differs_back : (m n : ℕ) → (m == n) ≡ false → (n == m) ≡ false
differs_back m n h = grind (arith, nat_tests)

unique_placed : (b : Bool) (e f : Subscription) (fs gs : List Subscription) → has_number e.number (f ∷ fs) ≡ false → AreUnique (f ∷ fs) → AreUnique gs → has_number f.number gs ≡ ((f.number == e.number) || has_number f.number fs) → AreUnique (cond b (e ∷ f ∷ fs) (f ∷ gs))
unique_placed true e f fs gs n u v h = (n, u)
unique_placed false e f fs gs n u v h = (h ∙ both_false (f.number == e.number) (has_number f.number fs) (differs_back e.number f.number (or-both_false (e.number == f.number) (has_number e.number fs) n).0) u.0, v)

unique_inserted : (e : Subscription) (fs : List Subscription) → has_number e.number fs ≡ false → AreUnique fs → AreUnique (insert_subscription e fs)
unique_inserted e [] n u = (refl, tt)
unique_inserted e (f ∷ fs) n u = unique_placed (nat_lt e.session f.session) e f fs (insert_subscription e fs) n u (unique_inserted e fs (or-both_false (e.number == f.number) (has_number e.number fs) n).1 u.1) (has_number-insert_subscription f.number e fs)

above : (last n : ℕ) → n ≤ last → ((last + 1) == n) ≡ false
above last n h = grind (arith, nat_tests)

-- the next number is not given yet
pub has_number-next : (last : ℕ) (es : List Subscription) → AreGiven last es → has_number (last + 1) es ≡ false
has_number-next last [] h = refl
has_number-next last (e ∷ es) h = both_false ((last + 1) == e.number) (has_number (last + 1) es) (above last e.number h.0) (has_number-next last es h.1)

given_more : (last : ℕ) (es : List Subscription) → AreGiven last es → AreGiven (last + 1) es
given_more last [] h = tt
given_more last (e ∷ es) h = let a = h.0 in (omega arith, given_more last es h.1)

given_placed : (m : ℕ) (b : Bool) (e f : Subscription) (fs gs : List Subscription) → e.number ≤ m → AreGiven m (f ∷ fs) → AreGiven m gs → AreGiven m (cond b (e ∷ f ∷ fs) (f ∷ gs))
given_placed m true e f fs gs l h k = (l, h)
given_placed m false e f fs gs l h k = (h.0, k)

given_inserted : (m : ℕ) (e : Subscription) (fs : List Subscription) → e.number ≤ m → AreGiven m fs → AreGiven m (insert_subscription e fs)
given_inserted m e [] l h = (l, tt)
given_inserted m e (f ∷ fs) l h = given_placed m (nat_lt e.session f.session) e f fs (insert_subscription e fs) l h (given_inserted m e fs l h.1)

-- ---- some fewer

kept_none : (b : Bool) (k : ℕ) (e : Subscription) (fs : List Subscription) → (k == e.number) ≡ false → has_number k fs ≡ false → has_number k (cond b (e ∷ fs) fs) ≡ false
kept_none true k e fs d h = both_false (k == e.number) (has_number k fs) d h
kept_none false k e fs d h = h

pub has_number-filter : (k : ℕ) (p : Subscription → Bool) (es : List Subscription) → has_number k es ≡ false → has_number k (filter p es) ≡ false
has_number-filter k p [] h = refl
has_number-filter k p (e ∷ es) h = let a = or-both_false (k == e.number) (has_number k es) h in kept_none (p e) k e (filter p es) a.0 (has_number-filter k p es a.1)

unique_kept_by : (b : Bool) (e : Subscription) (fs : List Subscription) → has_number e.number fs ≡ false → AreUnique fs → AreUnique (cond b (e ∷ fs) fs)
unique_kept_by true e fs n u = (n, u)
unique_kept_by false e fs n u = u

pub AreUnique-filter : (p : Subscription → Bool) (es : List Subscription) → AreUnique es → AreUnique (filter p es)
AreUnique-filter p [] u = tt
AreUnique-filter p (e ∷ es) u = unique_kept_by (p e) e (filter p es) (has_number-filter e.number p es u.0) (AreUnique-filter p es u.1)

given_kept_by : (m : ℕ) (b : Bool) (e : Subscription) (fs : List Subscription) → e.number ≤ m → AreGiven m fs → AreGiven m (cond b (e ∷ fs) fs)
given_kept_by m true e fs l h = (l, h)
given_kept_by m false e fs l h = h

pub AreGiven-filter : (m : ℕ) (p : Subscription → Bool) (es : List Subscription) → AreGiven m es → AreGiven m (filter p es)
AreGiven-filter m p [] h = tt
AreGiven-filter m p (e ∷ es) h = given_kept_by m (p e) e (filter p es) h.0 (AreGiven-filter m p es h.1)

-- ---- a command

pub AreNumbersUnique-settled : (act : Act) (s : State) → AreNumbersUnique s.frame → AreNumbersUnique (settled act s).frame
AreNumbersUnique-settled act s h = record { unique = AreUnique-filter _ s.frame.subscriptions h.unique; given = AreGiven-filter s.frame.last _ s.frame.subscriptions h.given }

pub AreNumbersUnique-after_frame : (f : Frame) (n : ℕ) (act : Act) → AreNumbersUnique f → AreNumbersUnique (after_frame f n act)
AreNumbersUnique-after_frame f n finish h = record { unique = AreUnique-filter _ f.subscriptions h.unique; given = AreGiven-filter f.last _ f.subscriptions h.given }
AreNumbersUnique-after_frame f n (subscribe rel) h = let e : Subscription = record { session = n; number = f.last + 1; rel = rel_of f.catalog rel } in record {
  unique = unique_inserted e f.subscriptions (has_number-next f.last f.subscriptions h.given) h.unique;
  given = given_inserted (f.last + 1) e f.subscriptions (omega arith) (given_more f.last f.subscriptions h.given);
}
AreNumbersUnique-after_frame f n (unsubscribe k) h = record { unique = AreUnique-filter _ f.subscriptions h.unique; given = AreGiven-filter f.last _ f.subscriptions h.given }
AreNumbersUnique-after_frame f n _ h = record { unique = h.unique; given = h.given }

-- ---- what is not open afterwards, and was not closed, was not open before

abbrev is_in : ℕ → List ℕ → Bool
is_in k ks = list_any (λ j. k == j) ks

split_by : (b : Bool) (k : ℕ) (e : Subscription) (es fs gs : List Subscription) → is_in k (map (λ f. f.number) (cond b (e ∷ fs) fs)) ≡ false → has_number k (cond (not b) (e ∷ gs) gs) ≡ false → (is_in k (map (λ f. f.number) fs) ≡ false → has_number k gs ≡ false → has_number k es ≡ false) → has_number k (e ∷ es) ≡ false
split_by true k e es fs gs h g more = let a = or-both_false (k == e.number) (is_in k (map (λ f. f.number) fs)) h in both_false (k == e.number) (has_number k es) a.0 (more a.1 g)
split_by false k e es fs gs h g more = let a = or-both_false (k == e.number) (has_number k gs) g in both_false (k == e.number) (has_number k es) a.0 (more h a.1)

split_none : (p : Subscription → Bool) (k : ℕ) (es : List Subscription) → is_in k (map (λ f. f.number) (filter p es)) ≡ false → has_number k (filter (λ e. not (p e)) es) ≡ false → has_number k es ≡ false
split_none p k [] h g = refl
split_none p k (e ∷ es) h g = split_by (p e) k e es (filter p es) (filter (λ f. not (p f)) es) h g (split_none p k es)

other_number : (k j n : ℕ) → (k == j) ≡ false → (j == n) ≡ true → (k == n) ≡ false
other_number k j n h g = grind (arith, nat_tests)

others_by : (b : Bool) (k : ℕ) (e : Subscription) (es gs : List Subscription) → (b ≡ true → (k == e.number) ≡ false) → has_number k (cond (not b) (e ∷ gs) gs) ≡ false → (has_number k gs ≡ false → has_number k es ≡ false) → has_number k (e ∷ es) ≡ false
others_by true k e es gs d g more = both_false (k == e.number) (has_number k es) (d refl) (more g)
others_by false k e es gs d g more = let a = or-both_false (k == e.number) (has_number k gs) g in both_false (k == e.number) (has_number k es) a.0 (more a.1)

others_none : (k j : ℕ) (es : List Subscription) → (k == j) ≡ false → has_number k (filter (λ e. not (j == e.number)) es) ≡ false → has_number k es ≡ false
others_none k j [] d g = refl
others_none k j (e ∷ es) d g = others_by (j == e.number) k e es (filter (λ f. not (j == f.number)) es) (other_number k j e.number d) g (others_none k j es d)

pub has_number-before : (f : Frame) (n : ℕ) (act : Act) (k : ℕ) → list_any (λ j. k == j) (closed_by f n act) ≡ false → has_number k (after_subscriptions f n act) ≡ false → has_number k f.subscriptions ≡ false
has_number-before f n finish k c h = split_none (λ e. n == e.session) k f.subscriptions c h
has_number-before f n (subscribe rel) k c h = (or-both_false (k == (f.last + 1)) (has_number k f.subscriptions) (sym (has_number-insert_subscription k (record { session = n; number = f.last + 1; rel = rel_of f.catalog rel }) f.subscriptions) ∙ h)).1
has_number-before f n (unsubscribe j) k c h = others_none k j f.subscriptions (or-both_false (k == j) false c).0 h
has_number-before f n _ k c h = h

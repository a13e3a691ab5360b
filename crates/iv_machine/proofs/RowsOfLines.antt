-- Which rows the lines of a command show.
use Rattle.std.proofs.Common.{◌≡◌, ◌⊎◌, inl, inr, ⊎_elim, ℕ, zero, suc, ◌+◌, ◌<◌, Bool, true, false, cond, not, List, [], ◌∷◌, ◌++◌, ℤ, pos, Option, Some, None, ap, ◌∙◌, refl, subst, arith}
use Rattle.std.proofs.lemmas.Bool.Decides.{nat_tests}
use Rattle.std.proofs.lemmas.List.Elements.{All-nil, All-cons, All-append}
use Rattle.std.specs.Prelude.{filter, flat_map, map, is_some, ◌==◌, ◌-ℤ◌}
use Rattle.std.specs.List.{All, AllByRecursion, list_any}
use Rattle.std.specs.Ordering.{int_eq}
use Rattle.iv_rows.specs.Cell.{Cell}
use Rattle.iv_rows.specs.Order.{row_eq}
use Rattle.iv_rows.specs.OrderLaws.{row_eq_decides}
use Rattle.iv_zset.specs.Limits.{copies}
use Rattle.iv_zset.specs.Weights.{Weighed}
use Rattle.iv_algebra.specs.Evaluation.{eval}
use Rattle.iv_algebra.specs.Plans.{Lists}
use Rattle.iv_bind.specs.Catalogs as catalogs
use Rattle.iv_rows.specs.Options.{if_some}
use Rattle.iv_access.specs.Policies.{may_see, allowed}
use Rattle.iv_machine.specs.declared.Cause.{Cause}
use Rattle.iv_machine.specs.Act.{Act, subscribe, write, Entry, no_such_row, limit, Command, reply, change, ended, refused, Refusal}
use Rattle.iv_machine.specs.State.{State, Frame, Subscription, actor, is_within_for, rel_of, shown, view_shown}
use Rattle.iv_machine.specs.Refusing.{test, or_else, is_present, entries_present, all_within, refusal, frame_refusal, rows_refusal}
use Rattle.iv_machine.specs.Changing.{after_entry, after}
use Rattle.iv_machine.specs.Machine.{weight, weighted, is_change, rising_rows, difference, lines_told, line_for, changes, ending_by, reply_to, settled, outcome, step}
use Rattle.iv_machine.specs.Reached.{AreUnique, AreNumbersUnique}
use Rattle.iv_machine.specs.Readers.{IsAllowed, IsKnownRow, AreKnownRows, ShowsKnownRows, looks_at_rows}
use Rattle.iv_machine.proofs.UniqueNumbers.{has_number, both_false, or-both_false, has_number-filter, AreNumbersUnique-after_frame}
use Rattle.iv_machine.proofs.RunSums.{shown-has_number}

-- ---- a row of a difference stands in one of the two lists

abbrev Stands : (a b : List (List Cell)) → List Cell → Type 0
Stands a b q = (0 < copies q a) ⊎ (0 < copies q b)

by_copies : (m n : ℕ) → int_eq (pos n -ℤ pos m) (pos 0) ≡ false → (0 < m) ⊎ (0 < n)
by_copies zero zero h = cc
by_copies (suc m) n h = inl (omega arith)
by_copies zero (suc n) h = inr (omega arith)

module _ (a b : List (List Cell)) (P : List Cell → Type 0) (go : (q : List Cell) → Stands a b q → P q) where
  stands_by : (k : List Cell) (ps : Weighed) (z : Bool) → int_eq (weight a b k) (pos 0) ≡ z → All (λ p. P p.0) ps → All (λ p. P p.0) (cond (not z) (weighted a b k ∷ ps) ps)
  stands_by k ps true e h = h
  stands_by k ps false e h = All-cons (λ (p : List Cell × ℤ). P p.0) (weighted a b k) ps (go k (by_copies (copies k a) (copies k b) e)) h

  all_stand : (ks : List (List Cell)) → All (λ p. P p.0) (filter is_change (map (weighted a b) ks))
  all_stand [] = All-nil (λ (p : List Cell × ℤ). P p.0)
  all_stand (k ∷ ks) = stands_by k (filter is_change (map (weighted a b) ks)) (int_eq (weight a b k) (pos 0)) refl (all_stand ks)

-- ---- a row that is let through passes, and stands there

one_more : (b : Bool) (c : ℕ) → 0 < c → 0 < cond b 1 0 + c
one_more true c h = omega arith
one_more false c h = omega arith

let_through : (p : List Cell → Bool) (q : List Cell) (rows : List (List Cell)) → 0 < copies q (filter p rows) → (0 < copies q rows) × (p q ≡ true)
let_through p q [] h = absurd (omega arith)
let_through p q (r ∷ rows) h = by (p r) (row_eq q r) refl refl h (let_through p q rows)
  where
    by : (b e : Bool) → p r ≡ b → row_eq q r ≡ e → 0 < copies q (cond b (r ∷ filter p rows) (filter p rows)) → (0 < copies q (filter p rows) → (0 < copies q rows) × (p q ≡ true))
        → (0 < cond e 1 0 + copies q rows) × (p q ≡ true)
    by true true k s l go = let at : q ≡ r = (row_eq_decides q r).0 s in (omega arith, ap p at ∙ k)
    by true false k s l go =
        let less : 0 < cond false 1 0 + copies q (filter p rows) = subst (λ x. 0 < cond x 1 0 + copies q (filter p rows)) s l in
        let g = go (omega arith) in
        (one_more false (copies q rows) g.0, g.1)
    by false e k s l go = let g = go l in (one_more e (copies q rows) g.0, g.1)

-- ---- the lines

known_rows : (old new : State) (k : ℕ) → AreKnownRows old new k (difference (shown old k) (shown new k))
known_rows old new k e t found plan = all_stand (shown old k) (shown new k) (IsKnownRow old new k (actor new.frame e.session) t) known (rising_rows (shown old k ++ shown new k))
  where
    seen : shown new k ≡ filter (may_see new.frame.rights (actor new.frame e.session) t) (new.rows t)
    seen = ap (λ o. if_some o [] (view_shown new)) found ∙ ap (λ p. eval p (allowed new.frame.rights (actor new.frame e.session) new.rows)) plan

    now : (q : List Cell) → 0 < copies q (shown new k) → IsAllowed new (actor new.frame e.session) t q
    now q h = let g = let_through (may_see new.frame.rights (actor new.frame e.session) t) q (new.rows t) (subst (λ rows. 0 < copies q rows) seen h) in
        record { there = g.0; seen = g.1 }

    known : (q : List Cell) → Stands (shown old k) (shown new k) q → IsKnownRow old new k (actor new.frame e.session) t q
    known q h = ⊎_elim (λ (x : 0 < copies q (shown old k)). inl x) (λ (x : 0 < copies q (shown new k)). inr (now q x)) h

-- a subscription that ends is not open afterwards
module _ (ends : Subscription → Option Cause) where
  abbrev IsGone : List Subscription → Subscription → Type 0
  IsGone es e = is_some (ends e) ≡ true → has_number e.number (filter (λ x. not (is_some (ends x))) es) ≡ false

  gone_by : (b : Bool) (k : ℕ) (e : Subscription) (fs : List Subscription) → (k == e.number) ≡ false → has_number k fs ≡ false → has_number k (cond b (e ∷ fs) fs) ≡ false
  gone_by true k e fs d h = both_false (k == e.number) (has_number k fs) d h
  gone_by false k e fs d h = h

  past_gone : (e : Subscription) (es fs : List Subscription) → list_any (λ f. e.number == f.number) fs ≡ false → AllByRecursion (IsGone es) fs → AllByRecursion (IsGone (e ∷ es)) fs
  past_gone e es [] h a = tt
  past_gone e es (f ∷ fs) h a =
      let n = or-both_false (e.number == f.number) (list_any (λ g. e.number == g.number) fs) h in
      let m = n.0 in
      let d : (f.number == e.number) ≡ false = grind (arith, nat_tests) in
      ((λ x. gone_by (not (is_some (ends e))) f.number e (filter (λ y. not (is_some (ends y))) es) d (a.0 x)), past_gone e es fs n.1 a.1)

  all_gone : (es : List Subscription) → AreUnique es → AllByRecursion (IsGone es) es
  all_gone [] u = tt
  all_gone (e ∷ es) u = (
    (λ x. ap (λ b. has_number e.number (cond (not b) (e ∷ filter (λ y. not (is_some (ends y))) es) (filter (λ y. not (is_some (ends y))) es))) x
        ∙ has_number-filter e.number (λ y. not (is_some (ends y))) es u.0),
    past_gone e es es u.0 (all_gone es u.1),
  )

module _ (s new : State) (ends : Subscription → Option Cause) where
  line_shows : (o : Option Cause) (e : Subscription) (ps : Weighed) → AreKnownRows s new e.number ps → (is_some o ≡ true → ps ≡ difference (shown s e.number) []) → All (ShowsKnownRows s new) (lines_told o e ps)
  line_shows (Some why) e ps a h = All-cons (ShowsKnownRows s new) (ended e.session e.number why ps) [] (h refl) (All-nil (ShowsKnownRows s new))
  line_shows None e [] a h = All-nil (ShowsKnownRows s new)
  line_shows None e (p ∷ ps) a h = All-cons (ShowsKnownRows s new) (change e.session e.number (p ∷ ps)) [] a (All-nil (ShowsKnownRows s new))

  lines_show : (es : List Subscription) → AllByRecursion (λ e. is_some (ends e) ≡ true → has_number e.number new.frame.subscriptions ≡ false) es → All (ShowsKnownRows s new) (flat_map (line_for s new ends) es)
  lines_show [] h = All-nil (ShowsKnownRows s new)
  lines_show (e ∷ es) h = All-append (ShowsKnownRows s new) (line_for s new ends e) (flat_map (line_for s new ends) es)
      (line_shows (ends e) e (difference (shown s e.number) (shown new e.number)) (known_rows s new e.number) (λ x. ap (difference (shown s e.number)) (shown-has_number new e.number (h.0 x))))
      (lines_show es h.1)

outcome_shows : (s : State) (c : Command) (o : Option Refusal) → AreNumbersUnique s.frame → All (ShowsKnownRows s (outcome s c o).state) (outcome s c o).lines
outcome_shows s c None r =
    let changed = after s c.session c.act in
    let new = settled c.act changed in
    All-cons (ShowsKnownRows s new) (reply c.session (reply_to s.frame c.act)) (changes c.act s changed new) tt
    (lines_show s new (ending_by c.act changed) changed.frame.subscriptions
    (all_gone (ending_by c.act changed) changed.frame.subscriptions (AreNumbersUnique-after_frame s.frame c.session c.act r).unique))
outcome_shows s c (Some x) r = All-cons (ShowsKnownRows s s) (reply c.session (refused x)) [] tt (All-nil (ShowsKnownRows s s))

pub ShowsKnownRows-step : (s : State) (c : Command) → AreNumbersUnique s.frame → All (ShowsKnownRows s (step s c).state) (step s c).lines
ShowsKnownRows-step s c r = outcome_shows s c (refusal s c.session c.act) r

-- ---- refusals

test_is : (b : Bool) (x r : Refusal) → test b x ≡ Some r → r ≡ x
test_is true x r h = cc
test_is false x r h = cc

present_looks : (catalog : List catalogs.CatalogEntry) (n : ℕ) (es : List Entry) (T : Lists) (r : Refusal) → entries_present catalog n es T ≡ Some r → looks_at_rows r ≡ true
present_looks catalog n [] T r h = cc
present_looks catalog n (e ∷ es) T r h = by (not (is_present e.op e.copies (T (rel_of catalog e.rel)))) h (present_looks catalog (n + 1) es (after_entry catalog e T) r)
  where
    by : (b : Bool) → or_else (test b (no_such_row n)) (entries_present catalog (n + 1) es (after_entry catalog e T)) ≡ Some r
        → (entries_present catalog (n + 1) es (after_entry catalog e T) ≡ Some r → looks_at_rows r ≡ true) → looks_at_rows r ≡ true
    by true k go = ap looks_at_rows (test_is true (no_such_row n) r k)
    by false k go = go k

limit_looks : (o : Option Refusal) (b : Bool) (r : Refusal) → (o ≡ Some r → looks_at_rows r ≡ true) → or_else o (or_else (test b limit) None) ≡ Some r → looks_at_rows r ≡ true
limit_looks (Some x) b r go h = go h
limit_looks None true r go h = ap looks_at_rows (test_is true limit r h)
limit_looks None false r go h = cc

rows_look : (s : State) (n : ℕ) (act : Act) (r : Refusal) → rows_refusal s n act ≡ Some r → looks_at_rows r ≡ true
rows_look s n (subscribe rel) r h = ap looks_at_rows (test_is (not (is_within_for s (actor s.frame n) (rel_of s.frame.catalog rel))) limit r h)
rows_look s n (write es) r h = limit_looks (entries_present s.frame.catalog 1 es s.rows) (not (all_within (after s n (write es)))) r (present_looks s.frame.catalog 1 es s.rows r) h
rows_look s n _ r h = cc

by_frame : (o p q : Option Refusal) (r : Refusal) → (p ≡ Some r → looks_at_rows r ≡ true) → looks_at_rows r ≡ false → or_else o p ≡ Some r → or_else o q ≡ Some r
by_frame None p q r go h k = let e = go k in cc
by_frame (Some x) p q r go h k = k

-- what rows do not decide is refused alike
pub refusal-other_rows : (f : Frame) (S T : Lists) (n : ℕ) (act : Act) (r : Refusal) → looks_at_rows r ≡ false → refusal (record { frame = f; rows = S }) n act ≡ Some r → refusal (record { frame = f; rows = T }) n act ≡ Some r
refusal-other_rows f S T n act r h k =
    let s : State = record { frame = f; rows = S } in
    let t : State = record { frame = f; rows = T } in
    by_frame (frame_refusal f n act) (rows_refusal s n act) (rows_refusal t n act) r (rows_look s n act r) h k

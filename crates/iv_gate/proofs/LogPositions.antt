-- Where the log stands: in memory, on disk, and after a crash.
use Rattle.std.proofs.Common.{◌≡◌, ℕ, ◌<◌, ◌≤◌, Bool, true, false, cond, is_some, List, [], ◌∷◌, ◌++◌, drop, length, take, Option, Some, None, refl, ap, ◌∙◌, sym, subst, arith}
use Rattle.std.specs.Prelude.{nat_lt, unwrap_or}
use Rattle.std.proofs.Math.Seq.{take-length}
use Rattle.std.proofs.lemmas.Bool.{ltb-true}
use Rattle.std.proofs.lemmas.List.{take-append-drop, take-append-le}
use Rattle.iv_rows.specs.Options.{if_some}
use Rattle.iv_records.specs.Journal.{Entry, IsEntry, position_of}
use Rattle.iv_records.specs.Laws.{ReadsBack}
use Rattle.iv_gate.specs.Arriving.{fault_of, position, settled_at}
use Rattle.iv_gate.specs.Events.{Event, presented, message, gone, known, ticked, synced, handed, arrived, forgave, failed, IsWell, next, led}
use Rattle.iv_gate.specs.Gate.{Gate, Head}
use Rattle.iv_gate.specs.Implied.{PositionsLast, PositionsRise}
use Rattle.iv_gate.specs.Laws.{IsFront}
use Rattle.iv_gate.specs.Replies.{added_by}
use Rattle.iv_gate.specs.Restoring.{are_rising}
use Rattle.iv_gate.specs.Runs.{Runs, goes_on}
use Rattle.iv_gate.proofs.AddedEntries.{Texts}
use Rattle.iv_gate.proofs.JournalDamage.{both_so, are_rising-append_front}
use Rattle.iv_gate.proofs.TextsAndDisk.{AllByRecursion-take, IsFront-itself, IsFront-take, IsWritten-Runs, same-journal_of, IsFront-take_take}
use Rattle.iv_gate.proofs.EventSigns.{Marks, marks}
use Rattle.iv_gate.proofs.EventMarks.{entries-next, marks-next, marks_behind, next-dead}

-- ---- positions of entries

pub position_append : (p : ℕ) (es fs : List Entry) → position_of p (es ++ fs) ≡ position_of (position_of p es) fs
position_append p [] fs = refl
position_append p (e ∷ es) fs = position_append (unwrap_or e.position p) es fs

behind_rising : (p : ℕ) (es fs : List Entry) → are_rising p (es ++ fs) ≡ true → are_rising (position_of p es) fs ≡ true
behind_rising p [] fs h = h
behind_rising p (e ∷ es) fs h = behind_rising (unwrap_or e.position p) es fs (both_so (if_some e.position true (nat_lt p)) (are_rising (unwrap_or e.position p) (es ++ fs)) h).1

rises : (p : ℕ) (es : List Entry) → are_rising p es ≡ true → p ≤ position_of p es
rises p [] h = let n : p ≤ p = omega arith in n
rises p (e ∷ es) h = by e.position (both_so (if_some e.position true (nat_lt p)) (are_rising (unwrap_or e.position p) es) h).0 (rises (unwrap_or e.position p) es (both_so (if_some e.position true (nat_lt p)) (are_rising (unwrap_or e.position p) es) h).1)
  where
    later : (q n : ℕ) → p < q → q ≤ n → p ≤ n
    later q n l m = omega (arith, l, m)

    by : (o : Option ℕ) → if_some o true (nat_lt p) ≡ true → unwrap_or o p ≤ position_of (unwrap_or o p) es → p ≤ position_of (unwrap_or o p) es
    by None k m = m
    by (Some q) k m = later q (position_of q es) (ltb-true p q k) m

-- a front stands no further
front_position : (p : ℕ) (es fs : List Entry) → IsFront es fs → are_rising p fs ≡ true → position_of p es ≤ position_of p fs
front_position p es fs f h =
    subst (λ n. position_of p es ≤ n) (sym (ap (position_of p) f.1 ∙ position_append p es f.0))
    (rises (position_of p es) f.0 (behind_rising p es f.0 (ap (are_rising p) (sym f.1) ∙ h)))

-- ---- by an event

kept_more : (g : Gate) (e : Event) → g.kept ≤ length g.entries → g.kept ≤ (marks_behind g e).kept
kept_more g synced k = k
kept_more g (arrived s) k = by (is_some (fault_of g s))
  where
    by : (b : Bool) → g.kept ≤ (cond b (record (marks g) { dead = true }) (marks g)).kept
    by true = omega arith
    by false = omega arith
kept_more g (presented m token) k = omega arith
kept_more g (message m text) k = omega arith
kept_more g (gone m) k = omega arith
kept_more g (known tokens) k = omega arith
kept_more g ticked k = omega arith
kept_more g (handed m) k = omega arith
kept_more g led k = omega arith
kept_more g forgave k = omega arith
kept_more g failed k = omega arith

pub head-marks_behind : (g : Gate) (e : Event) → (marks_behind g e).head ≡ g.head
head-marks_behind g (arrived s) = by (is_some (fault_of g s))
  where
    by : (b : Bool) → (cond b (record (marks g) { dead = true }) (marks g)).head ≡ g.head
    by true = refl
    by false = refl
head-marks_behind g synced = refl
head-marks_behind g (presented m token) = refl
head-marks_behind g (message m text) = refl
head-marks_behind g (gone m) = refl
head-marks_behind g (known tokens) = refl
head-marks_behind g ticked = refl
head-marks_behind g (handed m) = refl
head-marks_behind g led = refl
head-marks_behind g forgave = refl
head-marks_behind g failed = refl

-- what is on disk is a front of what is on disk later
record GoesFurther (g h : Gate) : Type 0 where
  head : h.head ≡ g.head
  entries : IsFront g.entries h.entries
  kept : IsFront (take g.kept g.entries) (take h.kept h.entries)

taken_rising : (p n : ℕ) (es : List Entry) → are_rising p es ≡ true → are_rising p (take n es) ≡ true
taken_rising p n es h = are_rising-append_front p (take n es) (drop n es) (ap (are_rising p) (take-append-drop n es) ∙ h)

further : (g h : Gate) → GoesFurther g h → are_rising h.head.position h.entries ≡ true → (position g ≤ position h) × (settled_at g ≤ settled_at h)
further g h f r = (
  subst (λ (z : Head). position_of z.position g.entries ≤ position_of h.head.position h.entries) f.head (front_position h.head.position g.entries h.entries f.entries r),
  subst (λ (z : Head). position_of z.position (take g.kept g.entries) ≤ position_of h.head.position (take h.kept h.entries)) f.head
      (front_position h.head.position (take g.kept g.entries) (take h.kept h.entries) f.kept (taken_rising h.head.position h.kept h.entries r)),
)

goes_further : (g : Gate) (e : Event) → g.kept ≤ length g.entries → GoesFurther g (next g e)
goes_further g e k = by g.dead refl
  where
    by : (b : Bool) → g.dead ≡ b → GoesFurther g (next g e)
    by true d =
        subst (GoesFurther g) (sym (next-dead g e d)) (record { head = refl; entries = IsFront-itself g.entries; kept = IsFront-itself (take g.kept g.entries) })
    by false d =
        let m = marks-next g e d in let grown = entries-next g e d in
        let more = IsFront-take_take g.kept (marks_behind g e).kept (g.entries ++ added_by g e) (kept_more g e k) in
        record {
          head = ap (λ (x : Marks). x.head) m ∙ head-marks_behind g e;
          entries = (added_by g e, grown);
          kept = subst (λ z. IsFront z (take (next g e).kept (next g e).entries)) (take-append-le g.kept g.entries (added_by g e) k)
              (subst (IsFront (take g.kept (g.entries ++ added_by g e))) (λ i. take ((sym m i).kept) (sym grown i)) more);
        }

pub PositionsRise-Runs : ReadsBack → Texts → (cap : ℕ) (g : Gate) (e : Event) → Runs cap g → IsWell e → PositionsRise g e
PositionsRise-Runs reads texts cap g e r w =
    let now = IsWritten-Runs reads texts cap g r in let then = IsWritten-Runs reads texts cap (next g e) (goes_on g e w r) in
    let f = further g (next g e) (goes_further g e now.held.kept) then.booked.steps in
    (f.0, f.1, front_position g.head.position (take g.kept g.entries) g.entries (IsFront-take g.kept g.entries) now.booked.steps)

-- ---- after a crash

pub PositionsLast-Runs : ReadsBack → Texts → (cap : ℕ) (g : Gate) → Runs cap g → PositionsLast cap g
PositionsLast-Runs reads texts cap g r disk tokens most h l x =
    let w = IsWritten-Runs reads texts cap g r in
    let same : take l.0 g.entries ≡ h.entries = same-journal_of reads (take l.0 g.entries) h.entries (AllByRecursion-take IsEntry l.0 g.entries w.booked.well) x.leads.well (sym l.2 ∙ x.all) in
    let head : h.head ≡ g.head = ap (λ (z : Gate). z.head) x.leads.gate in
    let kept : h.kept ≡ length h.entries = ap (λ (z : Gate). z.kept) x.leads.gate in
    let settled : settled_at h ≡ position_of g.head.position (take l.0 g.entries) =
    (λ i. position_of (head i).position (take (kept i) h.entries)) ∙ (ap (position_of g.head.position) (take-length h.entries) ∙ ap (position_of g.head.position) (sym same)) in (
      subst (λ n. settled_at g ≤ n) (sym settled)
          (front_position g.head.position (take g.kept g.entries) (take l.0 g.entries) (IsFront-take_take g.kept l.0 g.entries l.1) (taken_rising g.head.position l.0 g.entries w.booked.steps)),
      subst (λ n. n ≤ position g) (sym settled) (front_position g.head.position (take l.0 g.entries) g.entries (IsFront-take l.0 g.entries) w.booked.steps),
    )

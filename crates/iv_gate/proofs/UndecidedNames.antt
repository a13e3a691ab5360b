-- What is told to be undecided for ever stays so.
use Rattle.std.proofs.Common.{◌≡◌, inl, inr, ℕ, ◌+◌, ◌≤◌, ◌<◌, Bool, true, false, List, ◌++◌, length, refl, ap, ◌∙◌, sym, subst, arith}
use Rattle.std.specs.Prelude.{bytes_eq, filter}
use Rattle.std.proofs.lemmas.List.{length-append}
use Rattle.std.proofs.lemmas.List.Concat.{flat_map-append}
use Rattle.std.proofs.lemmas.List.Elements.{filter-append}
use Rattle.iv_records.specs.Journal.{Entry, names_in}
use Rattle.iv_records.specs.Names.{limits}
use Rattle.iv_once.specs.Names.{Named}
use Rattle.iv_gate.specs.Events.{Event, next}
use Rattle.iv_gate.specs.Gate.{Gate, Head, place_at}
use Rattle.iv_gate.specs.Implied.{IsPast, StaysPast}
use Rattle.iv_gate.specs.Replies.{added_by, count_of}
use Rattle.iv_gate.proofs.LogPositions.{head-marks_behind}
use Rattle.iv_gate.proofs.EventSigns.{Marks}
use Rattle.iv_gate.proofs.EventMarks.{entries-next, marks-next, next-dead}

abbrev names_of : List ℕ → List Entry → List Named
names_of holder es = filter (λ (e : Named). bytes_eq e.ask.holder holder) (names_in es)

more_names : (holder : List ℕ) (es fs : List Entry) → length (names_of holder (es ++ fs)) ≡ length (names_of holder es) + length (names_of holder fs)
more_names holder es fs =
    ap length (ap (filter (λ (e : Named). bytes_eq e.ask.holder holder)) (flat_map-append (λ (e : Entry). e.names) es fs)
    ∙ filter-append (λ (e : Named). bytes_eq e.ask.holder holder) (names_in es) (names_in fs))
    ∙ length-append (names_of holder es) (names_of holder fs)

-- a holder has as many names as before, and those that are added
counts_more : (g h : Gate) (more : List Entry) (holder : List ℕ) → h.head ≡ g.head → h.entries ≡ g.entries ++ more → count_of g holder ≤ count_of h holder
counts_more g h more holder e f =
    no_less (place_at g.head holder).count (length (names_of holder g.entries)) (place_at h.head holder).count (length (names_of holder h.entries)) (length (names_of holder more))
    (ap (λ (z : Head). (place_at z holder).count) e) (ap (λ z. length (names_of holder z)) f ∙ more_names holder g.entries more)
  where
    no_less : (a b c d x : ℕ) → c ≡ a → d ≡ b + x → a + b ≤ c + d
    no_less a b c d x p n = omega (arith, p, n)

pub StaysPast-event : (g : Gate) (e : Event) → StaysPast g e
StaysPast-event g e a p = by g.dead refl
  where
    less : (x y z : ℕ) → x < y → y ≤ z → x < z
    less x y z l m = omega (arith, l, m)

    head : g.dead ≡ false → (next g e).head ≡ g.head
    head d = ap (λ (x : Marks). x.head) (marks-next g e d) ∙ head-marks_behind g e

    further : g.dead ≡ false → IsPast g a → IsPast (next g e) a
    further d (inl l) =
        inl (
          l.0 ∙ ap (λ (z : Head). (place_at z a.holder).epoch) (sym (head d)),
          less (a.at.count + limits.names) (count_of g a.holder) (count_of (next g e) a.holder) l.1
              (counts_more g (next g e) (added_by g e) a.holder (head d) (entries-next g e d)),
        )
    further d (inr n) = inr (λ s. n (s ∙ ap (λ (z : Head). (place_at z a.holder).epoch) (head d)))

    by : (b : Bool) → g.dead ≡ b → IsPast (next g e) a
    by true d = subst (λ (x : Gate). IsPast x a) (sym (next-dead g e d)) p
    by false d = further d p

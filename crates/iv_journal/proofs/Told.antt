-- What a reading tells of all bytes.
use Rattle.std.proofs.Common.{◌≡◌, ◌⊎◌, inl, inr, ℕ, Bool, true, false, cond, List, [], ◌∷◌, ◌++◌, drop, length, Option, None, Some, is_some, refl, ap, ◌∙◌, sym, subst}
use Rattle.std.specs.List.{AllByRecursion}
use Rattle.std.proofs.lemmas.Bool.{false≢true}
use Rattle.std.proofs.lemmas.List.{take-append-drop}
use Rattle.iv_journal.specs.Journal.{Line, digest_behind, has_head, journal_of, no_digest}
use Rattle.iv_journal.specs.Reading.{BeginsNoLine, IsReading, Reading, before_whole, fault_of, is_torn, whole}
use Rattle.iv_journal.specs.Laws.{IsDamage, IsTold}
use Rattle.iv_journal.proofs.RecordEnds.{take-whole_lines}
use Rattle.iv_journal.proofs.Readings.{AllText}

abbrev AreParts : List Line → Type 0
AreParts ls = AllByRecursion (λ l. l.is_last ≡ false) ls

parts_behind : (ls : List Line) → AreParts (drop (length (whole ls)) ls)
parts_behind [] = tt
parts_behind (l ∷ ls) = onto (whole ls) (parts_behind ls)
  where
    one : (b : Bool) → l.is_last ≡ b → AreParts ls → AreParts (drop (length (cond b (l ∷ []) [])) (l ∷ ls))
    one true e h = h
    one false e h = (e, h)

    onto : (w : List Line) → AreParts (drop (length w) ls) → AreParts (drop (length (before_whole l w)) (l ∷ ls))
    onto [] h = one l.is_last refl h
    onto (m ∷ ms) h = h

split_whole : (ls : List Line) → ls ≡ whole ls ++ drop (length (whole ls)) ls
split_whole ls = sym (take-append-drop (length (whole ls)) ls) ∙ ap (λ (z : List Line). z ++ drop (length (whole ls)) ls) (take-whole_lines ls)

none_is_some : (n : ℕ) → None ≡ Some n → ⊥
none_is_some n e = false≢true (ap is_some e)

number : Option ℕ → ℕ
number None = 0
number (Some n) = n

is_number : (n m : ℕ) → Some n ≡ Some m → m ≡ n
unfolding number
is_number n m e = sym (ap number e)

no_fault : (b c : Bool) (n : ℕ) → cond b (cond c None (Some n)) (Some 0) ≡ None → c ≡ true
no_fault b true n e = refl
no_fault true false n e = absurd (none_is_some n (sym e))
no_fault false false n e = absurd (none_is_some 0 (sym e))

at_fault : (b c : Bool) (n m : ℕ) → cond b (cond c None (Some n)) (Some 0) ≡ Some m → ((m ≡ 0) × (b ≡ false)) ⊎ ((m ≡ n) × (c ≡ false))
at_fault true true n m e = absurd (none_is_some m e)
at_fault true false n m e = inr (is_number n m e, refl)
at_fault false c n m e = inl (is_number 0 m e, refl)

damage : (ls : List Line) (rest : List ℕ) (byte : ℕ) → BeginsNoLine (digest_behind no_digest ls) rest → fault_of ls rest ≡ Some byte → IsDamage ls rest byte
damage ls rest byte none e = by (at_fault (has_head ls) (is_torn rest) (length (journal_of ls)) byte e)
  where
    by : ((byte ≡ 0) × (has_head ls ≡ false)) ⊎ ((byte ≡ length (journal_of ls)) × (is_torn rest ≡ false)) → IsDamage ls rest byte
    by (inl h) = inl h
    by (inr h) = inr (h.0, h.1, none)

pub IsTold-IsReading : (bytes : List ℕ) (r : Reading) → IsReading bytes r → IsTold bytes r
IsTold-IsReading bytes r h =
    let parts = drop (length (whole h.lines)) h.lines in
    let is : h.lines ≡ r.lines ++ drop (length (whole h.lines)) h.lines =
    split_whole h.lines ∙ ap (λ (z : List Line). z ++ drop (length (whole h.lines)) h.lines) (sym h.whole) in
    record {
      parts = parts;
      rest = h.rest;
      all = h.begins.all ∙ ap (λ (z : List Line). journal_of z ++ h.rest) is;
      texts = subst (λ (z : List Line). AllText z) is h.begins.texts;
      unfinished = parts_behind h.lines;
      torn = λ e. no_fault (has_head h.lines) (is_torn h.rest) (length (journal_of h.lines)) (sym h.fault ∙ e);
      damaged = λ byte e. subst (λ (z : List Line). IsDamage z h.rest byte) is (damage h.lines h.rest byte h.begins.furthest (sym h.fault ∙ e));
    }

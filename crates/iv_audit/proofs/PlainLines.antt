-- Lines of a journal of the form before, as they are read from the front.
use Rattle.std.proofs.Common.{◌≡◌, ℕ, ◌+◌, ◌-◌, ◌<◌, ◌≤◌, Bool, true, false, cond, List, [], ◌∷◌, ◌++◌, append_assoc, append-nil, drop, drop_of_length-le, take, map, get_or, length, length-append, refl, ap, ◌∙◌, sym, arith}
use Rattle.std.specs.Prelude.{◌==◌, ◌||◌}
use Rattle.std.specs.List.{list_any, sum_by}
use Rattle.std.proofs.Math.Seq.{take-append_seam}
use Rattle.std.proofs.lemmas.Bool.Decides.{nat_tests}
use Rattle.std.proofs.lemmas.List.{at_drop_more, map-append}
use Rattle.std.proofs.lemmas.List.Sums.{sum_by_push}
use Rattle.iv_journal.specs.Journal.{Line}
use Rattle.iv_audit.specs.Reading.{IsPlain, ended_lines, plain_line, plain_text}
use Rattle.iv_audit.specs.declared.reading.Plain.{Plain}
use Rattle.iv_audit.proofs.Texts.{HasNone-append}

-- a line's bytes with its end
abbrev with_end : List ℕ → ℕ
with_end line = length line + 1

-- these are the lines that end before a byte, and after the start of the next one is no newline up to there
pub record IsReadTo (bytes : List ℕ) (lines : List Line) (start at : ℕ) : Type 0 where
  pub done : List (List ℕ)
  pub line : List ℕ
  pub split : drop start bytes ≡ line ++ drop at bytes
  pub long : start + length line ≡ at
  pub none : list_any (λ b. b == 10) line ≡ false
  pub all : ended_lines [] bytes ≡ done ++ ended_lines line (drop at bytes)
  pub are : lines ≡ map plain_line done
  pub size : start ≡ sum_by with_end done

pub begins : (bytes : List ℕ) (lines : List Line) → lines ≡ [] → IsReadTo bytes lines 0 0
begins bytes lines e = record { done = []; line = []; split = refl; long = refl; none = refl; all = refl; are = e; size = refl }

next : (bytes : List ℕ) (at : ℕ) → at < length bytes → drop at bytes ≡ get_or bytes at 0 ∷ drop (at + 1) bytes
next bytes at h = at_drop_more (λ z. z) bytes at 0 h

is_ten : (b : ℕ) → b ≡ 10 → (b == 10) ≡ true
is_ten b h = grind (arith, nat_tests)

is_other : (b : ℕ) → (b ≡ 10 → ⊥) → (b == 10) ≡ false
is_other b h = grind (arith, nat_tests)

ended_by : (line bytes : List ℕ) (at : ℕ) (b : Bool) → at < length bytes → (get_or bytes at 0 == 10) ≡ b
    → ended_lines line (drop at bytes) ≡ cond b (line ∷ ended_lines [] (drop (at + 1) bytes)) (ended_lines (line ++ get_or bytes at 0 ∷ []) (drop (at + 1) bytes))
ended_by line bytes at b h e =
    ap (ended_lines line) (next bytes at h)
    ∙ ap (λ z. cond z (line ∷ ended_lines [] (drop (at + 1) bytes)) (ended_lines (line ++ get_or bytes at 0 ∷ []) (drop (at + 1) bytes))) e

-- a byte more of the line
pub IsReadTo-byte : (bytes : List ℕ) (lines : List Line) (start at : ℕ) → IsReadTo bytes lines start at → at < length bytes → (get_or bytes at 0 ≡ 10 → ⊥) → IsReadTo bytes lines start (at + 1)
IsReadTo-byte bytes lines start at h in_it other =
    let b = get_or bytes at 0 in
    let more = length-append h.line (b ∷ []) in
    record {
      done = h.done;
      line = h.line ++ b ∷ [];
      split = h.split ∙ (ap (λ z. h.line ++ z) (next bytes at in_it) ∙ sym (append_assoc h.line (b ∷ []) (drop (at + 1) bytes)));
      long = (let k = h.long in omega (arith, k, more));
      none = HasNone-append 10 h.line (b ∷ []) h.none (ap (λ z. z || false) (is_other b other));
      all = h.all ∙ ap (λ z. h.done ++ z) (ended_by h.line bytes at false in_it (is_other b other));
      are = h.are;
      size = h.size;
    }

-- the end of a line
pub IsReadTo-newline : (bytes : List ℕ) (lines : List Line) (start at : ℕ) (text : List ℕ) → IsReadTo bytes lines start at → at < length bytes
    → get_or bytes at 0 ≡ 10
    → text ≡ plain_text (take (at - start) (drop start bytes)) → IsReadTo bytes (lines ++ record { is_last = true; text = text } ∷ []) (at + 1) (at + 1)
IsReadTo-newline bytes lines start at text h in_it ten is =
    let later = ended_lines [] (drop (at + 1) bytes) in
    let count : at - start ≡ length h.line = (let k = h.long in omega (arith, k)) in
    let line : take (at - start) (drop start bytes) ≡ h.line =
    ap (λ m. take m (drop start bytes)) count ∙ (ap (take (length h.line)) h.split ∙ take-append_seam h.line (drop at bytes)) in
    let same : text ≡ plain_text h.line = is ∙ ap plain_text line in
    let more = sum_by_push with_end h.done h.line in
    record {
      done = h.done ++ h.line ∷ [];
      line = [];
      split = refl;
      long = omega arith;
      none = refl;
      all = h.all ∙ (ap (λ z. h.done ++ z) (ended_by h.line bytes at true in_it (is_ten (get_or bytes at 0) ten)) ∙ sym (append_assoc h.done (h.line ∷ []) later));
      are = (λ i. h.are i ++ record { is_last = true; text = same i } ∷ []) ∙ sym (map-append plain_line h.done (h.line ∷ []));
      size = (let k = h.long in let n = h.size in omega (arith, k, n, more));
    }

pub IsPlain-IsReadTo : (bytes : List ℕ) (at : ℕ) (p : Plain) → IsReadTo bytes p.lines.items p.length at → length bytes ≤ at → IsPlain bytes p
IsPlain-IsReadTo bytes at p h past =
    let none : drop at bytes ≡ [] = drop_of_length-le bytes past in
    let same : ended_lines [] bytes ≡ h.done = h.all ∙ (ap (λ z. h.done ++ ended_lines h.line z) none ∙ append-nil h.done) in
    record {
      lines = h.are ∙ ap (map plain_line) (sym same);
      rest = ap (list_any (λ b. b == 10)) (h.split ∙ (ap (λ z. h.line ++ z) none ∙ append-nil h.line)) ∙ h.none;
      length = h.size ∙ ap (sum_by with_end) (sym same);
    }

-- Bytes that were read and not taken yet.
use Rattle.std.proofs.Common.{◌≡◌, ◌≢◌, ℕ, ◌+◌, ◌-◌, ◌<◌, ◌≤◌, ◌==◌, true, false, List, [], ◌∷◌, ◌++◌, take, drop, length, get_or, Option, Some, None, ap, ◌∙◌, sym, refl, arith, length-take, length-drop, length-append, take-append-drop}
use Rattle.std.specs.Prelude.{Result, Ok, Err, OnOk, OnErr, position}
use Rattle.std.specs.List.{All}
use Rattle.std.proofs.lemmas.Grind.{common_steps}
use Rattle.std.proofs.lemmas.Bool.Decides.{nat_tests}
use Rattle.std.proofs.lemmas.List.{drop_all, drop-take, drop-drop, drop_more, take-take, get_or-take}
use Rattle.std.proofs.lemmas.List.Elements.{All-from_get_or}
use Rattle.std.proofs.lemmas.List.Quantifiers.{position-Some}
use Rattle.std.proofs.lemmas.List.Sums.{fails_before_first}
use Rattle.std.specs.Io.KnownBytes.{Keeps, prepend_known}
use Rattle.iv_lines.specs.Ahead.{TakesPart}

pub drop-none_filled : (bytes : List ℕ) (at filled : ℕ) → filled ≤ at → drop at (take filled bytes) ≡ []
drop-none_filled bytes at filled h = drop_all at (take filled bytes) (omega (arith, length-take {A = ℕ}))

pub Keeps-prepend_known : (old : List ℕ) (left new : Option (List ℕ)) → old ≡ [] → Keeps left new → Keeps (prepend_known old left) new
Keeps-prepend_known old None new o k = tt
Keeps-prepend_known old (Some xs) None o k = absurd k
Keeps-prepend_known old (Some xs) (Some ys) o k = rw o k

pub length-ahead : (bytes : List ℕ) (at filled : ℕ) → at ≤ filled → filled ≤ length bytes → length (drop at (take filled bytes)) + at ≡ filled
length-ahead bytes at filled h l = omega (arith, length-take filled bytes, length-drop at (take filled bytes))

pub ahead_empty : (bytes : List ℕ) (at filled : ℕ) → at ≤ filled → filled ≤ length bytes → drop at (take filled bytes) ≡ [] → at ≡ filled
ahead_empty bytes at filled h l e = let k = length-ahead bytes at filled h l in let n : length (drop at (take filled bytes)) ≡ 0 = ap (λ (v : List ℕ). length v) e in omega arith

-- where a read is made only because nothing was ahead
pub Keeps-prepend_known_ok : {E : Type 0} (r : Result (Unit {0}) E) (old : List ℕ) (left mid : Option (List ℕ)) → old ≡ [] → OnOk r (Keeps left mid) → OnOk r (Keeps (prepend_known old left) mid)
Keeps-prepend_known_ok (Ok x) old left mid o k = Keeps-prepend_known old left mid o k
Keeps-prepend_known_ok (Err e) old left mid o k = tt

pub Keeps-prepend_known_err : {E : Type 0} (r : Result (Unit {0}) E) (old : List ℕ) (left mid : Option (List ℕ)) → old ≡ [] → OnErr r (Keeps left mid) → OnErr r (Keeps (prepend_known old left) mid)
Keeps-prepend_known_err (Ok x) old left mid o k = tt
Keeps-prepend_known_err (Err e) old left mid o k = Keeps-prepend_known old left mid o k

-- ---- a part of the bytes ahead, up to a place

no_newline : (bs : List ℕ) → position (λ b. b == 10) bs ≡ None → All (λ b. b ≢ 10) bs
no_newline bs e = All-from_get_or (λ b. b ≢ 10) bs 0 (λ k h.
    let far : length bs ≤ k → ⊥ = λ l. omega arith in
    let no : (get_or bs k 0 == 10) ≡ false = fails_before_first (λ b. b == 10) bs k 0 (grind (arith, common_steps)) in
    grind (arith, nat_tests))

before_newline : (bs : List ℕ) (count : ℕ) → position (λ b. b == 10) bs ≡ Some count → All (λ b. b ≢ 10) (take count bs)
before_newline bs count e =
    let at = position-Some (λ b. b == 10) bs count 0 e in
    All-from_get_or (λ b. b ≢ 10) (take count bs) 0 (λ k h.
    let below : k < count = omega (arith, length-take count bs) in
    let no = at.2 k below in
    rw (get_or-take count bs k 0 below) (grind (arith, nat_tests)))

module _ (bytes line longer : List ℕ) (at filled end : ℕ) (begins : at ≤ end) (ends : end ≤ filled) (inside : filled ≤ length bytes) where
  abbrev all : List ℕ
  all = drop at (take filled bytes)

  abbrev front : List ℕ
  front = take (end - at) (drop at bytes)

  front_is : front ≡ take (end - at) all
  front_is =
      let whole : at + (filled - at) ≡ filled = omega arith in
      let same : all ≡ take (filled - at) (drop at bytes) = ap (λ n. drop at (take n bytes)) (sym whole) ∙ drop-take at (filled - at) bytes in
      sym (ap (take (end - at)) same ∙ take-take (end - at) (filled - at) (drop at bytes) (omega arith))

  front_long : length front ≡ end - at
  front_long = omega (arith, length-take (end - at) (drop at bytes), length-drop at bytes)

  behind : (n : ℕ) → drop n all ≡ drop (at + n) (take filled bytes)
  behind n = drop-drop n at (take filled bytes)

  -- no newline stands in it
  pub takes_all : length line < 65537 → end ≤ at + (65537 - length line) → at < end → position (λ b. b == 10) front ≡ None → longer ≡ line ++ front → TakesPart all (drop end (take filled bytes)) line longer false
  takes_all room most some none moved =
      let last : at + (end - at) ≡ end = omega arith in
      let long : length longer ≡ length line + length front = simp (moved, length-append) refl in
      let l = front_long in record {
        part = front;
        plain = no_newline front none;
        moved = moved;
        taken = sym (take-append-drop (end - at) all) ∙ (λ i. sym front_is i ++ (behind (end - at) ∙ ap (λ n. drop n (take filled bytes)) last) i);
        some = λ _. omega arith;
        within = omega arith;
        room = λ e. cc;
      }

  -- a newline stands in it
  pub takes_line : (count : ℕ) → length line < 65537 → end ≤ at + (65537 - length line) → position (λ b. b == 10) front ≡ Some count → longer ≡ line ++ take count front → TakesPart all (drop (at + (count + 1)) (take filled bytes)) line longer true
  takes_line count room most found moved =
      let p = position-Some (λ b. b == 10) front count 0 found in
      let l = front_long in
      let short : count < end - at = omega arith in
      let within : count < length all = omega (arith, length-take filled bytes, length-drop at (take filled bytes)) in
      let ten : get_or front count 0 ≡ 10 = let y = p.1 in grind (arith, nat_tests) in
      let newline : get_or all count 0 ≡ 10 = sym (get_or-take (end - at) all count 0 short) ∙ (ap (λ bs. get_or bs count 0) (sym front_is) ∙ ten) in
      let same : take count front ≡ take count all = ap (take count) front_is ∙ take-take count (end - at) all (omega arith) in
      let long : length longer ≡ length line + length (take count front) = simp (moved, length-append) refl in
      let few = length-take count front in record {
        part = take count front;
        plain = before_newline front count found;
        moved = moved;
        taken = sym (take-append-drop count all) ∙ (λ i. sym same i ++ (drop_more all count 0 within ∙ (λ j. newline j ∷ behind (count + 1) j)) i);
        some = λ e. cc;
        within = omega arith;
        room = λ _. omega arith;
      }

-- Quoted texts, piece by piece.
use Rattle.std.proofs.Common.{◌≡◌, ℕ, suc, ◌+◌, ◌-◌, ◌<◌, ◌≤◌, Bool, true, false, cond, List, [], ◌∷◌, ◌++◌, length, get_or, take, drop, Option, Some, None, refl, sym, ap, subst, ◌∙◌, inl, inr, append_assoc, length-drop, arith}
use Rattle.std.specs.Prelude.{◌==◌, not}
use Rattle.std.specs.List.{prefix_len}
use Rattle.std.specs.Str.{IsUtf8, IsCharBoundary}
use Rattle.std.proofs.lemmas.Bool.{cases_lt, eqb-true, not-false}
use Rattle.std.proofs.lemmas.List.{append-nil, drop-drop, get_or-drop}
use Rattle.std.proofs.lemmas.List.Sums.{prefix_len-le-length, prefix_len_stops}
use Rattle.std.proofs.lemmas.Str.{IsUtf8-drop, IsCharBoundary-end, IsCharBoundary-before_ascii, IsCharBoundary-after_ascii}
use Rattle.iv_query.specs.Lexing.{is_plain, after_quote, onto, quoted}

-- where the first quote stands
pub IsCharBoundary-plain : (bs : List ℕ) → IsUtf8 bs → IsCharBoundary bs (prefix_len is_plain bs)
IsCharBoundary-plain bs u =
    elim (cases_lt (prefix_len is_plain bs) (length bs)) [
      | inl lt ↦
          let stops = prefix_len_stops is_plain bs 0 lt in
          let quote : get_or bs (prefix_len is_plain bs) 0 ≡ 39 = eqb-true _ 39 (not-false _ stops) in
          IsCharBoundary-before_ascii bs (prefix_len is_plain bs) lt (omega arith)
      | inr le ↦
          let all : length bs ≡ prefix_len is_plain bs = omega (arith, prefix_len-le-length is_plain bs) in
          subst (IsCharBoundary bs) all (IsCharBoundary-end bs)
    ]

pub plain_rest : (bs : List ℕ) → IsUtf8 bs → IsUtf8 (drop (prefix_len is_plain bs) bs)
plain_rest bs u = IsUtf8-drop bs (prefix_len is_plain bs) u (IsCharBoundary-plain bs u)

-- a quote that comes first
pub data Quote : List ℕ → Option (List ℕ) → Type 0 where
  comes : {us : List ℕ} → Quote (39 ∷ us) (Some us)
  comes_not : {bs : List ℕ} → after_quote bs ≡ None → Quote bs None

quote_at : (b : ℕ) (us : List ℕ) (t : Bool) → (b == 39) ≡ t → after_quote (b ∷ us) ≡ cond t (Some us) None → Quote (b ∷ us) (cond t (Some us) None)
quote_at b us true e f = subst (λ (x : ℕ). Quote (x ∷ us) (Some us)) (sym (eqb-true b 39 e)) comes
quote_at b us false e f = comes_not f

pub quote : (bs : List ℕ) → Quote bs (after_quote bs)
quote [] = comes_not refl
quote (b ∷ us) = quote_at b us (b == 39) refl refl

behind_text : {bs us : List ℕ} → Quote bs (Some us) → IsUtf8 bs → IsUtf8 us
behind_text (comes {us = us}) u = let some : 0 < length (39 ∷ us) = omega arith in let low : 39 < 128 = omega arith in IsUtf8-drop (39 ∷ us) 1 u (IsCharBoundary-after_ascii (39 ∷ us) 0 u some low)

pub after_quote_text : (bs us : List ℕ) → after_quote bs ≡ Some us → IsUtf8 bs → IsUtf8 us
after_quote_text bs us e u = behind_text (subst (Quote bs) e (quote bs)) u

after_quote_shorter_by : {bs us : List ℕ} → Quote bs (Some us) → length us < length bs
after_quote_shorter_by (comes {us = us}) = omega arith

pub after_quote_shorter : (bs us : List ℕ) → after_quote bs ≡ Some us → length us < length bs
after_quote_shorter bs us e = after_quote_shorter_by (subst (Quote bs) e (quote bs))

onto-onto : (v w : List ℕ) (r : Option (List ℕ × List ℕ)) → onto v (onto w r) ≡ onto (v ++ w) r
onto-onto v w None = refl
onto-onto v w (Some x) = ap (λ (y : List ℕ). Some (y, x.1)) (sym (append_assoc v w x.0))

onto-nil : (r : Option (List ℕ × List ℕ)) → onto [] r ≡ r
onto-nil None = refl
onto-nil (Some x) = refl

-- the bytes before the first quote stand in the value
abbrev Splits : List ℕ → Type 0
Splits bs = quoted bs ≡ onto (take (prefix_len is_plain bs) bs) (quoted (drop (prefix_len is_plain bs) bs))

no_plain : (bs : List ℕ) → Splits (39 ∷ bs)
no_plain bs = sym (onto-nil (quoted (39 ∷ bs)))

plain_first : (b c : ℕ) (bs : List ℕ) (t : Bool) → (b == 39) ≡ t → Splits (c ∷ bs) → Splits (b ∷ c ∷ bs)
unfolding quoted
plain_first b c bs true e h = subst (λ (x : ℕ). Splits (x ∷ c ∷ bs)) (sym (eqb-true b 39 e)) (no_plain (c ∷ bs))
plain_first b c bs false e h =
    let n : prefix_len is_plain (b ∷ c ∷ bs) ≡ suc (prefix_len is_plain (c ∷ bs)) = rw e (omega arith) in
    let left : quoted (b ∷ c ∷ bs) ≡ onto (b ∷ []) (quoted (c ∷ bs)) = rw e refl in
    left ∙ ap (onto (b ∷ [])) h ∙ onto-onto (b ∷ []) (take (prefix_len is_plain (c ∷ bs)) (c ∷ bs)) (quoted (drop (prefix_len is_plain (c ∷ bs)) (c ∷ bs))) ∙ rw n refl

plain_last : (b : ℕ) (t : Bool) → (b == 39) ≡ t → Splits (b ∷ [])
unfolding quoted
plain_last b true e = subst (λ (x : ℕ). Splits (x ∷ [])) (sym (eqb-true b 39 e)) (no_plain [])
plain_last b false e = rw e refl

pub quoted_plain : (bs : List ℕ) → Splits bs
quoted_plain [] = sym (onto-nil (quoted []))
quoted_plain (b ∷ []) = plain_last b (b == 39) refl
quoted_plain (b ∷ c ∷ bs) = plain_first b c bs (b == 39) refl (quoted_plain (c ∷ bs))

-- ---- one turn of the loop

-- the value so far, in front of what is still read, is what all of it is read as
pub record Joins (text value rest : List ℕ) : Type 0 where
  pub whole : quoted text ≡ onto value (quoted rest)

pub joins_start : (text : List ℕ) → Joins text [] text
joins_start text = record { whole = sym (onto-nil (quoted text)) }

after_plain : (text value rest plain behind : List ℕ) → plain ≡ take (prefix_len is_plain rest) rest → behind ≡ drop (prefix_len is_plain rest) rest → Joins text value rest → quoted text ≡ onto (value ++ plain) (quoted behind)
after_plain text value rest plain behind p b j = rw (p, b) (j.whole ∙ ap (onto value) (quoted_plain rest) ∙ onto-onto value (take (prefix_len is_plain rest) rest) (quoted (drop (prefix_len is_plain rest) rest)))

two_quotes : (us : List ℕ) → quoted (39 ∷ 39 ∷ us) ≡ onto (39 ∷ []) (quoted us)
unfolding quoted
two_quotes us = refl

last_quote : (us : List ℕ) → after_quote us ≡ None → quoted (39 ∷ us) ≡ Some ([], us)
unfolding quoted
last_quote [] e = refl
last_quote (c ∷ us) e = go (c == 39) refl e
  where
    go : (t : Bool) → (c == 39) ≡ t → cond t (Some us) None ≡ None → quoted (39 ∷ c ∷ us) ≡ Some ([], c ∷ us)
    go true q f = absurd cc
    go false q f = rw q refl

drop_plain : (bs : List ℕ) → prefix_len is_plain (drop (prefix_len is_plain bs) bs) ≡ 0
drop_plain [] = refl
drop_plain (b ∷ us) = go (is_plain b) refl (drop_plain us)
  where
    go : (t : Bool) → is_plain b ≡ t → prefix_len is_plain (drop (prefix_len is_plain us) us) ≡ 0 → prefix_len is_plain (drop (prefix_len is_plain (b ∷ us)) (b ∷ us)) ≡ 0
    go true e h = let n : prefix_len is_plain (b ∷ us) ≡ suc (prefix_len is_plain us) = rw e (omega arith) in rw n h
    go false e h = let n : prefix_len is_plain (b ∷ us) ≡ 0 = rw e refl in rw n n

no_quote : (bs : List ℕ) → prefix_len is_plain bs ≡ 0 → after_quote bs ≡ None → quoted bs ≡ None
unfolding quoted
no_quote [] n e = refl
no_quote (b ∷ us) n e = go (b == 39) refl e n
  where
    go : (t : Bool) → (b == 39) ≡ t → cond t (Some us) None ≡ None → cond (not t) (1 + prefix_len is_plain us) 0 ≡ 0 → quoted (b ∷ us) ≡ None
    go true q f m = absurd cc
    go false q f m = absurd (omega arith)

-- no quote comes
pub quoted-unclosed : (text value rest plain behind : List ℕ) → plain ≡ take (prefix_len is_plain rest) rest → behind ≡ drop (prefix_len is_plain rest) rest → after_quote behind ≡ None → Joins text value rest → quoted text ≡ None
quoted-unclosed text value rest plain behind p b e j =
    let n : prefix_len is_plain behind ≡ 0 = rw b (drop_plain rest) in
    after_plain text value rest plain behind p b j ∙ ap (onto (value ++ plain)) (no_quote behind n e)

behind_is : {behind us : List ℕ} → Quote behind (Some us) → behind ≡ 39 ∷ us
behind_is comes = refl

-- one quote comes
pub quoted-closed : (text value rest plain behind us : List ℕ) → plain ≡ take (prefix_len is_plain rest) rest → behind ≡ drop (prefix_len is_plain rest) rest → after_quote behind ≡ Some us → after_quote us ≡ None → Joins text value rest → quoted text ≡ Some (value ++ plain, us)
quoted-closed text value rest plain behind us p b e f j =
    let q : behind ≡ 39 ∷ us = behind_is (subst (Quote behind) e (quote behind)) in
    after_plain text value rest plain behind p b j ∙ ap (onto (value ++ plain)) (ap quoted q ∙ last_quote us f) ∙ ap (λ (v : List ℕ). Some (v, us)) (append-nil (value ++ plain))

-- two quotes come
pub Joins-more : (text value rest plain behind us vs : List ℕ) → plain ≡ take (prefix_len is_plain rest) rest → behind ≡ drop (prefix_len is_plain rest) rest → after_quote behind ≡ Some us → after_quote us ≡ Some vs → Joins text value rest → Joins text ((value ++ plain) ++ 39 ∷ []) vs
Joins-more text value rest plain behind us vs p b e f j =
    let q : behind ≡ 39 ∷ us = behind_is (subst (Quote behind) e (quote behind)) in
    let r : us ≡ 39 ∷ vs = behind_is (subst (Quote us) f (quote us)) in
    record { whole = after_plain text value rest plain behind p b j ∙ ap (onto (value ++ plain)) (ap quoted (q ∙ ap (λ (x : List ℕ). 39 ∷ x) r) ∙ two_quotes vs) ∙ onto-onto (value ++ plain) (39 ∷ []) (quoted vs) }

pub IsUtf8-after_quote : (rest behind us vs : List ℕ) → behind ≡ drop (prefix_len is_plain rest) rest → after_quote behind ≡ Some us → after_quote us ≡ Some vs → IsUtf8 rest → IsUtf8 vs
IsUtf8-after_quote rest behind us vs b e f u = after_quote_text us vs f (after_quote_text behind us e (rw b (plain_rest rest u)))

pub next_shorter : (rest behind us vs : List ℕ) → behind ≡ drop (prefix_len is_plain rest) rest → after_quote behind ≡ Some us → after_quote us ≡ Some vs → length vs < length rest
next_shorter rest behind us vs b e f =
    let k : length behind ≡ length rest - prefix_len is_plain rest = rw b (length-drop (prefix_len is_plain rest) rest) in
    omega (arith, after_quote_shorter us vs f, after_quote_shorter behind us e)

-- ---- what stands behind the closing quote

-- it is shorter than n, and text
abbrev pub Closed : ℕ → Option (List ℕ × List ℕ) → Type 0
Closed n None = Unit {0}
Closed n (Some x) = (length x.1 < n) × IsUtf8 x.1

onto_closed : (v : List ℕ) (m n : ℕ) (r : Option (List ℕ × List ℕ)) → m ≤ n → Closed m r → Closed n (onto v r)
onto_closed v m n None le h = tt
onto_closed v m n (Some x) le h = (let s = h.0 in omega arith, h.1)

module _ (whole : List ℕ) (u : IsUtf8 whole) where
  next : (i b : ℕ) (bs : List ℕ) → drop i whole ≡ b ∷ bs → drop (i + 1) whole ≡ bs
  next i b bs e = sym (drop-drop 1 i whole) ∙ ap (drop 1) e

  here : (i b : ℕ) (bs : List ℕ) → drop i whole ≡ b ∷ bs → i < length whole
  here i b bs e = omega (arith, ap length e, length-drop i whole)

  byte : (i b : ℕ) (bs : List ℕ) → drop i whole ≡ b ∷ bs → get_or whole i 0 ≡ b
  byte i b bs e =
      let k : i + 0 ≡ i = omega arith in
      let at : get_or (drop i whole) 0 0 ≡ get_or whole (i + 0) 0 = get_or-drop i whole 0 0 in
      ap (λ j. get_or whole j 0) (sym k) ∙ sym at ∙ ap (λ l. get_or l 0 0) e

  behind_quote : (i b : ℕ) (bs : List ℕ) → drop i whole ≡ b ∷ bs → (b == 39) ≡ true → IsUtf8 bs
  behind_quote i b bs e q =
      let low : get_or whole i 0 < 128 = omega (arith, byte i b bs e, eqb-true b 39 q) in
      subst IsUtf8 (next i b bs e) (IsUtf8-drop whole (i + 1) u (IsCharBoundary-after_ascii whole i u (here i b bs e) low))

  pub quoted_from : (i : ℕ) (bs : List ℕ) → drop i whole ≡ bs → Closed (length bs) (quoted bs)
  unfolding quoted
  quoted_from i [] e = tt
  quoted_from i (b ∷ []) e = last (b == 39) refl
    where
      last : (t : Bool) → (b == 39) ≡ t → Closed 1 (cond t (Some ([], [])) None)
      last true q = (omega arith, behind_quote i b [] e q)
      last false q = tt
  quoted_from i (b ∷ c ∷ bs) e = first (b == 39) (c == 39) refl (quoted_from (i + 1 + 1) bs (next (i + 1) c bs (next i b (c ∷ bs) e))) (quoted_from (i + 1) (c ∷ bs) (next i b (c ∷ bs) e))
    where
      first : (t s : Bool) → (b == 39) ≡ t → Closed (length bs) (quoted bs) → Closed (length (c ∷ bs)) (quoted (c ∷ bs)) → Closed (length (b ∷ c ∷ bs)) (cond t (cond s (onto (39 ∷ []) (quoted bs)) (Some ([], c ∷ bs))) (onto (b ∷ []) (quoted (c ∷ bs))))
      first true true q h k = onto_closed (39 ∷ []) _ _ (quoted bs) (omega arith) h
      first true false q h k = (omega arith, behind_quote i b (c ∷ bs) e q)
      first false s q h k = onto_closed (b ∷ []) _ _ (quoted (c ∷ bs)) (omega arith) k

pub Closed-quoted : (bs : List ℕ) → IsUtf8 bs → Closed (length bs) (quoted bs)
Closed-quoted bs u = quoted_from bs u 0 bs refl

-- Journals that go on by lines, whole or torn.
use Rattle.std.proofs.Common.{◌≡◌, ◌⊎◌, inl, inr, ℕ, zero, suc, ◌+◌, ◌-◌, ◌<◌, ◌≤◌, ◌^◌, Bool, true, false, cond, ◌||◌, List, [], ◌∷◌, ◌++◌, append_assoc, append-nil, Option, None, Some, IfSome, option_map, drop, take, map, length, length-append, refl, ap, ◌∙◌, sym, subst, arith}
use Rattle.std.specs.Prelude.{◌==◌}
use Rattle.std.specs.List.{AllByRecursion, list_any}
use Rattle.std.proofs.lemmas.Bool.{false≢true}
use Rattle.std.proofs.lemmas.List.{take-append-le}
use Rattle.iv_journal.specs.Journal.{Line, body_of, bytes_of, digest_of, journal_of, no_digest}
use Rattle.iv_audit.specs.Audit.{Note, is_noted, is_request, record_of}
use Rattle.iv_audit.specs.Reading.{ended_lines, ends_line, line_in, line_of, lines_in}
use Rattle.iv_audit.specs.Laws.{BytesGoOn, GoOn, JournalsGoOn}
use Rattle.iv_audit.specs.Writing.{holder_at, note_by, noted_from}
use Rattle.iv_audit.specs.declared.writing.Share.{Share}
use Rattle.iv_audit.proofs.Texts.{or-both_false, text_in-text_by}
use Rattle.iv_audit.proofs.Bytes.{AllText, HaveTexts, bodies, ended_lines-one, map-given_by, given_by, ended_lines-bytes_of}
use Rattle.iv_audit.proofs.JournalCuts.{le-or_lt}
use Rattle.iv_audit.proofs.JournalLines.{bytes_of-append, digest_behind-append, AllByRecursion-AllTexts}

-- ---- what stands behind

map_append : (xs ys : List (List ℕ)) → map given_by (xs ++ ys) ≡ map given_by xs ++ map given_by ys
map_append [] ys = refl
map_append (x ∷ xs) ys = ap (λ z. given_by x ∷ z) (map_append xs ys)

map_twice : (xs : List (List ℕ)) → map line_in (map line_of xs) ≡ map given_by xs
map_twice [] = refl
map_twice (x ∷ xs) = ap (λ z. given_by x ∷ z) (map_twice xs)

mapped : (xs : List (List ℕ)) → map line_in (drop 1 (map line_of xs)) ≡ map given_by (drop 1 xs)
mapped [] = refl
mapped (x ∷ xs) = map_twice xs

ended_behind : (line xs rest : List ℕ) → ends_line xs ≡ true → ended_lines line (xs ++ rest) ≡ ended_lines line xs ++ ended_lines [] rest
ended_behind line [] rest h = absurd (false≢true h)
ended_behind line (x ∷ []) rest h =
    ap (λ b. cond b (line ∷ ended_lines [] rest) (ended_lines (line ++ x ∷ []) rest)) h
    ∙ sym (ap (λ b. cond b (line ∷ []) [] ++ ended_lines [] rest) h)
ended_behind line (x ∷ y ∷ xs) rest h = by (x == 10) (ended_behind [] (y ∷ xs) rest h) (ended_behind (line ++ x ∷ []) (y ∷ xs) rest h)
  where
    by : (b : Bool) → ended_lines [] ((y ∷ xs) ++ rest) ≡ ended_lines [] (y ∷ xs) ++ ended_lines [] rest
        → ended_lines (line ++ x ∷ []) ((y ∷ xs) ++ rest) ≡ ended_lines (line ++ x ∷ []) (y ∷ xs) ++ ended_lines [] rest
        → cond b (line ∷ ended_lines [] ((y ∷ xs) ++ rest)) (ended_lines (line ++ x ∷ []) ((y ∷ xs) ++ rest))
        ≡ cond b (line ∷ ended_lines [] (y ∷ xs)) (ended_lines (line ++ x ∷ []) (y ∷ xs)) ++ ended_lines [] rest
    by true e f = ap (λ z. line ∷ z) e
    by false e f = f

drop_behind : (line xs : List ℕ) (ys : List (List ℕ)) → ends_line xs ≡ true → drop 1 (ended_lines line xs ++ ys) ≡ drop 1 (ended_lines line xs) ++ ys
drop_behind line [] ys h = absurd (false≢true h)
drop_behind line (x ∷ []) ys h = subst (λ (b : Bool). drop 1 (cond b (line ∷ []) [] ++ ys) ≡ drop 1 (cond b (line ∷ []) []) ++ ys) (sym h) refl
drop_behind line (x ∷ y ∷ xs) ys h = by (x == 10) (drop_behind (line ++ x ∷ []) (y ∷ xs) ys h)
  where
    by : (b : Bool) → drop 1 (ended_lines (line ++ x ∷ []) (y ∷ xs) ++ ys) ≡ drop 1 (ended_lines (line ++ x ∷ []) (y ∷ xs)) ++ ys
        → drop 1 (cond b (line ∷ ended_lines [] (y ∷ xs)) (ended_lines (line ++ x ∷ []) (y ∷ xs)) ++ ys)
        ≡ drop 1 (cond b (line ∷ ended_lines [] (y ∷ xs)) (ended_lines (line ++ x ∷ []) (y ∷ xs))) ++ ys
    by true e = refl
    by false e = e

behind : (xs rest : List ℕ) → ends_line xs ≡ true → lines_in (xs ++ rest) ≡ lines_in xs ++ map given_by (ended_lines [] rest)
behind xs rest h =
    mapped (ended_lines [] (xs ++ rest))
    ∙ (ap (λ z. map given_by (drop 1 z)) (ended_behind [] xs rest h)
    ∙ (ap (map given_by) (drop_behind [] xs (ended_lines [] rest) h)
    ∙ (map_append (drop 1 (ended_lines [] xs)) (ended_lines [] rest)
    ∙ ap (λ z. z ++ map given_by (ended_lines [] rest)) (sym (mapped (ended_lines [] xs))))))

ends_ten : (xs : List ℕ) → ends_line (xs ++ 10 ∷ []) ≡ true
ends_ten [] = refl
ends_ten (x ∷ []) = refl
ends_ten (x ∷ y ∷ xs) = ends_ten (y ∷ xs)

ends_journal : (xs d : List ℕ) (ls : List Line) → ends_line xs ≡ true → ends_line (xs ++ bytes_of d ls) ≡ true
ends_journal xs d [] h = ap ends_line (append-nil xs) ∙ h
ends_journal xs d (l ∷ ls) h =
    ap ends_line (ap (λ z. xs ++ z) (sym (append_assoc (body_of d l) (10 ∷ []) (bytes_of (digest_of d l) ls))) ∙ sym (append_assoc xs (body_of d l ++ 10 ∷ []) (bytes_of (digest_of d l) ls)))
    ∙ ends_journal (xs ++ (body_of d l ++ 10 ∷ [])) (digest_of d l) ls (ap ends_line (sym (append_assoc xs (body_of d l) (10 ∷ []))) ∙ ends_ten (xs ++ body_of d l))

pub ends_lines : (head : Line) (ls : List Line) → ends_line (journal_of (head ∷ ls)) ≡ true
ends_lines head ls =
    ap ends_line (sym (append_assoc (body_of no_digest head) (10 ∷ []) (bytes_of (digest_of no_digest head) ls)))
    ∙ ends_journal (body_of no_digest head ++ 10 ∷ []) (digest_of no_digest head) ls (ends_ten (body_of no_digest head))

-- ---- what is torn

ended_none : (line xs : List ℕ) → list_any (λ b. b == 10) xs ≡ false → ended_lines line xs ≡ []
ended_none line [] h = refl
ended_none line (b ∷ xs) h =
    let e = or-both_false (b == 10) (list_any (λ z. z == 10) xs) h in
    ap (λ z. cond z (line ∷ ended_lines [] xs) (ended_lines (line ++ b ∷ []) xs)) e.0 ∙ ended_none (line ++ b ∷ []) xs e.1

none_take : (n : ℕ) (xs : List ℕ) → list_any (λ b. b == 10) xs ≡ false → list_any (λ b. b == 10) (take n xs) ≡ false
none_take zero xs h = refl
none_take (suc n) [] h = refl
none_take (suc n) (x ∷ xs) h = let e = or-both_false (x == 10) (list_any (λ z. z == 10) xs) h in (λ i. e.0 i || none_take n xs e.1 i)

take_past : (n : ℕ) (xs ys : List ℕ) → length xs ≤ n → take n (xs ++ ys) ≡ xs ++ take (n - length xs) ys
take_past n [] ys h = ap (λ m. take m ys) (let e : n ≡ n - 0 = omega arith in e)
take_past zero (x ∷ xs) ys h = absurd (let no : ⊥ = omega (arith, h) in no)
take_past (suc n) (x ∷ xs) ys h = ap (λ z. x ∷ z) (take_past n xs ys (omega (arith, h)) ∙ ap (λ m. xs ++ take m ys) (let e : n - length xs ≡ suc n - suc (length xs) = omega arith in e))

torn_lines : (law : HaveTexts) (n : ℕ) (d : List ℕ) (ls : List Line) → AllText ls → (k : ℕ) × (k ≤ length ls) × (ended_lines [] (take n (bytes_of d ls)) ≡ bodies d (take k ls))
torn_lines law zero d ls a = (0, omega arith, refl)
torn_lines law (suc n) d [] a = (0, omega arith, refl)
torn_lines law (suc n) d (l ∷ ls) a = by (le-or_lt (suc n) (length (body_of d l))) (torn_lines law (suc n - suc (length (body_of d l))) (digest_of d l) ls a.1)
  where
    by : (suc n ≤ length (body_of d l)) ⊎ (suc (length (body_of d l)) ≤ suc n)
        → ((k : ℕ) × (k ≤ length ls) × (ended_lines [] (take (suc n - suc (length (body_of d l))) (bytes_of (digest_of d l) ls)) ≡ bodies (digest_of d l) (take k ls)))
        → (k : ℕ) × (k ≤ suc (length ls)) × (ended_lines [] (take (suc n) (bytes_of d (l ∷ ls))) ≡ bodies d (take k (l ∷ ls)))
    by (inl f) later = (
      0,
      omega arith,
      ap (ended_lines []) (take-append-le (suc n) (body_of d l) (10 ∷ bytes_of (digest_of d l) ls) f)
          ∙ ended_none [] (take (suc n) (body_of d l)) (none_take (suc n) (body_of d l) ((law d l).one a.0)),
    )
    by (inr f) later =
        let m = length-append (body_of d l) (10 ∷ []) in
        let past : length (body_of d l ++ 10 ∷ []) ≤ suc n = omega (arith, m, f) in
        let same : suc n - length (body_of d l ++ 10 ∷ []) ≡ suc n - suc (length (body_of d l)) = omega (arith, m) in (
          suc later.0,
          (let m = later.1 in omega (arith, m)),
          ap (λ z. ended_lines [] (take (suc n) z)) (sym (append_assoc (body_of d l) (10 ∷ []) (bytes_of (digest_of d l) ls)))
              ∙ (ap (ended_lines []) (take_past (suc n) (body_of d l ++ 10 ∷ []) (bytes_of (digest_of d l) ls) past)
              ∙ (ap (ended_lines []) (append_assoc (body_of d l) (10 ∷ []) (take (suc n - length (body_of d l ++ 10 ∷ [])) (bytes_of (digest_of d l) ls)))
              ∙ (ended_lines-one [] (body_of d l) (take (suc n - length (body_of d l ++ 10 ∷ [])) (bytes_of (digest_of d l) ls)) ((law d l).one a.0)
              ∙ ap (λ z. body_of d l ∷ z) (ap (λ m. ended_lines [] (take m (bytes_of (digest_of d l) ls))) same ∙ later.2)))),
        )

-- ---- the lines of what goes on

note_second : (at : Option ℕ) (holder text : List ℕ) → IfSome at (λ t. t < 2 ^ 64) → IfSome (note_by at holder text) (λ m. m.at < 2 ^ 64)
note_second at holder text h = by (is_request text) at h
  where
    by : (b : Bool) (at : Option ℕ) → IfSome at (λ t. t < 2 ^ 64) → IfSome {T = Note} (cond b (option_map (λ t. record { at = t; holder = holder }) at) None) (λ m. m.at < 2 ^ 64)
    by false at h = tt
    by true None h = tt
    by true (Some t) h = h

lines_noted : (at : Option ℕ) (shares : List Share) (n : ℕ) (ls : List Line) → IfSome at (λ t. t < 2 ^ 64) → AllByRecursion (λ (l : Line). is_noted l.text ≡ false) ls
    → map line_in (map record_of (noted_from at shares n ls)) ≡ ls
lines_noted at shares n [] h a = refl
lines_noted at shares n (l ∷ ls) h a =
    (λ i. record {
      is_last = l.is_last;
      text = text_in-text_by (note_by at (holder_at shares n) l.text) l.text a.0
          (note_second at (holder_at shares n) l.text h) i;
    }
    ∷ lines_noted at shares (n + 1) ls h a.1 i)

length_noted : (at : Option ℕ) (shares : List Share) (n : ℕ) (ls : List Line) → length (map record_of (noted_from at shares n ls)) ≡ length ls
length_noted at shares n [] = refl
length_noted at shares n (l ∷ ls) = ap suc (length_noted at shares (n + 1) ls)

take_lines : (k : ℕ) (ls : List Line) → map line_in (take k ls) ≡ take k (map line_in ls)
take_lines zero ls = refl
take_lines (suc k) [] = refl
take_lines (suc k) (l ∷ ls) = ap (λ z. line_in l ∷ z) (take_lines k ls)

texts_behind : (ls ms : List Line) → AllText ls → AllText ms → AllText (ls ++ ms)
texts_behind [] ms a b = b
texts_behind (l ∷ ls) ms a b = (a.0, texts_behind ls ms a.1 b)

go_on : HaveTexts → BytesGoOn
go_on law = λ before at shares given d after out h s g.
    let texts = AllByRecursion-AllTexts (noted_from at shares 0 given) g.goes.texts in
    let lines = lines_noted at shares 0 given s g.are in
    let torn = λ (n : ℕ). torn_lines law n d (map record_of (noted_from at shares 0 given)) texts in
    record {
      whole = behind before out h
          ∙ ap (λ z. lines_in before ++ z)
          (ap (λ z. map given_by (ended_lines [] z)) g.goes.bytes
          ∙ (ap (map given_by) (ended_lines-bytes_of law d (map record_of (noted_from at shares 0 given)) texts)
          ∙ (map-given_by law d (map record_of (noted_from at shares 0 given)) ∙ lines)));
      torn = λ n. (
        (torn n).0,
        subst (λ m. (torn n).0 ≤ m) (length_noted at shares 0 given) (torn n).1,
        behind before (take n out) h
            ∙ ap (λ z. lines_in before ++ z)
            (ap (λ z. map given_by (ended_lines [] (take n z))) g.goes.bytes
            ∙ (ap (map given_by) (torn n).2
            ∙ (map-given_by law d (take (torn n).0 (map record_of (noted_from at shares 0 given)))
            ∙ (take_lines (torn n).0 (map record_of (noted_from at shares 0 given)) ∙ ap (take (torn n).0) lines)))),
      );
      ended = ap (λ z. ends_line (before ++ z)) g.goes.bytes ∙ ends_journal before d (map record_of (noted_from at shares 0 given)) h;
    }

journals : JournalsGoOn
journals = λ ls at shares given after out a g.
    let texts = AllByRecursion-AllTexts (noted_from at shares 0 given) g.goes.texts in
    record {
      more = map record_of (noted_from at shares 0 given);
      journal = ap (λ z. journal_of ls ++ z) g.goes.bytes ∙ sym (bytes_of-append no_digest ls (map record_of (noted_from at shares 0 given)));
      digest = g.goes.digest ∙ sym (digest_behind-append no_digest ls (map record_of (noted_from at shares 0 given)));
      texts = texts_behind ls (map record_of (noted_from at shares 0 given)) a texts;
    }

pub GoOn-HaveTexts : HaveTexts → GoOn
GoOn-HaveTexts law = record { bytes = go_on law; journals = journals; ended = ends_lines }
